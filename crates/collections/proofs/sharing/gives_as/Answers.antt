use Rattle.std.proofs.Common.{rules}
use Rattle.std.proofs.lemmas.Bool.Decides.{Decides-at}
use Rattle.collections.proofs.Alike.{assignment_decides}
use Rattle.collections.proofs.sharing.gives_as.Goals as goal
use Rattle.collections.proofs.sharing.gives_as.Goals.{then-eq, else-eq}

pub returns-then-eq-2 : goal.returns-then-eq-2
returns-then-eq-2 c =
    let same = Decides-at _ _ c.eq-then-eq-2.ensures (assignment_decides c.args.share.now.assignment c.args.link.now.assignment) in
    elim c.if-eq.branch [
      | then-eq w ↦ (λ yes. (search rules, search rules, same.0 yes), λ all. same.1 all.2)
      | else-eq w ↦ cc
    ]
