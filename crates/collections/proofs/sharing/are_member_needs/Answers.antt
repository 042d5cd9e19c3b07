use Rattle.std.proofs.Common.{◌≡◌, sym, ◌∙◌}
use Rattle.std.proofs.lemmas.Slice.Eq.{slice_eq-Decides}
use Rattle.collections.specs.Members.{member_needs as the_needs}
use Rattle.collections.proofs.Alike.{need_decides}
use Rattle.collections.proofs.sharing.are_member_needs.Goals as goal

pub returns : goal.returns
returns c =
    let wanted : c.as_slice.result.now ≡ the_needs c.args.collection c.args.link c.args.member = c.as_slice.ensures ∙ c.member_needs.ensures in
    let same = slice_eq-Decides need_decides c.args.needs.now c.as_slice.result.now c.eq.result c.eq.ensures in
    (λ yes. same.0 yes ∙ wanted, λ is. same.1 (is ∙ sym wanted))
