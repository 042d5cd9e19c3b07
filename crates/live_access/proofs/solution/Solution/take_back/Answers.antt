use Rattle.std.proofs.Common.{sym, ◌∙◌, ap, subst}
use Rattle.live_access.specs.contracts.solution.Solution.{the_view}
use Rattle.live_access.specs.Kept.{Kept}
use Rattle.live_access.specs.Ready.{IsReadyFor}
use Rattle.live_access.proofs.Settled.{same_solved}
use Rattle.live_access.proofs.solution.Solution.take_back.Goals as goal

pub returns-clause-solved : goal.returns-clause-solved
returns-clause-solved c s e was =
    let ready = subst (λ (kept : Kept). IsReadyFor s e kept c.args.region) (sym (ap the_view c.self-inside.view_is ∙ c.self.view_is)) was in
    same_solved s.tables ready.start _ (c.take_back.ensures.facts s.tables c.args.region.seeds.items ready.start.table ready.room) (c.take_back.ensures.indexes ready.start.indexes ready.has_new) ready.solved
