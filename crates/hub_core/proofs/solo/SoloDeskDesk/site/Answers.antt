use Rattle.hub_core.proofs.Placing.{none_taken}
use Rattle.hub_core.proofs.solo.SoloDeskDesk.site.Goals as goal

pub returns-clause-none : goal.returns-clause-none
returns-clause-none g c = rw (← c.self.view_is) (none_taken _)
