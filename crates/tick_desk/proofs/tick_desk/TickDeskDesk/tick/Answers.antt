use Rattle.std.proofs.Common.{arith}
use Rattle.tick_desk.proofs.Through.{stays, ticked_same}
use Rattle.tick_desk.proofs.tick_desk.TickDeskDesk.tick.Goals as goal

pub invariant_of-self : goal.invariant_of-self
invariant_of-self g c =
    let t = c.tick.ensures.ticked in
    stays _ _ c.self.inside.ticks c.self.inside.last t.later (omega (arith, t.accepted)) c.self.invariant

pub returns-clause-ticked : goal.returns-clause-ticked
returns-clause-ticked g c = rw (← c.self.view_is) (ticked_same _ _ c.self.inside.ticks c.args.moment _ _ c.self.invariant.0 c.tick.ensures.ticked)
