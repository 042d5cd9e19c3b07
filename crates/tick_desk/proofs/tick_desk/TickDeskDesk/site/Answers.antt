use Rattle.std.proofs.Common.{arith}
use Rattle.tick_desk.proofs.Through.{stays}
use Rattle.tick_desk.proofs.tick_desk.TickDeskDesk.site.Goals as goal

pub invariant_of-self : goal.invariant_of-self
invariant_of-self g c =
    let none = c.site.ensures.none in
    stays _ _ c.self.inside.ticks c.self.inside.last none.later (omega (arith, none.accepted)) c.self.invariant
