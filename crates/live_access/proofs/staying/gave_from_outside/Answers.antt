use Rattle.std.proofs.Common.{refl}
use Rattle.live_access.proofs.staying.gave_from_outside.Goals as goal

pub returns-then-is_fed_outside-clause-gave : goal.returns-then-is_fed_outside-clause-gave
returns-then-is_fed_outside-clause-gave g c nodes fact grant empty is inside = ((c.pass.ensures.answer grant fact is).0 inside, c.if-is_fed_outside.ensures refl nodes grant empty is)
