use Rattle.std.proofs.Common.{refl}
use Rattle.session_desk.proofs.callers.actor_of.Goals as goal

pub returns-in_ok-grant-in-None : goal.returns-in_ok-grant-in-None
returns-in_ok-grant-in-None c = rw c.in-None.is (_, c.in_ok-grant-in-None.ensures, refl)
