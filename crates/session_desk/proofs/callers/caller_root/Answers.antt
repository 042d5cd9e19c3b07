use Rattle.std.proofs.Common.{inr, refl}
use Rattle.std.proofs.lemmas.Bool.{false≢true}
use Rattle.session_desk.proofs.callers.caller_root.Goals as goal

pub returns : goal.returns
returns c = inr (λ login. false≢true (c.if-is_login.ensures.1 login), (_, c.in_ok-grant.ensures, refl))
