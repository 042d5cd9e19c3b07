use Rattle.std.proofs.lemmas.Bool.{false≢true}
use Rattle.session_desk.proofs.callers.is_login.Goals as goal

pub returns-in-None : goal.returns-in-None
returns-in-None c =
    let never = rw c.secret_of.ensures at c.in-None.ensures in
    (λ odd. absurd (false≢true odd), λ (account, one). absurd (never account one.listed one.is))
