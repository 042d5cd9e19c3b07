-- What was drawn of secrets.
use Rattle.std.specs.Prelude.{◌≡◌, ◌⊎◌, ℕ, List, Option, length}
use Rattle.host_base.specs.Drawing.{Coming, Draws}
use Rattle.share_tokens.specs.Texts.{token_text_of}

-- The text is the token of a secret of 32 bytes, the first of those that were to come.
pub record IsTokenOfNext (coming rest : Option Coming) (text : List ℕ) : Type 0 where
  pub secret : List ℕ
  pub bytes : length secret ≡ 32
  pub drawn : Draws coming rest secret
  pub text_is : text ≡ token_text_of (record { 0 = secret })

-- The first of the secrets to come was drawn, or none.
abbrev pub DrewOneAtMost : Option Coming → Option Coming → Type 0
DrewOneAtMost coming rest = (rest ≡ coming) ⊎ ((secret : List ℕ) × Draws coming rest secret)
