-- The secrets that are drawn for an order, and the digests by which they are known.
use Rattle.std.specs.Prelude.{◌≡◌, ℕ, List, [], ◌∷◌, Option, Some, None}
use Rattle.desk_orders.specs.Terms.{Coming, Command, Digest, Draws, key_text_of, SecretUse, sha256, token_text_of}
use Rattle.desk_orders.specs.declared.secrets.SecretUse.TheVariants as secret_uses
use Rattle.desk_orders.specs.Commands.{secret_use}

-- the text by which a secret is known: a key where it is a session's, else a token
abbrev pub text_by : Option SecretUse → List ℕ → List ℕ
text_by (Some secret_uses.Session) secret = key_text_of (record { 0 = secret })
text_by _ secret = token_text_of (record { 0 = secret })

-- what a reply shows of that text: nothing where it is a run's
abbrev pub shown_by : Option SecretUse → List ℕ → Option (List ℕ)
shown_by (Some secret_uses.Run) text = None
shown_by _ text = Some text

-- the text of the secret that is drawn for a command
unfoldable pub secret_text : Command → List ℕ → List ℕ
secret_text c secret = text_by (secret_use c) secret

-- the SHA-256 digest of a text
abbrev pub text_digest : List ℕ → Digest
text_digest text = record { 0 = sha256 text }

-- what is to come of secrets before these were drawn from them, and after
abbrev pub DrawsAll : Option Coming → Option Coming → List (List ℕ) → Type 0
DrawsAll coming rest [] = rest ≡ coming
DrawsAll coming rest (secret ∷ secrets) =
    (between : Option Coming) × Draws coming between secret × DrawsAll between rest secrets
