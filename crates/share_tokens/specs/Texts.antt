-- The texts of a secret.
use Rattle.std.specs.Prelude.{ℕ, List, take}
use Rattle.base64.specs.Engines.{url_safe_no_pad}
use Rattle.base64.specs.GeneralPurpose.{encode_of}
use Rattle.hex.specs.Hex.{encode_lower}
use Rattle.share_tokens.specs.declared.secret.Secret.{Secret}

-- its base64 in the URL alphabet, without padding
abbrev pub token_text_of : Secret → List ℕ
token_text_of secret = encode_of url_safe_no_pad secret.0

-- the hexadecimal digits of its first 16 bytes
abbrev pub key_text_of : Secret → List ℕ
key_text_of secret = encode_lower (take 16 secret.0)
