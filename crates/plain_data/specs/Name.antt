-- The form of a name.
use Rattle.std.specs.Prelude.{◌≡◌, ℕ, Bool, true, List, length, nat_le, ◌==◌, ◌&&◌, not}
use Rattle.std.specs.List.{list_all}
use Rattle.std.specs.Str.{IsUtf8}

-- no byte of a control character: neither below 32 nor 127
abbrev pub is_plain_byte : ℕ → Bool
is_plain_byte byte = nat_le 32 byte && not (byte == 127)

-- at most 2,000 bytes, and no control character
abbrev pub is_plain : List ℕ → Bool
is_plain text = nat_le (length text) 2000 && list_all is_plain_byte text

-- a name: such bytes that are UTF-8
pub record IsName (text : List ℕ) : Type 0 where
  pub utf8 : IsUtf8 text
  pub plain : is_plain text ≡ true
