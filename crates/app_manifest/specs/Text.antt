-- Which texts a manifest may hold.
use Rattle.std.specs.Prelude.{ℕ, ◌&&◌, ◌||◌, ◌==◌, nat_le, Bool, List, length, Option, Some, None, option_and_then, if◌then◌else◌}
use Rattle.std.specs.Char.{is_ascii_alphanumeric}
use Rattle.std.specs.List.{list_all}
use Rattle.plain_data.specs.Name.{is_plain}

-- the text, if there is one and it has a form
abbrev pub text_with : (List ℕ → Bool) → Option (List ℕ) → Option (List ℕ)
text_with form found = option_and_then (λ text. if form text then Some text else None) found

-- whether a text has the form of a title: 1 to 200 bytes, and none of a control character
abbrev pub is_title : List ℕ → Bool
is_title text = nat_le 1 (length text) && nat_le (length text) 200 && is_plain text

-- whether a byte may stand in a permission's name: an ASCII letter, a digit, `-` or `_`
abbrev pub is_permission_byte : ℕ → Bool
is_permission_byte byte = is_ascii_alphanumeric byte || byte == 45 || byte == 95

-- whether a text has the form of a permission's name: 1 to 64 such bytes
abbrev pub is_permission_name : List ℕ → Bool
is_permission_name text = nat_le 1 (length text) && nat_le (length text) 64 && list_all is_permission_byte text
