-- Which cookies a grain may set: those of the host that it answers on, and no others.
use Rattle.std.specs.Prelude.{ℕ, ◌==◌, ◌||◌, ◌&&◌, not, Bool, false, List, [], ◌∷◌, take, drop, codes}
use Rattle.std.specs.List.{position_or_len}
use Rattle.bridge_headers.specs.Lines.{HeaderLine, same_name}

-- whether a byte is neither a space nor a tab
abbrev pub is_visible : ℕ → Bool
is_visible byte = not (byte == 32 || byte == 9)

-- whether a text begins with `domain`, behind blanks and without regard to case
unfoldable pub begins_domain : List ℕ → Bool
begins_domain text = same_name (take 6 (drop (position_or_len is_visible text) text)) (codes "domain")

-- whether an attribute of a cookie, each of which stands behind a semicolon, begins so
unfoldable pub names_domain : List ℕ → Bool
names_domain [] = false
names_domain (byte ∷ bytes) = (byte == 59 && begins_domain bytes) || names_domain bytes

-- whether a line sets a cookie for other hosts than its own: for all of a domain that it names
unfoldable pub is_foreign : HeaderLine → Bool
is_foreign line = same_name line.0 (codes "set-cookie") && names_domain line.1
