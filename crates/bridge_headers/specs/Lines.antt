-- Header lines: their texts, and which are passed on by their names.
use Rattle.std.specs.Prelude.{ℕ, ◌++◌, ◌||◌, Bool, List, take, codes, map, filter, bytes_eq}
use Rattle.std.specs.List.{flat_map, list_any}
use Rattle.std.specs.Char.{to_ascii_lowercase}

-- A header line: its name and its value.
abbrev pub HeaderLine : Type 0
HeaderLine = List ℕ × List ℕ

-- the text of a line
unfoldable pub line_text : HeaderLine → List ℕ
line_text line = line.0 ++ codes ": " ++ line.1 ++ codes "\r\n"

-- the text of lines, one after another
abbrev pub lines_text : List HeaderLine → List ℕ
lines_text lines = flat_map line_text lines

-- a name in lower case
abbrev pub lower : List ℕ → List ℕ
lower name = map to_ascii_lowercase name

-- whether two names are the same without regard to case
unfoldable pub same_name : List ℕ → List ℕ → Bool
same_name a b = bytes_eq (lower a) (lower b)

-- whether lines of that name are passed on: it is one of the names, or begins with `x-sandstorm-app-`
unfoldable pub is_passed : List (List ℕ) → List ℕ → Bool
is_passed names name = list_any (same_name name) names || same_name (take 16 name) (codes "x-sandstorm-app-")

-- whether a line states a length
abbrev pub states_length : HeaderLine → Bool
states_length line = same_name line.0 (codes "content-length")

-- a line under its name in lower case
abbrev pub lower_line : HeaderLine → HeaderLine
lower_line line = (lower line.0, line.1)

-- the lines that are passed on, in their order, under names in lower case
abbrev pub passed : List (List ℕ) → List HeaderLine → List HeaderLine
passed names lines = map lower_line (filter (λ line. is_passed names line.0) lines)
