-- The text that the bytes of a connection state: a head, and the body behind it that its `Content-Length` line announces.
use Rattle.std.specs.Prelude.{ℕ, ◌+◌, ◌==◌, ◌&&◌, List, Option, Some, None, length, take, map, nat_le, codes, option_and_then, if◌then◌else◌}
use Rattle.std.specs.List.{slice_split, before_first, after_first, filter_map}
use Rattle.std.specs.Str.Lines.{strip_carriage_return}
use Rattle.httparse.specs.Grammar.{trim_ows}
use Rattle.front_http.specs.Heads.{is_same, are_lengths, announced}
use Rattle.front_http.specs.Stream.{head_length}

-- the lines of a head, each of which ends with LF or CR LF
abbrev pub lines_of : List ℕ → List (List ℕ)
lines_of head = map strip_carriage_return (slice_split (λ byte. byte == 10) head)

-- the name of a line, which stands before its first colon, and its value, which stands behind that, without the blanks around it
abbrev pub name_of : List ℕ → List ℕ
name_of line = before_first (λ byte. byte == 58) line

abbrev pub value_of : List ℕ → List ℕ
value_of line = trim_ows (after_first (λ byte. byte == 58) line)

-- the value of a `Content-Length` line
unfoldable pub length_in : List ℕ → Option (List ℕ)
length_in line = if is_same (name_of line) (codes "Content-Length") then Some (value_of line) else None

-- the values of the `Content-Length` lines of a head
abbrev pub lengths_of : List ℕ → List (List ℕ)
lengths_of head = filter_map length_in (lines_of head)

-- how many bytes the text of a head with these lengths has, of the head and of its body, where that is as many as a text may have
abbrev pub whole_length : ℕ → List (List ℕ) → Option ℕ
whole_length n lengths = if are_lengths lengths && nat_le (n + announced lengths) 2097152 then Some (n + announced lengths) else None

-- how many bytes the text of this head has
unfoldable pub text_length : List ℕ → Option ℕ
text_length head = whole_length (length head) (lengths_of head)

-- the first bytes, if there are as many
abbrev pub first_bytes : ℕ → List ℕ → Option (List ℕ)
first_bytes n bytes = if nat_le n (length bytes) then Some (take n bytes) else None

-- the text that bytes state whose first n are the head
abbrev pub text_behind : List ℕ → ℕ → Option (List ℕ)
text_behind bytes n = option_and_then (λ m. first_bytes m bytes) (text_length (take n bytes))

-- the text that bytes state, if they do; the head goes to the first CR LF CR LF
unfoldable pub text_of : List ℕ → Option (List ℕ)
text_of bytes = option_and_then (text_behind bytes) (head_length bytes)
