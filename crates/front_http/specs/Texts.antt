-- The texts of the server's own answers.
use Rattle.std.specs.Prelude.{ℕ, ◌++◌, Bool, List, [], length, map, codes, decimal, unwrap_or, if◌then◌else◌}
use Rattle.std.specs.List.{join_with_byte}
use Rattle.http.specs.StatusCode.{reason_phrase}

-- the first line of an answer: its status, with its phrase
unfoldable pub status_line : ℕ → List ℕ
status_line status = codes "HTTP/1.1 " ++ decimal status ++ codes " " ++ unwrap_or (reason_phrase status) [] ++ codes "\r\n"

-- what kind of text the body is
unfoldable pub media_type : Bool → List ℕ
media_type plain = if plain then codes "text/plain" else codes "application/json"

-- the header lines of an answer
unfoldable pub length_line : ℕ → List ℕ
length_line n = codes "Content-Length: " ++ decimal n ++ codes "\r\n"

unfoldable pub type_line : Bool → List ℕ
type_line plain = codes "Content-Type: " ++ media_type plain ++ codes "\r\n"

-- what is sent of a body: nothing where the head alone is asked for
abbrev pub sent_body : List ℕ → Bool → List ℕ
sent_body body head_only = if head_only then [] else body

-- an answer with its length, these header lines, an empty line and the body
unfoldable pub lined_text : ℕ → List ℕ → List ℕ → Bool → List ℕ
lined_text status lines body head_only = status_line status ++ length_line (length body) ++ lines ++ codes "\r\n" ++ sent_body body head_only

-- an answer of the server's own: the status, the header lines, an empty line and the body
unfoldable pub reply_text : ℕ → Bool → List ℕ → Bool → List ℕ
reply_text status plain body head_only = status_line status ++ length_line (length body) ++ type_line plain ++ codes "\r\n" ++ sent_body body head_only

-- the body of a refusal or a fault: its name and its numbers
unfoldable pub refusal_body : List ℕ → List ℕ → List ℕ
refusal_body name numbers = codes "{\"error\":\"" ++ name ++ codes "\",\"of\":[" ++ join_with_byte 44 (map decimal numbers) ++ codes "]}"
