-- The relay of a grain's answer.
use Rattle.std.specs.Prelude.{◌≡◌, ℕ, ◌+◌, ◌++◌, ◌==◌, ◌||◌, ◌&&◌, not, Bool, List, [], ◌∷◌, Option, Some, None, Result, Ok, Err, length, take, drop, map, filter, min, nat_eq, nat_le, nat_lt, unwrap_or, codes, decimal, if◌then◌else◌}
use Rattle.std.specs.List.{list_any, starts_with}
use Rattle.std.specs.Option.{option_map}
use Rattle.std.specs.Str.{all_ascii_digits}
use Rattle.std.specs.Str.Parse.{digits_value}
use Rattle.http.specs.StatusCode.{reason_phrase}
use Rattle.httparse.specs.Grammar.{ResponseHead, ReadsResponse, status_code}
use Rattle.httparse.specs.Spans.{name_and_value}
use Rattle.bridge_headers.specs.declared.stated.Stated.{Stated}
use Rattle.bridge_headers.specs.declared.stated.Stated.TheVariants.{Nothing, Bytes, Bad}
use Rattle.bridge_headers.specs.declared.fault.RelayFault.{RelayFault}
use Rattle.bridge_headers.specs.declared.fault.RelayFault.TheVariants.{BadAnswer, NoLength}
use Rattle.bridge_headers.specs.Lines.{HeaderLine, lines_text, same_name, states_length, passed}
use Rattle.bridge_headers.specs.Cookies.{is_foreign}

-- how long the shortest run is that ends with CR LF CR LF, if there is one
abbrev pub run_length : List ℕ → Option ℕ
run_length [] = None
run_length (byte ∷ bytes) = if starts_with nat_eq (byte ∷ bytes) (codes "\r\n\r\n") then Some 4 else option_map (λ n. n + 1) (run_length bytes)

-- The head of an answer: its status, its lines, and how many bytes it takes.
pub record Head : Type 0 where
  pub status : ℕ
  pub lines : List HeaderLine
  pub size : ℕ

-- The shortest run of the bytes that ends with CR LF CR LF is a response head, and this is what it says.
pub record IsAnswerHead (bytes : List ℕ) (head : Head) : Type 0 where
  pub response : ResponseHead
  pub run : run_length bytes ≡ Some head.size
  pub reads : ReadsResponse (take head.size bytes) response []
  pub status : head.status ≡ status_code response
  pub lines : head.lines ≡ map name_and_value response.fields

-- which head an answer has, if any
abbrev pub HasHead : List ℕ → Option Head → Type 0
HasHead bytes None = (head : Head) → ¬ (IsAnswerHead bytes head)
HasHead bytes (Some head) = IsAnswerHead bytes head

-- whether answers of a status are relayed
abbrev pub is_relayed : ℕ → Bool
is_relayed status = nat_le 200 status && nat_lt status 600

-- whether answers of a status have no body
abbrev pub is_bodiless : ℕ → Bool
is_bodiless status = status == 204 || status == 304

-- whether a line names a transfer encoding
abbrev pub states_encoding : HeaderLine → Bool
states_encoding line = same_name line.0 (codes "transfer-encoding")

-- whether a value is 1 to 10 digits
abbrev pub is_length_text : List ℕ → Bool
is_length_text value = nat_le 1 (length value) && nat_le (length value) 10 && all_ascii_digits value

-- what the value of a length line states
abbrev pub length_value : List ℕ → Stated
length_value value = if is_length_text value then Bytes (digits_value 10 value) else Bad

-- what the values of all length lines state: nothing where there is none, and nothing good where there are two
abbrev pub stated_of : List (List ℕ) → Stated
stated_of [] = Nothing
stated_of (value ∷ []) = length_value value
stated_of (value ∷ next ∷ values) = Bad

abbrev pub stated : List HeaderLine → Stated
stated lines = stated_of (map (λ line. line.1) (filter states_length lines))

-- where an answer ends by what its head states, where that isn't bad
abbrev pub end_by : Head → Stated → Result ℕ RelayFault
end_by head Bad = Err (BadAnswer 0)
end_by head Nothing = if list_any states_encoding head.lines then Err NoLength else if is_bodiless head.status then Ok head.size else Err NoLength
end_by head (Bytes n) = if list_any states_encoding head.lines then Err NoLength else Ok (if is_bodiless head.status then head.size else head.size + n)

-- where an answer of that head has to end
abbrev pub end_of : Head → Result ℕ RelayFault
end_of head = if is_relayed head.status then end_by head (stated head.lines) else Err (BadAnswer 0)

-- the names of the answer's lines that may be passed on
abbrev pub answer_names : List (List ℕ)
answer_names = codes "content-type" ∷ codes "content-language" ∷ codes "content-encoding" ∷ codes "content-disposition" ∷ codes "content-range" ∷ codes "accept-ranges" ∷ codes "location" ∷ codes "set-cookie" ∷ []

-- the answer's lines that are passed on: those of these names but for cookies of other hosts, in their order
abbrev pub answer_lines : List HeaderLine → List HeaderLine
answer_lines lines = passed answer_names (filter (λ line. not (is_foreign line)) lines)

-- the status line, with the phrase that the code has, if it has one
abbrev pub status_line : ℕ → List ℕ
status_line status = codes "HTTP/1.1 " ++ decimal status ++ codes " " ++ unwrap_or (reason_phrase status) [] ++ codes "\r\n"

-- the line of a length, but for a status without a body
abbrev pub length_lines : ℕ → ℕ → List HeaderLine
length_lines status n = if is_bodiless status then [] else (codes "Content-Length", decimal n) ∷ []

-- the lines that a client gets of an answer with a body of that length
abbrev pub relay_lines : Head → ℕ → List HeaderLine
relay_lines head n = length_lines head.status n ++ answer_lines head.lines

-- what a client gets of an answer of that head and body
abbrev pub relay_text : Head → List ℕ → Bool → List ℕ
relay_text head body head_only = status_line head.status ++ lines_text (relay_lines head (length body)) ++ codes "\r\n" ++ (if head_only then [] else body)

-- The relay of an answer that has to end there. (A head never goes past its answer, so where an answer without a body goes on,
-- the place is the head's end.)
abbrev pub relay_to : Head → Result ℕ RelayFault → List ℕ → Bool → Result (List ℕ) RelayFault
relay_to head (Err fault) bytes head_only = Err fault
relay_to head (Ok end) bytes head_only = if length bytes == end then Ok (relay_text head (drop head.size bytes) head_only) else Err (BadAnswer (min end (length bytes)))

-- the relay of an answer with that head, or none
abbrev pub relay : Option Head → List ℕ → Bool → Result (List ℕ) RelayFault
relay None bytes head_only = Err (BadAnswer 0)
relay (Some head) bytes head_only = relay_to head (end_of head) bytes head_only

-- What is relayed of an answer, or why nothing is: by its head, or none, which is the only one that it has. So there is one
-- such outcome.
pub record Relays (bytes : List ℕ) (head_only : Bool) (outcome : Result (List ℕ) RelayFault) : Type 0 where
  pub found : Option Head
  pub has : HasHead bytes found
  pub only : (other : Option Head) → HasHead bytes other → other ≡ found
  pub is : relay found bytes head_only ≡ outcome
