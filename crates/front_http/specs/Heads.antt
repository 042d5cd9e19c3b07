-- What a request head says: its header lines, how long a body follows it, and the request that it makes with a body.
use Rattle.std.specs.Prelude.{ℕ, ◌==◌, ◌&&◌, ◌||◌, not, Bool, true, false, List, [], ◌∷◌, Option, Some, None, Result, Ok, Err, length, take, drop, map, filter, nat_lt, codes, bytes_eq, unwrap_or, option_and_then, option_map, if◌then◌else◌}
use Rattle.std.specs.List.{list_all, list_any}
use Rattle.std.specs.Char.{to_ascii_lowercase, is_ascii_digit}
use Rattle.std.specs.Str.Parse.{digits_value}
use Rattle.sha2.specs.Sha256.{sha256}
use Rattle.httparse.specs.Grammar.{RequestHead, field_value}
use Rattle.httparse.specs.Grammar.{Field as HeadField}
use Rattle.host_base.specs.declared.digest.Digest.{Digest}
use Rattle.host_base.specs.declared.request.Field.{Field}
use Rattle.host_base.specs.declared.request.Request.{Request}
use Rattle.front_http.specs.declared.refusal.Refusal.{Refusal}
use Rattle.front_http.specs.declared.refusal.Refusal.TheVariants.{BadHead, NeedLength, LongBody}

-- a text in ASCII lower case
abbrev pub lower : List ℕ → List ℕ
lower text = map to_ascii_lowercase text

-- whether two texts are equal but for ASCII case
abbrev pub is_same : List ℕ → List ℕ → Bool
is_same text other = bytes_eq (lower text) (lower other)

-- the values of the header lines of this name, in their order
abbrev pub values_of : List ℕ → List Field → List (List ℕ)
values_of name fields = map (λ (field : Field). field.value) (filter (λ (field : Field). is_same field.name name) fields)

-- the value of a list that has exactly one
abbrev pub only : List (List ℕ) → Option (List ℕ)
only [] = None
only (value ∷ []) = Some value
only (value ∷ other ∷ more) = None

-- whether a head with these `Content-Length` lines has at most one of them, of one or more decimal digits
abbrev pub are_lengths : List (List ℕ) → Bool
are_lengths [] = true
are_lengths (value ∷ []) = nat_lt 0 (length value) && list_all is_ascii_digit value
are_lengths (value ∷ other ∷ more) = false

-- the length that they give; without one the body is empty
abbrev pub announced : List (List ℕ) → ℕ
announced [] = 0
announced (value ∷ more) = digits_value 10 value

-- the length of the body, or why the head is refused, by the number of its `Host` lines, its lengths and its `Transfer-Encoding` lines
abbrev pub framing : ℕ → List (List ℕ) → List (List ℕ) → Result ℕ Refusal
framing hosts lengths codings =
    if not (hosts == 1 && are_lengths lengths) then Err BadHead
    else (if nat_lt 0 (length codings) then Err NeedLength
    else (if nat_lt 1048576 (announced lengths) then Err LongBody else Ok (announced lengths)))

-- the length of the body behind a head with these header lines, or why the head is refused
unfoldable pub body_length : List Field → Result ℕ Refusal
body_length fields = framing (length (values_of (codes "Host") fields)) (values_of (codes "Content-Length") fields) (values_of (codes "Transfer-Encoding") fields)

-- the text of a credential: what follows the scheme `Bearer` and one space
abbrev pub bearer_text : List ℕ → Option (List ℕ)
bearer_text value = if is_same (take 7 value) (codes "Bearer ") then Some (drop 7 value) else None

-- the digest of the credential of a request with exactly one `Authorization` line
unfoldable pub bearer_of : List Field → Option Digest
bearer_of fields = option_map (λ text. record { 0 = sha256 text }) (option_and_then bearer_text (only (values_of (codes "Authorization") fields)))

-- whether no request follows: by the version 1.0, or by a `Connection` line `close`
unfoldable pub closes : ℕ → List Field → Bool
closes minor fields = minor == 0 || list_any (λ value. is_same value (codes "close")) (values_of (codes "Connection") fields)

-- the host, in lower case
unfoldable pub host_of : List Field → List ℕ
host_of fields = lower (unwrap_or (only (values_of (codes "Host") fields)) [])

-- a header line of the head parser: its name, and its value without the blanks around it
abbrev pub field_of : HeadField → Field
field_of field = record { name = field.name; value = field_value field }

-- the header lines of a head
abbrev pub fields_of : RequestHead → List Field
fields_of head = map field_of head.fields

-- the request that a head and a body make
abbrev pub request_of : RequestHead → List ℕ → Request
request_of head body = record {
  method = head.method;
  target = head.target;
  host = host_of (fields_of head);
  fields = fields_of head;
  bearer = bearer_of (fields_of head);
  body = body;
  last = closes head.minor (fields_of head);
}
