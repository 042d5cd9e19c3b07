-- The meaning of a stream of requests: front by front, over the whole list of its bytes.
use Rattle.std.specs.Prelude.{◌≡◌, ℕ, suc, ◌+◌, Bool, true, false, List, [], ◌∷◌, Option, Some, None, Result, Ok, Err, length, take, drop, nat_le, nat_eq, codes, option_map, if◌then◌else◌}
use Rattle.std.specs.List.{starts_with}
use Rattle.httparse.specs.Grammar.{RequestHead, ReadsRequest}
use Rattle.host_base.specs.declared.request.Request.{Request}
use Rattle.front_http.specs.declared.refusal.Refusal.{Refusal}
use Rattle.front_http.specs.declared.refusal.Refusal.TheVariants.{BadHead, LongHead}
use Rattle.front_http.specs.Heads.{body_length, fields_of, request_of}

-- CR LF CR LF
abbrev pub head_end : List ℕ
head_end = codes "\r\n\r\n"

-- how long the shortest run of the first bytes is that ends with CR LF CR LF, if there is one
unfoldable pub head_length : List ℕ → Option ℕ
head_length [] = None
head_length (byte ∷ bytes) = if starts_with nat_eq (byte ∷ bytes) head_end then Some 4 else option_map suc (head_length bytes)

-- What the bytes of a stream begin with: no byte, a part of a request alone, what is refused, or a whole request and the number of
-- its bytes.
pub data Front : Type 0 where
  Nothing : Front
  Part : Front
  Refused : Refusal → Front
  Whole : Request → ℕ → Front

-- the front of bytes among the first 16,384 of which there is no whole head
abbrev pub headless : List ℕ → Front
headless [] = Nothing
headless (byte ∷ bytes) = if nat_le (length (byte ∷ bytes)) 16384 then Part else Refused LongHead

-- the front of a head of n bytes, of what follows it, and of the length of its body or why it is refused
abbrev pub bodied : RequestHead → ℕ → List ℕ → Result ℕ Refusal → Front
bodied head n rest (Err refusal) = Refused refusal
bodied head n rest (Ok m) = if nat_le m (length rest) then Whole (request_of head (take m rest)) (n + m) else Part

-- the front of n bytes up to the first CR LF CR LF and of what follows them, by the head that the n bytes are
abbrev pub headed : Option RequestHead → ℕ → List ℕ → Front
headed None n rest = Refused BadHead
headed (Some head) n rest = bodied head n rest (body_length (fields_of head))

-- the bytes are exactly this head, in the head parser's sense, or no head at all
abbrev pub IsHead : List ℕ → Option RequestHead → Type 0
IsHead bytes (Some head) = ReadsRequest bytes head []
IsHead bytes None = (head : RequestHead) → ReadsRequest bytes head [] → ⊥

-- the front of bytes, by where their head ends
abbrev pub IsFrontBy : Option ℕ → List ℕ → Front → Type 0
IsFrontBy None bytes front = front ≡ headless bytes
IsFrontBy (Some n) bytes front = (head : Option RequestHead) × IsHead (take n bytes) head × (front ≡ headed head n (drop n bytes))

-- what the bytes begin with; a head ends within the first 16,384 bytes
abbrev pub IsFront : List ℕ → Front → Type 0
IsFront bytes front = IsFrontBy (head_length (take 16384 bytes)) bytes front

-- How a stream of requests ends: with the input, with a request that is the last one, in the middle of a request (and the number of
-- all bytes), or with what is refused (and the place of its first byte).
pub data Ending : Type 0 where
  Done : Ending
  Last : Ending
  Cut : ℕ → Ending
  Bad : Refusal → ℕ → Ending

-- the requests of a stream, and how it ends
pub record Requests : Type 0 where
  pub list : List Request
  pub end : Ending

-- no request, and this end
abbrev pub none_but : Ending → Requests
none_but end = record { list = []; end = end }

-- a request, and then more
abbrev pub first_of : Request → Requests → Requests
first_of request more = record { list = request ∷ more.list; end = more.end }

-- Bytes of a stream, the first of which stands at this place, have these requests and this end.
pub data IsStream : ℕ → List ℕ → Requests → Type 0 where
  done : (at : ℕ) (bytes : List ℕ) → IsFront bytes Nothing → IsStream at bytes (none_but Done)
  cut : (at : ℕ) (bytes : List ℕ) → IsFront bytes Part → IsStream at bytes (none_but (Cut (at + length bytes)))
  bad : (at : ℕ) (bytes : List ℕ) (refusal : Refusal) → IsFront bytes (Refused refusal) → IsStream at bytes (none_but (Bad refusal at))
  last : (at : ℕ) (bytes : List ℕ) (request : Request) (n : ℕ) → IsFront bytes (Whole request n) → request.last ≡ true
      → IsStream at bytes (first_of request (none_but Last))
  more : (at : ℕ) (bytes : List ℕ) (request : Request) (n : ℕ) (others : Requests) → IsFront bytes (Whole request n) → request.last ≡ false
      → IsStream (at + n) (drop n bytes) others → IsStream at bytes (first_of request others)

-- what follows a request that is the last one or isn't, where the next byte stands at this place
abbrev pub IsRest : Bool → ℕ → List ℕ → Requests → Type 0
IsRest true at bytes all = all ≡ none_but Last
IsRest false at bytes all = IsStream at bytes all

-- a stream has at most one meaning
abbrev pub HasOneMeaning : Type 0
HasOneMeaning = (at : ℕ) (bytes : List ℕ) (all other : Requests) → IsStream at bytes all → IsStream at bytes other → all ≡ other

-- and there is one, by classical logic: that there were none is absurd
abbrev pub HasMeaning : Type 0
HasMeaning = (at : ℕ) (bytes : List ℕ) → ((all : Requests) → IsStream at bytes all → ⊥) → ⊥
