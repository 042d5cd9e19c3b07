-- An aid for the contracts of private functions: what is known of a request that isn't whole yet.
use Rattle.std.specs.Prelude.{◌≡◌, ◌≢◌, ℕ, ◌+◌, ◌<◌, ◌≤◌, ◌++◌, Bool, false, List, [], ◌∷◌, Option, Some, None, Result, Ok, Err, length, take, drop, nat_eq}
use Rattle.std.specs.List.{starts_with}
use Rattle.front_http.specs.declared.head.Head.{Head}
use Rattle.front_http.specs.declared.fault.FrontFault.{FrontFault}
use Rattle.front_http.specs.declared.fault.FrontFault.TheVariants as fault
use Rattle.front_http.specs.declared.look.Pending.{Pending}
use Rattle.front_http.specs.declared.look.Pending.TheVariants.{Search, Known}
use Rattle.front_http.specs.declared.look.Looked.{Looked}
use Rattle.front_http.specs.declared.look.Looked.TheVariants as looked
use Rattle.front_http.specs.declared.reader.Seen.{Seen}
use Rattle.front_http.specs.declared.reader.Seen.TheVariants as seen
use Rattle.front_http.specs.Stream.{head_end, head_length, Front, Nothing, Part, Refused, Whole, IsFront}
use Rattle.host_base.specs.declared.request.Request.{Request}
use Rattle.front_http.specs.Spans.{IsHeadOf}
use Rattle.front_http.specs.Reading.{Reading}

-- CR LF CR LF stands at none of the first places
abbrev pub HasNoEndBefore : ℕ → List ℕ → Type 0
HasNoEndBefore from bytes = (place : ℕ) → place < from → starts_with nat_eq (drop place bytes) head_end ≡ false

-- nor would it if more bytes came
pub record IsSearched (from : ℕ) (bytes : List ℕ) : Type 0 where
  pub none : HasNoEndBefore from bytes
  pub far : (place : ℕ) → place < from → place + 4 ≤ length bytes

-- the head of the bytes is whole, and was read
pub record IsKnown (bytes : List ℕ) (head : Head) : Type 0 where
  pub ends : head_length (take 16384 bytes) ≡ Some head.length
  pub is : IsHeadOf (take head.length bytes) head

-- what is known of the request that the bytes begin with
abbrev pub IsPending : List ℕ → Pending → Type 0
IsPending bytes (Search from) = IsSearched from bytes
IsPending bytes (Known head) = IsKnown bytes head

-- the front of bytes that are no whole request and aren't refused
abbrev pub partial : List ℕ → Front
partial [] = Nothing
partial (byte ∷ bytes) = Part

-- the bytes are part of a request
pub record IsPart (bytes : List ℕ) (pending : Pending) : Type 0 where
  pub pending_is : IsPending bytes pending
  pub front : IsFront bytes (partial bytes)
  pub short : length bytes ≤ 1064960

-- what was seen of the bytes
abbrev pub LooksAt : List ℕ → Looked → Type 0
LooksAt bytes (looked.Part pending) = IsPart bytes pending
LooksAt bytes (looked.Refused refusal) = IsFront bytes (Refused refusal)
LooksAt bytes (looked.Whole request n) = IsFront bytes (Whole request n)

-- what was seen of the bytes, without what is known of them
abbrev pub SeesAt : List ℕ → Seen → Type 0
SeesAt bytes seen.Part = IsFront bytes (partial bytes) × (length bytes ≤ 1064960)
SeesAt bytes (seen.Refused refusal) = IsFront bytes (Refused refusal)
SeesAt bytes (seen.Whole request n) = IsFront bytes (Whole request n)

-- what was held and what was left are still there, and nothing more came only at the end
pub record GivesMore (held left : List ℕ) (came : Bool) (new : List ℕ) (told : Option (List ℕ)) : Type 0 where
  pub rest : List ℕ
  pub told_is : told ≡ Some rest
  pub same : new ++ rest ≡ held ++ left
  pub end : came ≡ false → (new ≡ held) × (left ≡ [])

-- the fault says nothing of the bytes
abbrev pub IsOutside : FrontFault → Type 0
IsOutside (fault.BadHead at) = ⊥
IsOutside (fault.LongHead at) = ⊥
IsOutside (fault.NeedLength at) = ⊥
IsOutside (fault.LongBody at) = ⊥
IsOutside (fault.CutOff n) = ⊥
IsOutside fault.ReadFault = Unit {0}
IsOutside fault.Memory = Unit {0}

-- what is answered where the input ended
abbrev pub StreamEndsAt : Reading → Result (Option Request) FrontFault → Type 0
StreamEndsAt reading (Ok None) = reading.held ≡ []
StreamEndsAt reading (Ok (Some request)) = ⊥
StreamEndsAt reading (Err (fault.CutOff n)) = (reading.held ≢ []) × (n ≡ reading.at + length reading.held)
StreamEndsAt reading (Err (fault.BadHead at)) = ⊥
StreamEndsAt reading (Err (fault.LongHead at)) = ⊥
StreamEndsAt reading (Err (fault.NeedLength at)) = ⊥
StreamEndsAt reading (Err (fault.LongBody at)) = ⊥
StreamEndsAt reading (Err fault.ReadFault) = ⊥
StreamEndsAt reading (Err fault.Memory) = Unit {0}
