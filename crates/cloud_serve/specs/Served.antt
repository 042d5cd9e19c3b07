-- What serving a connection comes to: its turns, what was in hand at the end, and the table of ends.
use Rattle.std.specs.Prelude.{◌≡◌, ◌⊎◌, ℕ, ◌<◌, ◌++◌, true, false, List, [], ◌∷◌, Option, Some, length, take, map}
use Rattle.std.specs.List.{flat_map}
use Rattle.cloud_serve.specs.Terms.{Bad, Book, Cut, Done, End, Ending, Inlet, IsStream, Last, Line, memory_text, Outlet, Refusal, refusal_status, refused_text, Request, Requests, Rose, wants_head}
use Rattle.cloud_serve.specs.declared.serve.End.TheVariants as end
use Rattle.cloud_serve.specs.Effects.{AskedOf, OrderedOf}
use Rattle.cloud_serve.specs.Turns.{Turn, IsLawful, IsBegun, AreLawful}

-- what the source, the sink and the link of a connection tell
pub record Wired : Type 0 where
  pub inlet : Inlet
  pub outlet : Outlet
  pub line : Line

-- what they and the desk tell at one moment
pub record World : Type 0 where
  pub inlet : Inlet
  pub outlet : Outlet
  pub line : Line
  pub book : Book

abbrev pub with_book : Wired → Book → World
with_book wired book = record { inlet = wired.inlet; outlet = wired.outlet; line = wired.line; book = book }

-- What was in hand when a connection ended: nothing; the answer to what is refused, and its place; a turn whose answer was being
-- written; a turn that memory ran out on; or nothing but the want of memory, met while no request was in hand.
pub data InHand : Type 0 where
  Nothing : InHand
  Refusing : Refusal → ℕ → InHand
  Answering : Turn → InHand
  Broken : Turn → InHand
  NoRoom : InHand

-- the turn in hand, if there is one
abbrev pub turns_in : InHand → List Turn
turns_in (Answering turn) = turn ∷ []
turns_in (Broken turn) = turn ∷ []
turns_in _ = []

-- the text that was being written
abbrev pub text_in : InHand → List ℕ
text_in (Answering turn) = turn.answer
text_in (Broken turn) = memory_text (wants_head turn.request)
text_in Nothing = []
text_in (Refusing refusal at) = refused_text refusal at
text_in NoRoom = memory_text false

abbrev pub IsLawfulIn : InHand → Book → ℕ → ℕ → Type 0
IsLawfulIn (Answering turn) book low last = IsLawful book low last turn
IsLawfulIn (Broken turn) book low last = IsBegun book low turn
IsLawfulIn _ book low last = Unit {0}

-- The table of ends, first part: what may be in hand at each.
abbrev pub HandAt : End → InHand → Type 0
HandAt (end.Refused status at) (Refusing refusal place) = (status ≡ refusal_status refusal) × (place ≡ at)
HandAt (end.Refused status at) _ = ⊥
HandAt end.Memory NoRoom = Unit {0}
HandAt end.Memory (Broken turn) = Unit {0}
HandAt end.Memory _ = ⊥
HandAt end.WriteFault Nothing = ⊥
HandAt end.WriteFault _ = Unit {0}
HandAt _ Nothing = Unit {0}
HandAt _ _ = ⊥

-- Second part: which count must have risen in this call; and that the source has told its end where a request is cut off.
abbrev pub CauseAt : End → Inlet → Inlet → Outlet → Outlet → Type 0
CauseAt end.ReadFault inlet inlet' outlet outlet' = Rose inlet.faults inlet'.faults
CauseAt end.WriteFault inlet inlet' outlet outlet' = Rose outlet.faults outlet'.faults
CauseAt (end.CutOff n) inlet inlet' outlet outlet' = inlet'.ended ≡ true
CauseAt _ inlet inlet' outlet outlet' = Unit {0}

-- the stream goes on with nothing, or ended with a request that is the last one
abbrev pub IsOver : Ending → Type 0
IsOver ending = (ending ≡ Done) ⊎ (ending ≡ Last)

-- Third part: how the rest of the stream stands at each end; what is refused is what it ends with.
abbrev pub StreamAt : End → InHand → Requests → Type 0
StreamAt end.Done hand more = (more.list ≡ []) × IsOver more.end
StreamAt (end.CutOff n) hand more = (more.list ≡ []) × (more.end ≡ Cut n)
StreamAt (end.Refused status at) (Refusing why place) more = (more.list ≡ []) × (more.end ≡ Bad why place)
StreamAt end.WriteFault (Refusing why place) more = (more.list ≡ []) × (more.end ≡ Bad why place)
StreamAt _ hand more = Unit {0}

-- Fourth part: the text in hand is written whole, but for a write fault, which leaves a prefix of it.
abbrev pub WrittenAt : End → List ℕ → List ℕ → Option (List ℕ) → Type 0
WrittenAt end.WriteFault before text written = (n : ℕ) × (written ≡ Some (before ++ take n text))
WrittenAt _ before text written = written ≡ Some (before ++ text)

-- how many requests one connection may have
abbrev pub limit : ℕ
limit = 1000000

-- Fifth part: a connection is spent exactly where so many requests were answered.
abbrev pub CountAt : End → ℕ → Type 0
CountAt end.Spent served = served ≡ limit
CountAt _ served = served < limit

-- the requests of a stream are these, and then more
pub record Splits (all : Requests) (front : List Request) (more : Requests) : Type 0 where
  pub list : all.list ≡ front ++ more.list
  pub end : all.end ≡ more.end

-- the last of the turns is of a request that is the last one
abbrev pub EndsLast : List Turn → Type 0
EndsLast turns =
    (front : List Turn) × (turn : Turn) × (turns ≡ front ++ turn ∷ []) × (turn.request.last ≡ true)

-- THE HEADLINE. There is a list of turns, one for each answered request, and something in hand at the end.
pub record Served (old new : World) (end : End) (from : ℕ) (places : List ℕ) (served forwarded : ℕ)
    : Type 0 where
  pub turns : List Turn
  pub hand : InHand
  pub high : ℕ
  pub last : ℕ
  -- Places begin at what the desk had seen. The history goes on from there, and the desk was given the turns' orders and no others.
  pub from_is : from ≡ length old.book.seen
  pub ordered_of : OrderedOf old.book new.book (flat_map (λ turn. turn.acts) (turns ++ turns_in hand))
  -- Each turn is lawful in that one history, and counts what those before it reached.
  pub lawful : AreLawful new.book from from turns high last
  pub in_hand : IsLawfulIn hand new.book high last
  -- Places and number are those of the turns.
  pub places_are : places ≡ map (λ turn. turn.place) turns
  pub served_is : served ≡ length turns
  -- The link was asked the turns' texts and no others; each failure is counted.
  pub asked_of : AskedOf old.line new.line (flat_map (λ turn. turn.asked) (turns ++ turns_in hand))
  pub forwarded_is : forwarded ≡ length (flat_map (λ turn. turn.asked) (turns ++ turns_in hand))
  -- Where the source tells what is left: the requests of it are the turns', the one in hand, and more. A stream has one meaning: no
  -- two by `HasOneMeaning`, and not none by `HasMeaning`, which are clauses of the reader of requests.
  pub stream : (input : List ℕ) → old.inlet.left ≡ Some input → (all : Requests) → IsStream 0 input all
      → (more : Requests) × Splits all (map (λ turn. turn.request) (turns ++ turns_in hand)) more
      × StreamAt end hand more
  -- Where the sink tells what was written: the turns' answers, and the text in hand.
  pub written : (text : List ℕ) → old.outlet.written ≡ Some text
      → WrittenAt end (text ++ flat_map (λ turn. turn.answer) turns) (text_in hand) new.outlet.written
  -- Every request was answered only where the source told its end, or the last request was the last one.
  pub done : end ≡ End.Done → (new.inlet.ended ≡ true) ⊎ EndsLast turns
  -- What was in hand, what caused the end, and after how many requests it came.
  pub hand_at : HandAt end hand
  pub cause : CauseAt end old.inlet new.inlet old.outlet new.outlet
  pub count : CountAt end served

-- the end of a connection that the stream's end asks for
abbrev pub IsConnectionEnd : End → Ending → Type 0
IsConnectionEnd end.Done ending = IsOver ending
IsConnectionEnd (end.CutOff n) ending = ending ≡ Cut n
IsConnectionEnd (end.Refused status at) ending =
    (refusal : Refusal) × (status ≡ refusal_status refusal) × (ending ≡ Bad refusal at)
IsConnectionEnd _ ending = ⊥

-- every request was answered, and the connection ends as the stream does
pub record Complete (requests : Requests) (end : End) (served : ℕ) : Type 0 where
  pub all : served ≡ length requests.list
  pub ends : IsConnectionEnd end requests.end
