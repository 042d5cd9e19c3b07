-- Aids for the contracts of private functions. No public contract stands on them.
use Rattle.std.specs.Prelude.{◌≡◌, ◌⊎◌, ℕ, ◌+◌, ◌<◌, ◌++◌, Bool, true, false, List, [], ◌∷◌, Option, Some, Result, Ok, Err, length, take, map}
use Rattle.std.specs.List.{flat_map}
use Rattle.cloud_serve.specs.Terms.{AccountId, Answered, Ask, Book, Collecting, End, FrontFault, IsRemaining, Key, Line, Memory, memory_text, OrderFault, Outlet, Reading, Refusal, refusal_status, refused_text, Reply, Request, Requests, Rose}
use Rattle.front_http.specs.declared.fault.FrontFault.TheVariants as fault
use Rattle.front_http.specs.declared.refusal.Refusal.TheVariants as refusal
use Rattle.cloud_serve.specs.declared.serve.End.TheVariants as end
use Rattle.cloud_serve.specs.declared.showing.Showing.TheVariants as showing
use Rattle.cloud_serve.specs.Acts.{Act}
use Rattle.cloud_serve.specs.Collecting.{giving, IsRound, shares, StopsWith}
use Rattle.cloud_serve.specs.Effects.{AskedOf, OrderedOf}
use Rattle.cloud_serve.specs.Routes.{Shows}
use Rattle.cloud_serve.specs.Turns.{Turn, AnswersBack, IsLawful, IsBegun, passed_to}
use Rattle.cloud_serve.specs.Served.{World, InHand, turns_in, text_in, IsLawfulIn, HandAt, CauseAt, StreamAt, WrittenAt, CountAt, limit, Splits}

-- What asking one text came to, which is this ask by what comes back: the answer to that, or want of memory before or behind it.
abbrev pub AsksBy : (Option (List ℕ) → Ask) → Bool → Result (List ℕ) Memory → List Ask → Type 0
AsksBy ask head_only (Ok answer) asked =
    (back : Option (List ℕ)) × (asked ≡ ask back ∷ []) × AnswersBack head_only back answer
AsksBy ask head_only (Err m) asked = (asked ≡ []) ⊎ ((back : Option (List ℕ)) × (asked ≡ ask back ∷ []))

pub record AsksOnce (line line' : Line) (counted counts : ℕ) (ask : Option (List ℕ) → Ask) (head_only : Bool)
    (answer : Result (List ℕ) Memory) : Type 0 where
  pub asked : List Ask
  pub asked_of : AskedOf line line' asked
  pub counts_is : counts ≡ counted + length asked
  pub answered : AsksBy ask head_only answer asked

-- a request shows a key, and is passed on as it is, or with the target behind a handle's number
abbrev pub ShowsKey : Request → Key → Request → Type 0
ShowsKey request key passed = (Shows request (showing.Keyed key) × (passed ≡ request))
    ⊎ ((target : List ℕ) × Shows request (showing.Used key target) × (passed ≡ passed_to target request))

-- each of these members was given its share, or the orders stopped
abbrev pub EndsEach : Collecting → List AccountId → List Act → Result ℕ (Result Reply OrderFault) → Type 0
EndsEach asks members acts (Ok made) = (map (λ act. act.order) acts ≡ map (giving asks) members) × (made ≡ shares acts)
EndsEach asks members acts (Err back) = StopsWith asks acts back

-- a round was made, or stopped
abbrev pub EndsRound : Collecting → List Act → Result ℕ (Result Reply OrderFault) → Type 0
EndsRound asks acts (Ok made) = IsRound asks acts × (made ≡ shares acts)
EndsRound asks acts (Err back) = StopsWith asks acts back

-- a turn is lawful and has this place and this answer, or memory ran out on it
abbrev pub IsTaken : Book → ℕ → ℕ → Turn → Result Answered Memory → Type 0
IsTaken book low last turn (Ok answered) =
    IsLawful book low last turn × (turn.place ≡ answered.place) × (turn.answer ≡ answered.text)
IsTaken book low last turn (Err m) = IsBegun book low turn

-- what taking a turn on a request came to
pub record Takes (old new : Book) (line line' : Line) (counted counts low last : ℕ) (request : Request)
    (result : Result Answered Memory) : Type 0 where
  pub turn : Turn
  pub request_is : turn.request ≡ request
  pub taken : IsTaken new low last turn result
  pub ordered_of : OrderedOf old new turn.acts
  pub asked_of : AskedOf line line' turn.asked
  pub counts_is : counts ≡ counted + length turn.asked

-- a text was closed with: the end that was meant, or a write fault and a prefix of it
abbrev pub ClosesWith : Outlet → Outlet → List ℕ → End → End → Type 0
ClosesWith old new text meant result =
    ((result ≡ meant) × ((before : List ℕ) → old.written ≡ Some before → new.written ≡ Some (before ++ text)))
    ⊎ ((result ≡ end.WriteFault) × Rose old.faults new.faults × ((before : List ℕ) → old.written ≡ Some before
    → (n : ℕ) × (new.written ≡ Some (before ++ take n text))))

-- what is refused at a place was answered, or memory ran out
abbrev pub RefusesBy : Outlet → Outlet → Refusal → ℕ → End → Type 0
RefusesBy old new why at result =
    ClosesWith old new (refused_text why at) (end.Refused (refusal_status why) at) result
    ⊎ ClosesWith old new (memory_text false) end.Memory result

-- the connection ended with a fault of the reader
abbrev pub Halts : Outlet → Outlet → FrontFault → End → Type 0
Halts old new (fault.BadHead at) result = RefusesBy old new refusal.BadHead at result
Halts old new (fault.LongHead at) result = RefusesBy old new refusal.LongHead at result
Halts old new (fault.NeedLength at) result = RefusesBy old new refusal.NeedLength at result
Halts old new (fault.LongBody at) result = RefusesBy old new refusal.LongBody at result
Halts old new (fault.CutOff n) result = (result ≡ end.CutOff n) × (new ≡ old)
Halts old new fault.ReadFault result = (result ≡ end.ReadFault) × (new ≡ old)
Halts old new fault.Memory result = ClosesWith old new (memory_text false) end.Memory result

-- one request was read and answered
pub record OneMore (low last counted counts : ℕ) (reading reading' : Reading) (old new : World) (place : ℕ)
    : Type 0 where
  pub turn : Turn
  pub place_is : turn.place ≡ place
  pub lawful : IsLawful new.book low last turn
  pub ordered_of : OrderedOf old.book new.book turn.acts
  pub asked_of : AskedOf old.line new.line turn.asked
  pub counts_is : counts ≡ counted + length turn.asked
  pub closes : reading'.closed ≡ true → turn.request.last ≡ true
  pub stream : (left : List ℕ) → old.inlet.left ≡ Some left
      → (rest : List ℕ) × (new.inlet.left ≡ Some rest) × ((all : Requests) → IsRemaining reading left all
      → (more : Requests) × IsRemaining reading' rest more × Splits all (turn.request ∷ []) more)
  pub written : (text : List ℕ) → old.outlet.written ≡ Some text
      → new.outlet.written ≡ Some (text ++ turn.answer)

-- or the connection ends
pub record StopsServing (low last counted counts : ℕ) (reading : Reading) (old new : World) (end : End)
    : Type 0 where
  pub hand : InHand
  pub lawful : IsLawfulIn hand new.book low last
  pub ordered_of : OrderedOf old.book new.book (flat_map (λ turn. turn.acts) (turns_in hand))
  pub asked_of : AskedOf old.line new.line (flat_map (λ turn. turn.asked) (turns_in hand))
  pub counts_is : counts ≡ counted + length (flat_map (λ turn. turn.asked) (turns_in hand))
  pub stream : (left : List ℕ) → old.inlet.left ≡ Some left → (all : Requests) → IsRemaining reading left all
      → (more : Requests) × Splits all (map (λ turn. turn.request) (turns_in hand)) more
      × StreamAt end hand more
  pub done : end ≡ End.Done → (new.inlet.ended ≡ true) ⊎ (reading.closed ≡ true)
  pub written : (text : List ℕ) → old.outlet.written ≡ Some text
      → WrittenAt end text (text_in hand) new.outlet.written
  pub hand_at : HandAt end hand
  pub cause : CauseAt end old.inlet new.inlet old.outlet new.outlet
  pub count : (served : ℕ) → served < limit → CountAt end served

-- what serving one request comes to
abbrev pub Steps : ℕ → ℕ → ℕ → ℕ → Reading → Reading → World → World → Result ℕ End → Type 0
Steps low last counted counts reading reading' old new (Ok place) =
    OneMore low last counted counts reading reading' old new place
Steps low last counted counts reading reading' old new (Err end) =
    StopsServing low last counted counts reading old new end
