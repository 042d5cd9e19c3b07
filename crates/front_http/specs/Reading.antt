-- What a reader of requests has read, and what is left to it.
use Rattle.std.specs.Prelude.{◌≡◌, ℕ, ◌++◌, Bool, true, false, List, Option, Some, None, [], Result, Ok, Err}
use Rattle.host_base.specs.declared.request.Request.{Request}
use Rattle.front_http.specs.declared.refusal.Refusal.{Refusal}
use Rattle.front_http.specs.declared.refusal.Refusal.TheVariants as refusal
use Rattle.front_http.specs.declared.fault.FrontFault.{FrontFault}
use Rattle.front_http.specs.declared.fault.FrontFault.TheVariants as fault
use Rattle.front_http.specs.Stream.{Ending, Done, Last, Cut, Bad, Requests, none_but, first_of, IsRest}

-- A reader: the bytes that it took and that belong to no request handed out yet, the place of the first of them in the stream, whether
-- it handed out a request that is the last one, and the fault that it stopped with.
pub record Reading : Type 0 where
  pub held : List ℕ
  pub at : ℕ
  pub closed : Bool
  pub stopped : Option FrontFault

-- a reader that has read nothing yet
abbrev pub unread : Reading
unread = record { held = []; at = 0; closed = false; stopped = None }

-- What remains to a reader, where these bytes are left to its source, are these requests and this end.
abbrev pub IsRemaining : Reading → List ℕ → Requests → Type 0
IsRemaining reading left all = IsRest reading.closed reading.at (reading.held ++ left) all

-- no request remained, and this end
pub record Ended (old : Reading) (left : List ℕ) (end : Ending) : Type 0 where
  pub is : IsRemaining old left (none_but end)
  pub only : (all : Requests) → IsRemaining old left all → all ≡ none_but end

-- What remained is this request, and then what remains now.
pub record Gave (old : Reading) (left : List ℕ) (request : Request) (new : Reading) (told : Option (List ℕ)) : Type 0 where
  pub rest : List ℕ
  pub told_is : told ≡ Some rest
  pub joins : (more : Requests) → IsRemaining new rest more → IsRemaining old left (first_of request more)
  pub splits : (all : Requests) → IsRemaining old left all → (more : Requests) × IsRemaining new rest more × (all ≡ first_of request more)

-- the end of a stream whose last byte was read, behind a request that is the last one or isn't
abbrev pub over : Bool → Ending
over true = Last
over false = Done

-- what the next answer of a reader says of what remained
abbrev pub Next : Reading → List ℕ → Result (Option Request) FrontFault → Reading → Option (List ℕ) → Type 0
Next old left (Ok (Some request)) new told = Gave old left request new told
Next old left (Ok None) new told = Ended old left (over old.closed)
Next old left (Err (fault.BadHead at)) new told = Ended old left (Bad refusal.BadHead at)
Next old left (Err (fault.LongHead at)) new told = Ended old left (Bad refusal.LongHead at)
Next old left (Err (fault.NeedLength at)) new told = Ended old left (Bad refusal.NeedLength at)
Next old left (Err (fault.LongBody at)) new told = Ended old left (Bad refusal.LongBody at)
Next old left (Err (fault.CutOff n)) new told = Ended old left (Cut n)
Next old left (Err fault.ReadFault) new told = Unit {0}
Next old left (Err fault.Memory) new told = Unit {0}

-- the fault of what is refused at a place
abbrev pub fault_at : Refusal → ℕ → FrontFault
fault_at refusal.BadHead at = fault.BadHead at
fault_at refusal.LongHead at = fault.LongHead at
fault_at refusal.NeedLength at = fault.NeedLength at
fault_at refusal.LongBody at = fault.LongBody at

-- none, and a request that is cut off, come only where the source told its end
abbrev pub EndsRead : Result (Option Request) FrontFault → Bool → Type 0
EndsRead (Ok None) ended = ended ≡ true
EndsRead (Ok (Some request)) ended = Unit {0}
EndsRead (Err (fault.CutOff n)) ended = ended ≡ true
EndsRead (Err (fault.BadHead at)) ended = Unit {0}
EndsRead (Err (fault.LongHead at)) ended = Unit {0}
EndsRead (Err (fault.NeedLength at)) ended = Unit {0}
EndsRead (Err (fault.LongBody at)) ended = Unit {0}
EndsRead (Err fault.ReadFault) ended = Unit {0}
EndsRead (Err fault.Memory) ended = Unit {0}
