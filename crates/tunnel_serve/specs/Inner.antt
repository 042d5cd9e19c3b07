-- Aids for the contracts of private functions. No public contract stands on them.
use Rattle.std.specs.Prelude.{◌≡◌, ℕ, ◌+◌, ◌<◌, ◌⊎◌, ◌++◌, List, [], ◌∷◌, Option, Result, Ok, Err, length, map}
use Rattle.std.specs.List.{flat_map}
use Rattle.tunnel_serve.specs.Terms.{Ask, ask_of, AskedOf, Book, Digest, Hall, HallEnd, Key, Line, Memory, Message, Permit, Rose, TakesNone}
use Rattle.host_base.specs.declared.key.Key.TheVariants as key
use Rattle.tunnel_serve.specs.declared.replies.Outcome.{Outcome}
use Rattle.tunnel_serve.specs.declared.replies.Outcome.TheVariants as outcome
use Rattle.tunnel_serve.specs.declared.tunnel_end.HallEnd.TheVariants as end
use Rattle.tunnel_serve.specs.Exchanges.{AllGoOn, Answer, Exchange, GoesOn, IsBroken, IsDenied, places_in, PutsBack, request_of}
use Rattle.tunnel_serve.specs.Tunnels.{CauseAt, digest_in, EndsMisopened, EndsUnopened, EndsWith, in_hand, IsKeyText, LeftAt, limit, Moved, said, WasAsked, WereAsked, Wired}
use Rattle.ws_tunnel.specs.declared.message.Message.TheVariants as message

-- What asking the grain for a message came to: the answer to what came back, or want of memory before or behind it.
abbrev pub AsksBy : (Option (List ℕ) → Ask) → Result Message Memory → List Ask → Type 0
AsksBy ask (Ok reply) asked = (back : Option (List ℕ)) × (asked ≡ ask back ∷ []) × PutsBack back reply
AsksBy ask (Err memory) asked = (asked ≡ []) ⊎ ((back : Option (List ℕ)) × (asked ≡ ask back ∷ []))

pub record Asks (before after : Line) (counted counts : ℕ) (permit : Permit) (m : Message) (result : Result Message Memory)
    : Type 0 where
  pub asked : List Ask
  pub asked_of : AskedOf before after asked
  pub counts_is : counts ≡ counted + length asked
  pub answered : AsksBy (ask_of permit (request_of m)) result asked

-- what an exchange came to before its answer was put, but for what it would put
abbrev pub IsOutcome : Book → ℕ → Digest → ℕ → Exchange → Result Outcome Memory → Type 0
IsOutcome book low who number e (Ok (outcome.GoesOn reply)) = (e.put ≡ reply ∷ []) × GoesOn book low who e number
IsOutcome book low who number e (Ok (outcome.Denied reason reply)) = (e.put ≡ reply ∷ []) × IsDenied book low who e reason
IsOutcome book low who number e (Err memory) = IsBroken book low who e

-- what became of a message before its answer was put
pub record Answers {D : Type 0} (gave : D → Key → Answer → D → Type 0) (book : D → Book) (line line' : Line) (before after : D)
    (places places' : List ℕ) (counted counts low : ℕ) (who : Digest) (number : ℕ) (m : Message) (result : Result Outcome Memory)
    : Type 0 where
  pub e : Exchange
  pub message_is : e.message ≡ m
  pub asked_desk : WasAsked gave (key.Session who) before e.judged after
  pub none : TakesNone (book before) (book after)
  pub places_are : places' ≡ places ++ places_in e.judged
  pub asked_of : AskedOf line line' e.asked
  pub counts_is : counts ≡ counted + length e.asked
  pub outcome_is : IsOutcome (book after) low who number e result

-- a message was put, or wasn't: the tunnel failed, which was counted, or memory ran out
abbrev pub Puts : Hall → Hall → Message → Result (Unit {0}) HallEnd → Type 0
Puts old new reply (Ok done) = Moved old new [] (reply ∷ [])
Puts old new reply (Err end.WriteFault) = Moved old new [] [] × Rose old.faults new.faults
Puts old new reply (Err end.Memory) = Moved old new [] []
Puts old new reply _ = ⊥

-- what came out for a message was put: it goes on, or ends as it has to
abbrev pub Settles : Hall → Hall → Outcome → Result (Unit {0}) HallEnd → Type 0
Settles old new (outcome.GoesOn reply) result = Puts old new reply result
Settles old new (outcome.Denied reason reply) (Ok done) = ⊥
Settles old new (outcome.Denied reason reply) (Err (end.Refused why)) = (why ≡ reason) × Moved old new [] (reply ∷ [])
Settles old new (outcome.Denied reason reply) (Err end.WriteFault) = Moved old new [] [] × Rose old.faults new.faults
Settles old new (outcome.Denied reason reply) (Err end.Memory) = Moved old new [] []
Settles old new (outcome.Denied reason reply) (Err _) = ⊥

-- what was done for these messages
pub record Did {D : Type 0} (gave : D → Key → Answer → D → Type 0) (book : D → Book) (who : Digest) (old new : Wired) (before after : D)
    (places places' : List ℕ) (counted counts : ℕ) (es : List Exchange) : Type 0 where
  pub asked_desk : WereAsked gave (key.Session who) before es after
  pub none : TakesNone (book before) (book after)
  pub places_are : places' ≡ places ++ flat_map (λ e. places_in e.judged) es
  pub asked_of : AskedOf old.line new.line (flat_map (λ e. e.asked) es)
  pub counts_is : counts ≡ counted + length (flat_map (λ e. e.asked) es)
  pub moved : Moved old.hall new.hall (map (λ e. e.message) es) (flat_map (λ e. e.put) es)

-- one message was served, and the tunnel goes on
pub record OneMore {D : Type 0} (gave : D → Key → Answer → D → Type 0) (book : D → Book) (who : Digest) (low number : ℕ)
    (old new : Wired) (before after : D) (places places' : List ℕ) (counted counts : ℕ) : Type 0 where
  pub e : Exchange
  pub goes_on : GoesOn (book after) low who e number
  pub did : Did gave book who old new before after places places' counted counts (e ∷ [])

-- or it ended
pub record Stops {D : Type 0} (gave : D → Key → Answer → D → Type 0) (book : D → Book) (who : Digest) (low number : ℕ)
    (old new : Wired) (before after : D) (places places' : List ℕ) (counted counts : ℕ) (end : HallEnd) : Type 0 where
  pub hand : Option Exchange
  pub ends : (count : ℕ) → count < limit → number ≡ count + 1 → EndsWith end hand (book after) low who count
  pub did : Did gave book who old new before after places places' counted counts (in_hand hand)
  pub left : LeftAt end old.hall new.hall
  pub cause : CauseAt end old.hall new.hall

abbrev pub Steps : {D : Type 0} → (D → Key → Answer → D → Type 0) → (D → Book) → Digest → ℕ → ℕ → Wired → Wired → D → D
    → List ℕ → List ℕ → ℕ → ℕ → Result (Unit {0}) HallEnd → Type 0
Steps gave book who low number old new before after places places' counted counts (Ok done) =
    OneMore gave book who low number old new before after places places' counted counts
Steps gave book who low number old new before after places places' counted counts (Err end) =
    Stops gave book who low number old new before after places places' counted counts end

-- the messages behind the key were served
pub record Serves {D : Type 0} (gave : D → Key → Answer → D → Type 0) (book : D → Book) (who : Digest) (old new : Wired)
    (before after : D) (places places' : List ℕ) (counted counts : ℕ) (end : HallEnd) : Type 0 where
  pub es : List Exchange
  pub hand : Option Exchange
  pub high : ℕ
  pub lawful : AllGoOn (book after) (length (book before).seen) who 1 es high
  pub ends : EndsWith end hand (book after) high who (length es)
  pub did : Did gave book who old new before after places places' counted counts (es ++ in_hand hand)
  pub left : LeftAt end old.hall new.hall
  pub cause : CauseAt end old.hall new.hall

-- the session of a first message that is a key
pub record IsOpenedBy (first : Message) (who : Digest) : Type 0 where
  pub text : List ℕ
  pub first_is : first ≡ message.Text text
  pub is_key : IsKeyText (message.Text text)
  pub who_is : who ≡ digest_in text

-- a first message was refused
pub record Refuses (old new : Hall) (end : HallEnd) : Type 0 where
  pub ends : EndsMisopened end
  pub moved : Moved old new [] (said end)
  pub cause : CauseAt end old new

-- the first message was taken, and it is a key
pub record IsOpen (old new : Hall) (who : Digest) : Type 0 where
  pub first : Message
  pub opened : IsOpenedBy first who
  pub moved : Moved old new (first ∷ []) []

-- no first message came
pub record StaysUnopened (old new : Hall) (end : HallEnd) : Type 0 where
  pub ends : EndsUnopened end
  pub moved : Moved old new [] []
  pub left : LeftAt end old new
  pub cause : CauseAt end old new

-- the first message is no key
pub record IsMisopened (old new : Hall) (end : HallEnd) : Type 0 where
  pub first : Message
  pub no_key : IsKeyText first → ⊥
  pub ends : EndsMisopened end
  pub moved : Moved old new (first ∷ []) (said end)
  pub cause : CauseAt end old new

abbrev pub Opens : Hall → Hall → Result Digest HallEnd → Type 0
Opens old new (Ok who) = IsOpen old new who
Opens old new (Err end) = StaysUnopened old new end ⊎ IsMisopened old new end
