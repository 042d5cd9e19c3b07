-- What serving a tunnel comes to.
use Rattle.std.specs.Prelude.{◌≡◌, ℕ, ◌+◌, ◌<◌, ◌≤◌, ◌++◌, true, List, [], ◌∷◌, Option, Some, None, length, map}
use Rattle.std.specs.List.{flat_map}
use Rattle.tunnel_serve.specs.Terms.{AskedOf, Book, denial_body, Digest, Hall, HallEnd, Key, Line, Message, Rose, sha256, TakesNone}
use Rattle.host_base.specs.declared.key.Key.TheVariants as key
use Rattle.host_base.specs.declared.verdict.Denial.TheVariants as denial
use Rattle.tunnel_serve.specs.declared.tunnel_end.HallEnd.TheVariants as end
use Rattle.tunnel_serve.specs.Exchanges.{AllGoOn, Answer, Exchange, IsBroken, IsDenied, IsUnput, places_in}
use Rattle.ws_tunnel.specs.declared.message.Message.TheVariants as message

-- how many messages behind its key a tunnel may have
abbrev pub limit : ℕ
limit = 1000000

-- a first message that is a key: a text of at most 64 bytes, whose digest is a session's
abbrev pub IsKeyText : Message → Type 0
IsKeyText (message.Text text) = length text ≤ 64
IsKeyText (message.Binary bytes) = ⊥

-- What became of a tunnel: no first message came; the first one is no key; or it is this key, behind which there were messages
-- with each of which the tunnel went on, and perhaps one more, with which it ended.
pub data Course : Type 0 where
  Unopened : Course
  Misopened : Message → Course
  Opened : List ℕ → List Exchange → Option Exchange → Course

-- the message that was in hand at the end, if there was one
abbrev pub in_hand : Option Exchange → List Exchange
in_hand None = []
in_hand (Some e) = e ∷ []

-- all messages behind the key
abbrev pub exchanges : Course → List Exchange
exchanges (Opened text es hand) = es ++ in_hand hand
exchanges _ = []

-- all messages that were taken
abbrev pub taken : Course → List Message
taken Unopened = []
taken (Misopened first) = first ∷ []
taken (Opened text es hand) = message.Text text ∷ map (λ e. e.message) (es ++ in_hand hand)

-- what was said to a first message that is no key, unless it couldn't be put
abbrev pub said : HallEnd → List Message
said (end.Refused reason) = message.Text (denial_body reason) ∷ []
said _ = []

-- all messages that were put
abbrev pub put_in : HallEnd → Course → List Message
put_in e (Misopened first) = said e
put_in e course = flat_map (λ one. one.put) (exchanges course)

-- The table of ends, where no first message came: it is the end of the messages, or the tunnel or memory failed.
abbrev pub EndsUnopened : HallEnd → Type 0
EndsUnopened end.Closed = Unit {0}
EndsUnopened end.ReadFault = Unit {0}
EndsUnopened end.Memory = Unit {0}
EndsUnopened _ = ⊥

-- Where the first message is no key: it is refused as an unknown one, unless the tunnel or memory failed.
abbrev pub EndsMisopened : HallEnd → Type 0
EndsMisopened (end.Refused reason) = reason ≡ denial.UnknownKey
EndsMisopened end.WriteFault = Unit {0}
EndsMisopened end.Memory = Unit {0}
EndsMisopened _ = ⊥

-- Behind a key: what was in hand at each end, after how many messages. (The message in hand has the next number.)
abbrev pub EndsWith : HallEnd → Option Exchange → Book → ℕ → Digest → ℕ → Type 0
EndsWith end.Spent None book low who count = count ≡ limit
EndsWith end.Closed None book low who count = count < limit
EndsWith end.ReadFault None book low who count = count < limit
EndsWith end.Memory None book low who count = count < limit
EndsWith end.Memory (Some e) book low who count = (count < limit) × IsBroken book low who e
EndsWith (end.Refused reason) (Some e) book low who count = (count < limit) × IsDenied book low who e reason
EndsWith end.WriteFault (Some e) book low who count = (count < limit) × IsUnput book low who (count + 1) e
EndsWith _ hand book low who count = ⊥

-- the session whose key a text is
abbrev pub digest_in : List ℕ → Digest
digest_in text = record { 0 = sha256 text }

-- A course that is lawful by the history that the desk has seen in the end, of which it had seen `from` entries at the beginning.
abbrev pub IsLawful : HallEnd → Book → ℕ → Course → Type 0
IsLawful e book from Unopened = EndsUnopened e
IsLawful e book from (Misopened first) = (IsKeyText first → ⊥) × EndsMisopened e
IsLawful e book from (Opened text es hand) =
    IsKeyText (message.Text text) × ((high : ℕ) × AllGoOn book from (digest_in text) 1 es high
    × EndsWith e hand book high (digest_in text) (length es))

-- These messages were taken, where those that are left are told, and these were put, where those that were put are.
pub record Moved (old new : Hall) (came went : List Message) : Type 0 where
  pub left : (list : List Message) → old.left ≡ Some list
      → (rest : List Message) × (list ≡ came ++ rest) × (new.left ≡ Some rest)
  pub put : (list : List Message) → old.put ≡ Some list → new.put ≡ Some (list ++ went)
  pub whole : new.whole ≡ old.whole
  pub counts : old.faults ≤ new.faults

-- what a tunnel's messages and its link tell
pub record Wired : Type 0 where
  pub hall : Hall
  pub line : Line

-- which count must have risen in this call, and that the end of the messages was told where they ended
abbrev pub CauseAt : HallEnd → Hall → Hall → Type 0
CauseAt end.ReadFault old new = Rose old.faults new.faults
CauseAt end.WriteFault old new = Rose old.faults new.faults
CauseAt end.Closed old new = new.ended ≡ true
CauseAt _ old new = Unit {0}

-- no message is left where they ended
abbrev pub LeftAt : HallEnd → Hall → Hall → Type 0
LeftAt end.Closed old new = (list : List Message) → old.left ≡ Some list → new.left ≡ Some []
LeftAt _ old new = Unit {0}

-- A COURSE WAS SERVED on a history: by what the desk told of it before, of which it had seen `from` entries, and what it told in
-- the end.
pub record IsRun (before after : Book) (old new : Wired) (course : Course) (end : HallEnd) (from : ℕ) (places : List ℕ) (passed : ℕ)
    : Type 0 where
  -- Places begin at what the desk had seen; each message is lawful at its place in that one history.
  pub from_is : from ≡ length before.seen
  pub lawful : IsLawful end after from course
  -- The desk was given no order.
  pub none : TakesNone before after
  pub places_are : places ≡ flat_map (λ e. places_in e.judged) (exchanges course)
  -- The link was asked the texts of the messages that go through and no others; each failure is counted.
  pub asked_of : AskedOf old.line new.line (flat_map (λ e. e.asked) (exchanges course))
  pub passed_is : passed ≡ length (flat_map (λ e. e.asked) (exchanges course))
  -- All messages that were taken are those of the course, and nothing else was put.
  pub moved : Moved old.hall new.hall (taken course) (put_in end course)
  pub left : LeftAt end old.hall new.hall
  pub cause : CauseAt end old.hall new.hall

-- A desk was asked for the verdict on a key, by `gave` between the desk before and the desk after, or wasn't asked.
module _ {D : Type 0} (gave : D → Key → Answer → D → Type 0) where
  abbrev pub WasAsked : Key → D → Option Answer → D → Type 0
  WasAsked k before None after = after ≡ before
  WasAsked k before (Some answer) after = gave before k answer after

  -- it was asked once for each of these messages that has an answer of it, one after another, and nothing else was done to it
  abbrev pub WereAsked : Key → D → List Exchange → D → Type 0
  WereAsked k before [] after = after ≡ before
  WereAsked k before (e ∷ es) after = (mid : D) × WasAsked k before e.judged mid × WereAsked k mid es after

  abbrev pub WereAskedIn : D → Course → D → Type 0
  WereAskedIn before (Opened text es hand) after =
      WereAsked (key.Session (digest_in text)) before (es ++ in_hand hand) after
  WereAskedIn before _ after = after ≡ before

  -- THE RUN OF A TUNNEL over a desk, of which `book` tells the history.
  pub record TunnelRun (book : D → Book) (old new : Wired) (before after : D) (end : HallEnd) (from : ℕ) (places : List ℕ) (passed : ℕ)
      : Type 0 where
    pub course : Course
    pub run : IsRun (book before) (book after) old new course end from places passed
    -- The desk was asked for one verdict for each message that isn't too long.
    pub asked_desk : WereAskedIn before course after
