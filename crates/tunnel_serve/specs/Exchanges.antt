-- One message of a tunnel behind its key, and what comes of it.
use Rattle.std.specs.Prelude.{◌≡◌, ◌≢◌, ℕ, ◌<◌, ◌≤◌, ◌⊎◌, ◌+◌, false, List, [], ◌∷◌, Option, Some, None, Result, Ok, Err, length, codes, decimal}
use Rattle.tunnel_serve.specs.Terms.{Ask, ask_of, Book, bytes_of, denial_body, Denial, Digest, Judged, Memory, Message, Permit, refusal_body, RelayFault, Relays, Request, Verdict}
use Rattle.bridge_headers.specs.declared.fault.RelayFault.TheVariants as fault
use Rattle.host_base.specs.declared.key.Key.TheVariants as key
use Rattle.host_base.specs.declared.verdict.Verdict.TheVariants as verdict
use Rattle.ws_tunnel.specs.declared.message.Message.TheVariants as message

-- how many bytes a message may have that is passed on
abbrev pub longest : ℕ
longest = 1048576

-- what kind of text a grain is told that a message is
abbrev pub media_type : Message → List ℕ
media_type (message.Text bytes) = codes "text/plain"
media_type (message.Binary bytes) = codes "application/octet-stream"

-- THE REQUEST that a message is to its grain: a POST of `/`, with the message as its body
abbrev pub request_of : Message → Request
request_of m = record {
  method = codes "POST";
  target = codes "/";
  host = [];
  fields = record { name = codes "content-type"; value = media_type m } ∷ record { name = codes "content-length"; value = decimal (length (bytes_of m)) } ∷ [];
  bearer = None;
  body = bytes_of m;
  last = false;
}

-- a text of the server's own: what went wrong, and its numbers
abbrev pub notice : List ℕ → List ℕ → Message
notice name numbers = message.Text (refusal_body name numbers)

-- what is put of how the relay of an answer came out
abbrev pub PutsRelay : Result (List ℕ) RelayFault → Message → Type 0
PutsRelay (Ok text) reply = reply ≡ message.Binary text
PutsRelay (Err (fault.BadAnswer at)) reply = reply ≡ notice (codes "BadAnswer") (at ∷ [])
PutsRelay (Err fault.NoLength) reply = reply ≡ notice (codes "NoLength") []
PutsRelay (Err fault.Memory) reply = ⊥

-- What is put of what came back from the link: nothing, where it failed; too much; or what is relayed, as bytes.
abbrev pub PutsBack : Option (List ℕ) → Message → Type 0
PutsBack None reply = reply ≡ notice (codes "LinkFailed") []
PutsBack (Some back) reply =
    ((length back ≡ 4194305) × (reply ≡ notice (codes "LongAnswer") (4194305 ∷ [])))
    ⊎ ((length back ≢ 4194305) × ((outcome : Result (List ℕ) RelayFault)
    × Relays back false outcome × PutsRelay outcome reply))

-- What was answered to a question for the verdict on the tunnel's key: a place in the history and the verdict there.
abbrev pub Answer : Type 0
Answer = Result (ℕ × Verdict) Memory

-- One message of the client, what was answered for it by the desk, where that was asked, what was asked of the link, and what was
-- put.
pub record Exchange : Type 0 where
  pub message : Message
  pub judged : Option Answer
  pub asked : List Ask
  pub put : List Message

-- the place of the verdict, where one was given
abbrev pub places_in : Option Answer → List ℕ
places_in (Some (Ok r)) = r.0 ∷ []
places_in _ = []

-- the place from which the next verdict counts
abbrev pub reached : ℕ → Option Answer → ℕ
reached low (Some (Ok r)) = r.0
reached low _ = low

-- A message that is too long: that is said, with the message's number, and neither the desk nor the grain is asked.
pub record IsTooLong (number : ℕ) (e : Exchange) : Type 0 where
  pub long : longest < length (bytes_of e.message)
  pub unjudged : e.judged ≡ None
  pub unasked : e.asked ≡ []
  pub put_is : e.put ≡ notice (codes "LongBody") (number ∷ []) ∷ []

module _ (book : Book) (low : ℕ) (who : Digest) (e : Exchange) where
  -- A message that goes through: the verdict at its place, which isn't before the one before, forwards it; the grain is asked once,
  -- with the permissions of that verdict, and what came back is put.
  pub record IsPassed : Type 0 where
    pub short : length (bytes_of e.message) ≤ longest
    pub place : ℕ
    pub permit : Permit
    pub back : Option (List ℕ)
    pub reply : Message
    pub judged_is : e.judged ≡ Some (Ok (place, verdict.Forward permit))
    pub judged : Judged low book (key.Session who) place (verdict.Forward permit)
    pub asked_is : e.asked ≡ ask_of permit (request_of e.message) back ∷ []
    pub puts : PutsBack back reply
    pub put_is : e.put ≡ reply ∷ []

  -- A message that is refused: the verdict at its place is a denial, which is said, and the grain isn't asked.
  pub record IsDenied (reason : Denial) : Type 0 where
    pub short : length (bytes_of e.message) ≤ longest
    pub place : ℕ
    pub judged_is : e.judged ≡ Some (Ok (place, verdict.Deny reason))
    pub judged : Judged low book (key.Session who) place (verdict.Deny reason)
    pub unasked : e.asked ≡ []
    pub put_is : e.put ≡ message.Text (denial_body reason) ∷ []

  -- after a message the tunnel goes on
  abbrev pub GoesOn : ℕ → Type 0
  GoesOn number = IsTooLong number e ⊎ IsPassed

-- messages one after another, each with its number, behind each of which the tunnel goes on; the next verdict counts from `high`
abbrev pub AllGoOn : Book → ℕ → Digest → ℕ → List Exchange → ℕ → Type 0
AllGoOn book low who number [] high = high ≡ low
AllGoOn book low who number (e ∷ es) high =
    GoesOn book low who e number × AllGoOn book (reached low e.judged) who (number + 1) es high

-- what may have been asked where memory ran out: nothing; the desk; or the desk, which forwards, and then the grain
abbrev pub HasAsked : Book → ℕ → Digest → Message → Option Answer → List Ask → Type 0
HasAsked book low who m None asked = asked ≡ []
HasAsked book low who m (Some (Err memory)) asked = asked ≡ []
HasAsked book low who m (Some (Ok r)) asked =
    Judged low book (key.Session who) r.0 r.1
    × ((asked ≡ []) ⊎ ((permit : Permit) × (back : Option (List ℕ)) × (r.1 ≡ verdict.Forward permit)
    × (asked ≡ ask_of permit (request_of m) back ∷ [])))

-- a message on which memory ran out: nothing is put
pub record IsBroken (book : Book) (low : ℕ) (who : Digest) (e : Exchange) : Type 0 where
  pub begun : HasAsked book low who e.message e.judged e.asked
  pub unput : e.put ≡ []

-- a message of which all was done, but that the tunnel failed when its answer was to be put
pub record IsUnput (book : Book) (low : ℕ) (who : Digest) (number : ℕ) (e : Exchange) : Type 0 where
  pub put : List Message
  pub done : GoesOn book low who (record e { put = put }) number
      ⊎ ((reason : Denial) × IsDenied book low who (record e { put = put }) reason)
  pub unput : e.put ≡ []
