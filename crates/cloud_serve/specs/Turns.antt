-- What one request comes to: its turn, and when a turn is lawful.
use Rattle.std.specs.Prelude.{◌≡◌, ◌≢◌, ℕ, ◌⊎◌, ◌++◌, Bool, true, false, List, [], ◌∷◌, Option, Some, None, Result, Ok, Err, length, codes}
use Rattle.cloud_serve.specs.Terms.{access_data, Ask, Asked, Book, Collecting, command_text, data_text, denial_text, desk_page_text, done_text, fault_text, GivesText, grain_text, Handed, Judged, Key, Law, Listing, missing_data, options_text, OrderFault, own_text, page_data, Permit, preview_data, RelayFault, Relays, Reply, Request, shared_data, Showing, site_text, SiteFault, Verdict, wants_head, why_data}
use Rattle.host_base.specs.declared.verdict.Denial.TheVariants as denial
use Rattle.host_base.specs.declared.verdict.Verdict.TheVariants as verdict
use Rattle.bridge_headers.specs.declared.fault.RelayFault.TheVariants as fault
use Rattle.cloud_serve.specs.declared.showing.Showing.TheVariants as showing
use Rattle.share_graph.specs.declared.refusal.Refusal.TheVariants as refusal
use Rattle.desk_orders.specs.declared.reply.OrderFault.TheVariants as order_fault
use Rattle.desk_orders.specs.declared.reply.Listing.TheVariants as listing
use Rattle.desk_orders.specs.declared.reply.Reply.TheVariants as reply
use Rattle.site_caps.specs.declared.fault.SiteFault.TheVariants as site_fault
use Rattle.reply_texts.specs.declared.done.Handed.TheVariants as handed
use Rattle.reply_texts.specs.declared.faults.OwnFault.TheVariants as own
use Rattle.cloud_serve.specs.Acts.{Act, is_done, IsMade, past}
use Rattle.cloud_serve.specs.Collecting.{AreCollecting, EndsWith, past_all, place_after}
use Rattle.cloud_serve.specs.Routes.{Shows}

-- One request and all that came of it: its place in the history, how far the connection has counted the history then,
-- what was asked of the link, the orders that it made, and the answer.
pub record Turn : Type 0 where
  pub request : Request
  pub place : ℕ
  pub reached : ℕ
  pub asked : List Ask
  pub acts : List Act
  pub answer : List ℕ

-- a request with another target, as it is passed on
abbrev pub passed_to : List ℕ → Request → Request
passed_to target request = record request { target = target }

-- a request is asked of the run that its permit names, by the grain's text
abbrev pub ask_of : Permit → Request → Option (List ℕ) → Ask
ask_of permit request back =
    record { run = permit.run; grain = permit.grain; text = grain_text permit request; back = back }

-- the answer to how the relay of what came back came out
abbrev pub AnswersRelay : Bool → Result (List ℕ) RelayFault → List ℕ → Type 0
AnswersRelay head_only (Ok text) answer = answer ≡ text
AnswersRelay head_only (Err (fault.BadAnswer at)) answer =
    answer ≡ own_text 502 (codes "BadAnswer") (at ∷ []) head_only
AnswersRelay head_only (Err fault.NoLength) answer = answer ≡ own_text 502 (codes "NoLength") [] head_only
AnswersRelay head_only (Err fault.Memory) answer = ⊥

-- The answer to what came back from the link: nothing, where it failed; too much; or what is relayed.
abbrev pub AnswersBack : Bool → Option (List ℕ) → List ℕ → Type 0
AnswersBack head_only None answer = answer ≡ own_text 502 (codes "LinkFailed") [] head_only
AnswersBack head_only (Some back) answer =
    ((length back ≡ 4194305) × (answer ≡ own_text 502 (codes "LongAnswer") (4194305 ∷ []) head_only))
    ⊎ ((length back ≢ 4194305) × ((outcome : Result (List ℕ) RelayFault)
    × Relays back head_only outcome × AnswersRelay head_only outcome answer))

-- The answer to what a site gave: its text, or why it gives none.
abbrev pub AnswersSite : Result (List ℕ) SiteFault → Bool → List ℕ → Type 0
AnswersSite (Ok text) head_only answer = answer ≡ site_text text head_only
AnswersSite (Err (site_fault.NoDriver tag)) head_only answer =
    answer ≡ fault_text (own.NoDriver tag) head_only
AnswersSite (Err (site_fault.NotOffered tag item)) head_only answer =
    answer ≡ fault_text (own.NotOffered tag item) head_only
AnswersSite _ head_only answer = ⊥

-- the answer to an item of a site: what the law allows for it
abbrev pub AnswersItem : Law → ℕ → ℕ → Bool → List ℕ → Type 0
AnswersItem law tag item head_only answer =
    (given : Result (List ℕ) SiteFault) × GivesText law tag item given × AnswersSite given head_only answer

-- What follows from a verdict: a denial is answered and nothing is asked; a request that goes through is asked once, as it is passed on, and
-- answered by what came back; and an item of a site is answered by what the law of the sites allows for it.
abbrev pub FollowsVerdict : Law → Verdict → Request → Turn → Type 0
FollowsVerdict law (verdict.Deny reason) passed turn =
    (turn.asked ≡ []) × (turn.answer ≡ denial_text reason (wants_head turn.request))
FollowsVerdict law (verdict.Forward permit) passed turn =
    (back : Option (List ℕ)) × (turn.asked ≡ ask_of permit passed back ∷ [])
    × AnswersBack (wants_head turn.request) back turn.answer
FollowsVerdict law (verdict.Site tag item) passed turn =
    (turn.asked ≡ []) × AnswersItem law tag item (wants_head turn.request) turn.answer

-- what an answer hands out, beside numbers: the key of the session that was opened, or a token
abbrev pub handed_of : Option ℕ → Option (List ℕ) → Handed
handed_of session None = handed.Nothing
handed_of (Some session) (Some text) = handed.Key text
handed_of None (Some text) = handed.Token text

-- the text of the answer to a question
abbrev pub listing_text : Listing → Bool → List ℕ
listing_text (listing.Options list) head_only = options_text list head_only
listing_text (listing.Access lines) head_only = data_text (access_data lines) head_only
listing_text (listing.Losses lines) head_only = data_text (preview_data lines) head_only
listing_text (listing.Why reasons) head_only = data_text (why_data reasons) head_only
listing_text (listing.Owed members) head_only = data_text (missing_data members) head_only
listing_text (listing.Page page) head_only = data_text (page_data page) head_only

-- The text of the answer to an order. Want of memory has no text here: it breaks the turn off.
abbrev pub AnswersOrder : Result Reply OrderFault → Bool → List ℕ → Type 0
AnswersOrder (Ok (reply.Made made text)) head_only answer =
    answer ≡ done_text made (handed_of made.session text) head_only
AnswersOrder (Ok (reply.Refused why)) head_only answer = answer ≡ command_text why head_only
AnswersOrder (Ok (reply.Listed told)) head_only answer = answer ≡ listing_text told head_only
AnswersOrder (Err order_fault.Store) head_only answer = answer ≡ fault_text own.StoreFailed head_only
AnswersOrder (Err order_fault.Secrets) head_only answer = answer ≡ fault_text own.SecretsFailed head_only
AnswersOrder (Err order_fault.Start) head_only answer = answer ≡ fault_text own.StartFailed head_only
AnswersOrder (Err order_fault.Memory) head_only answer = ⊥

-- Answered before the desk, with this text, whole or its head: the place is the one before it, and nothing is asked or ordered.
pub record IsPlain (low last : ℕ) (text : Bool → List ℕ) (turn : Turn) : Type 0 where
  pub place_is : turn.place ≡ last
  pub reached_is : turn.reached ≡ low
  pub unasked : turn.asked ≡ []
  pub unordered : turn.acts ≡ []
  pub answer_is : turn.answer ≡ text (wants_head turn.request)

-- Answered by the verdict on a key at the turn's place, and what follows from it for the request as it is passed on.
pub record IsKeyed (book : Book) (low : ℕ) (key : Key) (passed : Request) (turn : Turn) : Type 0 where
  pub verdict : Verdict
  pub judged : Judged low book key turn.place verdict
  pub reached_is : turn.reached ≡ turn.place
  pub unordered : turn.acts ≡ []
  pub follows : FollowsVerdict book.law verdict passed turn

-- The last order of a turn was made behind these others: the turn's place is its place, and the connection counts from then
-- on what it added. Nothing is asked.
pub record MakesLast (book : Book) (low : ℕ) (earlier : List Act) (order : Asked) (turn : Turn) : Type 0 where
  pub act : Act
  pub acts_are : turn.acts ≡ earlier ++ act ∷ []
  pub made : IsMade book low order act
  pub place_is : turn.place ≡ act.place
  pub reached_is : turn.reached ≡ past act
  pub unasked : turn.asked ≡ []

-- Two orders were made, the second since the first was carried out, and not before what that one added.
pub record MakesBoth (book : Book) (low : ℕ) (first second : Asked) (turn : Turn) : Type 0 where
  pub before : Act
  pub made : IsMade book low first before
  pub done : is_done before.answer ≡ true
  pub second_made : MakesLast book (past before) (before ∷ []) second turn

-- answered by what became of an order
abbrev pub IsOrdered : Book → ℕ → Asked → Turn → Type 0
IsOrdered book low order turn =
    (makes : MakesLast book low [] order turn)
    × AnswersOrder makes.act.answer (wants_head turn.request) turn.answer

-- Answered by what became of the first order, where it wasn't carried out; else by what became of the second.
abbrev pub IsOpened : Book → ℕ → Asked → Asked → Turn → Type 0
IsOpened book low first second turn =
    ((makes : MakesLast book low [] first turn) × (is_done makes.act.answer ≡ false)
    × AnswersOrder makes.act.answer (wants_head turn.request) turn.answer)
    ⊎ ((makes : MakesBoth book low first second turn)
    × AnswersOrder makes.second_made.act.answer (wants_head turn.request) turn.answer)

-- the answer to what collecting came to
abbrev pub AnswersCollecting : Result ℕ (Result Reply OrderFault) → Bool → List ℕ → Type 0
AnswersCollecting (Ok made) head_only answer = answer ≡ data_text (shared_data made) head_only
AnswersCollecting (Err stopped) head_only answer = AnswersOrder stopped head_only answer

-- The orders of a curator that collects were made, and nothing else was done: the turn's place is that of the last one, and the connection
-- counts from then on what that one added.
pub record Collects (book : Book) (low : ℕ) (asks : Collecting) (turn : Turn) : Type 0 where
  pub collecting : AreCollecting asks book low turn.acts
  pub place_is : turn.place ≡ place_after low turn.acts
  pub reached_is : turn.reached ≡ past_all low turn.acts
  pub unasked : turn.asked ≡ []

-- answered by what collecting came to
abbrev pub IsCollected : Book → ℕ → Collecting → Turn → Type 0
IsCollected book low asks turn =
    Collects book low asks turn
    × ((outcome : Result ℕ (Result Reply OrderFault)) × EndsWith asks turn.acts outcome
    × AnswersCollecting outcome (wants_head turn.request) turn.answer)

-- A lawful turn, where the connection had counted `low` entries and the place before it was `last`.
abbrev pub IsLawfulBy : Showing → Book → ℕ → ℕ → Turn → Type 0
IsLawfulBy showing.NoRoute book low last turn = IsPlain low last (own_text 404 (codes "NoRoute") []) turn
IsLawfulBy showing.Page book low last turn = IsPlain low last desk_page_text turn
IsLawfulBy showing.NoCredential book low last turn = IsPlain low last (denial_text denial.UnknownKey) turn
IsLawfulBy (showing.BadBody field) book low last turn = IsPlain low last (fault_text (own.BadBody field)) turn
IsLawfulBy (showing.BadManifest bad) book low last turn =
    IsPlain low last (command_text (refusal.Manifest bad)) turn
IsLawfulBy (showing.Keyed key) book low last turn = IsKeyed book low key turn.request turn
IsLawfulBy (showing.Used key target) book low last turn =
    IsKeyed book low key (passed_to target turn.request) turn
IsLawfulBy (showing.Wants order) book low last turn = IsOrdered book low order turn
IsLawfulBy (showing.Opens first second) book low last turn = IsOpened book low first second turn
IsLawfulBy (showing.Collects asks) book low last turn = IsCollected book low asks turn

abbrev pub IsLawful : Book → ℕ → ℕ → Turn → Type 0
IsLawful book low last turn =
    (shown : Showing) × Shows turn.request shown × IsLawfulBy shown book low last turn

-- the one text of a request that goes through was asked
abbrev pub IsAskedOnce : Book → ℕ → Key → Request → Turn → Type 0
IsAskedOnce book low key passed turn =
    (permit : Permit) × (back : Option (List ℕ)) × Judged low book key turn.place (verdict.Forward permit)
    × (turn.asked ≡ ask_of permit passed back ∷ []) × (turn.acts ≡ [])

-- What may have been done on a turn that memory ran out on: the one text of a request that goes through was asked, or the order was
-- made, or of two the first or both, or some of a curator's that collects.
abbrev pub IsBegunBy : Showing → Book → ℕ → Turn → Type 0
IsBegunBy (showing.Keyed key) book low turn = IsAskedOnce book low key turn.request turn
IsBegunBy (showing.Used key target) book low turn =
    IsAskedOnce book low key (passed_to target turn.request) turn
IsBegunBy (showing.Wants order) book low turn = MakesLast book low [] order turn
IsBegunBy (showing.Opens first second) book low turn =
    MakesLast book low [] first turn ⊎ MakesBoth book low first second turn
IsBegunBy (showing.Collects asks) book low turn = Collects book low asks turn
IsBegunBy _ book low turn = ⊥

abbrev pub IsBegun : Book → ℕ → Turn → Type 0
IsBegun book low turn =
    ((turn.asked ≡ []) × (turn.acts ≡ []))
    ⊎ ((shown : Showing) × Shows turn.request shown × IsBegunBy shown book low turn)

-- Lawful turns, one after another: each counts what the one before it reached, and knows the place before it. `high` and `place`
-- are how far they counted, and the last place.
abbrev pub AreLawful : Book → ℕ → ℕ → List Turn → ℕ → ℕ → Type 0
AreLawful book low last [] high place = (high ≡ low) × (place ≡ last)
AreLawful book low last (turn ∷ turns) high place =
    IsLawful book low last turn × AreLawful book turn.reached turn.place turns high place
