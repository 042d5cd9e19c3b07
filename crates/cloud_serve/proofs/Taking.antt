-- What taking a turn comes to, over plain values.
use Rattle.std.proofs.Common.{◌≡◌, ℕ, ◌+◌, ◌≤◌, Bool, true, false, List, [], ◌∷◌, Option, Result, Ok, Err, IfOk, MatchResult, length, codes, refl, sym, ◌∙◌, ap, subst, arith, inl, inr}
use Rattle.host_base.specs.declared.bytes.Memory.{Memory}
use Rattle.host_base.specs.declared.key.Key.{Key}
use Rattle.host_base.specs.declared.permit.Permit.{Permit}
use Rattle.host_base.specs.declared.request.Request.{Request}
use Rattle.host_base.specs.declared.verdict.Denial.{Denial}
use Rattle.host_base.specs.declared.verdict.Denial.TheVariants as denial
use Rattle.host_base.specs.declared.verdict.Verdict.TheVariants as verdict
use Rattle.grain_supervise.specs.declared.ask.Ask.{Ask}
use Rattle.grain_supervise.specs.Line.{Line}
use Rattle.cloud_serve.specs.declared.showing.Showing.{Showing}
use Rattle.cloud_serve.specs.declared.showing.Showing.TheVariants as showing
use Rattle.desk_orders.specs.declared.reply.OrderFault.{OrderFault}
use Rattle.desk_orders.specs.declared.reply.Reply.{Reply}
use Rattle.site_caps.specs.Law.{Law}
use Rattle.site_caps.specs.Answering.{GivesText}
use Rattle.desk_orders.specs.Commands.{Asked}
use Rattle.desk_page.specs.Page.{desk_page_text}
use Rattle.reply_texts.specs.declared.faults.OwnFault.TheVariants as own
use Rattle.reply_texts.specs.Faults.{fault_text}
use Rattle.reply_texts.specs.Refusals.{command_text}
use Rattle.app_manifest.specs.declared.fault.ManifestFault.{ManifestFault}
use Rattle.share_graph.specs.declared.refusal.Refusal.TheVariants as refusal
use Rattle.hub_core.specs.Book.{Book, Later, TakesNone, Judged, Ordered}
use Rattle.cloud_serve.specs.Routes.{Shows}
use Rattle.cloud_serve.specs.declared.turn.Answered.{Answered}
use Rattle.cloud_serve.specs.Inner.{AsksBy, AsksOnce, ShowsKey, Takes}
use Rattle.reply_texts.specs.Texts.{wants_head, own_text, denial_text}
use Rattle.cloud_serve.specs.Acts.{Act, is_done, IsMade, past}
use Rattle.cloud_serve.specs.Collecting.{EndsWith, past_all}
use Rattle.cloud_serve.specs.declared.sharing.Collecting.{Collecting}
use Rattle.cloud_serve.proofs.Collected.{are_lower, same_place}
use Rattle.cloud_serve.specs.Effects.{Came, OrderedOf}
use Rattle.cloud_serve.specs.Turns.{Turn, AnswersBack, AnswersCollecting, AnswersItem, AnswersOrder, MakesLast, MakesBoth, Collects, IsKeyed, IsLawfulBy, IsLawful, IsAskedOnce, IsBegun, ask_of, passed_to}
use Rattle.cloud_serve.proofs.Growth.{later_refl, none_taken, asked_none, judged_later}
use Rattle.cloud_serve.proofs.Orders.{none_trans, ordered_none, ordered_refl, ordered_one, ordered_trans, act_of, placed_later, placed_within}

-- a turn on a request was taken, with this place and this answer
abbrev pub TookTurn : Book → Book → Line → Line → ℕ → ℕ → ℕ → ℕ → Request → ℕ → List ℕ → Type 0
TookTurn old new before after counted counts low last request place text = Takes old new before after counted counts low last request (Ok (record { place = place; text = text }))

-- memory ran out on a turn on a request
abbrev pub BreaksOff : Book → Book → Line → Line → ℕ → ℕ → ℕ → Request → Type 0
BreaksOff old new before after counted counts low request = (last : ℕ) (m : Memory) → Takes old new before after counted counts low last request (Err m)

-- a request that goes through was asked
abbrev pub Forwards : Line → Line → ℕ → ℕ → Permit → Request → Bool → Result (List ℕ) Memory → Type 0
Forwards before after counted counts permit passed head_only answer = AsksOnce before after counted counts (ask_of permit passed) head_only answer

-- one text was asked, and what came back is answered, or memory ran out
pub asks_by : (ask : Option (List ℕ) → Ask) (head_only : Bool) (back : Option (List ℕ)) (result : Result (List ℕ) Memory) → IfOk result (λ reply. AnswersBack head_only back reply)
    → AsksBy ask head_only result (ask back ∷ [])
asks_by ask head_only back (Ok reply) is = (back, refl, is)
asks_by ask head_only back (Err m) is = inr (back, refl)

-- the answer at a place, where there is a text
abbrev pub answered_at : ℕ → Result (List ℕ) Memory → Result Answered Memory
answered_at place (Ok text) = Ok (record { place = place; text = text })
answered_at place (Err m) = Err m

pub placed_at : (place : ℕ) (text : Result (List ℕ) Memory) (result : Result Answered Memory)
    → MatchResult text (λ answer. result ≡ Ok (record { place = place; text = answer })) (λ m. result ≡ Err m) → result ≡ answered_at place text
placed_at place (Ok text) result is = is
placed_at place (Err m) result is = is

-- a turn on which nothing was done
abbrev nothing : ℕ → Request → Turn
nothing low request = record { request = request; place = low; reached = low; asked = []; acts = []; answer = [] }

-- memory ran out before anything was asked or ordered
pub breaks_first : (old new : Book) (line : Line) (counted low : ℕ) (request : Request) → TakesNone old new → BreaksOff old new line line counted counted low request
breaks_first old new line counted low request none last m = record {
  turn = nothing low request;
  request_is = refl;
  taken = inl (refl, refl);
  asked_of = asked_none line;
  counts_is = omega arith;
  ordered_of = ordered_none old new none;
}

pub breaks_at_once : (book : Book) (line : Line) (counted low : ℕ) (request : Request) → BreaksOff book book line line counted counted low request
breaks_at_once book line counted low request last m = breaks_first book book line counted low request (none_taken book) last m

abbrev plain_turn : ℕ → ℕ → Request → List ℕ → Turn
plain_turn low last request text = record { request = request; place = last; reached = low; asked = []; acts = []; answer = text }

answers_plain : (text : List ℕ) (book : Book) (line : Line) (counted low last : ℕ) (request : Request) (r : Showing) → Shows request r
    → IsLawfulBy r book low last (plain_turn low last request text) → TookTurn book book line line counted counted low last request last text
answers_plain text book line counted low last request r is lawful = record {
  turn = plain_turn low last request text;
  request_is = refl;
  taken = ((r, is, lawful), refl, refl);
  asked_of = asked_none line;
  counts_is = omega arith;
  ordered_of = ordered_refl book;
}

-- requests that need no desk were answered at once
pub answers_no_route : (book : Book) (line : Line) (counted low last : ℕ) (request : Request) (text : Result (List ℕ) Memory) → Shows request showing.NoRoute
    → IfOk text (λ t. t ≡ own_text 404 (codes "NoRoute") [] (wants_head request)) → Takes book book line line counted counted low last request (answered_at last text)
answers_no_route book line counted low last request (Ok text) r is =
    answers_plain text book line counted low last request showing.NoRoute r (record { place_is = refl; reached_is = refl; unasked = refl; unordered = refl; answer_is = is })
answers_no_route book line counted low last request (Err m) r is = breaks_at_once book line counted low request last m

pub answers_page : (book : Book) (line : Line) (counted low last : ℕ) (request : Request) (text : Result (List ℕ) Memory) → Shows request showing.Page
    → IfOk text (λ t. t ≡ desk_page_text (wants_head request)) → Takes book book line line counted counted low last request (answered_at last text)
answers_page book line counted low last request (Ok text) r is =
    answers_plain text book line counted low last request showing.Page r (record { place_is = refl; reached_is = refl; unasked = refl; unordered = refl; answer_is = is })
answers_page book line counted low last request (Err m) r is = breaks_at_once book line counted low request last m

pub answers_no_credential : (book : Book) (line : Line) (counted low last : ℕ) (request : Request) (text : Result (List ℕ) Memory) → Shows request showing.NoCredential
    → IfOk text (λ t. t ≡ denial_text denial.UnknownKey (wants_head request)) → Takes book book line line counted counted low last request (answered_at last text)
answers_no_credential book line counted low last request (Ok text) r is =
    answers_plain text book line counted low last request showing.NoCredential r (record { place_is = refl; reached_is = refl; unasked = refl; unordered = refl; answer_is = is })
answers_no_credential book line counted low last request (Err m) r is = breaks_at_once book line counted low request last m

pub answers_bad_body : (book : Book) (line : Line) (counted low last : ℕ) (request : Request) (field : ℕ) (text : Result (List ℕ) Memory) → Shows request (showing.BadBody field)
    → IfOk text (λ t. t ≡ fault_text (own.BadBody field) (wants_head request)) → Takes book book line line counted counted low last request (answered_at last text)
answers_bad_body book line counted low last request field (Ok text) r is =
    answers_plain text book line counted low last request (showing.BadBody field) r (record { place_is = refl; reached_is = refl; unasked = refl; unordered = refl; answer_is = is })
answers_bad_body book line counted low last request field (Err m) r is = breaks_at_once book line counted low request last m

pub answers_bad_manifest : (book : Book) (line : Line) (counted low last : ℕ) (request : Request) (bad : ManifestFault) (text : Result (List ℕ) Memory) → Shows request (showing.BadManifest bad)
    → IfOk text (λ t. t ≡ command_text (refusal.Manifest bad) (wants_head request)) → Takes book book line line counted counted low last request (answered_at last text)
answers_bad_manifest book line counted low last request bad (Ok text) r is =
    answers_plain text book line counted low last request (showing.BadManifest bad) r (record { place_is = refl; reached_is = refl; unasked = refl; unordered = refl; answer_is = is })
answers_bad_manifest book line counted low last request bad (Err m) r is = breaks_at_once book line counted low request last m

-- A request that shows a key is answered lawfully by the verdict on it.
lawful_by : (book : Book) (low last : ℕ) (request : Request) (key : Key) (passed : Request) (turn : Turn) → ShowsKey request key passed → turn.request ≡ request → IsKeyed book low key passed turn → IsLawful book low last turn
lawful_by book low last request key passed turn (inl (r, same)) is keyed =
    (showing.Keyed key, subst (λ (x : Request). Shows x (showing.Keyed key)) (sym is) r, subst (λ (x : Request). IsKeyed book low key x turn) (same ∙ sym is) keyed)
lawful_by book low last request key passed turn (inr (target, r, same)) is keyed =
    (showing.Used key target, subst (λ (x : Request). Shows x (showing.Used key target)) (sym is) r, subst (λ (x : Request). IsKeyed book low key x turn) (same ∙ ap (passed_to target) (sym is)) keyed)

begun_by : (book : Book) (low : ℕ) (request : Request) (key : Key) (passed : Request) (turn : Turn) → ShowsKey request key passed → turn.request ≡ request → IsAskedOnce book low key passed turn → IsBegun book low turn
begun_by book low request key passed turn (inl (r, same)) is once =
    inr (showing.Keyed key, subst (λ (x : Request). Shows x (showing.Keyed key)) (sym is) r, subst (λ (x : Request). IsAskedOnce book low key x turn) (same ∙ sym is) once)
begun_by book low request key passed turn (inr (target, r, same)) is once =
    inr (showing.Used key target, subst (λ (x : Request). Shows x (showing.Used key target)) (sym is) r, subst (λ (x : Request). IsAskedOnce book low key x turn) (same ∙ ap (passed_to target) (sym is)) once)

module _ (low last : ℕ) (request : Request) (key : Key) (passed : Request) (shows : ShowsKey request key passed) (place : ℕ) where
  -- a turn on the verdict at the place
  abbrev turn_on : List Ask → List ℕ → Turn
  turn_on asked text = record { request = request; place = place; reached = place; asked = asked; acts = []; answer = text }

  -- the verdict was a denial
  pub answers_denied : (old new : Book) (line : Line) (counted : ℕ) (reason : Denial) (text : List ℕ) → low ≤ length old.seen
      → TakesNone old new → Judged (length old.seen) new key place (verdict.Deny reason) → text ≡ denial_text reason (wants_head request) → TookTurn old new line line counted counted low last request place text
  answers_denied old new line counted reason text less none judged is = record {
    turn = turn_on [] text;
    request_is = refl;
    taken = (
      lawful_by new low last request key passed (turn_on [] text) shows refl
          (record { verdict = verdict.Deny reason; judged = judged_later new new (length old.seen) low key place (verdict.Deny reason) (later_refl new) less judged; reached_is = refl; unordered = refl; follows = (refl, is) }),
      refl,
      refl,
    );
    asked_of = asked_none line;
    counts_is = omega arith;
    ordered_of = ordered_none old new none;
  }

  -- the verdict was an item of a site, and what the site gave was answered
  pub answers_site : (old mid new : Book) (line : Line) (counted tag item : ℕ) (text : List ℕ) → low ≤ length old.seen
      → TakesNone old mid → TakesNone mid new → Judged (length old.seen) mid key place (verdict.Site tag item) → AnswersItem mid.law tag item (wants_head request) text → TookTurn old new line line counted counted low last request place text
  answers_site old mid new line counted tag item text less none more judged (given, gives, answers) = record {
    turn = turn_on [] text;
    request_is = refl;
    taken = (
      lawful_by new low last request key passed (turn_on [] text) shows refl
          (record {
            verdict = verdict.Site tag item;
            judged = judged_later mid new (length old.seen) low key place (verdict.Site tag item) more.later less judged;
            reached_is = refl;
            unordered = refl;
            follows = (refl, (given, subst (λ (law : Law). GivesText law tag item given) (sym more.later.law) gives, answers));
          }),
      refl,
      refl,
    );
    asked_of = asked_none line;
    counts_is = omega arith;
    ordered_of = ordered_none old new (none_trans old mid new none more);
  }

  -- the request went through, and was answered
  pub answers_forwarded : (old new : Book) (before after : Line) (counted counts : ℕ) (permit : Permit) (text : List ℕ) → low ≤ length old.seen
      → TakesNone old new → Judged (length old.seen) new key place (verdict.Forward permit) → Forwards before after counted counts permit passed (wants_head request) (Ok text) → TookTurn old new before after counted counts low last request place text
  answers_forwarded old new before after counted counts permit text less none judged f = record {
    turn = turn_on f.asked text;
    request_is = refl;
    taken = (
      lawful_by new low last request key passed (turn_on f.asked text) shows refl
          (record { verdict = verdict.Forward permit; judged = judged_later new new (length old.seen) low key place (verdict.Forward permit) (later_refl new) less judged; reached_is = refl; unordered = refl; follows = f.answered }),
      refl,
      refl,
    );
    asked_of = f.asked_of;
    counts_is = f.counts_is;
    ordered_of = ordered_none old new none;
  }

  begun_ask : (book : Book) (permit : Permit) (head_only : Bool) (m : Memory) (asked : List Ask) → Judged low book key place (verdict.Forward permit) → AsksBy (ask_of permit passed) head_only (Err m) asked → IsBegun book low (turn_on asked [])
  begun_ask book permit head_only m asked judged (inl none) = inl (none, refl)
  begun_ask book permit head_only m asked judged (inr one) = begun_by book low request key passed (turn_on asked []) shows refl (permit, one.0, judged, one.1, refl)

  -- the request went through, and memory ran out
  pub breaks_forwarded : (old new : Book) (before after : Line) (counted counts : ℕ) (permit : Permit) (head_only : Bool) (m : Memory) → low ≤ length old.seen
      → TakesNone old new → Judged (length old.seen) new key place (verdict.Forward permit) → Forwards before after counted counts permit passed head_only (Err m) → BreaksOff old new before after counted counts low request
  breaks_forwarded old new before after counted counts permit head_only m less none judged f before_it memory = record {
    turn = turn_on f.asked [];
    request_is = refl;
    taken = begun_ask new permit head_only m f.asked (judged_later new new (length old.seen) low key place (verdict.Forward permit) (later_refl new) less judged) f.answered;
    asked_of = f.asked_of;
    counts_is = f.counts_is;
    ordered_of = ordered_none old new none;
  }

-- an order that was answered, as an act, and the turn that ends with it
abbrev turn_with : (request : Request) (acts : List Act) (act : Act) → List ℕ → Turn
turn_with request acts act text = record { request = request; place = act.place; reached = past act; asked = []; acts = acts; answer = text }

made_here : (old new last : Book) (low : ℕ) (order : Asked) (place : ℕ) (answer : Result Reply OrderFault) → low ≤ length old.seen → Later new last → (o : Ordered old new order place answer)
    → IsMade last low order (act_of order place answer o.drawn o.added o.app)
made_here old new last low order place answer less later o = record { order_is = refl; placed = placed_later new last (length old.seen) low order place answer o.drawn o.added o.app later less o.placed }

abbrev makes_one : (old new : Book) (low : ℕ) (request : Request) (order : Asked) (place : ℕ) (answer : Result Reply OrderFault) (text : List ℕ) → low ≤ length old.seen → (o : Ordered old new order place answer)
    → MakesLast new low [] order (turn_with request (act_of order place answer o.drawn o.added o.app ∷ []) (act_of order place answer o.drawn o.added o.app) text)
makes_one old new low request order place answer text less o = record {
  act = act_of order place answer o.drawn o.added o.app;
  acts_are = refl;
  made = made_here old new new low order place answer less (later_refl new) o;
  place_is = refl;
  reached_is = refl;
  unasked = refl;
}

-- the desk was given the order, and its answer was answered
pub answers_ordered : (old new : Book) (line : Line) (counted low last : ℕ) (request : Request) (order : Asked) (place : ℕ) (answer : Result Reply OrderFault) (text : List ℕ) → low ≤ length old.seen → Shows request (showing.Wants order)
    → Ordered old new order place answer → AnswersOrder answer (wants_head request) text → TookTurn old new line line counted counted low last request place text
answers_ordered old new line counted low last request order place answer text less r o is =
    let act : Act = act_of order place answer o.drawn o.added o.app in
    record {
      turn = turn_with request (act ∷ []) act text;
      request_is = refl;
      taken = ((showing.Wants order, r, (makes_one old new low request order place answer text less o, is)), refl, refl);
      asked_of = asked_none line;
      counts_is = omega arith;
      ordered_of = ordered_one old new order place answer o;
    }

-- the desk was given the order, and memory ran out
pub breaks_ordered : (old new : Book) (line : Line) (counted low : ℕ) (request : Request) (order : Asked) (place : ℕ) (answer : Result Reply OrderFault) → low ≤ length old.seen → Shows request (showing.Wants order)
    → Ordered old new order place answer → BreaksOff old new line line counted counted low request
breaks_ordered old new line counted low request order place answer less r o last m =
    let act : Act = act_of order place answer o.drawn o.added o.app in
    record {
      turn = turn_with request (act ∷ []) act [];
      request_is = refl;
      taken = inr (showing.Wants order, r, makes_one old new low request order place answer [] less o);
      asked_of = asked_none line;
      counts_is = omega arith;
      ordered_of = ordered_one old new order place answer o;
    }

-- the first of two orders wasn't carried out, and its answer was answered
pub answers_stopped : (old new : Book) (line : Line) (counted low last : ℕ) (request : Request) (first second : Asked) (place : ℕ) (answer : Result Reply OrderFault) (text : List ℕ) → low ≤ length old.seen
    → Shows request (showing.Opens first second) → Ordered old new first place answer → is_done answer ≡ false → AnswersOrder answer (wants_head request) text → TookTurn old new line line counted counted low last request place text
answers_stopped old new line counted low last request first second place answer text less r o undone is =
    let act : Act = act_of first place answer o.drawn o.added o.app in
    record {
      turn = turn_with request (act ∷ []) act text;
      request_is = refl;
      taken = ((showing.Opens first second, r, inl (makes_one old new low request first place answer text less o, undone, is)), refl, refl);
      asked_of = asked_none line;
      counts_is = omega arith;
      ordered_of = ordered_one old new first place answer o;
    }

-- the first was given alone, and memory ran out
pub breaks_stopped : (old new : Book) (line : Line) (counted low : ℕ) (request : Request) (first second : Asked) (place : ℕ) (answer : Result Reply OrderFault) → low ≤ length old.seen
    → Shows request (showing.Opens first second) → Ordered old new first place answer → BreaksOff old new line line counted counted low request
breaks_stopped old new line counted low request first second place answer less r o last m =
    let act : Act = act_of first place answer o.drawn o.added o.app in
    record {
      turn = turn_with request (act ∷ []) act [];
      request_is = refl;
      taken = inr (showing.Opens first second, r, inl (makes_one old new low request first place answer [] less o));
      asked_of = asked_none line;
      counts_is = omega arith;
      ordered_of = ordered_one old new first place answer o;
    }

module _ (old mid new : Book) (low : ℕ) (request : Request) (first second : Asked) (before place : ℕ) (done answer : Result Reply OrderFault) (less : low ≤ length old.seen)
    (f : Ordered old mid first before done) (o : Ordered mid new second place answer) where
  -- both orders, one after the other
  abbrev both : List Act
  both = act_of first before done f.drawn f.added f.app ∷ act_of second place answer o.drawn o.added o.app ∷ []

  abbrev makes_both : (text : List ℕ) → is_done done ≡ true → MakesBoth new low first second (turn_with request both (act_of second place answer o.drawn o.added o.app) text)
  makes_both text is = record {
    before = act_of first before done f.drawn f.added f.app;
    made = made_here old mid new low first before done less o.later f;
    done = is;
    second_made = record {
      act = act_of second place answer o.drawn o.added o.app;
      acts_are = refl;
      made = made_here mid new new (before + length f.added) second place answer (placed_within mid (length old.seen) first before done f.drawn f.added f.app f.placed) (later_refl new) o;
      place_is = refl;
      reached_is = refl;
      unasked = refl;
    };
  }

  ordered_both : OrderedOf old new both
  ordered_both = ordered_trans old mid new (act_of first before done f.drawn f.added f.app ∷ []) (act_of second place answer o.drawn o.added o.app ∷ [])
      (ordered_one old mid first before done f) (ordered_one mid new second place answer o)

  -- the first of two orders was carried out, and the second answered
  pub answers_opened : (line : Line) (counted last : ℕ) (text : List ℕ) → Shows request (showing.Opens first second) → is_done done ≡ true → AnswersOrder answer (wants_head request) text
      → TookTurn old new line line counted counted low last request place text
  answers_opened line counted last text r is text_is = record {
    turn = turn_with request both (act_of second place answer o.drawn o.added o.app) text;
    request_is = refl;
    taken = ((showing.Opens first second, r, inr (makes_both text is, text_is)), refl, refl);
    asked_of = asked_none line;
    counts_is = omega arith;
    ordered_of = ordered_both;
  }

  -- both were given, and memory ran out
  pub breaks_opened : (line : Line) (counted : ℕ) → Shows request (showing.Opens first second) → is_done done ≡ true → BreaksOff old new line line counted counted low request
  breaks_opened line counted r is last m = record {
    turn = turn_with request both (act_of second place answer o.drawn o.added o.app) [];
    request_is = refl;
    taken = inr (showing.Opens first second, r, inr (makes_both [] is));
    asked_of = asked_none line;
    counts_is = omega arith;
    ordered_of = ordered_both;
  }

module _ (old new : Book) (low : ℕ) (request : Request) (asks : Collecting) (place : ℕ) (outcome : Result ℕ (Result Reply OrderFault)) (less : low ≤ length old.seen)
    (came : Came asks (length old.seen) old new place (λ acts. EndsWith asks acts outcome)) where
  -- the turn on a request of a curator that collects
  abbrev turn_of : List ℕ → Turn
  turn_of text = record { request = request; place = place; reached = past_all low came.acts; asked = []; acts = came.acts; answer = text }

  collects_here : (text : List ℕ) → Collects new low asks (turn_of text)
  collects_here text = record {
    collecting = record { made = are_lower new low (length old.seen) less came.acts came.collecting.made; orders = came.collecting.orders };
    place_is = came.place_is ∙ same_place asks (length old.seen) low came.acts outcome came.ends;
    reached_is = refl;
    unasked = refl;
  }

  -- the shares were given, or something stopped them, and that was answered
  pub answers_collected : (line : Line) (counted last : ℕ) (text : List ℕ) → Shows request (showing.Collects asks) → AnswersCollecting outcome (wants_head request) text
      → TookTurn old new line line counted counted low last request place text
  answers_collected line counted last text r is = record {
    turn = turn_of text;
    request_is = refl;
    taken = ((showing.Collects asks, r, (collects_here text, (outcome, came.ends, is))), refl, refl);
    asked_of = asked_none line;
    counts_is = omega arith;
    ordered_of = came.ordered_of;
  }

  -- orders were given, and memory ran out
  pub breaks_collected : (line : Line) (counted : ℕ) → Shows request (showing.Collects asks) → BreaksOff old new line line counted counted low request
  breaks_collected line counted r last m = record {
    turn = turn_of [];
    request_is = refl;
    taken = inr (showing.Collects asks, r, collects_here []);
    asked_of = asked_none line;
    counts_is = omega arith;
    ordered_of = came.ordered_of;
  }
