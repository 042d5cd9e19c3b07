-- What stands while a connection is served, and what serving it comes to.
use Rattle.std.proofs.Common.{◌≡◌, ℕ, ◌+◌, ◌<◌, ◌≤◌, ◌⊎◌, ◌++◌, List, [], ◌∷◌, true, Some, length, map, refl, sym, ◌∙◌, ap, subst, arith, inl, inr, append_assoc, append-nil, length-append}
use Rattle.std.proofs.lemmas.List.{map-append}
use Rattle.std.proofs.lemmas.List.{length-map}
use Rattle.std.proofs.lemmas.Bool.{cases_lt}
use Rattle.std.specs.List.{flat_map}
use Rattle.std.proofs.lemmas.Grind.{flat_map-append}
use Rattle.host_base.specs.Outside.{Inlet, Outlet, Rose, CountStands}
use Rattle.host_base.specs.declared.request.Request.{Request}
use Rattle.front_http.specs.Reading.{Reading, IsRemaining, unread}
use Rattle.front_http.specs.Stream.{Requests, Bad, IsStream}
use Rattle.grain_supervise.specs.declared.ask.Ask.{Ask}
use Rattle.cloud_serve.specs.declared.showing.Showing.{Showing}
use Rattle.cloud_serve.specs.declared.showing.Showing.TheVariants as showing
use Rattle.cloud_serve.specs.declared.serve.End.{End}
use Rattle.cloud_serve.specs.declared.serve.End.TheVariants as end
use Rattle.hub_core.specs.Book.{Book, Later}
use Rattle.cloud_serve.specs.Acts.{Act, IsMade, past}
use Rattle.cloud_serve.specs.declared.sharing.Collecting.{Collecting}
use Rattle.cloud_serve.proofs.Collected.{are_later, are_within}
use Rattle.cloud_serve.specs.Effects.{AskedOf, OrderedOf}
use Rattle.desk_orders.specs.Commands.{Asked}
use Rattle.site_caps.specs.Law.{Law}
use Rattle.host_base.specs.declared.key.Key.{Key}
use Rattle.cloud_serve.specs.Turns.{Turn, FollowsVerdict, IsKeyed, passed_to, MakesLast, MakesBoth, Collects, IsLawfulBy, IsLawful, AreLawful}
use Rattle.cloud_serve.specs.Served.{World, InHand, Nothing, Refusing, Answering, Broken, NoRoom, turns_in, HandAt, CauseAt, EndsLast, IsOver, StreamAt, Complete, limit, Splits, Served}
use Rattle.cloud_serve.specs.Inner.{OneMore, StopsServing}
use Rattle.cloud_serve.proofs.Growth.{later_longer, asked_none, asked_trans, judged_later, judged_within}
use Rattle.cloud_serve.proofs.Orders.{ordered_refl, ordered_trans, placed_later, placed_within}

-- an order that was made stays so when more is seen
made_later : (old new : Book) → Later old new → (low : ℕ) (order : Asked) (act : Act) → IsMade old low order act → IsMade new low order act
made_later old new later low order act m =
    record { order_is = m.order_is; placed = placed_later old new low low order act.place act.answer act.drawn act.added act.app later (omega arith) m.placed }

abbrev makes_later : (old new : Book) → Later old new → (low : ℕ) (earlier : List Act) (order : Asked) (turn : Turn) → MakesLast old low earlier order turn → MakesLast new low earlier order turn
makes_later old new later low earlier order turn m =
    record { act = m.act; acts_are = m.acts_are; made = made_later old new later low order m.act m.made; place_is = m.place_is; reached_is = m.reached_is; unasked = m.unasked }

abbrev both_later : (old new : Book) → Later old new → (low : ℕ) (first second : Asked) (turn : Turn) → MakesBoth old low first second turn → MakesBoth new low first second turn
both_later old new later low first second turn m = record {
  before = m.before;
  made = made_later old new later low first m.before m.made;
  done = m.done;
  second_made = makes_later old new later (past m.before) (m.before ∷ []) second turn m.second_made;
}

made_within : (book : Book) (low : ℕ) (earlier : List Act) (order : Asked) (turn : Turn) → MakesLast book low earlier order turn → turn.reached ≤ length book.seen
made_within book low earlier order turn m = omega (arith, m.reached_is, placed_within book low order m.act.place m.act.answer m.act.drawn m.act.added m.act.app m.made.placed)

collects_later : (old new : Book) → Later old new → (low : ℕ) (asks : Collecting) (turn : Turn) → Collects old low asks turn → Collects new low asks turn
collects_later old new later low asks turn c = record {
  collecting = record { made = are_later old new later low turn.acts c.collecting.made; orders = c.collecting.orders };
  place_is = c.place_is;
  reached_is = c.reached_is;
  unasked = c.unasked;
}

keyed_later : (old new : Book) → Later old new → (low : ℕ) (key : Key) (passed : Request) (turn : Turn) → IsKeyed old low key passed turn → IsKeyed new low key passed turn
keyed_later old new later low key passed turn is = record {
  verdict = is.verdict;
  judged = judged_later old new low low key turn.place is.verdict later (omega arith) is.judged;
  reached_is = is.reached_is;
  unordered = is.unordered;
  follows = subst (λ (law : Law). FollowsVerdict law is.verdict passed turn) (sym later.law) is.follows;
}

-- what was lawful stays so when more is seen
lawful_later : (r : Showing) (old new : Book) → Later old new → (low last : ℕ) (turn : Turn) → IsLawfulBy r old low last turn → IsLawfulBy r new low last turn
lawful_later showing.NoRoute old new later low last turn is = is
lawful_later showing.Page old new later low last turn is = is
lawful_later showing.NoCredential old new later low last turn is = is
lawful_later (showing.BadBody field) old new later low last turn is = is
lawful_later (showing.BadManifest bad) old new later low last turn is = is
lawful_later (showing.Keyed key) old new later low last turn is = keyed_later old new later low key turn.request turn is
lawful_later (showing.Used key target) old new later low last turn is = keyed_later old new later low key (passed_to target turn.request) turn is
lawful_later (showing.Wants order) old new later low last turn is = (makes_later old new later low [] order turn is.0, is.1)
lawful_later (showing.Opens first second) old new later low last turn (inl is) = inl (makes_later old new later low [] first turn is.0, is.1, is.2)
lawful_later (showing.Opens first second) old new later low last turn (inr is) = inr (both_later old new later low first second turn is.0, is.1)
lawful_later (showing.Collects asks) old new later low last turn is = (collects_later old new later low asks turn is.0, is.1)

reached_within : (r : Showing) (book : Book) (low last : ℕ) (turn : Turn) → low ≤ length book.seen → IsLawfulBy r book low last turn → turn.reached ≤ length book.seen
reached_within showing.NoRoute book low last turn less is = omega (arith, is.reached_is)
reached_within showing.Page book low last turn less is = omega (arith, is.reached_is)
reached_within showing.NoCredential book low last turn less is = omega (arith, is.reached_is)
reached_within (showing.BadBody field) book low last turn less is = omega (arith, is.reached_is)
reached_within (showing.BadManifest bad) book low last turn less is = omega (arith, is.reached_is)
reached_within (showing.Wants order) book low last turn less is = made_within book low [] order turn is.0
reached_within (showing.Opens first second) book low last turn less (inl is) = made_within book low [] first turn is.0
reached_within (showing.Opens first second) book low last turn less (inr is) = made_within book (past is.0.before) (is.0.before ∷ []) second turn is.0.second_made
reached_within (showing.Collects asks) book low last turn less is = omega (arith, is.0.reached_is, are_within book low turn.acts less is.0.collecting.made)
reached_within (showing.Keyed key) book low last turn less is = omega (arith, is.reached_is, judged_within book low key turn.place is.verdict is.judged)
reached_within (showing.Used key target) book low last turn less is = omega (arith, is.reached_is, judged_within book low key turn.place is.verdict is.judged)

turns_later : (old new : Book) → Later old new → (low last : ℕ) (turns : List Turn) (high place : ℕ) → AreLawful old low last turns high place → AreLawful new low last turns high place
turns_later old new later low last [] high place are = are
turns_later old new later low last (turn ∷ turns) high place are = ((are.0.0, are.0.1, lawful_later are.0.0 old new later low last turn are.0.2), turns_later old new later turn.reached turn.place turns high place are.1)

turns-append : (book : Book) (low last : ℕ) (turns : List Turn) (high place : ℕ) (turn : Turn) → AreLawful book low last turns high place → IsLawful book high place turn → AreLawful book low last (turns ++ turn ∷ []) turn.reached turn.place
turns-append book low last [] high place turn are is =
    let first : IsLawful book low last turn = subst (λ (n : ℕ). IsLawful book n last turn) are.0 (subst (λ (n : ℕ). IsLawful book high n turn) are.1 is) in
    (first, (refl, refl))
turns-append book low last (t ∷ ts) high place turn are is = (are.0, turns-append book t.reached t.place ts high place turn are.1 is)

splits_trans : (all mid more : Requests) (front back : List Request) → Splits all front mid → Splits mid back more → Splits all (front ++ back) more
splits_trans all mid more front back a b = record {
  list = a.list ∙ ap (λ (rs : List Request). front ++ rs) b.list ∙ sym (append_assoc front back more.list);
  end = a.end ∙ b.end;
}

-- one more piece of each turn
more_pieces : {A : Type 0} (f : Turn → List A) (turns : List Turn) (turn : Turn) → flat_map f turns ++ f turn ≡ flat_map f (turns ++ turn ∷ [])
more_pieces f turns turn = sym (flat_map-append f turns (turn ∷ []) ∙ ap (λ xs. flat_map f turns ++ xs) (append-nil (f turn)))

-- What stands while a connection is served.
pub record SoFar (old now : World) (reading : Reading) (from last : ℕ) (places : List ℕ) (served forwarded : ℕ) : Type 0 where
  pub turns : List Turn
  pub high : ℕ
  pub high_within : high ≤ length now.book.seen
  pub lawful : AreLawful now.book from from turns high last
  pub ordered_of : OrderedOf old.book now.book (flat_map (λ turn. turn.acts) turns)
  pub places_are : places ≡ map (λ turn. turn.place) turns
  pub served_is : served ≡ length turns
  pub asked_of : AskedOf old.line now.line (flat_map (λ turn. turn.asked) turns)
  pub forwarded_is : forwarded ≡ length (flat_map (λ turn. turn.asked) turns)
  pub closes : reading.closed ≡ true → EndsLast turns
  pub stream : (input : List ℕ) → old.inlet.left ≡ Some input → (rest : List ℕ) × (now.inlet.left ≡ Some rest)
      × ((all : Requests) → IsStream 0 input all → (more : Requests) × IsRemaining reading rest more × Splits all (map (λ turn. turn.request) turns) more)
  pub written : (text : List ℕ) → old.outlet.written ≡ Some text → now.outlet.written ≡ Some (text ++ flat_map (λ turn. turn.answer) turns)
  pub reads : old.inlet.faults ≤ now.inlet.faults
  pub writes : old.outlet.faults ≤ now.outlet.faults
  pub whole : now.inlet.whole ≡ old.inlet.whole

pub so_far_none : (world : World) (from : ℕ) → from ≡ length world.book.seen → SoFar world world unread from from [] 0 0
so_far_none world from is = record {
  turns = [];
  high = from;
  high_within = omega arith;
  lawful = (refl, refl);
  ordered_of = ordered_refl world.book;
  places_are = refl;
  served_is = refl;
  asked_of = asked_none world.line;
  forwarded_is = refl;
  closes = λ is. cc;
  stream = λ input told. (input, told, λ all means. (all, means, record { list = refl; end = refl }));
  written = λ text told. told ∙ ap Some (sym (append-nil text));
  reads = omega arith;
  writes = omega arith;
  whole = refl;
}

pub so_far_more : (old now new : World) (reading reading' : Reading) (from last : ℕ) (places : List ℕ) (served forwarded forwarded' place : ℕ) → (s : SoFar old now reading from last places served forwarded)
    → OneMore s.high last forwarded forwarded' reading reading' now new place
    → now.inlet.faults ≤ new.inlet.faults → now.outlet.faults ≤ new.outlet.faults → new.inlet.whole ≡ now.inlet.whole → SoFar old new reading' from place (places ++ place ∷ []) (served + 1) forwarded'
so_far_more old now new reading reading' from last places served forwarded forwarded' place s o reads writes whole = record {
  turns = s.turns ++ o.turn ∷ [];
  high = o.turn.reached;
  high_within = reached_within o.lawful.0 new.book s.high last o.turn (omega (arith, s.high_within, later_longer now.book new.book o.ordered_of.later)) o.lawful.2;
  lawful = subst (λ (n : ℕ). AreLawful new.book from from (s.turns ++ o.turn ∷ []) o.turn.reached n) o.place_is (turns-append new.book from from s.turns s.high last o.turn (turns_later now.book new.book o.ordered_of.later from from s.turns s.high last s.lawful) o.lawful);
  ordered_of = subst (λ (xs : List Act). OrderedOf old.book new.book xs) (more_pieces (λ (t : Turn). t.acts) s.turns o.turn) (ordered_trans old.book now.book new.book (flat_map (λ (t : Turn). t.acts) s.turns) o.turn.acts s.ordered_of o.ordered_of);
  places_are = ap (λ (ps : List ℕ). ps ++ place ∷ []) s.places_are ∙ ap (λ (p : ℕ). map (λ (t : Turn). t.place) s.turns ++ p ∷ []) (sym o.place_is) ∙ sym (map-append (λ (t : Turn). t.place) s.turns (o.turn ∷ []));
  served_is = omega (arith, s.served_is, length-append s.turns (o.turn ∷ []));
  asked_of = subst (λ (xs : List Ask). AskedOf old.line new.line xs) (more_pieces (λ (t : Turn). t.asked) s.turns o.turn) (asked_trans old.line now.line new.line (flat_map (λ (t : Turn). t.asked) s.turns) o.turn.asked s.asked_of o.asked_of);
  forwarded_is = o.counts_is ∙ ap (λ (n : ℕ). n + length o.turn.asked) s.forwarded_is ∙ sym (length-append (flat_map (λ (t : Turn). t.asked) s.turns) o.turn.asked) ∙ ap length (more_pieces (λ (t : Turn). t.asked) s.turns o.turn);
  closes = λ is. (s.turns, o.turn, refl, o.closes is);
  stream = λ input told.
      let before = s.stream input told in
      let after = o.stream before.0 before.1 in (
        after.0,
        after.1,
        λ all means.
            let first = before.2 all means in
            let next = after.2 first.0 first.1 in
            (next.0, next.1, subst (λ (rs : List Request). Splits all rs next.0) (sym (map-append (λ (t : Turn). t.request) s.turns (o.turn ∷ []))) (splits_trans all first.0 next.0 (map (λ (t : Turn). t.request) s.turns) (o.turn.request ∷ []) first.2 next.2)),
      );
  written = λ text told. o.written (text ++ flat_map (λ (t : Turn). t.answer) s.turns) (s.written text told)
      ∙ ap Some (append_assoc text (flat_map (λ (t : Turn). t.answer) s.turns) o.turn.answer ∙ ap (λ (xs : List ℕ). text ++ xs) (more_pieces (λ (t : Turn). t.answer) s.turns o.turn));
  reads = omega (arith, s.reads, reads);
  writes = omega (arith, s.writes, writes);
  whole = whole ∙ s.whole;
}

rose_from : (a b c : ℕ) → a ≤ b → b ≤ c → Rose b c → Rose a c
rose_from a b c le less rose = λ small. elim (cases_lt b 18446744073709551615) [ inl under ↦ (let r : b < c = rose under in omega arith) | inr big ↦ omega arith ]

-- a count that rose since a later moment rose since an earlier one
cause_from : (e : End) (i i1 i2 : Inlet) (o o1 o2 : Outlet) → i.faults ≤ i1.faults → i1.faults ≤ i2.faults → o.faults ≤ o1.faults → o1.faults ≤ o2.faults → CauseAt e i1 i2 o1 o2 → CauseAt e i i2 o o2
cause_from end.ReadFault i i1 i2 o o1 o2 ri ri2 ro ro2 l = rose_from i.faults i1.faults i2.faults ri ri2 l
cause_from end.WriteFault i i1 i2 o o1 o2 ri ri2 ro ro2 l = rose_from o.faults o1.faults o2.faults ro ro2 l
cause_from end.Done i i1 i2 o o1 o2 ri ri2 ro ro2 l = tt
cause_from (end.Refused status at) i i1 i2 o o1 o2 ri ri2 ro ro2 l = tt
cause_from (end.CutOff n) i i1 i2 o o1 o2 ri ri2 ro ro2 l = l
cause_from end.Spent i i1 i2 o o1 o2 ri ri2 ro ro2 l = tt
cause_from end.Memory i i1 i2 o o1 o2 ri ri2 ro ro2 l = tt

pub served_when : (old now new : World) (reading : Reading) (from last : ℕ) (places : List ℕ) (served forwarded forwarded' : ℕ) (e : End) → from ≡ length old.book.seen → (s : SoFar old now reading from last places served forwarded)
    → (o : StopsServing s.high last forwarded forwarded' reading now new e) → served < limit → now.inlet.faults ≤ new.inlet.faults → now.outlet.faults ≤ new.outlet.faults → Served old new e from places served forwarded'
served_when old now new reading from last places served forwarded forwarded' e is s o less reads writes = record {
  turns = s.turns;
  hand = o.hand;
  high = s.high;
  last = last;
  from_is = is;
  ordered_of = subst (λ (xs : List Act). OrderedOf old.book new.book xs) (sym (flat_map-append (λ (t : Turn). t.acts) s.turns (turns_in o.hand)))
      (ordered_trans old.book now.book new.book (flat_map (λ (t : Turn). t.acts) s.turns) (flat_map (λ (t : Turn). t.acts) (turns_in o.hand)) s.ordered_of o.ordered_of);
  lawful = turns_later now.book new.book o.ordered_of.later from from s.turns s.high last s.lawful;
  in_hand = o.lawful;
  places_are = s.places_are;
  served_is = s.served_is;
  asked_of = subst (λ (xs : List Ask). AskedOf old.line new.line xs) (sym (flat_map-append (λ (t : Turn). t.asked) s.turns (turns_in o.hand)))
      (asked_trans old.line now.line new.line (flat_map (λ (t : Turn). t.asked) s.turns) (flat_map (λ (t : Turn). t.asked) (turns_in o.hand)) s.asked_of o.asked_of);
  forwarded_is = o.counts_is ∙ ap (λ (n : ℕ). n + length (flat_map (λ (t : Turn). t.asked) (turns_in o.hand))) s.forwarded_is
      ∙ sym (length-append (flat_map (λ (t : Turn). t.asked) s.turns) (flat_map (λ (t : Turn). t.asked) (turns_in o.hand)))
      ∙ ap length (sym (flat_map-append (λ (t : Turn). t.asked) s.turns (turns_in o.hand)));
  stream = λ input told all means.
      let before = s.stream input told in
      let first = before.2 all means in
      let after = o.stream before.0 before.1 first.0 first.1 in (
        after.0,
        subst (λ (rs : List Request). Splits all rs after.0) (sym (map-append (λ (t : Turn). t.request) s.turns (turns_in o.hand)))
            (splits_trans all first.0 after.0 (map (λ (t : Turn). t.request) s.turns) (map (λ (t : Turn). t.request) (turns_in o.hand)) first.2 after.1),
        after.2,
      );
  written = λ text told. o.written (text ++ flat_map (λ (t : Turn). t.answer) s.turns) (s.written text told);
  done = λ is. elim (o.done is) [ inl ended ↦ inl ended | inr closed ↦ inr (s.closes closed) ];
  hand_at = o.hand_at;
  cause = cause_from e old.inlet now.inlet new.inlet old.outlet now.outlet new.outlet s.reads reads s.writes writes o.cause;
  count = o.count served less;
}

pub served_spent : (old now : World) (reading : Reading) (from last : ℕ) (places : List ℕ) (forwarded : ℕ) → from ≡ length old.book.seen → SoFar old now reading from last places limit forwarded
    → Served old now end.Spent from places limit forwarded
served_spent old now reading from last places forwarded is s = record {
  turns = s.turns;
  hand = Nothing;
  high = s.high;
  last = last;
  from_is = is;
  ordered_of = subst (λ (ts : List Turn). OrderedOf old.book now.book (flat_map (λ (t : Turn). t.acts) ts)) (sym (append-nil s.turns)) s.ordered_of;
  lawful = s.lawful;
  in_hand = tt;
  places_are = s.places_are;
  served_is = s.served_is;
  asked_of = subst (λ (ts : List Turn). AskedOf old.line now.line (flat_map (λ (t : Turn). t.asked) ts)) (sym (append-nil s.turns)) s.asked_of;
  forwarded_is = s.forwarded_is ∙ ap (λ (ts : List Turn). length (flat_map (λ (t : Turn). t.asked) ts)) (sym (append-nil s.turns));
  stream = λ input told all means.
      let first = (s.stream input told).2 all means in
      (first.0, subst (λ (ts : List Turn). Splits all (map (λ (t : Turn). t.request) ts) first.0) (sym (append-nil s.turns)) first.2, tt);
  written = λ text told. s.written text told ∙ ap Some (sym (append-nil (text ++ flat_map (λ (t : Turn). t.answer) s.turns)));
  done = λ is. cc;
  hand_at = tt;
  cause = tt;
  count = refl;
}

-- the requests of turns and of those in hand
abbrev requests_of : List Turn → List Request
requests_of turns = map (λ (t : Turn). t.request) turns

front_long : (all : Requests) (front back : List Turn) (more : Requests) → Splits all (requests_of (front ++ back)) more → length all.list ≡ length front + length back + length more.list
front_long all front back more split =
    omega (arith, ap length split.list, length-append (requests_of (front ++ back)) more.list, length-map (front ++ back) (λ (t : Turn). t.request), length-append front back)

-- with nothing in hand and nothing more, the front is all
front_all : (all : Requests) (front back : List Turn) (more : Requests) → Splits all (requests_of (front ++ back)) more → back ≡ [] → more.list ≡ [] → length front ≡ length all.list
front_all all front back more split none over = omega (arith, front_long all front back more split, ap length none, ap length over)

bare_done : (hand : InHand) → HandAt end.Done hand → turns_in hand ≡ []
bare_done Nothing h = refl
bare_done (Refusing why at) h = refl
bare_done (Answering turn) h = absurd h
bare_done (Broken turn) h = absurd h
bare_done NoRoom h = refl

bare_cut : (n : ℕ) (hand : InHand) → HandAt (end.CutOff n) hand → turns_in hand ≡ []
bare_cut n Nothing h = refl
bare_cut n (Refusing why at) h = refl
bare_cut n (Answering turn) h = absurd h
bare_cut n (Broken turn) h = absurd h
bare_cut n NoRoom h = refl

-- Where no count rises, every request is answered and the end is the stream's, or memory ran out.
complete_refused : (status at : ℕ) (hand : InHand) → HandAt (end.Refused status at) hand → (turns : List Turn) (served : ℕ) → served ≡ length turns → (all more : Requests)
    → Splits all (requests_of (turns ++ turns_in hand)) more → StreamAt (end.Refused status at) hand more → Complete all (end.Refused status at) served
complete_refused status at (Refusing why place) h turns served is all more split ends =
    let long = front_all all turns [] more split refl ends.0 in
    record { all = is ∙ long; ends = (why, h.0, split.end ∙ ends.1 ∙ ap (Bad why) h.1) }
complete_refused status at Nothing h turns served is all more split ends = absurd h
complete_refused status at (Answering turn) h turns served is all more split ends = absurd h
complete_refused status at (Broken turn) h turns served is all more split ends = absurd h
complete_refused status at NoRoom h turns served is all more split ends = absurd h

pub complete_when : (old new : World) (e : End) (from : ℕ) (places : List ℕ) (served forwarded : ℕ) → Served old new e from places served forwarded → (input : List ℕ) (all : Requests) → old.inlet.left ≡ Some input → IsStream 0 input all
    → length all.list < limit → CountStands old.inlet.faults new.inlet.faults → CountStands old.outlet.faults new.outlet.faults → (e ≡ end.Memory) ⊎ Complete all e served
complete_when old new end.Done from places served forwarded s input all told means few reads writes =
    let st = s.stream input told all means in
    let long = front_all all s.turns (turns_in s.hand) st.0 st.1 (bare_done s.hand s.hand_at) st.2.0 in
    inr (record { all = s.served_is ∙ long; ends = subst IsOver (sym st.1.end) st.2.1 })
complete_when old new (end.CutOff n) from places served forwarded s input all told means few reads writes =
    let st = s.stream input told all means in
    let long = front_all all s.turns (turns_in s.hand) st.0 st.1 (bare_cut n s.hand s.hand_at) st.2.0 in
    inr (record { all = s.served_is ∙ long; ends = st.1.end ∙ st.2.1 })
complete_when old new (end.Refused status at) from places served forwarded s input all told means few reads writes =
    let st = s.stream input told all means in
    inr (complete_refused status at s.hand s.hand_at s.turns served s.served_is all st.0 st.1 st.2)
complete_when old new end.Memory from places served forwarded s input all told means few reads writes = inl refl
complete_when old new end.ReadFault from places served forwarded s input all told means few reads writes =
    let rose : old.inlet.faults < new.inlet.faults = s.cause reads.small in absurd (omega (arith, reads.same))
complete_when old new end.WriteFault from places served forwarded s input all told means few reads writes =
    let rose : old.outlet.faults < new.outlet.faults = s.cause writes.small in absurd (omega (arith, writes.same))
complete_when old new end.Spent from places served forwarded s input all told means few reads writes =
    let st = s.stream input told all means in
    let long = front_long all s.turns (turns_in s.hand) st.0 st.1 in
    let spent : served ≡ 1000000 = s.count in
    absurd (omega (arith, few, s.served_is, long))
