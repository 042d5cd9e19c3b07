-- What serving one request comes to, over plain values.
use Rattle.std.proofs.Common.{◌≡◌, ◌⊎◌, ℕ, ◌+◌, ◌<◌, ◌++◌, Bool, true, false, List, [], ◌∷◌, Option, Some, None, Result, Ok, Err, length, take, refl, sym, ◌∙◌, ap, subst, arith, append-nil, inl, inr}
use Rattle.host_base.specs.Outside.{Outlet, Rose}
use Rattle.host_base.specs.declared.bytes.Memory.{Memory}
use Rattle.host_base.specs.declared.request.Request.{Request}
use Rattle.front_http.specs.declared.fault.FrontFault.{FrontFault}
use Rattle.front_http.specs.declared.fault.FrontFault.TheVariants as fault
use Rattle.front_http.specs.declared.refusal.Refusal.{Refusal}
use Rattle.front_http.specs.declared.refusal.Refusal.TheVariants as refusal
use Rattle.front_http.specs.Reading.{Reading, IsRemaining, Gave, Ended, Next, EndsRead, over}
use Rattle.front_http.specs.Stream.{Requests, Ending, Bad}
use Rattle.grain_supervise.specs.Line.{Line}
use Rattle.cloud_serve.specs.declared.serve.End.{End}
use Rattle.cloud_serve.specs.declared.serve.End.TheVariants as end
use Rattle.hub_core.specs.Book.{Book}
use Rattle.grain_supervise.specs.declared.ask.Ask.{Ask}
use Rattle.cloud_serve.specs.Acts.{Act}
use Rattle.cloud_serve.specs.Effects.{AskedOf, OrderedOf}
use Rattle.cloud_serve.specs.Turns.{Turn}
use Rattle.reply_texts.specs.Texts.{wants_head, refusal_status, memory_text}
use Rattle.cloud_serve.specs.Served.{World, InHand, Nothing, Refusing, Answering, Broken, NoRoom, turns_in, text_in, IsLawfulIn, HandAt, CauseAt, IsOver, StreamAt, WrittenAt, CountAt, limit, Splits}
use Rattle.cloud_serve.specs.Inner.{Takes, ClosesWith, RefusesBy, Halts, OneMore, StopsServing}
use Rattle.cloud_serve.proofs.Taking.{TookTurn}
use Rattle.cloud_serve.proofs.Growth.{asked_none}
use Rattle.cloud_serve.proofs.Orders.{ordered_refl}

-- a request that was given splits what remained
gave_splits : (reading reading' : Reading) (left : List ℕ) (request : Request) (told : Option (List ℕ)) → (g : Gave reading left request reading' told) → (all : Requests) → IsRemaining reading left all
    → (more : Requests) × IsRemaining reading' g.rest more × Splits all (request ∷ []) more
gave_splits reading reading' left request told g all is =
    let s = g.splits all is in
    (s.0, s.1, record { list = ap (λ (r : Requests). r.list) s.2; end = ap (λ (r : Requests). r.end) s.2 })

splits_by : (all more : Requests) (front back : List Request) → front ≡ back → Splits all front more → Splits all back more
splits_by all more front back same s = subst (λ (rs : List Request). Splits all rs more) same s

-- a connection isn't done with a turn in hand
never_done : (e : End) (hand : InHand) (turn : Turn) → e ≡ end.Done → turns_in hand ≡ turn ∷ [] → HandAt e hand → ⊥
never_done e Nothing turn is has at = cc
never_done e (Refusing why place) turn is has at = cc
never_done e (Answering one) turn is has at = subst (λ (x : End). HandAt x (Answering one)) is at
never_done e (Broken one) turn is has at = subst (λ (x : End). HandAt x (Broken one)) is at
never_done e NoRoom turn is has at = cc

module _ (low last counted counts : ℕ) (reading reading' : Reading) (old new : World) (request : Request)
    (gives : (left : List ℕ) → old.inlet.left ≡ Some left → Gave reading left request reading' new.inlet.left) where
  -- a turn was taken, and its answer written
  pub steps_answered : (place : ℕ) (text : List ℕ) → (reading'.closed ≡ true → request.last ≡ true) → TookTurn old.book new.book old.line new.line counted counts low last request place text
      → ((before : List ℕ) → old.outlet.written ≡ Some before → new.outlet.written ≡ Some (before ++ text)) → OneMore low last counted counts reading reading' old new place
  steps_answered place text closes t wrote = record {
    turn = t.turn;
    place_is = t.taken.1;
    lawful = t.taken.0;
    ordered_of = t.ordered_of;
    asked_of = t.asked_of;
    counts_is = t.counts_is;
    closes = λ is. subst (λ (r : Request). r.last ≡ true) (sym t.request_is) (closes is);
    stream = λ left is.
        let g = gives left is in (
          g.rest,
          g.told_is,
          λ all remains.
              let s = gave_splits reading reading' left request new.inlet.left g all remains in
              (s.0, s.1, splits_by all s.0 (request ∷ []) (t.turn.request ∷ []) (ap (λ (r : Request). r ∷ []) (sym t.request_is)) s.2),
        );
    written = λ before is. wrote before is ∙ ap (λ (xs : List ℕ). Some (before ++ xs)) (sym t.taken.2);
  }

  -- the connection ends with a turn on the request in hand
  stops_holding : (e : End) (hand : InHand) (turn : Turn) → turns_in hand ≡ turn ∷ [] → turn.request ≡ request → IsLawfulIn hand new.book low last → OrderedOf old.book new.book turn.acts → AskedOf old.line new.line turn.asked
      → counts ≡ counted + length turn.asked → ((text : List ℕ) → old.outlet.written ≡ Some text → WrittenAt e text (text_in hand) new.outlet.written) → HandAt e hand
      → CauseAt e old.inlet new.inlet old.outlet new.outlet → ((more : Requests) → StreamAt e hand more) → ((served : ℕ) → served < limit → CountAt e served) → StopsServing low last counted counts reading old new e
  stops_holding e hand turn has is lawful ordered asked counts_is written at cause free count = record {
    hand = hand;
    lawful = lawful;
    ordered_of = rw has (subst (λ (xs : List Act). OrderedOf old.book new.book xs) (sym (append-nil turn.acts)) ordered);
    asked_of = rw has (subst (λ (xs : List Ask). AskedOf old.line new.line xs) (sym (append-nil turn.asked)) asked);
    counts_is = rw has (counts_is ∙ ap (λ (xs : List Ask). counted + length xs) (sym (append-nil turn.asked)));
    stream = λ left told all remains.
        let s = gave_splits reading reading' left request new.inlet.left (gives left told) all remains in
        (s.0, rw has (splits_by all s.0 (request ∷ []) (turn.request ∷ []) (ap (λ (r : Request). r ∷ []) (sym is)) s.2), free s.0);
    written = written;
    done = λ done. absurd (never_done e hand turn done has at);
    hand_at = at;
    cause = cause;
    count = count;
  }

  -- a turn was taken, and its answer not written whole
  pub stops_answering : (place : ℕ) (text : List ℕ) → TookTurn old.book new.book old.line new.line counted counts low last request place text
      → ((before : List ℕ) → old.outlet.written ≡ Some before → (n : ℕ) × (new.outlet.written ≡ Some (before ++ take n text))) → Rose old.outlet.faults new.outlet.faults
      → StopsServing low last counted counts reading old new end.WriteFault
  stops_answering place text t wrote rose =
      stops_holding end.WriteFault (Answering t.turn) t.turn refl t.request_is t.taken.0 t.ordered_of t.asked_of t.counts_is
      (λ before is. let part = wrote before is in (part.0, part.1 ∙ ap (λ (xs : List ℕ). Some (before ++ take part.0 xs)) (sym t.taken.2)))
      tt rose (λ more. tt) (λ served less. less)

  -- memory ran out on a turn
  pub stops_broken : (m : Memory) (result : End) (text : List ℕ) → Takes old.book new.book old.line new.line counted counts low last request (Err m)
      → text ≡ memory_text (wants_head request) → ClosesWith old.outlet new.outlet text end.Memory result → StopsServing low last counted counts reading old new result
  stops_broken m result text b is (inl whole) = subst (λ (e : End). StopsServing low last counted counts reading old new e) (sym whole.0)
      (stops_holding end.Memory (Broken b.turn) b.turn refl b.request_is b.taken b.ordered_of b.asked_of b.counts_is
      (λ before told. whole.1 before told ∙ ap (λ (xs : List ℕ). Some (before ++ xs)) (is ∙ ap (λ (r : Request). memory_text (wants_head r)) (sym b.request_is)))
      tt tt (λ more. tt) (λ served less. less))
  stops_broken m result text b is (inr part) = subst (λ (e : End). StopsServing low last counted counts reading old new e) (sym part.0)
      (stops_holding end.WriteFault (Broken b.turn) b.turn refl b.request_is b.taken b.ordered_of b.asked_of b.counts_is
      (λ before told. let w = part.2 before told in (w.0, w.1 ∙ ap (λ (xs : List ℕ). Some (before ++ take w.0 xs)) (is ∙ ap (λ (r : Request). memory_text (wants_head r)) (sym b.request_is))))
      tt part.1 (λ more. tt) (λ served less. less))

-- no turn is in hand
pub record IsBare (hand : InHand) : Type 0 where
  pub turns : turns_in hand ≡ []
  pub lawful : (book : Book) (low last : ℕ) → IsLawfulIn hand book low last

bare_nothing : IsBare Nothing
bare_nothing = record { turns = refl; lawful = λ book low last. tt }

bare_no_room : IsBare NoRoom
bare_no_room = record { turns = refl; lawful = λ book low last. tt }

bare_refusing : (why : Refusal) (at : ℕ) → IsBare (Refusing why at)
bare_refusing why at = record { turns = refl; lawful = λ book low last. tt }

-- the connection ends with no request in hand
stops_bare : (low last counted : ℕ) (reading : Reading) (old new : World) (e : End) (hand : InHand) → IsBare hand → old.line ≡ new.line → old.book ≡ new.book
    → ((left : List ℕ) → old.inlet.left ≡ Some left → (all : Requests) → IsRemaining reading left all → StreamAt e hand all)
    → ((text : List ℕ) → old.outlet.written ≡ Some text → WrittenAt e text (text_in hand) new.outlet.written) → HandAt e hand → CauseAt e old.inlet new.inlet old.outlet new.outlet
    → ((served : ℕ) → served < limit → CountAt e served) → (e ≡ end.Done → (new.inlet.ended ≡ true) ⊎ (reading.closed ≡ true)) → StopsServing low last counted counted reading old new e
stops_bare low last counted reading old new e hand bare line book stream written at cause count done = record {
  hand = hand;
  lawful = bare.lawful new.book low last;
  ordered_of = rw bare.turns (subst (λ (b : Book). OrderedOf old.book b []) book (ordered_refl old.book));
  asked_of = rw bare.turns (subst (λ (l : Line). AskedOf old.line l []) line (asked_none old.line));
  counts_is = rw bare.turns (omega arith);
  stream = λ left is all remains. (all, rw bare.turns (record { list = refl; end = refl }), stream left is all remains);
  written = written;
  done = done;
  hand_at = at;
  cause = cause;
  count = count;
}

-- memory ran out with no request in hand
pub stops_no_room : (low last counted : ℕ) (reading : Reading) (old new : World) (result : End) (text : List ℕ) → old.line ≡ new.line → old.book ≡ new.book → text ≡ memory_text false
    → ClosesWith old.outlet new.outlet text end.Memory result → StopsServing low last counted counted reading old new result
stops_no_room low last counted reading old new result text line book is (inl whole) = subst (λ (e : End). StopsServing low last counted counted reading old new e) (sym whole.0)
    (stops_bare low last counted reading old new end.Memory NoRoom bare_no_room line book (λ left told all remains. tt)
    (λ before told. whole.1 before told ∙ ap (λ (xs : List ℕ). Some (before ++ xs)) is) tt tt (λ served less. less) (λ q. cc))
stops_no_room low last counted reading old new result text line book is (inr part) = subst (λ (e : End). StopsServing low last counted counted reading old new e) (sym part.0)
    (stops_bare low last counted reading old new end.WriteFault NoRoom bare_no_room line book (λ left told all remains. tt)
    (λ before told. let w = part.2 before told in (w.0, w.1 ∙ ap (λ (xs : List ℕ). Some (before ++ take w.0 xs)) is)) tt part.1 (λ served less. less) (λ q. cc))

refused_all : (reading : Reading) (left : List ℕ) (why : Refusal) (at : ℕ) → Ended reading left (Bad why at) → (all : Requests) → IsRemaining reading left all → (all.list ≡ []) × (all.end ≡ Bad why at)
refused_all reading left why at ended all remains = let same = ended.only all remains in (ap (λ (r : Requests). r.list) same, ap (λ (r : Requests). r.end) same)

-- what is refused at a place was answered
stops_refused : (low last counted : ℕ) (reading : Reading) (old new : World) (why : Refusal) (at : ℕ) (result : End) → old.line ≡ new.line → old.book ≡ new.book
    → ((left : List ℕ) → old.inlet.left ≡ Some left → Ended reading left (Bad why at)) → RefusesBy old.outlet new.outlet why at result → StopsServing low last counted counted reading old new result
stops_refused low last counted reading old new why at result line book ended (inl (inl whole)) = subst (λ (e : End). StopsServing low last counted counted reading old new e) (sym whole.0)
    (stops_bare low last counted reading old new (end.Refused (refusal_status why) at) (Refusing why at) (bare_refusing why at) line book
    (λ left told all remains. refused_all reading left why at (ended left told) all remains) whole.1 (refl, refl) tt (λ served less. less) (λ q. cc))
stops_refused low last counted reading old new why at result line book ended (inl (inr part)) = subst (λ (e : End). StopsServing low last counted counted reading old new e) (sym part.0)
    (stops_bare low last counted reading old new end.WriteFault (Refusing why at) (bare_refusing why at) line book
    (λ left told all remains. refused_all reading left why at (ended left told) all remains) part.2 tt part.1 (λ served less. less) (λ q. cc))
stops_refused low last counted reading old new why at result line book ended (inr memory) = stops_no_room low last counted reading old new result (memory_text false) line book refl memory

-- nothing is in hand and nothing was written
unwritten : (old new : Outlet) → new ≡ old → (text : List ℕ) → old.written ≡ Some text → new.written ≡ Some (text ++ [])
unwritten old new same text is = ap (λ (o : Outlet). o.written) same ∙ is ∙ ap Some (sym (append-nil text))

over_is_over : (closed : Bool) (ending : Ending) → ending ≡ over closed → IsOver ending
over_is_over true ending is = inr is
over_is_over false ending is = inl is

-- the stream is over
pub stops_done : (low last counted : ℕ) (reading : Reading) (old new : World) → old.line ≡ new.line → old.book ≡ new.book → new.outlet ≡ old.outlet
    → ((left : List ℕ) → old.inlet.left ≡ Some left → Ended reading left (over reading.closed)) → (new.inlet.ended ≡ true) ⊎ (reading.closed ≡ true) → StopsServing low last counted counted reading old new end.Done
stops_done low last counted reading old new line book out ended done =
    stops_bare low last counted reading old new end.Done Nothing bare_nothing line book
    (λ left told all remains. let same = (ended left told).only all remains in (ap (λ (r : Requests). r.list) same, over_is_over reading.closed all.end (ap (λ (r : Requests). r.end) same)))
    (unwritten old.outlet new.outlet out) tt tt (λ served less. less) (λ q. done)

-- no further request comes only where the source told its end, or the reader was closed
pub none_ended : (closed ended : Bool) (result : Result (Option Request) FrontFault) → (closed ≡ false → EndsRead result ended) → result ≡ Ok None → (ended ≡ true) ⊎ (closed ≡ true)
none_ended true ended result ends is = inr refl
none_ended false ended result ends is = inl (subst (λ (r : Result (Option Request) FrontFault). EndsRead r ended) is (ends refl))

-- a request that is cut off comes only where the source told its end
pub cut_ended : (closed ended : Bool) (result : Result (Option Request) FrontFault) (n : ℕ) → (closed ≡ true → result ≡ Ok None) → (closed ≡ false → EndsRead result ended) → result ≡ Err (fault.CutOff n) → ended ≡ true
cut_ended true ended result n none ends is = let nothing = none refl in cc
cut_ended false ended result n none ends is = subst (λ (r : Result (Option Request) FrontFault). EndsRead r ended) is (ends refl)

-- the reader answered a fault
pub stops_halted : (low last counted : ℕ) (reading reading' : Reading) (old new : World) (f : FrontFault) (result : End) → old.line ≡ new.line → old.book ≡ new.book
    → ((left : List ℕ) → old.inlet.left ≡ Some left → Next reading left (Err f) reading' new.inlet.left) → (f ≡ fault.ReadFault → Rose old.inlet.faults new.inlet.faults) → ((n : ℕ) → f ≡ fault.CutOff n → new.inlet.ended ≡ true)
    → Halts old.outlet new.outlet f result → StopsServing low last counted counted reading old new result
stops_halted low last counted reading reading' old new (fault.BadHead at) result line book next rose cut h = stops_refused low last counted reading old new refusal.BadHead at result line book next h
stops_halted low last counted reading reading' old new (fault.LongHead at) result line book next rose cut h = stops_refused low last counted reading old new refusal.LongHead at result line book next h
stops_halted low last counted reading reading' old new (fault.NeedLength at) result line book next rose cut h = stops_refused low last counted reading old new refusal.NeedLength at result line book next h
stops_halted low last counted reading reading' old new (fault.LongBody at) result line book next rose cut h = stops_refused low last counted reading old new refusal.LongBody at result line book next h
stops_halted low last counted reading reading' old new (fault.CutOff n) result line book next rose cut h = subst (λ (e : End). StopsServing low last counted counted reading old new e) (sym h.0)
    (stops_bare low last counted reading old new (end.CutOff n) Nothing bare_nothing line book
    (λ left told all remains. let same = (next left told).only all remains in (ap (λ (r : Requests). r.list) same, ap (λ (r : Requests). r.end) same))
    (unwritten old.outlet new.outlet h.1) tt (cut n refl) (λ served less. less) (λ q. cc))
stops_halted low last counted reading reading' old new fault.ReadFault result line book next rose cut h = subst (λ (e : End). StopsServing low last counted counted reading old new e) (sym h.0)
    (stops_bare low last counted reading old new end.ReadFault Nothing bare_nothing line book (λ left told all remains. tt) (unwritten old.outlet new.outlet h.1) tt (rose refl) (λ served less. less) (λ q. cc))
stops_halted low last counted reading reading' old new fault.Memory result line book next rose cut h = stops_no_room low last counted reading old new result (memory_text false) line book refl h
