-- Orders one after another, and what stands at their places.
use Rattle.std.proofs.Common.{◌≡◌, ℕ, ◌+◌, ◌≤◌, ◌++◌, Bool, List, [], ◌∷◌, cond, Option, Some, Result, Ok, Err, length, count_by, refl, sym, ◌∙◌, ap, subst, arith, append_assoc, append-nil, length-append}
use Rattle.host_base.specs.Drawing.{Coming}
use Rattle.std.proofs.lemmas.Grind.{flat_map-append}
use Rattle.std.proofs.lemmas.List.Sums.{sum_by-append}
use Rattle.share_graph.specs.declared.event.Event.{Event}
use Rattle.share_graph.specs.declared.state.State.{State}
use Rattle.share_graph.specs.History.{replay}
use Rattle.share_graph.specs.WellFormed.{IsWellFormed}
use Rattle.grain_supervise.specs.Spawning.{Spawns}
use Rattle.grain_supervise.specs.declared.start.Start.{Start}
use Rattle.host_base.specs.declared.ids.AppId.{AppId}
use Rattle.host_base.specs.declared.ids.RunId.{RunId}
use Rattle.desk_orders.specs.declared.reply.OrderFault.{OrderFault}
use Rattle.desk_orders.specs.declared.reply.OrderFault.TheVariants as fault
use Rattle.desk_orders.specs.declared.reply.Reply.{Reply}
use Rattle.desk_orders.specs.Answers.{IsAnswer}
use Rattle.desk_orders.specs.Commands.{Asked}
use Rattle.desk_orders.specs.Secrets.{DrawsAll}
use Rattle.site_caps.specs.Law.{Law}
use Rattle.hub_core.specs.Book.{Book, Later, TakesNone, IsFoundFor, Placed, IsCounted, Ordered}
use Rattle.hub_core.specs.Spawning.{AreOfApp, Spawned, starts_by, stops_by, token_of, WasTold}
use Rattle.cloud_serve.specs.Acts.{Act, added_by, drawn_by, started_by, stopped_by, is_fault, failures}
use Rattle.cloud_serve.specs.Effects.{OrderedOf}
use Rattle.host_base.specs.Outside.{Grew}
use Rattle.cloud_serve.proofs.Growth.{later_trans, later_longer, none_taken, grew_trans}

-- what was drawn in two parts
pub draws_trans : (a b c : Option Coming) (xs ys : List (List ℕ)) → DrawsAll a b xs → DrawsAll b c ys → DrawsAll a c (xs ++ ys)
draws_trans a b c [] ys f h = subst (λ (o : Option Coming). DrawsAll o c ys) f h
draws_trans a b c (x ∷ xs) ys (mid, first, more) h = (mid, first, draws_trans mid b c xs ys more h)

length_none : (xs : List Event) → length xs ≡ 0 → xs ≡ []
length_none [] is = refl
length_none (x ∷ xs) is = absurd (omega (arith, is))

-- two lists that are the same joined, whose first parts are as long
same_front : (xs ys us vs : List Event) → xs ++ us ≡ ys ++ vs → length xs ≡ length ys → (xs ≡ ys) × (us ≡ vs)
same_front [] [] us vs same long = (refl, same)
same_front [] (y ∷ ys) us vs same long = absurd (omega (arith, long))
same_front (x ∷ xs) [] us vs same long = absurd (omega (arith, long))
same_front (x ∷ xs) (y ∷ ys) us vs same long =
    let heads : x ≡ y = cc in
    let tails : xs ++ us ≡ ys ++ vs = cc in
    let (fronts, backs) = same_front xs ys us vs tails (omega (arith, long)) in
    (ap (λ (z : Event). z ∷ xs) heads ∙ ap (λ (zs : List Event). y ∷ zs) fronts, backs)

-- the spawner was told what orders added and no more
abbrev SpawnedOf : Spawns → Spawns → List Act → Type 0
SpawnedOf before after acts = WasTold before after (started_by acts) (stopped_by acts)

-- nothing was ordered
pub ordered_none : (old new : Book) → TakesNone old new → OrderedOf old new []
ordered_none old new none = record {
  later = none.later;
  accepted = omega (arith, none.accepted);
  draws = none.undrawn;
  spawned = record {
    starts = λ told was. none.untold.starts ∙ was ∙ ap (λ (xs : List Start). Some xs) (sym (append-nil told));
    stops = λ told was. none.untold.stops ∙ was ∙ ap (λ (xs : List RunId). Some xs) (sym (append-nil told));
  };
  store = λ lt. omega (arith, none.later.counts.store);
  secrets = λ lt. omega (arith, none.later.counts.secrets);
  starts = λ lt. omega (arith, none.later.counts.starts);
  grows = omega (arith, later_longer old new none.later);
  alone = λ same. none.later.seen ∙ ap (λ (xs : List Event). old.seen ++ xs) (length_none none.later.more (omega (arith, same, ap length none.later.seen, length-append old.seen none.later.more)));
}

-- nothing was taken twice
pub none_trans : (old mid new : Book) → TakesNone old mid → TakesNone mid new → TakesNone old new
none_trans old mid new a b = record {
  later = later_trans old mid new a.later b.later;
  accepted = b.accepted ∙ a.accepted;
  undrawn = b.undrawn ∙ a.undrawn;
  untold = record { starts = b.untold.starts ∙ a.untold.starts; stops = b.untold.stops ∙ a.untold.stops };
}

pub ordered_refl : (book : Book) → OrderedOf book book []
ordered_refl book = ordered_none book book (none_taken book)

abbrev fails_of : (Result Reply OrderFault → Bool) → List Act → ℕ
fails_of is acts = count_by (λ (act : Act). is act.answer) acts

fails_trans : (is : Result Reply OrderFault → Bool) (a b c : ℕ) (xs ys : List Act) → b ≤ c → Grew a b (fails_of is xs) → Grew b c (fails_of is ys) → Grew a c (fails_of is (xs ++ ys))
fails_trans is a b c xs ys less f h = subst (λ (n : ℕ). Grew a c n) (sym (sum_by-append (λ (act : Act). cond (is act.answer) 1 0) xs ys)) (grew_trans a b c (fails_of is xs) (fails_of is ys) less f h)

-- what the spawner was told in two parts
spawned_trans : (a b c : Spawns) (xs ys : List Act) → SpawnedOf a b xs → SpawnedOf b c ys → SpawnedOf a c (xs ++ ys)
spawned_trans a b c xs ys f h = record {
  starts = λ told was.
      h.starts (told ++ started_by xs) (f.starts told was)
      ∙ ap (λ (list : List Start). Some list)
      (append_assoc told (started_by xs) (started_by ys)
      ∙ ap (λ (list : List Start). told ++ list) (sym (flat_map-append (λ (act : Act). starts_by act.app (token_of act.order act.drawn) act.added) xs ys)));
  stops = λ told was.
      h.stops (told ++ stopped_by xs) (f.stops told was)
      ∙ ap (λ (list : List RunId). Some list)
      (append_assoc told (stopped_by xs) (stopped_by ys)
      ∙ ap (λ (list : List RunId). told ++ list) (sym (flat_map-append (λ (act : Act). stops_by act.added) xs ys)));
}

pub ordered_trans : (old mid new : Book) (xs ys : List Act) → OrderedOf old mid xs → OrderedOf mid new ys → OrderedOf old new (xs ++ ys)
ordered_trans old mid new xs ys f h =
    let added : added_by (xs ++ ys) ≡ added_by xs ++ added_by ys = flat_map-append (λ (act : Act). act.added) xs ys in
    let drawn : drawn_by (xs ++ ys) ≡ drawn_by xs ++ drawn_by ys = flat_map-append (λ (act : Act). act.drawn) xs ys in
    let long : length (added_by (xs ++ ys)) ≡ length (added_by xs) + length (added_by ys) = ap length added ∙ length-append (added_by xs) (added_by ys) in
    record {
      later = later_trans old mid new f.later h.later;
      accepted = omega (arith, f.accepted, h.accepted, long);
      draws = subst (λ (ds : List (List ℕ)). DrawsAll old.holds.drawer.coming new.holds.drawer.coming ds) (sym drawn) (draws_trans old.holds.drawer.coming mid.holds.drawer.coming new.holds.drawer.coming (drawn_by xs) (drawn_by ys) f.draws h.draws);
      spawned = spawned_trans old.holds.spawns mid.holds.spawns new.holds.spawns xs ys f.spawned h.spawned;
      store = fails_trans (is_fault fault.Store) old.holds.keeping.faults mid.holds.keeping.faults new.holds.keeping.faults xs ys h.later.counts.store f.store h.store;
      secrets = fails_trans (is_fault fault.Secrets) old.holds.drawer.faults mid.holds.drawer.faults new.holds.drawer.faults xs ys h.later.counts.secrets f.secrets h.secrets;
      starts = fails_trans (is_fault fault.Start) old.holds.spawns.faults mid.holds.spawns.faults new.holds.spawns.faults xs ys h.later.counts.starts f.starts h.starts;
      grows = omega (arith, f.grows, h.grows, long);
      alone = λ same.
          let first : length mid.seen ≡ length old.seen + length (added_by xs) = omega (arith, f.grows, h.grows, long, same) in
          let second : length new.seen ≡ length mid.seen + length (added_by ys) = omega (arith, f.grows, h.grows, long, same) in
          h.alone second ∙ ap (λ (zs : List Event). zs ++ added_by ys) (f.alone first) ∙ append_assoc old.seen (added_by xs) (added_by ys) ∙ ap (λ (zs : List Event). old.seen ++ zs) (sym added);
    }

-- an order as an act
abbrev pub act_of : Asked → ℕ → Result Reply OrderFault → List (List ℕ) → List Event → AppId → Act
act_of order place answer drawn added app = record { order = order; place = place; answer = answer; drawn = drawn; added = added; app = app }

store_one : (old new : Book) (order : Asked) (place : ℕ) (drawn : List (List ℕ)) (added : List Event) (app : AppId) (answer : Result Reply OrderFault) → old.holds.keeping.faults ≤ new.holds.keeping.faults → IsCounted old.holds new.holds answer → Grew old.holds.keeping.faults new.holds.keeping.faults (failures fault.Store (act_of order place answer drawn added app ∷ []))
store_one old new order place drawn added app (Ok reply) less counted = λ lt. omega (arith, less)
store_one old new order place drawn added app (Err fault.Store) less counted = λ lt. omega (arith, less, counted (omega (arith, less, lt)))
store_one old new order place drawn added app (Err fault.Secrets) less counted = λ lt. omega (arith, less)
store_one old new order place drawn added app (Err fault.Start) less counted = λ lt. omega (arith, less)
store_one old new order place drawn added app (Err fault.Memory) less counted = λ lt. omega (arith, less)

secret_one : (old new : Book) (order : Asked) (place : ℕ) (drawn : List (List ℕ)) (added : List Event) (app : AppId) (answer : Result Reply OrderFault) → old.holds.drawer.faults ≤ new.holds.drawer.faults → IsCounted old.holds new.holds answer → Grew old.holds.drawer.faults new.holds.drawer.faults (failures fault.Secrets (act_of order place answer drawn added app ∷ []))
secret_one old new order place drawn added app (Ok reply) less counted = λ lt. omega (arith, less)
secret_one old new order place drawn added app (Err fault.Secrets) less counted = λ lt. omega (arith, less, counted (omega (arith, less, lt)))
secret_one old new order place drawn added app (Err fault.Store) less counted = λ lt. omega (arith, less)
secret_one old new order place drawn added app (Err fault.Start) less counted = λ lt. omega (arith, less)
secret_one old new order place drawn added app (Err fault.Memory) less counted = λ lt. omega (arith, less)

start_one : (old new : Book) (order : Asked) (place : ℕ) (drawn : List (List ℕ)) (added : List Event) (app : AppId) (answer : Result Reply OrderFault) → old.holds.spawns.faults ≤ new.holds.spawns.faults → IsCounted old.holds new.holds answer → Grew old.holds.spawns.faults new.holds.spawns.faults (failures fault.Start (act_of order place answer drawn added app ∷ []))
start_one old new order place drawn added app (Ok reply) less counted = λ lt. omega (arith, less)
start_one old new order place drawn added app (Err fault.Start) less counted = λ lt. omega (arith, less, counted (omega (arith, less, lt)))
start_one old new order place drawn added app (Err fault.Store) less counted = λ lt. omega (arith, less)
start_one old new order place drawn added app (Err fault.Secrets) less counted = λ lt. omega (arith, less)
start_one old new order place drawn added app (Err fault.Memory) less counted = λ lt. omega (arith, less)

-- Where the history grew by no more than what an order added, it is that: the entries before are those that were seen.
alone_one : (seen now before added rest more : List Event) → now ≡ (before ++ added) ++ rest → now ≡ seen ++ more → length seen ≤ length before → length now ≡ length seen + length added → now ≡ seen ++ added
alone_one seen now before added rest more is also less long =
    let all : length now ≡ length before + length added + length rest = ap length is ∙ length-append (before ++ added) rest ∙ ap (λ (n : ℕ). n + length rest) (length-append before added) in
    let none : rest ≡ [] = length_none rest (omega (arith, all, long, less)) in
    let whole : now ≡ before ++ added = is ∙ ap (λ (zs : List Event). (before ++ added) ++ zs) none ∙ append-nil (before ++ added) in
    let (same, _) = same_front before seen added more (sym whole ∙ also) (omega (arith, all, long, less)) in
    whole ∙ ap (λ (zs : List Event). zs ++ added) same

-- what the spawner was told of one order
spawned_one : (old new : Spawns) (order : Asked) (place : ℕ) (answer : Result Reply OrderFault) (drawn : List (List ℕ)) (added : List Event) (app : AppId) → Spawned old new app (token_of order drawn) added → SpawnedOf old new (act_of order place answer drawn added app ∷ [])
spawned_one old new order place answer drawn added app is = record {
  starts = λ told was. is.starts told was ∙ ap (λ (list : List Start). Some (told ++ list)) (sym (append-nil (starts_by app (token_of order drawn) added)));
  stops = λ told was. is.stops told was ∙ ap (λ (list : List RunId). Some (told ++ list)) (sym (append-nil (stops_by added)));
}

-- one order
pub ordered_one : (old new : Book) (order : Asked) (place : ℕ) (answer : Result Reply OrderFault) → (o : Ordered old new order place answer) → OrderedOf old new (act_of order place answer o.drawn o.added o.app ∷ [])
ordered_one old new order place answer o =
    let placed = o.placed in
    let added : added_by (act_of order place answer o.drawn o.added o.app ∷ []) ≡ o.added = append-nil o.added in
    let all : length new.seen ≡ length placed.before + length o.added + length placed.rest = ap length placed.seen ∙ length-append (placed.before ++ o.added) placed.rest ∙ ap (λ (n : ℕ). n + length placed.rest) (length-append placed.before o.added) in
    let less : length old.seen ≤ length placed.before = omega (arith, placed.low_is, placed.place_is) in
    record {
      later = o.later;
      accepted = o.accepted ∙ ap (λ (zs : List Event). old.accepted + length zs) (sym added);
      draws = subst (λ (ds : List (List ℕ)). DrawsAll old.holds.drawer.coming new.holds.drawer.coming ds) (sym (append-nil o.drawn)) o.draws;
      spawned = spawned_one old.holds.spawns new.holds.spawns order place answer o.drawn o.added o.app o.spawned;
      store = store_one old new order place o.drawn o.added o.app answer o.later.counts.store o.counted;
      secrets = secret_one old new order place o.drawn o.added o.app answer o.later.counts.secrets o.counted;
      starts = start_one old new order place o.drawn o.added o.app answer o.later.counts.starts o.counted;
      grows = omega (arith, all, less, ap length added);
      alone = λ same. alone_one old.seen new.seen placed.before o.added placed.rest o.later.more placed.seen o.later.seen less (omega (arith, same, ap length added)) ∙ ap (λ (zs : List Event). old.seen ++ zs) (sym added);
    }

-- what stood at a place stands there later too
pub placed_later : (old new : Book) (low lower : ℕ) (order : Asked) (place : ℕ) (answer : Result Reply OrderFault) (drawn : List (List ℕ)) (added : List Event) (app : AppId) → Later old new → lower ≤ low
    → Placed low old order place answer drawn added app → Placed lower new order place answer drawn added app
placed_later old new low lower order place answer drawn added app later less p = record {
  before = p.before;
  rest = p.rest ++ later.more;
  seen = later.seen ∙ ap (λ (xs : List Event). xs ++ later.more) p.seen ∙ append_assoc (p.before ++ added) p.rest later.more;
  place_is = p.place_is;
  low_is = omega (arith, p.low_is);
  formed = subst (λ (start : State). IsWellFormed (replay start p.before)) (sym later.start) p.formed;
  found = p.found;
  found_is = subst (λ (law : Law). IsFoundFor law (replay new.start p.before) order answer p.found) (sym later.law)
      (subst (λ (start : State). IsFoundFor old.law (replay start p.before) order answer p.found) (sym later.start) p.found_is);
  lawful = subst (λ (law : Law). IsAnswer law (replay new.start p.before) place p.found order answer drawn added) (sym later.law)
      (subst (λ (start : State). IsAnswer old.law (replay start p.before) place p.found order answer drawn added) (sym later.start) p.lawful);
  apps = subst (λ (start : State). AreOfApp (replay start p.before) app added) (sym later.start) p.apps;
}

pub placed_within : (book : Book) (low : ℕ) (order : Asked) (place : ℕ) (answer : Result Reply OrderFault) (drawn : List (List ℕ)) (added : List Event) (app : AppId) → Placed low book order place answer drawn added app → place + length added ≤ length book.seen
placed_within book low order place answer drawn added app p = omega (arith, ap length p.seen, length-append (p.before ++ added) p.rest, length-append p.before added, p.place_is)
