-- What the objects beside a history were told since it began.
use Rattle.std.proofs.Common.{◌≡◌, ℕ, ◌++◌, Bool, true, false, List, [], ◌∷◌, Option, Some, Result, Ok, Err, length, refl, sym, ◌∙◌, ap, subst, arith, append_assoc, append-nil}
use Rattle.std.specs.List.{flat_map}
use Rattle.host_base.specs.Drawing.{Coming}
use Rattle.host_base.specs.declared.bytes.Memory.{Memory}
use Rattle.desk_base.specs.Terms.{after, AppId, Event, replay, RunId, State}
use Rattle.share_graph.specs.declared.event.Event.TheVariants as event
use Rattle.grain_supervise.specs.Spawning.{Spawns}
use Rattle.grain_supervise.specs.declared.start.Start.{Start}
use Rattle.desk_orders.specs.Commands.{Asked}
use Rattle.desk_orders.specs.Secrets.{DrawsAll}
use Rattle.desk_orders.specs.declared.reply.OrderFault.{OrderFault}
use Rattle.desk_orders.specs.declared.reply.Reply.{Reply}
use Rattle.site_caps.specs.Law.{Law}
use Rattle.hub_core.specs.Book.{Backing, Ordered, Ticked}
use Rattle.hub_core.specs.Sharing.{Sharing, book_of}
use Rattle.hub_core.specs.Spawning.{AreOfApp, HasToken, HaveToken, IsOfApp, Spawned, starts_by, starts_of, stops_by, stops_of, token_of}
use Rattle.hub_core.specs.Ticking.{added_by}
use Rattle.shared_hub.specs.Since.{AreStartsOf, HasKept, IsStartOf, SpawnedSince}
use Rattle.shared_hub.proofs.BookOrders.{adds_to, apps_at}
use Rattle.shared_hub.proofs.BookTicks.{tick_adds}

drawn_both : (a b c : Option Coming) (xs ys : List (List ℕ)) → DrawsAll a b xs → DrawsAll b c ys → DrawsAll a c (xs ++ ys)
drawn_both a b c [] ys same draws = subst (λ (x : Option Coming). DrawsAll x c ys) same draws
drawn_both a b c (x ∷ xs) ys (between, one, rest) draws = (between, one, drawn_both between b c xs ys rest draws)

both_maps : {X Y : Type 0} (f : X → List Y) (xs ys : List X) → flat_map f (xs ++ ys) ≡ flat_map f xs ++ flat_map f ys
both_maps f [] ys = refl
both_maps f (x ∷ xs) ys = ap (λ more. f x ++ more) (both_maps f xs ys) ∙ sym (append_assoc (f x) (flat_map f xs) (flat_map f ys))

starts_both : (s : State) (xs ys : List Event) (starts others : List Start) → AreStartsOf s xs starts → AreStartsOf (replay s xs) ys others → AreStartsOf s (xs ++ ys) (starts ++ others)
starts_both s [] ys starts others none are = subst (λ (zs : List Start). AreStartsOf s ys (zs ++ others)) (sym none) are
starts_both s (e ∷ xs) ys starts others (first, rest, joined, one, more) are = (
  first,
  rest ++ others,
  ap (λ (zs : List Start). zs ++ others) joined ∙ append_assoc first rest others,
  one,
  starts_both (after s e) xs ys rest others more are,
)

-- what an event wants of the spawner is the start of the run that it starts
started : (s : State) (app : AppId) (token : List ℕ) (e : Event) → HasToken token e → IsOfApp s app e → IsStartOf s e (starts_of e app token)
started s app token (event.RunStarted run) has is = (_, refl, refl, refl, is, has)
started s app token e has is = refl

-- and so it is of entries
started_entries : (s : State) (app : AppId) (token : List ℕ) (entries : List Event) → HaveToken token entries → AreOfApp s app entries → AreStartsOf s entries (starts_by app token entries)
started_entries s app token [] has are = refl
started_entries s app token (e ∷ more) (has, haves) (is, are) =
    (starts_of e app token, starts_by app token more, refl, started s app token e has is, started_entries (after s e) app token more haves are)

spawned_more : (s : State) (old mid new : Spawns) (app : AppId) (token : List ℕ) (entries added : List Event) → SpawnedSince s old mid entries → Spawned mid new app token added
    → HaveToken token added → AreOfApp (replay s entries) app added → SpawnedSince s old new (entries ++ added)
spawned_more s old mid new app token entries added since told has are = record {
  starts = λ before is.
      (let (starts, now, first) = since.starts before is in (
        starts ++ starts_by app token added,
        told.starts (before ++ starts) now ∙ ap (λ (xs : List Start). Some xs) (append_assoc before starts (starts_by app token added)),
        starts_both s entries added starts (starts_by app token added) first (started_entries (replay s entries) app token added has are),
      ));
  stops = λ before is.
      told.stops (before ++ stops_by entries) (since.stops before is)
      ∙ ap (λ (xs : List RunId). Some xs) (append_assoc before (stops_by entries) (stops_by added) ∙ ap (λ (xs : List RunId). before ++ xs) (sym (both_maps stops_of entries added)));
}

-- a tick starts nothing and stops nothing
tick_starts : (s : State) (m : ℕ) (answer : Result Bool Memory) → AreStartsOf s (added_by m answer) []
tick_starts s m (Ok true) = ([], [], refl, refl, refl)
tick_starts s m (Ok false) = refl
tick_starts s m (Err memory) = refl

tick_stops : (m : ℕ) (answer : Result Bool Memory) → stops_by (added_by m answer) ≡ []
tick_stops m (Ok true) = refl
tick_stops m (Ok false) = refl
tick_stops m (Err memory) = refl

spawned_idle : (s : State) (old new : Spawns) (entries added : List Event) → SpawnedSince s old new entries → AreStartsOf (replay s entries) added [] → stops_by added ≡ []
    → SpawnedSince s old new (entries ++ added)
spawned_idle s old new entries added since none stops = record {
  starts = λ before is.
      (let (starts, now, first) = since.starts before is in (
        starts ++ [],
        now ∙ ap (λ (xs : List Start). Some (before ++ xs)) (sym (append-nil starts)),
        starts_both s entries added starts [] first none,
      ));
  stops = λ before is.
      since.stops before is
      ∙ ap (λ (xs : List RunId). Some (before ++ xs)) (sym (append-nil (stops_by entries)) ∙ ap (λ (xs : List RunId). stops_by entries ++ xs) (sym stops) ∙ sym (both_maps stops_of entries added));
}

-- nothing yet
pub kept_none : (start : State) (holds : Backing) → HasKept start holds holds []
kept_none start holds = record {
  counts = record { store = omega arith; secrets = omega arith; starts = omega arith; clean = λ is. is };
  drawn = [];
  draws = refl;
  spawned = record {
    starts = λ before is. ([], is ∙ ap (λ (xs : List Start). Some xs) (sym (append-nil before)), refl);
    stops = λ before is. is ∙ ap (λ (xs : List RunId). Some xs) (sym (append-nil before));
  };
}

-- and once an order was answered
pub kept_more : {K : Type 0} (law : Law) (began : Backing) (old new : Sharing K) (order : Asked) (answer : Result Reply OrderFault)
    → Ordered (book_of law old) (book_of law new) order (length old.history) answer → HasKept old.start began old.holds old.history → HasKept old.start began new.holds new.history
kept_more law began old new order answer o kept = record {
  counts = record {
    store = omega (arith, kept.counts.store, o.later.counts.store);
    secrets = omega (arith, kept.counts.secrets, o.later.counts.secrets);
    starts = omega (arith, kept.counts.starts, o.later.counts.starts);
    clean = λ is. kept.counts.clean (o.later.counts.clean is);
  };
  drawn = kept.drawn ++ o.drawn;
  draws = drawn_both began.drawer.coming old.holds.drawer.coming new.holds.drawer.coming kept.drawn o.drawn kept.draws o.draws;
  spawned = subst (λ (history : List Event). SpawnedSince old.start began.spawns new.holds.spawns history) (sym (adds_to law old new order answer o))
      (spawned_more old.start began.spawns old.holds.spawns new.holds.spawns o.app (token_of order o.drawn) old.history o.added kept.spawned o.spawned o.tokens
      (apps_at law old new order answer o));
}

-- and once a tick was answered
pub kept_ticked : {K : Type 0} (law : Law) (began : Backing) (old new : Sharing K) (m : ℕ) (answer : Result Bool Memory)
    → Ticked (book_of law old) (book_of law new) m (length old.history) answer → new.holds ≡ old.holds → HasKept old.start began old.holds old.history
    → HasKept old.start began new.holds new.history
kept_ticked law began old new m answer t holds kept =
    subst (λ (now : Backing). HasKept old.start began now new.history) (sym holds)
    (subst (λ (history : List Event). HasKept old.start began old.holds history) (sym (tick_adds law old new m answer t)) (record {
      counts = kept.counts;
      drawn = kept.drawn;
      draws = kept.draws;
      spawned = spawned_idle old.start began.spawns old.holds.spawns old.history (added_by m answer) kept.spawned
          (tick_starts (replay old.start old.history) m answer) (tick_stops m answer);
    }))
