-- How serving ends, behind the line of a first account's login.
use Rattle.std.proofs.Common.{◌≡◌, ◌∙◌, ◌≤◌, inl, inr, ℕ, List, [], Option, Some, refl, ap, sym, subst, arith, append-nil}
use Rattle.host_base.specs.Drawing.{Drawer}
use Rattle.host_base.specs.Outside.{Outlet}
use Rattle.cloud_keeper.specs.Keeping.{Keeping}
use Rattle.cloud_keeper.specs.declared.row.Row.{Row}
use Rattle.share_graph.specs.declared.event.Event.{Event}
use Rattle.share_graph.specs.declared.state.State.{State}
use Rattle.share_graph.specs.declared.state.Tables.{Tables}
use Rattle.share_graph.specs.History.{replay}
use Rattle.site_caps.specs.Law.{Law}
use Rattle.row_tables.specs.Kept.{IsStored}
use Rattle.hub_core.specs.Book.{Backing}
use Rattle.hub_core.specs.Opening.{opened}
use Rattle.hub_core.specs.Stopping.{OutliveStops}
use Rattle.serve_door.specs.Doors.{given_and_back}
use Rattle.serve_door.specs.declared.serving.Stop.{Stop}
use Rattle.serve_door.specs.declared.serving.Stop.TheVariants as stop
use Rattle.shared_hub.specs.Since.{HasKept}
use Rattle.shared_hub.proofs.Since.{kept_none}
use Rattle.admin_run.specs.Beginning.{Begins}
use Rattle.admin_run.specs.Outside.{Entrances, entrances, Outside, Tells}
use Rattle.admin_run.specs.Serving.{EndsServing, ServesFrom, ServesHistory, TellsStop, login_line}
use Rattle.admin_run.proofs.First.{begins_on}
use Rattle.admin_run.proofs.Logins.{logins_stay}
use Rattle.admin_run.proofs.Told.{tells_more}

-- nothing is printed
pub told_nothing : (out : Outlet) (status : ℕ) → Tells out out [] status status
told_nothing out status = inl (refl, λ before told. told ∙ ap (λ (text : List ℕ). Some text) (sym (append-nil before)))

-- nothing was printed behind a text
told_no_more : (old now new : Outlet) (text : List ℕ) (done status : ℕ) → Tells old now text 0 0 → old.faults ≤ now.faults → now.faults ≤ new.faults → Tells now new [] done status → Tells old new text done status
told_no_more old now new text done status first le le' then =
    subst (λ (t : List ℕ). Tells old new t done status) (append-nil text) (tells_more old now new text [] 0 done status refl first le le' then)

stop_behind : (why : Stop) (answered : ℕ) (old now new : Outlet) (text : List ℕ) (status : ℕ) → Tells old now text 0 0 → old.faults ≤ now.faults → now.faults ≤ new.faults
    → TellsStop why [] answered now new status → TellsStop why text answered old new status
stop_behind stop.All answered old now new text status first le le' then = tells_more old now new text _ 0 0 status refl first le le' then
stop_behind stop.DoorFailed answered old now new text status first le le' (is, then) = (is, told_no_more old now new text 4 4 first le le' then)
stop_behind stop.Memory answered old now new text status first le le' (is, then) = (is, told_no_more old now new text 7 7 first le le' then)

ends_behind : (law : Law) (start : State) (count tunnels : ℕ) (text : List ℕ) (history : List Event) (doors doors' : Entrances) (old now new : Outlet) (status : ℕ) → Tells old now text 0 0 → old.faults ≤ now.faults → now.faults ≤ new.faults
    → EndsServing law start count tunnels [] history doors doors' now new status → EndsServing law start count tunnels text history doors doors' old new status
ends_behind law start count tunnels text history doors doors' old now new status first le le' (inl none) = inl (record {
  none = none.none;
  untaken = none.untaken;
  halls_untaken = none.halls_untaken;
  told = told_no_more old now new text 7 status first le le' none.told;
})
ends_behind law start count tunnels text history doors doors' old now new status first le le' (inr some) = inr (record {
  others = some.others;
  no_others = some.no_others;
  some_others = some.some_others;
  before = some.before;
  hired = some.hired;
  handles = some.handles;
  main = some.main;
  hall_handles = some.hall_handles;
  hall = some.hall;
  done = some.done;
  taken_back = some.taken_back;
  halls_taken_back = some.halls_taken_back;
  stopped = some.stopped;
  stopped_is = some.stopped_is;
  told = stop_behind some.stopped.stop some.stopped.answered old now new text status first le le' some.told;
})

-- a text that couldn't be printed
told_other : (old new : Outlet) (text : List ℕ) (done status : ℕ) → status ≡ 5 → Tells old new text done status → (done ≡ 5 → ⊥) → (other : ℕ) → Tells old new text other status
told_other old new text done status five (inl (is, whole)) not other = absurd (not (sym is ∙ five))
told_other old new text done status five (inr part) not other = inr part

module _ (law : Law) (count tunnels status : ℕ) (old : Outside) (out : Outlet) (keeping : Keeping) (drawer : Drawer) (tables : Tables) (login : Option (List ℕ))
    (begins : Begins old.holds.keeping keeping old.holds.drawer drawer tables login) where
  abbrev held : Backing
  held = record old.holds { keeping = keeping; drawer = drawer }

  -- the login was printed, and connections were served
  pub serves_from : (may_leave : List Row → Type 0) (new : Outside) (told : ℕ) → told ≡ 0 → Tells old.outlet out (login_line login) 0 told → old.outlet.faults ≤ out.faults → out.faults ≤ new.outlet.faults
      → ServesHistory law (opened tables) count tunnels may_leave held new.holds (entrances old) (entrances new) out new.outlet status
      → new ≡ record old { outlet = new.outlet; holds = new.holds; doorway = new.doorway; hallway = new.hallway } → ServesFrom law count tunnels may_leave old new status
  serves_from may_leave new told zero tells le le' served others =
      let first = subst (λ (n : ℕ). Tells old.outlet out (login_line login) 0 n) zero tells in
      record {
        tables = tables;
        login = login;
        begins = begins_on old.holds.keeping keeping new.holds.keeping tables login served.kept.counts.clean begins.with;
        history = served.history;
        stored = served.stored;
        outlive = served.outlive;
        logins_stay = logins_stay (opened tables) served.history;
        drew = (drawer.coming, begins.drew, (served.kept.drawn, served.kept.draws));
        spawned = served.kept.spawned;
        counts = record {
          store = omega (arith, begins.store_counts, served.kept.counts.store);
          secrets = omega (arith, begins.secrets_count, served.kept.counts.secrets);
          starts = served.kept.counts.starts;
          clean = λ is. begins.clean (served.kept.counts.clean is);
        };
        ends = ends_behind law (opened tables) count tunnels (login_line login) served.history (entrances old) (entrances new) old.outlet out new.outlet status first le le' served.ends;
        others = others;
      }

  -- the login couldn't be printed
  pub stops_at_login : (may_leave : List Row → Type 0) → OutliveStops keeping may_leave → Tells old.outlet out (login_line login) 0 status → status ≡ 5 → ServesFrom law count tunnels may_leave old (record old { outlet = out; holds = held }) status
  stops_at_login may_leave outlive told five =
      let none = kept_none (opened tables) old.holds in
      record {
        tables = tables;
        login = login;
        begins = begins.with;
        history = [];
        stored = begins.stored;
        outlive = outlive;
        logins_stay = logins_stay (opened tables) [];
        drew = (drawer.coming, begins.drew, ([], refl));
        spawned = none.spawned;
        counts = record { store = begins.store_counts; secrets = begins.secrets_count; starts = none.counts.starts; clean = begins.clean };
        ends = inl (record { none = refl; untaken = refl; halls_untaken = refl; told = told_other old.outlet out (login_line login) 0 status five told (λ is. omega (arith, is)) 7 });
        others = refl;
      }

-- nothing was told on a history without an entry
pub kept_same : (start : State) (holds holds' : Backing) (history : List Event) → holds' ≡ holds → history ≡ [] → HasKept start holds holds' history
kept_same start holds holds' history same none =
    subst (λ (h : Backing). HasKept start holds h history) (sym same) (subst (λ (list : List Event). HasKept start holds holds list) (sym none) (kept_none start holds))

-- nothing was served on such a history
pub serves_none : (law : Law) (start : State) (count tunnels : ℕ) (may_leave : List Row → Type 0) (holds holds' : Backing) (history : List Event) (doors doors' : Entrances) (out : Outlet) → HasKept start holds holds' history → history ≡ []
    → IsStored holds'.keeping (replay start history).tables → OutliveStops holds'.keeping may_leave → given_and_back doors'.door ≡ given_and_back doors.door → given_and_back doors'.halls ≡ given_and_back doors.halls
    → ServesHistory law start count tunnels may_leave holds holds' doors doors' out out 7
serves_none law start count tunnels may_leave holds holds' history doors doors' out kept none stored outlive untaken halls_untaken = record {
  history = history;
  stored = stored;
  outlive = outlive;
  kept = kept;
  ends = inl (record { none = none; untaken = untaken; halls_untaken = halls_untaken; told = told_nothing out 7 });
}
