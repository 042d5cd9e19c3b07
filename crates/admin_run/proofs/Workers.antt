-- Workers at the handles of a door and of halls, once they stopped.
use Rattle.std.proofs.Common.{◌≡◌, ◌∙◌, ◌⊎◌, ◌++◌, ◌+◌, ◌<◌, ◌≤◌, min, inl, inr, ℕ, zero, suc, All, true, false, List, [], ◌∷◌, Option, Some, None, Result, Ok, Err, IfOk, OnErr, length, map, refl, ap, sym, subst, arith, length-append}
use Rattle.std.specs.Option.{option_map}
use Rattle.std.specs.Result.{is_err}
use Rattle.std.proofs.lemmas.List.{length-map}
use Rattle.std.proofs.lemmas.List.Elements.{All-cons, All-head, All-nil, All-push, All-tail}
use Rattle.host_base.specs.Outside.{Rose}
use Rattle.share_graph.specs.declared.event.Event.{Event}
use Rattle.share_graph.specs.declared.state.State.{State}
use Rattle.site_caps.specs.Law.{Law}
use Rattle.hub_core.specs.Book.{Book}
use Rattle.hub_jobs.specs.Jobs.{AreDone, DoneAtOnce, Shift}
use Rattle.serve_door.specs.Doors.{Doorway, IsInOrder, Traffic, Visit, expecting, further, given_and_back, with_faults_of}
use Rattle.serve_door.proofs.Chained.{expected_in_order}
use Rattle.serve_door.proofs.Employed.{doorman, hallman}
use Rattle.serve_door.specs.Working.{AreHired, AreReady, AreStaff, Post, Posts, Works, WorksAt, WorksBoth, all_together, together, with_handles, workers_at, worse}
use Rattle.serve_door.specs.declared.serving.Stop.{Stop}
use Rattle.serve_door.specs.declared.serving.Stop.TheVariants as stop
use Rattle.serve_door.specs.declared.serving.Stopped.{Stopped}
use Rattle.admin_run.specs.Outside.{AnyRose, Entrances}

abbrev came : Traffic → ℕ × List Visit
came t = (t.given, t.returned)

expecting_gives : (told : Option Traffic) (count : ℕ) → option_map came (option_map (λ (t : Traffic). record t { planned = t.given + count }) told) ≡ option_map came told
expecting_gives None count = refl
expecting_gives (Some t) count = refl

-- a door that is to give more has given as many as before
expecting_same : (door : Doorway) (count : ℕ) → given_and_back (expecting door count) ≡ given_and_back door
expecting_same door count = expecting_gives door.traffic count

pub expecting_gave : (door door' : Doorway) (count : ℕ) → door' ≡ expecting door count → given_and_back door' ≡ given_and_back door
expecting_gave door door' count is = ap given_and_back is ∙ expecting_same door count

-- what was done at a post, for whatever desk
abbrev Manned : Post → Post → Type 0
Manned old new = (before : Book) × (after : Book) × Works before after old new

abbrev Pairwise : List Post → List Post → Type 0
Pairwise [] [] = Unit {0}
Pairwise (old ∷ olds) (new ∷ news) = Manned old new × Pairwise olds news
Pairwise _ _ = ⊥

-- the posts that workers have once their jobs were done
record Leaves (doors halls : List Post) (posts : List Posts) : Type 0 where
  doors' : List Post
  halls' : List Post
  are : posts ≡ workers_at doors' halls'
  doors_manned : Pairwise doors doors'
  halls_manned : Pairwise halls halls'

-- what a worker at the door left, and one at the halls
record LeavesDoor (old : Post) (now : Posts) : Type 0 where
  post : Post
  is : now ≡ record { door = Some post; halls = None }
  manned : Manned old post

record LeavesHalls (old : Post) (now : Posts) : Type 0 where
  post : Post
  is : now ≡ record { door = None; halls = Some post }
  manned : Manned old post

door_left : (before between after : Book) (old : Post) (door halls : Option Post) → WorksAt before between (Some old) door → WorksAt between after None halls → LeavesDoor old (record { door = door; halls = halls })
door_left before between after old None halls works idle = absurd works
door_left before between after old (Some post) None works idle = record { post = post; is = refl; manned = (before, between, works) }
door_left before between after old (Some post) (Some other) works idle = absurd idle

halls_left : (before between after : Book) (old : Post) (door halls : Option Post) → WorksAt before between None door → WorksAt between after (Some old) halls → LeavesHalls old (record { door = door; halls = halls })
halls_left before between after old (Some other) halls idle works = absurd idle
halls_left before between after old None None idle works = absurd works
halls_left before between after old None (Some post) idle works = record { post = post; is = refl; manned = (between, after, works) }

left_at_door : (before after : Book) (old : Post) (now : Posts) → WorksBoth before after (record { door = Some old; halls = None }) now → LeavesDoor old now
left_at_door before after old now did = door_left before did.0 after old now.door now.halls did.1 did.2

left_at_halls : (before after : Book) (old : Post) (now : Posts) → WorksBoth before after (record { door = None; halls = Some old }) now → LeavesHalls old now
left_at_halls before after old now did = halls_left before did.0 after old now.door now.halls did.1 did.2

none_manned : (doors : List Post) → Pairwise [] doors → doors ≡ []
none_manned [] done = refl
none_manned (post ∷ doors) done = absurd done

leave_all : (law : Law) (start : State) (shifts : List Shift) (doors halls : List Post) (posts : List Posts) → AreDone WorksBoth law start shifts (workers_at doors halls) posts → Leaves doors halls posts
leave_all law start [] [] [] [] done = record { doors' = []; halls' = []; are = refl; doors_manned = tt; halls_manned = tt }
leave_all law start [] [] [] (now ∷ posts) done = absurd done
leave_all law start (shift ∷ shifts) [] [] [] done = absurd done
leave_all law start (shift ∷ shifts) [] [] (now ∷ posts) done = absurd done
leave_all law start [] [] (hall ∷ halls) posts done = absurd done
leave_all law start (shift ∷ shifts) [] (hall ∷ halls) [] done = absurd done
leave_all law start (shift ∷ shifts) [] (hall ∷ halls) (now ∷ posts) (one, more) =
    let here = left_at_halls _ _ hall now one.did in
    let rest = leave_all law start shifts [] halls posts more in
    let none : rest.doors' ≡ [] = none_manned rest.doors' rest.doors_manned in
    record {
      doors' = [];
      halls' = here.post ∷ rest.halls';
      are = ap (λ (p : Posts). p ∷ posts) here.is
          ∙ ap (λ (list : List Posts). record { door = None; halls = Some here.post } ∷ list) (rest.are ∙ ap (λ (list : List Post). workers_at list rest.halls') none);
      doors_manned = tt;
      halls_manned = (here.manned, rest.halls_manned);
    }
leave_all law start [] (door ∷ doors) halls posts done = absurd done
leave_all law start (shift ∷ shifts) (door ∷ doors) halls [] done = absurd done
leave_all law start (shift ∷ shifts) (door ∷ doors) halls (now ∷ posts) (one, more) =
    let here = left_at_door _ _ door now one.did in
    let rest = leave_all law start shifts doors halls posts more in
    record {
      doors' = here.post ∷ rest.doors';
      halls' = rest.halls';
      are = ap (λ (p : Posts). p ∷ posts) here.is ∙ ap (λ (list : List Posts). record { door = Some here.post; halls = None } ∷ list) rest.are;
      doors_manned = (here.manned, rest.doors_manned);
      halls_manned = rest.halls_manned;
    }

-- a post where serving stopped since its door failed has a door whose count rose from none
abbrev Failing : Post → Type 0
Failing post = post.stopped.stop ≡ stop.DoorFailed → Rose 0 post.doorway.faults

-- What is known of posts that were made for a door, once serving stopped there: the last one had the door itself.
pub record HaveStopped (door : Doorway) (posts : List Post) : Type 0 where
  pub handles : List Post
  pub main : Post
  pub all : posts ≡ handles ++ main ∷ []
  pub failing : All Failing handles
  pub counts : door.faults ≤ main.doorway.faults
  pub failed : main.stopped.stop ≡ stop.DoorFailed → Rose door.faults main.doorway.faults

further_fails : (door old now : Doorway) (stops : Stop) → old ≡ further door → (stops ≡ stop.DoorFailed → Rose old.faults now.faults) → stops ≡ stop.DoorFailed → Rose 0 now.faults
further_fails door old now stops is failed stopped = subst (λ (d : Doorway). Rose d.faults now.faults) is (failed stopped)

have_stopped : (door : Doorway) (handles : List Post) (main : Post) (posts : List Post) → Pairwise (handles ++ main ∷ []) posts
    → All (λ (post : Post). post.doorway ≡ further door) handles → main.doorway ≡ door → HaveStopped door posts
have_stopped door [] main [] done furthers is = absurd done
have_stopped door [] main (post ∷ posts) (one, more) furthers is =
    let did = one.2 in
    record {
      handles = [];
      main = post;
      all = ap (λ (list : List Post). post ∷ list) (none_manned posts more);
      failing = All-nil Failing;
      counts = subst (λ (d : Doorway). d.faults ≤ post.doorway.faults) is did.counts;
      failed = subst (λ (d : Doorway). post.stopped.stop ≡ stop.DoorFailed → Rose d.faults post.doorway.faults) is did.failed;
    }
have_stopped door (handle ∷ handles) main [] done furthers is = absurd done
have_stopped door (handle ∷ handles) main (post ∷ posts) (one, more) furthers is =
    let rest = have_stopped door handles main posts more (All-tail (λ (p : Post). p.doorway ≡ further door) handle handles furthers) is in
    let own = All-head (λ (p : Post). p.doorway ≡ further door) handle handles furthers in
    record {
      handles = post ∷ rest.handles;
      main = rest.main;
      all = ap (λ (list : List Post). post ∷ list) rest.all;
      failing = All-cons Failing post rest.handles (further_fails door handle.doorway post.doorway post.stopped.stop own one.2.failed) rest.failing;
      counts = rest.counts;
      failed = rest.failed;
    }

hired_stopped : (door : Doorway) (others : ℕ) (old new : List Post) → AreHired door others old → Pairwise old new → HaveStopped door new
hired_stopped door others old new hired manned =
    have_stopped door hired.handles hired.main new (subst (λ (list : List Post). Pairwise list new) hired.all manned) hired.further_are hired.main_is

-- What is known of workers who were hired for a door and for halls, once they stopped.
pub record StaffStopped (door halls : Doorway) (workers : List Posts) : Type 0 where
  pub doors : List Post
  pub at_halls : List Post
  pub at_door : HaveStopped door doors
  pub in_halls : HaveStopped halls at_halls
  pub all : workers ≡ workers_at (at_door.handles ++ at_door.main ∷ []) (in_halls.handles ++ in_halls.main ∷ [])

module _ (law : Law) (start : State) (door halls : Doorway) (others hall_others : ℕ) (history : List Event) (before : List Posts) (hired : AreStaff door others halls hall_others before) where
  -- hired workers, once their jobs were done
  pub staff_stopped : (workers : List Posts) → DoneAtOnce WorksBoth law start history before workers → StaffStopped door halls workers
  staff_stopped workers done =
      let left = leave_all law start done.shifts hired.at_door hired.at_halls workers (subst (λ (list : List Posts). AreDone WorksBoth law start done.shifts list workers) hired.all done.done) in
      let at_door = hired_stopped door others hired.at_door left.doors' hired.door_hired left.doors_manned in
      let in_halls = hired_stopped halls hall_others hired.at_halls left.halls' hired.halls_hired left.halls_manned in
      record {
        doors = left.doors';
        at_halls = left.halls';
        at_door = at_door;
        in_halls = in_halls;
        all = left.are ∙ (ap (λ (list : List Post). workers_at list left.halls') at_door.all ∙ ap (λ (list : List Post). workers_at (at_door.handles ++ at_door.main ∷ []) list) in_halls.all);
      }

  -- as they were hired
  pub staff_hired : before ≡ workers_at (hired.door_hired.handles ++ hired.door_hired.main ∷ []) (hired.halls_hired.handles ++ hired.halls_hired.main ∷ [])
  staff_hired =
      hired.all ∙ (ap (λ (list : List Post). workers_at list hired.at_halls) hired.door_hired.all
      ∙ ap (λ (list : List Post). workers_at (hired.door_hired.handles ++ hired.door_hired.main ∷ []) list) hired.halls_hired.all)

  -- whether their jobs were done or none was, the last ones are there
  pub have_last : {X Y : Type 0} (outcome : Result X Y) (workers : List Posts) (rest : Type 0) → IfOk outcome (λ _. DoneAtOnce WorksBoth law start history before workers) → OnErr outcome ((workers ≡ before) × rest)
      → (handles : List Post) × (at_halls : List Post) × (main : Post) × (hall : Post) × (workers ≡ workers_at (handles ++ main ∷ []) (at_halls ++ hall ∷ []))
  have_last (Ok x) workers rest done none =
      let stopped = staff_stopped workers done in (stopped.at_door.handles, stopped.in_halls.handles, stopped.at_door.main, stopped.in_halls.main, stopped.all)
  have_last (Err e) workers rest done none =
      (hired.door_hired.handles, hired.halls_hired.handles, hired.door_hired.main, hired.halls_hired.main, none.0 ∙ staff_hired)

-- where serving stopped at two posts together since a door failed, one of them did
failed_either : (one other : Stop) → worse one other ≡ stop.DoorFailed → (one ≡ stop.DoorFailed) ⊎ (other ≡ stop.DoorFailed)
failed_either stop.All other is = inr is
failed_either stop.DoorFailed other is = inl refl
failed_either stop.Memory stop.DoorFailed is = inr refl
failed_either stop.Memory stop.All is = absurd (cc is)
failed_either stop.Memory stop.Memory is = absurd (cc is)

rose_once : (low now handle : ℕ) (one other : Stop) → worse one other ≡ stop.DoorFailed → (low < 18446744073709551615 → low ≤ now) → (one ≡ stop.DoorFailed → Rose low now) → (other ≡ stop.DoorFailed → Rose 0 handle)
    → Rose low (min (now + handle) 18446744073709551615)
rose_once low now handle one other is le first second less = elim (failed_either one other is) [
  | inl failed ↦ (let rose : low < now = first failed less in omega (arith, rose, less))
  | inr failed ↦ (let rose : 0 < handle = second failed (omega arith) in let least : low ≤ now = le less in omega (arith, rose, least, less))
]

-- where all stopped together since a door failed, the count of the door that took them back rose
rose_all : (handles : List Post) (low : ℕ) (door : Doorway) (stopped : Stopped) → All Failing handles → (low < 18446744073709551615 → low ≤ door.faults) → (stopped.stop ≡ stop.DoorFailed → Rose low door.faults)
    → (all_together stopped handles).stop ≡ stop.DoorFailed → Rose low (with_handles door handles).faults
rose_all [] low door stopped failing le rose is = rose is
rose_all (post ∷ more) low door stopped failing le rose is =
    rose_all more low (with_faults_of door post.doorway) (together stopped post.stopped) (All-tail Failing post more failing)
    (λ less. let least : low ≤ door.faults = le less in omega (arith, least, less))
    (λ worst. rose_once low door.faults post.doorway.faults stopped.stop post.stopped.stop worst le rose (All-head Failing post more failing))
    is

rose_at : (door : Doorway) (posts : List Post) → (s : HaveStopped door posts) → (all_together s.main.stopped s.handles).stop ≡ stop.DoorFailed → Rose door.faults (with_handles s.main.doorway s.handles).faults
rose_at door posts s is = rose_all s.handles door.faults s.main.doorway s.main.stopped s.failing (λ less. s.counts) s.failed is

-- where the workers stopped since the door or the halls failed, the count of one of these rose
pub any_rose : (old new : Entrances) (workers : List Posts) → (s : StaffStopped old.door old.halls workers)
    → new.door ≡ with_handles s.at_door.main.doorway s.at_door.handles → new.halls ≡ with_handles s.in_halls.main.doorway s.in_halls.handles
    → (together (all_together s.at_door.main.stopped s.at_door.handles) (all_together s.in_halls.main.stopped s.in_halls.handles)).stop ≡ stop.DoorFailed → AnyRose old new
any_rose old new workers s door_is halls_is stops = elim (failed_either _ _ stops) [
  | inl failed ↦ inl (subst (λ (d : Doorway). Rose old.door.faults d.faults) (sym door_is) (rose_at old.door s.doors s.at_door failed))
  | inr failed ↦ inr (subst (λ (d : Doorway). Rose old.halls.faults d.faults) (sym halls_is) (rose_at old.halls s.at_halls s.in_halls failed))
]

abbrev nothing_given : Traffic
nothing_given = record { planned = 0; given = 0; returned = [] }

further_told : (told : Option Traffic) (t : Traffic) → option_map (λ (t : Traffic). record { planned = 0; given = 0; returned = [] }) told ≡ Some t → length t.returned ≤ t.given
further_told None t is = cc is
further_told (Some x) t is =
    let same : nothing_given ≡ t = cc is in
    subst (λ (y : Traffic). length y.returned ≤ y.given) same (omega arith)

-- posts that were made for a door that is in order are ready
posts_ready : (door : Doorway) (count others : ℕ) (posts : List Post) → IsInOrder door → AreHired (expecting door count) others posts → All (λ (post : Post). IsInOrder post.doorway) posts
posts_ready door count others posts order hired =
    let own : IsInOrder hired.main.doorway = subst (λ (d : Doorway). IsInOrder d) (sym hired.main_is) (expected_in_order door count order) in
    let rest : All (λ (post : Post). IsInOrder post.doorway) hired.handles =
    λ k d near. subst (λ (w : Doorway). IsInOrder w) (sym (hired.further_are k d near)) (further_told (expecting door count).traffic) in
    subst (λ (list : List Post). All (λ (post : Post). IsInOrder post.doorway) list) (sym hired.all) (All-push (λ (post : Post). IsInOrder post.doorway) hired.handles hired.main rest own)

workers_ready : (doors halls : List Post) → All (λ (post : Post). IsInOrder post.doorway) doors → All (λ (post : Post). IsInOrder post.doorway) halls → All AreReady (workers_at doors halls)
workers_ready [] [] doors_ready halls_ready = All-nil AreReady
workers_ready [] (hall ∷ halls) doors_ready halls_ready =
    All-cons AreReady _ _ (tt, All-head (λ (post : Post). IsInOrder post.doorway) hall halls halls_ready)
    (workers_ready [] halls doors_ready (All-tail (λ (post : Post). IsInOrder post.doorway) hall halls halls_ready))
workers_ready (door ∷ doors) halls doors_ready halls_ready =
    All-cons AreReady _ _ (All-head (λ (post : Post). IsInOrder post.doorway) door doors doors_ready, tt)
    (workers_ready doors halls (All-tail (λ (post : Post). IsInOrder post.doorway) door doors doors_ready) halls_ready)

-- workers who were hired for a door and for halls that are in order are ready
pub all_ready : (door halls : Doorway) (count tunnels others hall_others : ℕ) (workers : List Posts) → IsInOrder door → IsInOrder halls → AreStaff (expecting door count) others (expecting halls tunnels) hall_others workers
    → All AreReady workers
all_ready door halls count tunnels others hall_others workers order halls_order hired =
    subst (λ (list : List Posts). All AreReady list) (sym hired.all)
    (workers_ready hired.at_door hired.at_halls (posts_ready door count others hired.at_door order hired.door_hired) (posts_ready halls tunnels hall_others hired.at_halls halls_order hired.halls_hired))

hired_many : (door : Doorway) (others : ℕ) (posts : List Post) → AreHired door others posts → length posts ≡ others + 1
hired_many door others posts hired =
    let all = ap length hired.all in
    let long = length-append hired.handles (hired.main ∷ []) in
    let own = hired.many in
    omega (arith, all, long, own)

-- so many workers were hired
pub how_many : (door halls : Doorway) (others hall_others : ℕ) (workers : List Posts) → AreStaff door others halls hall_others workers → length workers ≡ (others + 1) + (hall_others + 1)
how_many door halls others hall_others workers hired =
    let all = ap length hired.all in
    let long = length-append {A = Posts} (map doorman hired.at_door) (map hallman hired.at_halls) in
    let doors = length-map hired.at_door doorman in
    let in_halls = length-map hired.at_halls hallman in
    let own = hired_many door others hired.at_door hired.door_hired in
    let halls_own = hired_many halls hall_others hired.at_halls hired.halls_hired in
    omega (arith, all, long, doors, in_halls, own, halls_own)

done_length : (law : Law) (start : State) (shifts : List Shift) (old new : List Posts) → AreDone WorksBoth law start shifts old new → length new ≡ length old
done_length law start [] [] [] done = refl
done_length law start [] [] (now ∷ new) done = absurd done
done_length law start [] (was ∷ old) new done = absurd done
done_length law start (shift ∷ shifts) [] [] done = absurd done
done_length law start (shift ∷ shifts) [] (now ∷ new) done = absurd done
done_length law start (shift ∷ shifts) (was ∷ old) [] done = absurd done
done_length law start (shift ∷ shifts) (was ∷ old) (now ∷ new) (one, more) =
    let rest = done_length law start shifts old new more in
    omega (arith, rest)

-- whether their jobs were done or none was, there are as many workers as before
pub as_many : {X Y : Type 0} (law : Law) (start : State) (history : List Event) (before workers : List Posts) (outcome : Result X Y) (rest : Type 0)
    → IfOk outcome (λ _. DoneAtOnce WorksBoth law start history before workers) → OnErr outcome ((workers ≡ before) × rest) → length workers ≡ length before
as_many law start history before workers (Ok x) rest done none = done_length law start done.shifts before workers done.done
as_many law start history before workers (Err e) rest done none = ap length none.0

-- how many others there are at the halls
pub few_others : (tunnels others : ℕ) → (tunnels ≡ 0 → others ≡ 0) → (0 < tunnels → others ≡ 63) → others ≤ 63
few_others zero others none some = let no = none refl in omega (arith, no)
few_others (suc n) others none some = let many = some (omega arith) in omega (arith, many)

-- what is known of a result where it is an error, and where it isn't
pub err_is : {X Y P : Type 0} (r : Result X Y) → is_err r ≡ true → OnErr r P → P
err_is (Ok x) is known = absurd (cc is)
err_is (Err e) is known = known

pub ok_is : {X Y P : Type 0} (r : Result X Y) → is_err r ≡ false → IfOk r (λ _. P) → P
ok_is (Ok x) is known = known
ok_is (Err e) is known = absurd (cc is)
