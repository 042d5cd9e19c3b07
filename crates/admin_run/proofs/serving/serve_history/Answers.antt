use denote.Param.Send.{sendable}
use Rattle.std.proofs.Common.{◌≡◌, ◌∙◌, List, [], inr, ap, sym, subst, arith}
use Rattle.std.proofs.lemmas.Result.{on_err_weaker}
use Rattle.share_graph.specs.History.{replay}
use Rattle.share_graph.specs.declared.state.State.{State}
use Rattle.row_tables.specs.Kept.{IsStored}
use Rattle.hub_core.specs.Book.{Backing}
use Rattle.hub_core.specs.Sharing.{Objects}
use Rattle.shared_hub.specs.Since.{HasKept}
use Rattle.hub_jobs.specs.Jobs.{DoneAtOnce}
use Rattle.serve_door.specs.Doors.{given_and_back}
use Rattle.serve_door.specs.Working.{Posts, WorksBoth, all_together, together}
use Rattle.serve_door.specs.declared.serving.Stop.TheVariants as stop
use Rattle.serve_door.specs.declared.serving.Stopped.{Stopped}
use Rattle.std.proofs.Crossing.{crosses}
use Rattle.serve_door.proofs.Handles.{handles_same}
use Rattle.serve_door.proofs.post.Post.TheSendSync as post
use Rattle.serve_door.proofs.worker.Worker.TheSendSync as worker
use Rattle.admin_run.proofs.Ends.{kept_same, serves_none}
use Rattle.admin_run.proofs.Workers.{all_ready, any_rose, as_many, err_is, expecting_gave, few_others, have_last, how_many, ok_is, staff_hired, staff_stopped}
use Rattle.admin_run.proofs.serving.serve_history.Goals as goal

pub returns-in-Err-clause-serves : goal.returns-in-Err-clause-serves
returns-in-Err-clause-serves g c =
    let back = c.in-Err.ensures.back in
    serves_none g.C.Law.SiteLaw.law c.args.locked.start c.args.counts.connections c.args.counts.tunnels _ c.args.locked.holds c.into_held-held.result.tell c.args.locked.history _ _ _
    (kept_same c.args.locked.start c.args.locked.holds c.into_held-held.result.tell c.args.locked.history (ap (λ (o : Objects _). o.tell) c.into_held-held.ensures.held) c.requires.empty) c.requires.empty c.into_held-held.ensures.stored
    c.into_held-held.ensures.outlive
    (back.0 ∙ expecting_gave _ _ _ c.expect.ensures)
    (back.1 ∙ expecting_gave _ _ _ c.expect-2.ensures)

pub do_at_once-locked-requires-send-J : goal.do_at_once-locked-requires-send-J
do_at_once-locked-requires-send-J g c κs within =
    let bounds = c.type_bounds in
    let handle = bounds.sync-R in
    let door = bounds.send-W-Door in
    let halls = bounds.send-W-Halls in
    let link = bounds.send-W-Door-Link in
    search (worker.the_send, post.the_send, crosses, sendable) depth 24

pub do_at_once-locked-requires-clause-ready : goal.do_at_once-locked-requires-clause-ready
do_at_once-locked-requires-clause-ready g c κs within =
    let hired = rw (c.expect.ensures, c.expect-2.ensures) at c.in-Ok.ensures.hired in
    all_ready _ _ c.args.counts.connections c.args.counts.tunnels _ _ _ c.requires.order.0 c.requires.order.1 hired

pub do_at_once-locked-requires-clause-few : goal.do_at_once-locked-requires-clause-few
do_at_once-locked-requires-clause-few g c κs within =
    let many = how_many _ _ _ _ _ c.in-Ok.ensures.hired in
    let few = few_others c.args.counts.tunnels c.hall_workers-others.result c.hall_workers-others.ensures.none c.hall_workers-others.ensures.some in
    let len = c.in-Ok.staff.workers.ok.0 in
    omega (arith, many, few, len)

pub dismiss-door-requires-clause-all : goal.dismiss-door-requires-clause-all
dismiss-door-requires-clause-all g c =
    let hired = rw (c.expect.ensures, c.expect-2.ensures) at c.in-Ok.ensures.hired in
    have_last g.C.Law.SiteLaw.law c.args.locked.start _ _ _ _ c.do_at_once-locked.result.locked.history _ hired c.do_at_once-locked.result.outcome c.do_at_once-locked.result.jobs.items (c.do_at_once-locked.result.locked.history ≡ []) c.do_at_once-locked.ensures.done
    (on_err_weaker c.do_at_once-locked.result.outcome (λ both. (ap (λ jobs. jobs.items) both.0, both.1)) c.do_at_once-locked.ensures.none)

pub dismiss-door-requires-clause-room : goal.dismiss-door-requires-clause-room
dismiss-door-requires-clause-room g c =
    let jobs = c.do_at_once-locked in
    let many = as_many g.C.Law.SiteLaw.law c.args.locked.start jobs.result.locked.history c.in-Ok.staff.workers.items jobs.result.jobs.items jobs.result.outcome (jobs.result.locked.history ≡ []) jobs.ensures.done
    (on_err_weaker jobs.result.outcome (λ both. (ap (λ jobs. jobs.items) both.0, both.1)) jobs.ensures.none) in
    let room = c.in-Ok.ensures.room in
    let now = c.do_at_once-locked.result.jobs.ok.0 in
    let was = c.in-Ok.staff.workers.ok.0 in
    (omega (arith, many, room.0, now, was), omega (arith, many, room.1, now, was))

pub returns-then-is_err-clause-serves : goal.returns-then-is_err-clause-serves
returns-then-is_err-clause-serves g c =
    let hired = rw (c.expect.ensures, c.expect-2.ensures) at c.in-Ok.ensures.hired in
    let done = c.do_at_once-locked in
    let none = err_is done.result.outcome (sym c.is_err.ensures.value ∙ c.if-is_err.true) done.ensures.none in
    let history = done.result.locked.history in
    let held = c.into_held-held-2.result in
    let at_door = hired.door_hired in
    let in_halls = hired.halls_hired in
    let last = staff_hired g.C.Law.SiteLaw.law c.args.locked.start _ _ _ _ history _ hired in
    let all = ap (λ jobs. jobs.items) none.0 ∙ last in
    serves_none g.C.Law.SiteLaw.law c.args.locked.start c.args.counts.connections c.args.counts.tunnels _ c.args.locked.holds held.tell history _ _ _
    (subst (λ (h : Backing). HasKept c.args.locked.start c.args.locked.holds h history) (sym (ap (λ (o : Objects _). o.tell) c.into_held-held-2.ensures.held)) done.ensures.kept) none.1
    (subst (λ (s : State). IsStored held.tell.keeping (replay s history).tables) done.ensures.start c.into_held-held-2.ensures.stored)
    c.into_held-held-2.ensures.outlive
    (ap given_and_back (c.dismiss-door.ensures.door at_door.handles in_halls.handles at_door.main in_halls.main all)
    ∙ (handles_same at_door.main.doorway at_door.handles ∙ expecting_gave _ _ _ at_door.main_is))
    (ap given_and_back (c.dismiss-door.ensures.halls at_door.handles in_halls.handles at_door.main in_halls.main all)
    ∙ (handles_same in_halls.main.doorway in_halls.handles ∙ expecting_gave _ _ _ in_halls.main_is))

pub returns-clause-serves : goal.returns-clause-serves
returns-clause-serves g c =
    let law = g.C.Law.SiteLaw.law in
    let start = c.args.locked.start in
    let hired = rw (c.expect.ensures, c.expect-2.ensures) at c.in-Ok.ensures.hired in
    let jobs = c.do_at_once-locked in
    let history = jobs.result.locked.history in
    let held = c.into_held-held-2.result in
    let workers = jobs.result.jobs.items in
    let done = ok_is jobs.result.outcome (sym c.is_err.ensures.value ∙ c.if-is_err.false) jobs.ensures.done in
    let last = staff_stopped law start _ _ _ _ history c.in-Ok.staff.workers.items hired workers done in
    let at_door = last.at_door in
    let in_halls = last.in_halls in
    record {
      history = history;
      stored = subst (λ (s : State). IsStored held.tell.keeping (replay s history).tables) jobs.ensures.start c.into_held-held-2.ensures.stored;
      outlive = c.into_held-held-2.ensures.outlive;
      kept = subst (λ (h : Backing). HasKept c.args.locked.start c.args.locked.holds h history) (sym (ap (λ (o : Objects _). o.tell) c.into_held-held-2.ensures.held)) jobs.ensures.kept;
      ends = inr (record {
        others = c.hall_workers-others.result;
        no_others = c.hall_workers-others.ensures.none;
        some_others = c.hall_workers-others.ensures.some;
        before = c.in-Ok.staff.workers.items;
        hired = hired;
        handles = at_door.handles;
        main = at_door.main;
        hall_handles = in_halls.handles;
        hall = in_halls.main;
        done = subst (λ (list : List Posts). DoneAtOnce WorksBoth law start history c.in-Ok.staff.workers.items list) last.all done;
        taken_back = c.dismiss-door.ensures.door at_door.handles in_halls.handles at_door.main in_halls.main last.all;
        halls_taken_back = c.dismiss-door.ensures.halls at_door.handles in_halls.handles at_door.main in_halls.main last.all;
        stopped = c.dismiss-door.result.2;
        stopped_is = c.dismiss-door.ensures.stopped at_door.handles in_halls.handles at_door.main in_halls.main last.all;
        told = c.tell_stop-status.ensures.tells;
      });
    }

pub returns-clause-taken : goal.returns-clause-taken
returns-clause-taken g c = λ four.
    let hired = rw (c.expect.ensures, c.expect-2.ensures) at c.in-Ok.ensures.hired in
    let jobs = c.do_at_once-locked in
    let done = ok_is jobs.result.outcome (sym c.is_err.ensures.value ∙ c.if-is_err.false) jobs.ensures.done in
    let last = staff_stopped g.C.Law.SiteLaw.law c.args.locked.start _ _ _ _ jobs.result.locked.history c.in-Ok.staff.workers.items hired jobs.result.jobs.items done in
    let at_door = last.at_door in
    let in_halls = last.in_halls in
    let stops : (together (all_together at_door.main.stopped at_door.handles) (all_together in_halls.main.stopped in_halls.handles)).stop ≡ stop.DoorFailed =
    ap (λ (s : Stopped). s.stop) (sym (c.dismiss-door.ensures.stopped at_door.handles in_halls.handles at_door.main in_halls.main last.all)) ∙ c.tell_stop-status.ensures.taken four in
    any_rose _ _ jobs.result.jobs.items last (c.dismiss-door.ensures.door at_door.handles in_halls.handles at_door.main in_halls.main last.all)
    (c.dismiss-door.ensures.halls at_door.handles in_halls.handles at_door.main in_halls.main last.all) stops
