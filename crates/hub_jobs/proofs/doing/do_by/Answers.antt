use denote.Param.Send.{sendable}
use Rattle.std.proofs.Common.{◌∙◌, All, ap, map, subst, sym, arith, length}
use Rattle.std.proofs.lemmas.List.{length-map, take_at}
use Rattle.hub_jobs.proofs.Crossing.{Worker-send}
use Rattle.hub_jobs.proofs.Shifts.{done_by, from_map, ok_is}
use Rattle.hub_jobs.proofs.doing.do_by.Goals as goal

pub run_all-requires-send-T : goal.run_all-requires-send-T
run_all-requires-send-T g c κs within =
    let bounds = c.type_bounds in
    let handle = bounds.sync-R in
    let sites = bounds.send-C in
    let kept = bounds.send-H-Keeper in
    let drawn = bounds.send-H-Secrets in
    let spawned = bounds.send-H-Spawner in
    let clock = bounds.send-T in
    let job = bounds.send-J in
    search (Worker-send, sendable) depth 8

pub run_all-requires-after_bounds : goal.run_all-requires-after_bounds
run_all-requires-after_bounds g c κs within =
    let all = subst (λ jobs. All g.J.Job.ready jobs) (sym c.hire.ensures.jobs) c.requires.ready in
    rw c.as_mut_slice.ensures.value (from_map g.J.Job.ready (λ worker. worker.job) c.hire.new.workers.items all)

pub returns-clause-done : goal.returns-clause-done
returns-clause-done g c =
    let workers = c.hire.new.workers in
    let tasks = c.run_all.new.tasks in
    let worked = rw c.as_mut_slice.ensures.value at c.run_all.ensures in
    let back = take_at tasks _ workers.len (worked.0 ∙ omega (arith, ap length c.as_mut_slice.ensures.value, c.as_mut_slice.ensures.len)) in
    done_by (λ w. w.desk.desk) (λ w. w.desk.ticks) (λ w. w.job) g.J.Job.does g.C.Law.SiteLaw.law _ workers.items tasks c.dismiss.new.passes.items c.args.jobs.items c.dismiss.new.jobs.items
    worked c.hire.ensures.unused c.hire.ensures.unticked c.hire.ensures.jobs (c.dismiss.ensures.passes ∙ ap (λ list. map (λ w. w.desk.desk) list) back) (c.dismiss.ensures.jobs ∙ ap (λ list. map (λ w. w.job) list) back)

pub returns-clause-made : goal.returns-clause-made
returns-clause-made g c =
    let workers = c.hire.new.workers in
    let tasks = c.run_all.new.tasks in
    let worked = rw c.as_mut_slice.ensures.value at c.run_all.ensures in
    let back = take_at tasks _ workers.len (worked.0 ∙ omega (arith, ap length c.as_mut_slice.ensures.value, c.as_mut_slice.ensures.len)) in
    let all = ok_is c.make_passes.result (sym c.is_err.ensures.value ∙ c.if-is_err.false) c.make_passes.ensures.all in
    let jobs = c.args.jobs in
    let passes = c.dismiss.new.passes in
    omega (
      arith,
      c.make_passes.ensures.made,
      all,
      c.len-count.ensures,
      jobs.ok.0,
      ap length c.hire.ensures.jobs,
      length-map workers.items (λ w. w.job),
      worked.0,
      ap length (c.dismiss.ensures.passes ∙ ap (λ list. map (λ w. w.desk.desk) list) back),
      length-map tasks (λ w. w.desk.desk),
      passes.ok.0,
    )
