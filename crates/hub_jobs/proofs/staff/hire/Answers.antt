use Rattle.std.proofs.Common.{◌≡◌, ◌∙◌, ◌++◌, [], ◌∷◌, All, ap, arith, length-append}
use Rattle.std.proofs.lemmas.List.{map-append}
use Rattle.std.proofs.lemmas.List.Elements.{All-push}
use Rattle.share_graph.specs.declared.event.Event.{Event}
use Rattle.host_base.specs.declared.verdict.Verdict.{Verdict}
use Rattle.epoch_gate.specs.Passes.{Passing}
use Rattle.hub_jobs.proofs.Shifts.{front_is, last_is}
use Rattle.hub_jobs.proofs.staff.hire.Goals as goal

pub jobs-preserved : goal.jobs-preserved
jobs-preserved g c =
    let so_far = c.jobs.invariant in
    let pass = c.in-Some-pop.pass in
    let more = length-append c.jobs.yielded (c.in-Some.job ∷ []) in
    let all = rw c.in-Some-pop.ensures.items at so_far.unused_passes in
    record {
      jobs = rw c.push_reserved.ensures.items
          (map-append (λ worker. worker.job) c.jobs.workers.items _ ∙ ap (λ jobs. jobs ++ c.in-Some.job ∷ []) so_far.jobs);
      unused = rw c.push_reserved.ensures.items
          (All-push (λ worker. worker.desk.desk.orders ≡ 0) c.jobs.workers.items _ so_far.unused
          (ap (λ desk. desk.desk.orders) c.new-desk.ensures ∙ (ap (λ (p : Passing Event Verdict). p.orders) c.new-beneath.ensures ∙ last_is (λ p. p.orders ≡ 0) c.pop.new.self.items pass all)));
      unticked = rw c.push_reserved.ensures.items
          (All-push (λ worker. worker.desk.ticks ≡ 0) c.jobs.workers.items _ so_far.unticked (ap (λ desk. desk.ticks) c.new-desk.ensures));
      many = omega (arith, so_far.many, c.push_reserved.ensures.len, more);
      room = c.push_reserved.ensures.capacity ∙ so_far.room;
      passes = omega (arith, so_far.passes, c.in-Some-pop.ensures.cases, more);
      clocks = omega (arith, so_far.clocks, c.in-Some-pop-2.ensures.cases, more);
      capacity = c.in-Some-pop.ensures.capacity ∙ so_far.capacity;
      unused_passes = front_is (λ p. p.orders ≡ 0) c.pop.new.self.items pass all;
    }
