use Rattle.std.proofs.Common.{◌≡◌, ◌∙◌, ap, arith}
use Rattle.std.proofs.lemmas.List.Elements.{All-push}
use Rattle.share_graph.specs.declared.event.Event.{Event}
use Rattle.host_base.specs.declared.verdict.Verdict.{Verdict}
use Rattle.epoch_gate.specs.Passes.{Passing}
use Rattle.hub_jobs.proofs.staff.make_passes.Goals as goal

pub passes-preserved : goal.passes-preserved
passes-preserved g c =
    let so_far = c.passes.invariant in
    record {
      made = omega (arith, so_far.made, c.in_ok-pass.ensures.made);
      many = omega (arith, so_far.many, c.push_reserved.ensures.len);
      capacity = c.push_reserved.ensures.capacity ∙ so_far.capacity;
      unused = rw c.push_reserved.ensures.items
          (All-push (λ pass. pass.orders ≡ 0) c.passes.passes.items c.in_ok-pass.pass so_far.unused (ap (λ (p : Passing Event Verdict). p.orders) c.in_ok-pass.ensures.pass));
    }
