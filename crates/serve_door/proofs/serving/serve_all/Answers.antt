use Rattle.std.proofs.Common.{◌∙◌, arith}
use Rattle.serve_door.specs.Doors.{Connected}
use Rattle.serve_door.proofs.Chained.{in_order, many_more}
use Rattle.serve_door.proofs.serving.serve_all.Goals as goal

pub connections-preserved : goal.connections-preserved
connections-preserved g c =
    let so_far = c.connections.invariant in
    let done = c.in-Ok.ensures in
    let (one, served, count, back) = done.serves in
    record {
      many = rw (c.saturating_add-answered.ensures, ← count) (many_more _ _ _ _ _ _ _ (Connected one) so_far.many served back);
      order = in_order _ _ (Connected one) so_far.order back;
      within = λ was. done.within (so_far.within was);
      counts = omega (arith, so_far.counts, done.counts);
      start = done.begins ∙ so_far.start;
    }
