use Rattle.std.proofs.Common.{◌∙◌, arith}
use Rattle.serve_door.specs.Doors.{Tunneled}
use Rattle.serve_door.proofs.Chained.{in_order, tunnel_more}
use Rattle.serve_door.proofs.tunneling.serve_tunnels.Goals as goal

pub tunnels-preserved : goal.tunnels-preserved
tunnels-preserved g c =
    let so_far = c.tunnels.invariant in
    let done = c.in-Ok.ensures in
    let (one, served, back) = done.serves in
    record {
      many = tunnel_more _ _ _ _ _ _ one so_far.many served back;
      order = in_order _ _ (Tunneled one) so_far.order back;
      within = λ was. done.within (so_far.within was);
      counts = omega (arith, so_far.counts, done.counts);
      start = done.begins ∙ so_far.start;
    }
