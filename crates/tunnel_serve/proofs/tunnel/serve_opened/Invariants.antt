use Rattle.std.proofs.Common.{◌≤◌}
use Rattle.tunnel_serve.proofs.Serving.{SoFar}
use Rattle.tunnel_serve.proofs.tunnel.serve_opened.Given as goal

abbrev pub invariant-messages : goal.invariant-messages
invariant-messages g l = record {
  few : l.passed ≤ l.number;
  so_far : SoFar g.D.Desk.gave g.D.Desk.book l.fn.who
      (record { hall = g.M.Messages.hall l.fn.messages; line = g.L.Link.line l.fn.link })
      (record { hall = g.M.Messages.hall l.messages; line = g.L.Link.line l.link })
      l.fn.desk l.desk l.fn.places.items l.places.items l.fn.passed l.passed l.number;
}
