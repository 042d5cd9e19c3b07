use Rattle.std.proofs.Common.{◌≡◌, ◌≤◌, None}
use Rattle.cloud_serve.specs.Served.{with_book}
use Rattle.cloud_serve.proofs.Runs.{SoFar}
use Rattle.cloud_serve.proofs.serve.serve_conn.Given as goal

abbrev pub invariant-requests : goal.invariant-requests
invariant-requests g l = record {
  running : l.reader.stopped ≡ None;
  few : l.forwarded ≤ l.served;
  so_far : SoFar
      (with_book l.fn.wire (g.D.Desk.book l.fn.desk)) (with_book l.wire (g.D.Desk.book l.desk))
      l.reader l.from l.last l.places.items l.served l.forwarded;
}
