use Rattle.std.proofs.Common.{◌≡◌, ◌+◌, ◌==◌, count_by, take}
use Rattle.table_check.proofs.Walks.{AtEachBelow}
use Rattle.table_check.proofs.handles.are_numbered_by_run.Given as goal

abbrev pub invariant-loop-place : goal.invariant-loop-place
invariant-loop-place l = AtEachBelow l.handles (λ i handle. handle.num ≡ count_by (λ other. other.run.0 == handle.run.0) (take i l.handles) + 1) l.place
