use Rattle.std.proofs.Common.{take}
use Rattle.table_check.specs.Live.{IsFirstLive}
use Rattle.table_check.proofs.Walks.{AtEachBelow}
use Rattle.table_check.proofs.live.are_first_live.Given as goal

abbrev pub invariant-loop-place : goal.invariant-loop-place
invariant-loop-place l = AtEachBelow l.runs (λ k run. IsFirstLive (take k l.runs) run.grain run.stopped) l.place
