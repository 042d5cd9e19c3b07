use Rattle.std.proofs.Common.{sym, ◌∙◌}
use Rattle.bridge_headers.proofs.HeadLemmas.{run_next}
use Rattle.bridge_headers.proofs.head.run_end.Goals as goal

pub loop-i-preserved : goal.loop-i-preserved
loop-i-preserved c = run_next c.args.bytes.now c.loop-i.i c.loop-i-test.true c.loop-i.invariant (sym c.starts_with.ensures.value ∙ c.if-starts_with.false)
