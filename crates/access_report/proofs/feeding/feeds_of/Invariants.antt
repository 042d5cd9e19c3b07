use Rattle.std.proofs.Common.{take}
use Rattle.region_work.specs.Fed.{fed_in}
use Rattle.access_report.specs.Waiting.{IsFeedOf}
use Rattle.access_report.proofs.feeding.feeds_of.Given as goal

abbrev pub invariant-loop-num : goal.invariant-loop-num
invariant-loop-num l = IsFeedOf l.tables (take l.num-index l.grants) (fed_in l.fed.entries)
