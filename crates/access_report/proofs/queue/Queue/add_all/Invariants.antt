use Rattle.std.proofs.Common.{take}
use Rattle.access_report.specs.Waiting.{AreQueued}
use Rattle.access_report.proofs.queue.Queue.add_all.Given as goal

abbrev pub invariant-loop-num : goal.invariant-loop-num
invariant-loop-num l = AreQueued (take l.num-index l.nums) l.initial.self l.self
