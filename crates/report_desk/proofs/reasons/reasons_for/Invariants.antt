use Rattle.std.proofs.Common.{take}
use Rattle.std.specs.List.{AllZip}
use Rattle.report_desk.specs.Reasons.{IsReason}
use Rattle.report_desk.proofs.reasons.reasons_for.Given as goal

abbrev pub invariant-loop-fact : goal.invariant-loop-fact
invariant-loop-fact l = AllZip (IsReason l.tables l.fn.grain l.fn.account) (take l.fact-index l.facts) l.reasons.items
