use Rattle.std.proofs.Common.{take}
use Rattle.collections.proofs.Planned.{AreLeft}
use Rattle.collections.proofs.planning.plan_of.Given as goal

abbrev pub invariant-loop-member : goal.invariant-loop-member
invariant-loop-member l = AreLeft l.tables l.collection l.link.num l.link l.curator (take l.member-index l.members) l.plan.items
