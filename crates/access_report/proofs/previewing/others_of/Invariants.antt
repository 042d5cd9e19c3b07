use Rattle.std.proofs.Common.{◌≢◌, ◌↔◌, Contains, take}
use Rattle.host_base.specs.declared.ids.GrantId.{GrantId}
use Rattle.access_report.proofs.previewing.others_of.Given as goal

abbrev pub invariant-loop-other : goal.invariant-loop-other
invariant-loop-other l = (g : GrantId) → Contains l.others.items g ↔ (Contains (take l.other-index l.grants) g × (g ≢ l.fn.num))
