use Rattle.std.proofs.Common.{Contains}
use Rattle.host_base.specs.declared.ids.GrantId.{GrantId}
use Rattle.access_report.specs.Lifting.{HoldAll}
use Rattle.access_report.specs.Turns.{HasMore, IsClosedBut, turns_left}
use Rattle.access_report.proofs.lifting.settle.Given as goal

abbrev pub invariant-turns : goal.invariant-turns
invariant-turns l = record {
  more : HasMore l.initial.table.entries l.table.entries;
  closed : IsClosedBut l.tables l.grants l.queue l.table.entries;
  listed : (g : GrantId) → Contains l.queue g → Contains l.grants g;
  without : (g : GrantId) → (Contains l.grants g → ⊥) → HoldAll l.tables g l.initial.table.entries → HoldAll l.tables g l.table.entries;
}

abbrev pub decreases-turns : goal.decreases-turns
decreases-turns l = turns_left l.fed.entries l.table.entries l.queue
