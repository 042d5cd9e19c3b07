use Rattle.std.proofs.Common.{List, Contains}
use Rattle.host_base.specs.declared.ids.GrantId.{GrantId}
use Rattle.region_work.specs.Fed.{fed_in}
use Rattle.access_report.specs.Telling.{IsTold}
use Rattle.access_report.specs.Turns.{HasMore, HasPlace, IsClosedBut, turns_left}
use Rattle.access_report.specs.Waiting.{IsFeedOf}
use Rattle.access_report.proofs.spreading.tell_until.Given as goal

abbrev pub invariant-turns : goal.invariant-turns
invariant-turns l = record {
  told : IsTold l.tables l.work.trace l.work.table.entries;
  more : HasMore l.initial.work.table.entries l.work.table.entries;
  waits : (g : GrantId) → Contains l.work.queue g → HasPlace l.tables l.initial.work.table.entries g;
  closed : (grants : List GrantId) → IsFeedOf l.tables grants (fed_in l.fed.entries) → IsClosedBut l.tables grants l.initial.work.queue l.initial.work.table.entries
      → IsClosedBut l.tables grants l.work.queue l.work.table.entries;
}

abbrev pub decreases-turns : goal.decreases-turns
decreases-turns l = turns_left l.fed.entries l.work.table.entries l.work.queue
