use Rattle.std.specs.List.{AllWithin}
use Rattle.share_graph.specs.Derivation.{IsMetBy}
use Rattle.access_report.specs.Steps.{Cites}
use Rattle.access_report.proofs.needs.are_met.Given as goal

abbrev pub invariant-loop-need : goal.invariant-loop-need
invariant-loop-need l = AllWithin (IsMetBy l.tables (Cites l.steps l.before l.from)) l.needs 0 l.need-index
