use Rattle.std.proofs.Common.{take}
use Rattle.access_report.specs.Telling.{IsTold}
use Rattle.access_report.specs.Turns.{AreBegun}
use Rattle.access_report.proofs.spreading.begin.Given as goal

abbrev pub invariant-loop-node : goal.invariant-loop-node
invariant-loop-node l = record {
  told : IsTold l.tables l.work.trace l.work.table.entries;
  begun : AreBegun l.tables l.fed.entries (take l.node-index l.nodes) l.initial.work.table.entries l.initial.work.queue l.work.table.entries l.work.queue;
}
