use Rattle.std.proofs.Common.{List, Contains, subst}
use Rattle.share_graph.proofs.Coherence.{coherent}
use Rattle.access_report.specs.declared.entry.Entry.{Entry}
use Rattle.report_desk.proofs.Holding.{holds_there}
use Rattle.report_desk.proofs.lines.access_lines.Goals as goal

pub who-requires-clause-coherent : goal.who-requires-clause-coherent
who-requires-clause-coherent c = coherent c.args.tables.now c.requires.checked

pub entry_lines-requires-clause-coherent : goal.entry_lines-requires-clause-coherent
entry_lines-requires-clause-coherent c = coherent c.args.tables.now c.requires.checked

pub entry_lines-requires-clause-there : goal.entry_lines-requires-clause-there
entry_lines-requires-clause-there c entry listed =
    let is = c.in_ok-entries.ensures.each entry (subst (λ (xs : List Entry). Contains xs entry) c.as_slice.ensures.value listed) in
    (holds_there c.args.tables.now (coherent c.args.tables.now c.requires.checked) is.enters).0
