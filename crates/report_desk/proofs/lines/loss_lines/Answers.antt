use Rattle.std.proofs.Common.{List, Contains, subst}
use Rattle.share_graph.proofs.Coherence.{coherent}
use Rattle.access_report.specs.declared.loss.Loss.{Loss}
use Rattle.report_desk.proofs.Holding.{holds_there}
use Rattle.report_desk.proofs.lines.loss_lines.Goals as goal

pub preview-requires-clause-coherent : goal.preview-requires-clause-coherent
preview-requires-clause-coherent c = coherent c.args.tables.now c.requires.checked

pub losses_lines-requires-clause-coherent : goal.losses_lines-requires-clause-coherent
losses_lines-requires-clause-coherent c = coherent c.args.tables.now c.requires.checked

pub losses_lines-requires-clause-there : goal.losses_lines-requires-clause-there
losses_lines-requires-clause-there c loss listed =
    let (fact, (holds, never)) = (c.in_ok-losses.ensures.each loss (subst (λ (xs : List Loss). Contains xs loss) c.as_slice.ensures.value listed)).something in
    (holds_there c.args.tables.now (coherent c.args.tables.now c.requires.checked) holds).0
