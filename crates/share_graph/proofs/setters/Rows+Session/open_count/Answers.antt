use Rattle.std.proofs.Common.{count_by, ◌∙◌}
use Rattle.share_graph.proofs.OpenMarks.{is_open}
use Rattle.share_graph.proofs.setters.Rows+Session.open_count.Goals as goal

pub returns : goal.returns
returns c = c.marked.ensures ∙ (λ i. count_by (λ session. is_open session i) c.args.self.now)
