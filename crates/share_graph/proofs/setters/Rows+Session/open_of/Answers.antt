use Rattle.std.proofs.Common.{count_by, ap, ◌∙◌}
use Rattle.row_index.specs.Marks.{has_mark}
use Rattle.share_graph.specs.Clues.{session_mark}
use Rattle.share_graph.proofs.OpenMarks.{is_marked}
use Rattle.share_graph.proofs.setters.Rows+Session.open_of.Goals as goal

pub returns : goal.returns
returns c = c.marked_as.ensures ∙ ap (λ m. count_by (λ session. has_mark m (session_mark session)) c.args.self.now) c.root_mark.ensures
    ∙ (λ i. count_by (λ session. is_marked c.args.root session i) c.args.self.now)
