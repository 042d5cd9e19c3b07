use Rattle.std.proofs.Common.{length, subst, ◌∙◌}
use Rattle.row_index.specs.Marks.{NoneHasMark, IsFirstMarked}
use Rattle.share_graph.specs.Clues.{session_mark}
use Rattle.share_graph.proofs.OpenMarks.{first_is_open, none_is_open}
use Rattle.share_graph.proofs.ClosedFirst.{closes_first, closes_none}
use Rattle.share_graph.proofs.setters.Rows+Session.close_first.Goals as goal

pub returns-in-Some : goal.returns-in-Some
returns-in-Some c = c.close_at.ensures ∙ closes_first c.args.root c.args.self.now c.in-Some.place
    (first_is_open c.args.root c.args.self.now c.in-Some.place (subst (λ m. IsFirstMarked session_mark m c.args.self.now c.in-Some.place) c.root_mark.ensures c.in-Some.ensures))

pub returns-in_default : goal.returns-in_default
returns-in_default c = closes_none c.args.root c.args.self.now
    (none_is_open c.args.root c.args.self.now (subst (λ m. NoneHasMark session_mark m c.args.self.now (length c.args.self.now)) c.root_mark.ensures c.in_default.ensures))
