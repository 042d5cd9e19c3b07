use Rattle.std.proofs.Common.{◌<◌, length, refl, sym, ◌∙◌, subst}
use Rattle.share_graph.specs.Clues.{session_clues, session_mark, no_link}
use Rattle.share_graph.specs.Setting.{closed}
use Rattle.share_graph.proofs.ChangedRow.{set_changes}
use Rattle.share_graph.proofs.Keeping.{rows_lose}
use Rattle.share_graph.proofs.setters.Rows+Session.close_at.Goals as goal

pub invariant_of-self : goal.invariant_of-self
invariant_of-self c = rows_lose session_clues session_mark (λ row. no_link) closed c.self.inside.items c.self.inside.index c.self.inside.ways c.args.place c.index.result.now (λ n has. has) refl c.lose.new.self c.in-Some.mark
    (sym c.mark.ensures ∙ c.in-Some.is) refl c.lose.ensures.slots c.lose.ensures.covered c.lose.ensures.marks (subst (λ xs. c.args.place < length xs) (sym c.self.view_is) c.requires) c.index.ensures c.self.invariant

pub returns-in-Some : goal.returns-in-Some
returns-in-Some c = rw (← c.self.view_is) (set_changes closed _ _ c.index.result.now c.index.ensures)

pub returns-in_default : goal.returns-in_default
returns-in_default c = rw (← c.self.view_is) (set_changes closed _ _ c.index.result.now c.index.ensures)
