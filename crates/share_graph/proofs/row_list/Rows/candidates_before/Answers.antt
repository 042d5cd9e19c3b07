use Rattle.std.proofs.Common.{take, subst, sym, ap, ◌∙◌}
use Rattle.row_index.specs.Narrow.{Narrows, seen}
use Rattle.share_graph.proofs.Narrowing.{take_within}
use Rattle.share_graph.proofs.row_list.Rows.candidates_before.Goals as goal

pub returns : goal.returns
returns g c = subst (λ rows. Narrows g.T.Keyed.clues_of c.args.clue rows (seen c.candidates.result))
    (ap (λ k. take k c.as_slice.result.now) c.min-place.ensures
    ∙ take_within c.args.place c.len.result c.as_slice.result.now (c.len.ensures ∙ sym c.as_slice.ensures.len)
    ∙ ap (λ rows. take c.args.place rows) (c.as_slice.ensures.value ∙ c.self.view_is))
    c.candidates.ensures
