-- The bound of each grant, summed, in the numbers of grants and of needs.
use Rattle.std.proofs.Common.{◌+◌, ◌≤◌, ◌∷◌, [], List, Option, Some, None, length, arith}
use Rattle.std.proofs.lemmas.List.Sums.{sum_by-cons}
use Rattle.host_base.specs.declared.ids.GrantId.{GrantId}
use Rattle.share_graph.specs.declared.grants.Grant.{Grant}
use Rattle.share_graph.specs.declared.state.Tables.{Tables}
use Rattle.share_graph.specs.Rows.{row}
use Rattle.region_work.specs.Starting.{bound_of_row, bound_of, bound_by, needs_of_row, needs_of, needs_by, most_evaluations}

row_in_words : (o : Option Grant) → bound_of_row o ≤ 66 + needs_of_row o
row_in_words (Some grant) = omega arith
row_in_words None = omega arith

grant_in_words : (t : Tables) (g : GrantId) → bound_of t g ≤ 66 + needs_of t g
unfolding bound_of needs_of
grant_in_words t g = row_in_words (row t.grants g.0)

pub bound_in_words : (t : Tables) (gs : List GrantId) → bound_by t gs ≤ most_evaluations (length gs) (needs_by t gs)
bound_in_words t [] = omega arith
bound_in_words t (g ∷ gs) =
    let bounds = sum_by-cons (bound_of t) g gs in
    let needs = sum_by-cons (needs_of t) g gs in
    let here = grant_in_words t g in
    let rest = bound_in_words t gs in
    omega arith
