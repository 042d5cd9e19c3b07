use Rattle.std.proofs.Common.{◌≡◌, ◌<◌, count_by, length, ap, ◌∙◌, arith}
use Rattle.std.proofs.lemmas.List.Sums.{count_by-le-length}
use Rattle.row_index.specs.Marks.{has_mark, marked}
use Rattle.row_index.proofs.Marking.{marked_all}
use Rattle.row_index.proofs.index.Index.count_of.Goals as goal

pub overflow_add-result : goal.overflow_add-result
overflow_add-result g c =
    let all = marked_all g.T.Keyed.mark_of c.args.mark 0 c.args.self.now.covered c.args.rows.now in
    let its : length c.of.result.now ≡ length (marked g.T.Keyed.mark_of c.args.mark 0 c.args.self.now.covered c.args.rows.now) = ap (λ xs. length xs) (c.of.ensures ∙ c.requires.marked.places c.args.mark) in
    let others = c.counted_of.ensures ∙ ap (λ xs. count_by (λ row. has_mark c.args.mark (g.T.Keyed.mark_of row)) xs) c.split_at.ensures.back in
    let le = count_by-le-length (λ row. has_mark c.args.mark (g.T.Keyed.mark_of row)) c.args.rows.now in
    let fits : length c.args.rows.now < 18446744073709551616 = c.well_formed.1.0.0 in
    omega (arith, all, its, others, le, fits)

pub returns : goal.returns
returns g c =
    let all = marked_all g.T.Keyed.mark_of c.args.mark 0 c.args.self.now.covered c.args.rows.now in
    let its : length c.of.result.now ≡ length (marked g.T.Keyed.mark_of c.args.mark 0 c.args.self.now.covered c.args.rows.now) = ap (λ xs. length xs) (c.of.ensures ∙ c.requires.marked.places c.args.mark) in
    let others = c.counted_of.ensures ∙ ap (λ xs. count_by (λ row. has_mark c.args.mark (g.T.Keyed.mark_of row)) xs) c.split_at.ensures.back in
    omega (arith, all, its, others)
