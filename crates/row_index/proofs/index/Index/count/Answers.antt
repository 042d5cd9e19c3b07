use Rattle.std.proofs.Common.{◌≡◌, ◌<◌, count_by, is_some, length, ap, ◌∙◌, arith}
use Rattle.std.proofs.lemmas.List.Sums.{count_by-le-length}
use Rattle.row_index.specs.Marks.{counted}
use Rattle.row_index.proofs.Marking.{counted_all}
use Rattle.row_index.proofs.index.Index.count.Goals as goal

pub overflow_add-result : goal.overflow_add-result
overflow_add-result g c =
    let all = counted_all g.T.Keyed.mark_of c.args.self.now.covered c.args.rows.now in
    let its : c.count.result ≡ counted g.T.Keyed.mark_of c.args.self.now.covered c.args.rows.now = c.count.ensures ∙ c.requires.marked.count in
    let others = c.counted.ensures ∙ ap (λ xs. count_by (λ row. is_some (g.T.Keyed.mark_of row)) xs) c.split_at.ensures.back in
    let le = count_by-le-length (λ row. is_some (g.T.Keyed.mark_of row)) c.args.rows.now in
    let fits : length c.args.rows.now < 18446744073709551616 = c.well_formed.1.0.0 in
    omega (arith, all, its, others, le, fits)

pub returns : goal.returns
returns g c =
    let all = counted_all g.T.Keyed.mark_of c.args.self.now.covered c.args.rows.now in
    let its : c.count.result ≡ counted g.T.Keyed.mark_of c.args.self.now.covered c.args.rows.now = c.count.ensures ∙ c.requires.marked.count in
    let others = c.counted.ensures ∙ ap (λ xs. count_by (λ row. is_some (g.T.Keyed.mark_of row)) xs) c.split_at.ensures.back in
    omega (arith, all, its, others)
