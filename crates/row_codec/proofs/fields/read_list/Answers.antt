use Rattle.std.proofs.lemmas.Result.{err_from_is_err_and}
use Rattle.row_formats.proofs.Loop.{goes_on, ends, is_done}
use Rattle.row_codec.proofs.fields.read_list.Goals as goal

pub returns-in_err-item : goal.returns-in_err-item
returns-in_err-item g c =
    let p = err_from_is_err_and c.from_residual-in_err-item.result c.from_residual-in_err-item.ensures.1 in
    rw (p.1, p.2) (ends c.in_err-item.field-0.0 (λ last. g.T.RowField.format.read) c.loop.items c.in_ok-count.count c.loop.counter c.loop.reader _ c.loop-test.true c.in_err-item.ensures c.loop.invariant)

pub loop-preserved : goal.loop-preserved
loop-preserved g c =
    rw c.in_ok-push.ensures.ok (goes_on (λ last. g.T.RowField.format.read) c.loop.items c.in_ok-count.count c.loop.counter c.loop.reader c.in_ok-item.item c.read_field.new.reader _ c.loop-test.true c.in_ok-item.ensures c.loop.invariant)

pub returns : goal.returns
returns g c = is_done (λ last. g.T.RowField.format.read) c.loop.items c.in_ok-count.count c.loop.counter c.loop.reader _ c.loop-test.false c.loop.invariant
