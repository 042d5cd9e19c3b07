use Rattle.std.proofs.Common.{map}
use Rattle.std.proofs.lemmas.Result.{err_from_is_err_and}
use Rattle.powerbox_match.specs.Value.{tag_data, field_data}
use Rattle.row_codec.specs.ValueFormat.{value, entry}
use Rattle.row_formats.proofs.Loop.{reads_on, ends, is_done}
use Rattle.row_codec.proofs.values.+value.Goals as goal

pub fields_of-returns-in_err-field : goal.fields_of-returns-in_err-field
fields_of-returns-in_err-field t c =
    let p = err_from_is_err_and c.from_residual-in_err-field.result c.from_residual-in_err-field.ensures.1 in
    let h = rw c.deref.ensures.value at c.in_err-field.ensures in
    rw (p.1, p.2) (ends c.in_err-field.field-0.0 (λ last. (entry (value c.args.depth) last).read) (map field_data c.loop.fields.items) c.in_ok-count.count c.loop.counter c.loop.reader _ c.loop-test.true h c.loop.invariant)

pub fields_of-loop-preserved : goal.fields_of-loop-preserved
fields_of-loop-preserved t c =
    let h = rw c.deref.ensures.value at c.in_ok-field.ensures in
    reads_on field_data (λ last. (entry (value c.args.depth) last).read) c.loop.fields.items c.push.new.self.items c.in_ok-field.field c.in_ok-count.count c.loop.counter c.loop.reader c.field_of.new.reader _ c.loop-test.true c.in_ok-push.ensures.items h c.loop.invariant

pub fields_of-returns : goal.fields_of-returns
fields_of-returns t c = is_done (λ last. (entry (value c.args.depth) last).read) (map field_data c.loop.fields.items) c.in_ok-count.count c.loop.counter c.loop.reader _ c.loop-test.false c.loop.invariant

pub items_of-returns-in_err-item : goal.items_of-returns-in_err-item
items_of-returns-in_err-item t c =
    let p = err_from_is_err_and c.from_residual-in_err-item.result c.from_residual-in_err-item.ensures.1 in
    rw (p.1, p.2) (ends c.in_err-item.field-0.0 (λ last. (value c.args.depth).read) (map tag_data c.loop.items.items) c.in_ok-count.count c.loop.counter c.loop.reader _ c.loop-test.true c.in_err-item.ensures c.loop.invariant)

pub items_of-loop-preserved : goal.items_of-loop-preserved
items_of-loop-preserved t c =
    reads_on tag_data (λ last. (value c.args.depth).read) c.loop.items.items c.push.new.self.items c.in_ok-item.item c.in_ok-count.count c.loop.counter c.loop.reader c.value_of.new.reader _ c.loop-test.true c.in_ok-push.ensures.items c.in_ok-item.ensures c.loop.invariant

pub items_of-returns : goal.items_of-returns
items_of-returns t c = is_done (λ last. (value c.args.depth).read) (map tag_data c.loop.items.items) c.in_ok-count.count c.loop.counter c.loop.reader _ c.loop-test.false c.loop.invariant
