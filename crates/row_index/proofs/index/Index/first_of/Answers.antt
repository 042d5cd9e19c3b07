use Rattle.std.proofs.Common.{length, refl, sym, ◌∙◌}
use Rattle.std.proofs.lemmas.Option.{slice_get_read}
use Rattle.row_index.proofs.Marking.{found_first, found_none, none_next}
use Rattle.row_index.proofs.index.Index.first_of.Goals as goal

pub returns-in-Some : goal.returns-in-Some
returns-in-Some g c = found_first g.T.Keyed.mark_of c.args.mark c.args.self.now.covered c.args.rows.now _ c.in-Some.place (sym c.first.ensures ∙ c.in-Some.is) (c.requires.marked.places c.args.mark)

pub loop-place-init : goal.loop-place-init
loop-place-init g c = found_none g.T.Keyed.mark_of c.args.mark c.args.self.now.covered c.args.rows.now _ (sym c.in_default.is ∙ c.first.ensures) (c.requires.marked.places c.args.mark)

pub returns-then-is_of : goal.returns-then-is_of
returns-then-is_of g c = record {
  row = c.index-rows-place.result;
  there = slice_get_read c.args.rows.now (length c.args.rows.now) c.loop-place.place c.index-rows-place.result refl c.loop-place-test.true c.index-rows-place.is;
  has = sym c.if-is_of.ensures;
  before = c.loop-place.invariant;
}

pub loop-place-preserved : goal.loop-place-preserved
loop-place-preserved g c = none_next g.T.Keyed.mark_of c.args.mark c.args.rows.now c.loop-place.place c.index-rows-place.result c.loop-place.invariant (slice_get_read c.args.rows.now (length c.args.rows.now) c.loop-place.place c.index-rows-place.result refl c.loop-place-test.true c.index-rows-place.is) (sym c.if-is_of.ensures)
