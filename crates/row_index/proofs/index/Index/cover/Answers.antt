use Rattle.std.proofs.Common.{◌≡◌, ◌<◌, Some, inl, inr, length, slice_get, arith, refl, subst, sym, add-one}
use Rattle.std.proofs.lemmas.Bool.{cases_lt}
use Rattle.std.proofs.lemmas.Option.{slice_get_read}
use Rattle.row_index.specs.Index.{IsNoted}
use Rattle.row_index.specs.Marks.{AreMarksOf}
use Rattle.row_index.proofs.Marking.{counted_within, noted_by}
use Rattle.row_index.proofs.index.Index.cover.Goals as goal

pub note-requires : goal.note-requires
note-requires g c =
    let count = c.loop-self.invariant.0.marked.count in
    let within = counted_within g.T.Keyed.mark_of c.loop-self.self.covered c.args.rows.now in
    let more = c.loop-self-test.true in
    let fits : length c.args.rows.now < 18446744073709551616 = c.well_formed.1.0.0 in
    omega (arith, count, within, more, fits)

pub loop-self-preserved : goal.loop-self-preserved
loop-self-preserved g c =
    let there : slice_get c.args.rows.now c.loop-self.self.covered ≡ Some c.index-rows-self.result = slice_get_read c.args.rows.now (length c.args.rows.now) c.loop-self.self.covered c.index-rows-self.result refl c.loop-self-test.true c.index-rows-self.is in (
      record {
        within = omega (arith, c.loop-self-test.true);
        noted = λ place row k below at has. elim (cases_lt place c.loop-self.self.covered) [
          | inl before ↦ c.in_ok-note_row.ensures.stays place row k at has (c.loop-self.invariant.0.noted place row k before at has)
          | inr behind ↦
              let same : place ≡ c.loop-self.self.covered = omega (arith, below, behind) in
              subst (λ n. IsNoted c.note_row.new.slots n k) (sym same) (c.in_ok-note_row.ensures.noted row k (subst (λ n. slice_get c.args.rows.now n ≡ Some row) same at) has)
        ];
        marked = subst (λ n. AreMarksOf g.T.Keyed.mark_of c.args.rows.now n c.note.new.self) (sym (add-one c.loop-self.self.covered))
            (noted_by g.T.Keyed.mark_of c.args.rows.now c.loop-self.self.covered c.loop-self.self.marks c.note.new.self c.index-rows-self.result c.loop-self.invariant.0.marked there c.mark.result (sym c.mark.ensures) c.in_ok-note.ensures.ok);
      },
      omega (arith, c.loop-self.invariant.1),
    )
