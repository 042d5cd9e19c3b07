use Rattle.std.proofs.Common.{◌≡◌, Some, inl, inr, slice_get, arith, subst, sym}
use Rattle.std.proofs.lemmas.Bool.{cases_lt}
use Rattle.std.proofs.lemmas.Result.{on_ok_weaker}
use Rattle.row_index.specs.Index.{IsNoted}
use Rattle.row_index.proofs.index.Index.learn.Goals as goal

pub returns-clause-index : goal.returns-clause-index
returns-clause-index g c = on_ok_weaker c.note_row.result (λ its. record {
  within = c.requires.others.within;
  noted = λ place row k below there has. elim (cases_lt place c.args.place) [
    | inl before ↦ c.note_row.ensures.stays place row k there has (c.requires.others.noted place row k below (λ same. omega (arith, same, before)) there has)
    | inr from ↦ elim (cases_lt c.args.place place) [
      | inl behind ↦ c.note_row.ensures.stays place row k there has (c.requires.others.noted place row k below (λ same. omega (arith, same, behind)) there has)
      | inr to ↦
          let same : place ≡ c.args.place = omega (arith, from, to) in
          subst (λ n. IsNoted c.note_row.new.slots n k) (sym same) (its row k (subst (λ n. slice_get c.args.rows.now n ≡ Some row) same there) has)
    ]
  ];
  marked = c.requires.others.marked;
}) c.note_row.ensures.noted
