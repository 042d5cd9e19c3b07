use Rattle.std.proofs.Common.{◌≡◌, Some, inl, inr, length, refl, slice_get, subst, sym}
use Rattle.std.proofs.lemmas.Option.{slice_get_read}
use Rattle.std.proofs.lemmas.Result.{on_ok_weaker}
use Rattle.row_index.specs.Index.{HasClue}
use Rattle.row_index.proofs.index.note_row.Goals as goal

pub returns-clause-noted : goal.returns-clause-noted
returns-clause-noted g c = on_ok_weaker c.note-3.result (λ third. λ row k there has.
    let read : slice_get c.args.rows.now c.args.place ≡ Some c.index-rows-place.result =
    slice_get_read c.args.rows.now (length c.args.rows.now) c.args.place c.index-rows-place.result refl c.requires c.index-rows-place.is in
    let same : row ≡ c.index-rows-place.result = cc in
    let its : HasClue c.clues-clues.result k = subst (λ x. HasClue x k) (sym c.clues-clues.ensures) (subst (λ x. HasClue (g.T.Keyed.clues_of x) k) same has) in
    elim its [
      | inl first ↦ c.note-3.ensures.stays c.args.place row k there has (c.in_ok-note-2.ensures.stays c.args.place row k there has (c.in_ok-note.ensures.noted k first))
      | inr others ↦ elim others [
        | inl second ↦ c.note-3.ensures.stays c.args.place row k there has (c.in_ok-note-2.ensures.noted k second)
        | inr last ↦ third k last
      ]
    ]) c.note-3.ensures.noted
