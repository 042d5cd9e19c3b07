-- What is left of rows when those of a list without a clue are passed over.
use Rattle.std.proofs.Common.{◌≡◌, ◌<◌, ◌≤◌, ℕ, zero, suc, List, [], ◌∷◌, Option, Some, None, nat_eq, length, take, drop, slice_get, slice_index_or, refl, sym, subst, arith}
use Rattle.std.proofs.lemmas.Option.{slice_get_read}
use Rattle.std.specs.HashMap.{get}
use Rattle.row_index.specs.declared.clues.Clues.{Clues}
use Rattle.row_index.specs.declared.index.Index.{Index}
use Rattle.row_index.specs.declared.index.Slot.{Slot}
use Rattle.row_index.specs.declared.index.Slot.TheVariants.{Only, From}
use Rattle.row_index.specs.Index.{HasClue, IsFoundAt, IsIndexOf, IsNoted}
use Rattle.row_index.specs.Narrow.{Narrows, done, kept, passed}

module _ {X : Type 0} (clues_of : X → Clues) (c : ℕ) where
  pub all_kept : (rows : List X) → Narrows clues_of c rows rows
  all_kept [] = done
  all_kept (row ∷ rows) = kept (all_kept rows)

  -- none of the first so many has the clue
  pub none_kept : (rows : List X) (covered : ℕ) → ((place : ℕ) (row : X) → place < covered → slice_get rows place ≡ Some row → HasClue (clues_of row) c → ⊥)
      → Narrows clues_of c rows (drop covered rows)
  none_kept rows zero none = all_kept rows
  none_kept [] (suc n) none = done
  none_kept (row ∷ rows) (suc n) none = passed (none zero row (omega arith) refl) (none_kept rows n (λ place other below there. none (suc place) other (omega (arith, below)) there))

  -- at the most the row of one place of them has it
  pub one_kept : (rows : List X) (covered at : ℕ) (row : X) → at < covered → slice_get rows at ≡ Some row
      → ((place : ℕ) (other : X) → place < covered → slice_get rows place ≡ Some other → HasClue (clues_of other) c → place ≡ at)
      → Narrows clues_of c rows (row ∷ drop covered rows)
  one_kept rows zero at row below there only = absurd (omega (arith, below))
  one_kept [] (suc n) at row below there only = cc
  one_kept (first ∷ rows) (suc n) zero row below there only =
      let same : first ≡ row = cc in
      subst (λ x. Narrows clues_of c (first ∷ rows) (x ∷ drop n rows)) same
      (kept (none_kept rows n (λ place other less at_place has. absurd (omega (arith, only (suc place) other (omega (arith, less)) at_place has)))))
  one_kept (first ∷ rows) (suc n) (suc at) row below there only =
      passed (λ has. absurd (omega (arith, only zero first (omega arith) refl has)))
      (one_kept rows n at row (omega (arith, below)) there (λ place other less at_place has. omega (arith, only (suc place) other (omega (arith, less)) at_place has)))

-- what stands among the first rows stands among all
get_among : {X : Type 0} (count : ℕ) (rows : List X) (place : ℕ) (row : X) → slice_get (take count rows) place ≡ Some row → slice_get rows place ≡ Some row
get_among zero rows place row there = cc
get_among (suc n) [] place row there = cc
get_among (suc n) (x ∷ rows) zero row there = there
get_among (suc n) (x ∷ rows) (suc place) row there = get_among n rows place row there

module _ {X : Type 0} (clues_of : X → Clues) (mark_of : X → Option ℕ) (rows before rest : List X) (index : Index) (count covered c : ℕ) (is : IsIndexOf clues_of rows mark_of index)
    (front : before ≡ take count rows) (fewer : covered ≤ index.covered) (within : covered ≤ length before) (back : rest ≡ drop covered before) where
  noted_before : (place : ℕ) (row : X) → place < covered → slice_get before place ≡ Some row → HasClue (clues_of row) c → IsNoted index.slots place c
  noted_before place row below there has = is.noted place row c (omega (arith, below, fewer)) (get_among count rows place row (subst (λ xs. slice_get xs place ≡ Some row) front there)) has

  none_left : ((place : ℕ) (row : X) → place < covered → slice_get before place ≡ Some row → HasClue (clues_of row) c → ⊥) → Narrows clues_of c before rest
  none_left none = subst (Narrows clues_of c before) (sym back) (none_kept clues_of c before covered none)

  found_at : (place : ℕ) (slot : Slot) → get nat_eq index.slots c ≡ Some slot → IsNoted index.slots place c → IsFoundAt slot place
  found_at place slot found noted =
      let there = noted.there in
      let same : noted.slot ≡ slot = cc in
      subst (λ s. IsFoundAt s place) same noted.found

  pub none_found : get nat_eq index.slots c ≡ None → Narrows clues_of c before rest
  none_found none = none_left (λ place row below there has. let odd = (noted_before place row below there has).there in cc)

  pub found_behind : (at : ℕ) → get nat_eq index.slots c ≡ Some (Only at) → covered ≤ at → Narrows clues_of c before rest
  found_behind at found above = none_left (λ place row below there has.
      let same : at ≡ place = found_at place (Only at) found (noted_before place row below there has) in absurd (omega (arith, below, above, same)))

  pub one_found : (at : ℕ) (row : X) → get nat_eq index.slots c ≡ Some (Only at) → at < covered → row ≡ slice_index_or before at row
      → Narrows clues_of c before (row ∷ rest)
  one_found at row found below read =
      let there : slice_get before at ≡ Some row = slice_get_read before (length before) at row refl (omega (arith, below, within)) read in
      subst (λ xs. Narrows clues_of c before (row ∷ xs)) (sym back) (one_kept clues_of c before covered at row below there (λ place other less at_place has.
      sym (found_at place (Only at) found (noted_before place other less at_place has))))

  pub found_from : (first from : ℕ) → get nat_eq index.slots c ≡ Some (From first) → from ≤ covered → from ≤ first → Narrows clues_of c before (drop from before)
  found_from first from found among earlier = none_kept clues_of c before from (λ place row below there has.
      let later : first ≤ place = found_at place (From first) found (noted_before place row (omega (arith, below, among)) there has) in
      absurd (omega (arith, below, earlier, later)))
