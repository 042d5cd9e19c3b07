-- Walks over rows, in order.
use Rattle.std.proofs.Common.{◌≡◌, ◌<◌, ℕ, List, Some, length, slice_get, slice_index_or, refl, subst}
use Rattle.std.proofs.lemmas.Option.{slice_get_read}

-- the row that a walk is at
pub at_place : {X : Type 0} (rows items : List X) (i : ℕ) (row : X) → items ≡ rows → i < length items → row ≡ slice_index_or items i row → slice_get rows i ≡ Some row
at_place rows items i row same within is = subst (λ (xs : List _). slice_get xs i ≡ Some row) same (slice_get_read items (length items) i row refl within is)
