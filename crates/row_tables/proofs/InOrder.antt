-- The rows of tables stand in order.
use Rattle.std.proofs.Common.{ℕ, suc, ◌<◌, List, [], ◌∷◌, ◌++◌, append-nil, subst, arith}
use Rattle.std.specs.Prelude.{All, IsTrue}
use Rattle.std.proofs.lemmas.List.Elements.{All-nil, All-cons, All-append, All-weaker}
use Rattle.share_graph.specs.declared.state.Tables.{Tables}
use Rattle.cloud_keeper.specs.declared.row.Row.{Row}
use Rattle.cloud_keeper.specs.Keeping.{is_before, InOrder}
use Rattle.row_formats.specs.Format.{Format}
use Rattle.row_codec.specs.Rows.{account, grain, saved}
use Rattle.row_codec.specs.AppRow.{app}
use Rattle.row_codec.specs.GrantRow.{grant}
use Rattle.row_tables.specs.Sections.{stored, section_rows}
use Rattle.row_tables.specs.TablesRows.{rows_of}
use Rattle.row_tables.proofs.Putting.{AreAbove, kind_first, num_first}
use Rattle.row_tables.proofs.AfterRows.{apps_above, grains_above, grants_above, saved_above}

-- the rows of a kind that are numbered from a larger number on stand behind a row of it
later_numbers : {A : Type 0} (kind : ℕ) (format : ℕ → Format A) (m : ℕ) (y : A) (n : ℕ) (xs : List A) → m < n → All (λ (later : Row). IsTrue (is_before (stored kind format m y) later)) (section_rows kind format n xs)
later_numbers kind format m y n [] lt = All-nil (λ (later : Row). IsTrue (is_before (stored kind format m y) later))
later_numbers kind format m y n (x ∷ xs) lt =
    All-cons (λ (later : Row). IsTrue (is_before (stored kind format m y) later)) (stored kind format n x) (section_rows kind format (suc n) xs) (num_first kind m n lt) (later_numbers kind format m y (suc n) xs (omega arith))

-- the rows of a kind, and rows of larger kinds that stand in order
section_in_order : {A : Type 0} (kind : ℕ) (format : ℕ → Format A) (n : ℕ) (xs : List A) (high : List Row) → AreAbove kind high → InOrder high → InOrder (section_rows kind format n xs ++ high)
section_in_order kind format n [] high above h = h
section_in_order kind format n (x ∷ xs) high above h =
    let first : Row = stored kind format n x in
    let others : All (λ (later : Row). IsTrue (is_before first later)) high = All-weaker (λ (later : Row). kind < later.kind) (λ (later : Row). IsTrue (is_before first later)) (λ later lt. kind_first first later lt) high above in (
      All-append (λ (later : Row). IsTrue (is_before first later)) (section_rows kind format (suc n) xs) high (later_numbers kind format n x (suc n) xs (omega arith)) others,
      section_in_order kind format (suc n) xs high above h,
    )

pub rows_in_order : (t : Tables) → InOrder (rows_of t)
rows_in_order t =
    let last : InOrder (section_rows 5 saved 1 t.saved) =
    subst (λ (rows : List Row). InOrder rows) (append-nil (section_rows 5 saved 1 t.saved)) (section_in_order 5 saved 1 t.saved [] (All-nil (λ (other : Row). 5 < other.kind)) tt) in
    section_in_order 1 account 1 t.accounts _ (apps_above 1 t (omega arith))
    (section_in_order 2 app 1 t.apps _ (grains_above 2 t (omega arith))
    (section_in_order 3 grain 1 t.grains _ (grants_above 3 t (omega arith))
    (section_in_order 4 grant 1 t.grants _ (saved_above 4 t (omega arith)) last)))
