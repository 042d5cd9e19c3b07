-- What `check` does.
use Rattle.std.specs.Prelude.{◌≡◌, ℕ, ◌⊎◌, List, Ok, length}
use Rattle.admin_run.specs.Terms.{AreOfKeeper, BadRow, IsBadRow, IsChecked, Keeping, Outlet, Rose, Row, RowsFollow, Tables, tables_of}
use Rattle.admin_run.specs.Lines.{counts_line, bad_row_line}
use Rattle.admin_run.specs.Outside.{Outside, Tells}

-- Of rows that state tables without a fault something is said, and else the place of the first bad row, counted from 0, is printed, with
-- status 10; where memory runs out, nothing.
abbrev pub OfRows : (Tables → Type 0) → Outlet → Outlet → List Row → ℕ → Type 0
OfRows Says old new rows status =
    ((t : Tables) × (tables_of rows ≡ Ok t) × IsChecked t × Says t)
    ⊎ (((bad : BadRow) × IsBadRow rows bad × Tells old new (bad_row_line bad.index) 10 status)
    ⊎ ((status ≡ 7) × (new ≡ old)))

-- The rows of a keeper are loaded, and something is said of them; where it fails, which it counts, nothing is printed, with status 9, nor
-- where memory runs out.
abbrev pub OfKeeper : (List Row → Type 0) → Outlet → Outlet → Keeping → Keeping → ℕ → Type 0
OfKeeper Says old new keeping keeping' status =
    ((rows : List Row) × AreOfKeeper keeping keeping' rows × Says rows)
    ⊎ (((status ≡ 9) × Rose keeping.faults keeping'.faults × (new ≡ old)) ⊎ ((status ≡ 7) × (new ≡ old)))

-- the rows are counted
abbrev pub JudgesRows : Outlet → Outlet → List Row → ℕ → Type 0
JudgesRows old new rows status = OfRows (λ t. Tells old new (counts_line (length rows) t) 0 status) old new rows status

abbrev pub Judges : Outlet → Outlet → Keeping → Keeping → ℕ → Type 0
Judges old new keeping keeping' status = OfKeeper (λ rows. JudgesRows old new rows status) old new keeping keeping' status

-- `check`: the keeper's rows are judged and stay as they are, and nothing else is asked.
pub record ChecksRows (old new : Outside) (status : ℕ) : Type 0 where
  pub judged : Judges old.outlet new.outlet old.holds.keeping new.holds.keeping status
  pub kept : RowsFollow old.holds.keeping new.holds.keeping (λ rows. rows)
  pub others : new
      ≡ record old { outlet = new.outlet; holds = record old.holds { keeping = new.holds.keeping } }
