-- A bad row that was told is what the report on rows says.
use Rattle.std.proofs.Common.{◌≡◌, ℕ, List, Err, subst, inl, inr}
use Rattle.row_tables.specs.declared.stored.LoadFault.{LoadFault}
use Rattle.row_tables.specs.declared.stored.LoadFault.TheVariants as fault
use Rattle.admin_run.specs.Lines.{bad_row_line}
use Rattle.admin_run.specs.Outside.{Tells}
use Rattle.admin_run.specs.Reporting.{ReportsRows}
use Rattle.admin_run.specs.Terms.{BadRow, GivesTables, Outlet, Row}
use Rattle.admin_run.specs.declared.reporting.Subject.{Subject}

pub bad_told : (asked : Subject) (moment : ℕ) (old new : Outlet) (rows : List Row) (status : ℕ) (why : LoadFault) (bad : BadRow) (line : List ℕ) → why ≡ fault.BadRow bad
    → GivesTables (Err why) rows → line ≡ bad_row_line bad.index → Tells old new line 10 status → ReportsRows asked moment old new rows status
bad_told asked moment old new rows status why bad line is gives same told =
    inr (inl (bad, subst (λ (one : LoadFault). GivesTables (Err one) rows) is gives, subst (λ (text : List ℕ). Tells old new text 10 status) same told))
