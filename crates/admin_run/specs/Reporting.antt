-- What `access` and `preview` do.
use Rattle.std.specs.Prelude.{◌≡◌, ℕ, ◌⊎◌, List, codes}
use Rattle.admin_run.specs.declared.reporting.Subject.{Subject}
use Rattle.admin_run.specs.declared.reporting.Subject.TheVariants as subject
use Rattle.admin_run.specs.Terms.{access_text, AreAccessLines, AreLossLines, HasGrain, HasGrant, Keeping, Outlet, preview_text, ReportLine, Row, RowsFollow, Tables, Ticks}
use Rattle.admin_run.specs.Judging.{OfKeeper, OfRows}
use Rattle.admin_run.specs.Outside.{Outside, Tells}

-- the lines of a row that is there, with status 0; else `unknown`, with status 11
abbrev pub IsReport : (There : Type 0) → (List ReportLine → Type 0) → (List ReportLine → List ℕ) → List ℕ → ℕ → Type 0
IsReport There Are text_of text done =
    (There × ((lines : List ReportLine) × Are lines × (text ≡ text_of lines)) × (done ≡ 0))
    ⊎ ((There → ⊥) × (text ≡ codes "unknown\n") × (done ≡ 11))

-- THE REPORT on tables: who has access to a grain, or what revoking a grant would take
abbrev pub IsReportOn : Tables → Subject → List ℕ → ℕ → Type 0
IsReportOn t (subject.Access n) = IsReport (HasGrain t n) (AreAccessLines t n) access_text
IsReportOn t (subject.Preview g) = IsReport (HasGrant t g) (AreLossLines t g) preview_text

-- the report on tables is printed
abbrev pub TellsReport : Subject → Outlet → Outlet → Tables → ℕ → Type 0
TellsReport asked old new t status = (text : List ℕ) × ((done : ℕ) × IsReportOn t asked text done × Tells old new text done status)

-- of rows, at a moment
abbrev pub ReportsRows : Subject → ℕ → Outlet → Outlet → List Row → ℕ → Type 0
ReportsRows asked moment old new rows status =
    OfRows (λ t. TellsReport asked old new (record t { moment = moment }) status) old new rows status

-- of a keeper's rows
abbrev pub Reports : Subject → ℕ → Outlet → Outlet → Keeping → Keeping → ℕ → Type 0
Reports asked moment old new keeping keeping' status =
    OfKeeper (λ rows. ReportsRows asked moment old new rows status) old new keeping keeping' status

-- `access` and `preview`: the report on the keeper's rows at the clock's moment is printed; they stay as they are, and nothing else is asked.
pub record ReportsOn (asked : Subject) (old new : Outside) (status : ℕ) : Type 0 where
  pub moment : ℕ
  pub ticks : Ticks old.moments new.moments moment
  pub reported : Reports asked moment old.outlet new.outlet old.holds.keeping new.holds.keeping status
  pub kept : RowsFollow old.holds.keeping new.holds.keeping (λ rows. rows)
  pub others : new ≡ record old {
    outlet = new.outlet;
    holds = record old.holds { keeping = new.holds.keeping };
    moments = new.moments;
  }
