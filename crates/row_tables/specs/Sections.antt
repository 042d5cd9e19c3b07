-- Rows of one kind after another: what they state, and the first that is bad.
use Rattle.std.specs.Prelude.{◌≡◌, ◌≢◌, ℕ, ◌<◌, slice_index_or, suc, ◌≤◌, nat_le, ◌==◌, ◌&&◌, List, [], ◌∷◌, Result, Ok, Err, if◌then◌else◌}
use Rattle.row_formats.specs.declared.fault.RowFault.{RowFault}
use Rattle.row_formats.specs.declared.fault.RowFault.TheVariants.{BadField}
use Rattle.row_formats.specs.Place.{◌>>=◌, whole}
use Rattle.row_formats.specs.Format.{Format}
use Rattle.row_formats.specs.Exact.{IsBytes}
use Rattle.cloud_keeper.specs.declared.row.Row.{Row}
use Rattle.row_tables.specs.declared.stored.BadRow.{BadRow}
use Rattle.row_tables.specs.declared.stored.LoadFault.{LoadFault}
use Rattle.row_tables.specs.declared.stored.LoadFault.TheVariants as load

-- what is read of rows: a value, how many rows stand before the next, and the rows from there on; or the first bad row
abbrev pub ReadRows : Type 0 → Type 0
ReadRows A = Result (A × (ℕ × List Row)) BadRow

-- what a body states as the row of a number, which has a format
abbrev pub body_of : {A : Type 0} → (ℕ → Format A) → ℕ → List ℕ → Result A RowFault
body_of format n body = whole (format n).read body

-- a row's first fault, with the row's index
abbrev pub at_row : {A : Type 0} → ℕ → Result A RowFault → Result A BadRow
at_row i (Ok x) = Ok x
at_row i (Err fault) = Err (record { index = i; fault = fault })

-- A row whose number has to be n, and n at most a limit: that is judged before its body.
abbrev pub row_at : {A : Type 0} → ℕ → (ℕ → List ℕ → Result A RowFault) → ℕ → ℕ → Row → Result A BadRow
row_at limit read n i row =
    if row.num == n && nat_le n limit then at_row i (read n row.body) else Err (record { index = i; fault = BadField 0 })

-- a first value and those after it
abbrev pub with_first : {A : Type 0} → A → ReadRows (List A) → ReadRows (List A)
with_first x others = others >>= λ xs. Ok (x ∷ xs.0, xs.1)

-- the rows of one kind, numbered from n on, up to the first of another kind
unfoldable pub section_at : {A : Type 0} → ℕ → ℕ → (ℕ → List ℕ → Result A RowFault) → ℕ → ℕ → List Row → ReadRows (List A)
section_at kind limit read n i [] = Ok ([], (i, []))
section_at kind limit read n i (row ∷ rows) =
    if row.kind == kind
    then (row_at limit read n i row >>= λ x. with_first x (section_at kind limit read (suc n) (suc i) rows))
    else Ok ([], (i, row ∷ rows))

-- the row of a number that a value is written as
abbrev pub stored : {A : Type 0} → ℕ → (ℕ → Format A) → ℕ → A → Row
stored kind format n x = record { kind = kind; num = n; body = (format n).write x }

-- the rows that values of one kind are written as, numbered from n on
abbrev pub section_rows : {A : Type 0} → ℕ → (ℕ → Format A) → ℕ → List A → List Row
section_rows kind format n [] = []
section_rows kind format n (x ∷ xs) = stored kind format n x ∷ section_rows kind format (suc n) xs

-- values of one kind have such rows, of at most so many
abbrev pub SectionFits : {A : Type 0} → ℕ → (ℕ → Format A) → ℕ → List A → Type 0
SectionFits limit format n [] = Unit {0}
SectionFits limit format n (x ∷ xs) = (n ≤ limit) × (format n).fits x × SectionFits limit format (suc n) xs

-- a value fits the row of the number that it carries, where it is countable
abbrev pub FitsOwn : {A : Type 0} → (ℕ → Format A) → (A → ℕ) → (A → Type 0) → A → Type 0
FitsOwn format carried is_countable x = is_countable x → (format (carried x)).fits x

-- no row of the kind stands first
abbrev pub IsPast : ℕ → List Row → Type 0
IsPast kind [] = Unit {0}
IsPast kind (row ∷ rows) = row.kind ≢ kind

-- A bad row is the one that is read; want of memory is free.
abbrev pub FailsRows : {A : Type 0} → LoadFault → Result A BadRow → Type 0
FailsRows load.Memory read = Unit {0}
FailsRows (load.BadRow bad) read = read ≡ Err bad

-- What a function returned, seen by a view, is what is read of rows.
abbrev pub GivesRow : {X A : Type 0} → (X → A) → Result X LoadFault → Result A BadRow → Type 0
GivesRow view (Ok x) read = read ≡ Ok (view x)
GivesRow view (Err e) read = FailsRows e read

-- an empty row
abbrev pub blank : Row
blank = record { kind = 0; num = 0; body = [] }

-- the bodies of the first n rows are bytes
abbrev pub AreBytes : List Row → ℕ → Type 0
AreBytes rows n = (k : ℕ) → k < n → IsBytes (slice_index_or rows k blank).body
