-- What a reading function answers: what the grammar reads, unless memory runs out.
use Rattle.std.specs.Prelude.{◌≡◌, Result, Ok, Err}
use Rattle.row_formats.specs.declared.fault.RowFault.{RowFault}
use Rattle.row_formats.specs.declared.fault.ReadError.{ReadError}
use Rattle.row_formats.specs.declared.fault.ReadError.TheVariants as errors
use Rattle.row_formats.specs.Place.{Place, Read}

-- A fault is the one that is read; want of memory is free.
abbrev pub FailsToRead : {A : Type 0} → ReadError → Result A RowFault → Type 0
FailsToRead errors.Memory read = Unit {0}
FailsToRead (errors.Fault f) read = read ≡ Err f

-- What a function returned, seen by a view, and the place where it left the reader, are what is read there.
abbrev pub GivesRead : {X A : Type 0} → (X → A) → Result X ReadError → Place → Read A → Type 0
GivesRead view (Ok x) q read = read ≡ Ok (view x, q)
GivesRead view (Err e) q read = FailsToRead e read

-- What a function returned, seen by a view, is what is read of a whole body.
abbrev pub GivesWhole : {X A : Type 0} → (X → A) → Result X ReadError → Result A RowFault → Type 0
GivesWhole view (Ok x) read = read ≡ Ok (view x)
GivesWhole view (Err e) read = FailsToRead e read
