-- Rows by their numbers, and when a table is the solution.
use Rattle.std.proofs.Common.{◌≡◌, ◌+◌, ◌<◌, ◌≤◌, ℕ, zero, suc, List, length, Some, slice_get, arith, add-one}
use Rattle.std.proofs.lemmas.Option.{slice_get_within}
use Rattle.host_base.specs.declared.ids.GrantId.{GrantId}
use Rattle.share_graph.specs.declared.state.Tables.{Tables}
use Rattle.share_graph.specs.Rows.{row}
use Rattle.share_graph.proofs.Least.{least}
use Rattle.least_access.specs.Solved.{Table, HeldAt, IsSolutionOf}
use Rattle.least_access.specs.Rounds.{IsSound, HasOwners, IsClosed}
use Rattle.least_access.proofs.Following.{follows_row}

abbrev pub grant_id : ℕ → GrantId
grant_id n = record { 0 = n }

-- the row at a place has the number after it
pub numbered : {X : Type 0} (rows : List X) (i : ℕ) (here : X) → slice_get rows i ≡ Some here → row rows (i + 1) ≡ Some here
numbered rows i here is = rw add-one is

-- a number that a row has is at most the number of rows
pub row_within : {X : Type 0} (rows : List X) (n : ℕ) (here : X) → row rows n ≡ Some here → n ≤ length rows
row_within rows zero here is = omega arith
row_within rows (suc i) here is = let less : i < length rows = slice_get_within rows i here is in omega arith

-- rows are numbered from 1
pub row_first : {X : Type 0} (rows : List X) (n : ℕ) (here : X) → row rows n ≡ Some here → 0 < n
row_first rows zero here is = cc is
row_first rows (suc i) here is = omega arith

-- A sound table that has what owners hold and is closed is the solution.
pub solution : (t : Tables) (table : Table) → IsSound t table → HasOwners t table → IsClosed t table → IsSolutionOf t table
solution t table sound owners closed at fact = (
  sound at fact,
  λ d. least t (HeldAt table) (record { owned = owners; stepped = λ g grant n what f. closed g grant (follows_row t (HeldAt table) g grant n what f) n what f }) d,
)
