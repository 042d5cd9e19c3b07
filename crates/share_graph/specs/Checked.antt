-- Tables without a fault, and the first fault of tables: by kind of row, then by number, then in the order of the faults.
use Rattle.std.specs.Prelude.{◌≡◌, ◌<◌, ◌+◌, ℕ, true, List, Option, Some, None, slice_get}
use Rattle.share_graph.specs.declared.fault.GraphFault.{GraphFault}
use Rattle.share_graph.specs.declared.fault.GraphFault.TheVariants as fault
use Rattle.share_graph.specs.declared.fault.Kind.TheVariants as kind
use Rattle.share_graph.specs.declared.grants.Grant.{Grant}
use Rattle.share_graph.specs.declared.rows.Account.{Account}
use Rattle.share_graph.specs.declared.rows.App.{App}
use Rattle.share_graph.specs.declared.rows.Grain.{Grain}
use Rattle.share_graph.specs.declared.rows.Saved.{Saved}
use Rattle.share_graph.specs.declared.state.Tables.{Tables}
use Rattle.share_graph.specs.Fitting.{IsSoundManifest, SetsFit, SharesWell, IsReference}
use Rattle.share_graph.specs.Forms.{answers, unless◌then◌else◌, first◌then◌}
use Rattle.share_graph.specs.Fresh.{IsFreshLogin, IsFreshToken, IsFreshReference, IsFreshHandle, is_handle}
use Rattle.share_graph.specs.Known.{KnowsOfGrain, KnowsOfGrant, KnowsOfSaved}
use Rattle.share_graph.specs.Parents.{HasParent, NamesEarlier}

-- The handle has the form of one, and is no earlier account's.
pub record HandleFits (t : Tables) (i : ℕ) (account : Account) : Type 0 where
  pub formed : is_handle account.handle ≡ true
  pub fresh : IsFreshHandle t i account

-- The first fault of the row at a place, from 0, or none.
abbrev pub AccountFault : Tables → ℕ → Account → Option GraphFault → Type 0
AccountFault t i account =
    unless IsFreshLogin t i account then Some (fault.DoubleDigest kind.Account account.num.0) else
    unless HandleFits t i account then Some (fault.BadShare kind.Account account.num.0) else
    answers None

abbrev pub AppFault : Tables → ℕ → App → Option GraphFault → Type 0
AppFault t i app =
    unless IsSoundManifest app.manifest then Some (fault.BadSet kind.App app.num.0) else
    answers None

abbrev pub GrainFault : Tables → ℕ → Grain → Option GraphFault → Type 0
GrainFault t i grain =
    unless KnowsOfGrain t grain then Some (fault.UnknownRow kind.Grain grain.num.0) else
    answers None

abbrev pub GrantFault : Tables → ℕ → Grant → Option GraphFault → Type 0
GrantFault t i grant =
    unless KnowsOfGrant t grant then Some (fault.UnknownRow kind.Grant grant.num.0) else
    unless IsFreshToken t i grant.digest then Some (fault.DoubleDigest kind.Grant grant.num.0) else
    unless HasParent t grant then Some (fault.BadParent grant.num) else
    unless NamesEarlier (i + 1) grant then Some (fault.LateParent grant.num) else
    unless SetsFit t grant then Some (fault.BadSet kind.Grant grant.num.0) else
    unless SharesWell grant then Some (fault.BadShare kind.Grant grant.num.0) else
    answers None

abbrev pub SavedFault : Tables → ℕ → Saved → Option GraphFault → Type 0
SavedFault t i saved =
    unless KnowsOfSaved t saved then Some (fault.UnknownRow kind.Saved saved.num.0) else
    unless IsFreshReference t i saved then Some (fault.DoubleDigest kind.Saved saved.num.0) else
    unless IsReference t saved then Some (fault.BadShare kind.Saved saved.num.0) else
    answers None

-- no row has a fault
abbrev pub HaveNoFault : {X : Type 0} → List X → (ℕ → X → Option GraphFault → Type 0) → Type 0
HaveNoFault {X} rows Fault = (k : ℕ) (row : X) → slice_get rows k ≡ Some row → Fault k row None

-- The first row that has a fault has this one.
pub record IsFirstFault {X : Type 0} (rows : List X) (Fault : ℕ → X → Option GraphFault → Type 0) (fault : GraphFault) : Type 0 where
  pub place : ℕ
  pub row : X
  pub there : slice_get rows place ≡ Some row
  pub earlier : (k : ℕ) (other : X) → k < place → slice_get rows k ≡ Some other → Fault k other None
  pub has : Fault place row (Some fault)

-- the first fault of rows, or none
abbrev pub RowsFault : {X : Type 0} → List X → (ℕ → X → Option GraphFault → Type 0) → Option GraphFault → Type 0
RowsFault rows Fault None = HaveNoFault rows Fault
RowsFault rows Fault (Some fault) = IsFirstFault rows Fault fault

-- THE FIRST FAULT of tables, or none
abbrev pub TablesFault : Tables → Option GraphFault → Type 0
TablesFault t =
    first RowsFault t.accounts (AccountFault t) then
    first RowsFault t.apps (AppFault t) then
    first RowsFault t.grains (GrainFault t) then
    first RowsFault t.grants (GrantFault t) then
    RowsFault t.saved (SavedFault t)

-- Tables without a fault.
pub record IsChecked (t : Tables) : Type 0 where
  pub accounts : HaveNoFault t.accounts (AccountFault t)
  pub apps : HaveNoFault t.apps (AppFault t)
  pub grains : HaveNoFault t.grains (GrainFault t)
  pub grants : HaveNoFault t.grants (GrantFault t)
  pub saved : HaveNoFault t.saved (SavedFault t)
