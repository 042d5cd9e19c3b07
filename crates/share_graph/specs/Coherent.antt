-- An aid of proofs: what tables without a fault give of each row, by its number.
use Rattle.std.specs.Prelude.{◌<◌, ◌^◌, length}
use Rattle.host_base.specs.declared.ids.AppId.{AppId}
use Rattle.host_base.specs.declared.ids.GrainId.{GrainId}
use Rattle.host_base.specs.declared.ids.GrantId.{GrantId}
use Rattle.share_graph.specs.declared.grants.Grant.{Grant}
use Rattle.share_graph.specs.declared.rows.App.{App}
use Rattle.share_graph.specs.declared.rows.Grain.{Grain}
use Rattle.share_graph.specs.declared.state.Tables.{Tables}
use Rattle.share_graph.specs.Rows.{IsApp, IsGrain, IsGrant}
use Rattle.share_graph.specs.Known.{KnowsOfGrain, KnowsOfGrant}
use Rattle.share_graph.specs.Parents.{HasParent, NamesEarlier}
use Rattle.share_graph.specs.Fitting.{IsSoundManifest, SetsFit, SharesWell}

-- The rows that the grant of number g names are there and earlier, its giver may give to its target, and its sets fit.
pub record IsCoherentGrant (t : Tables) (g : GrantId) (grant : Grant) : Type 0 where
  pub knows : KnowsOfGrant t grant
  pub parent : HasParent t grant
  pub earlier : NamesEarlier g.0 grant
  pub sets : SetsFit t grant
  pub shares : SharesWell grant

-- Applications, grains and grants fit one another. Tables without a fault are so.
pub record IsCoherent (t : Tables) : Type 0 where
  pub apps : (p : AppId) (app : App) → IsApp t p app → IsSoundManifest app.manifest
  pub grains : (n : GrainId) (grain : Grain) → IsGrain t n grain → KnowsOfGrain t grain
  pub grants : (g : GrantId) (grant : Grant) → IsGrant t g grant → IsCoherentGrant t g grant

-- the numbers of grains and grants are ones that a number of a row can be
pub record HasNumbers (t : Tables) : Type 0 where
  pub grains : length t.grains < 2 ^ 32
  pub grants : length t.grants < 2 ^ 32
