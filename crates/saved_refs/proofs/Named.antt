-- What runs, handles, saved references and claims name is there.
use Rattle.std.proofs.Common.{◌≡◌, ◌∙◌, Contains, List, sym, ap, subst}
use Rattle.std.proofs.lemmas.List.Elements.{All-contains}
use Rattle.desk_base.specs.Terms.{AccountId, Giver, GrainId, Grant, GrantId, Handle, HasAccount, HasGrain, IsGrant}
use Rattle.desk_base.specs.Terms.{IsNoUser, IsRootMaker, IsWellFormed, Run, RunId, Saved, State, Tables, Target}
use Rattle.share_graph.specs.declared.grants.Target.TheVariants as target
use Rattle.share_graph.specs.declared.ways.Origin.{Origin}
use Rattle.share_graph.specs.Coherent.{IsCoherent}
use Rattle.share_graph.specs.Fitting.{IsReference}
use Rattle.share_graph.specs.Known.{KnowsGiver}
use Rattle.share_graph.specs.Parents.{IsOwnNode}
use Rattle.share_graph.specs.Ways.{IsWay, from_account, from_site, from_grant, maker_of}
use Rattle.share_graph.specs.WellFormed.{IsRootedHandle}
use Rattle.share_graph.proofs.Coherence.{coherent}
use Rattle.share_graph.proofs.Contained.{listed_row, place_of, single}
use Rattle.state_step.proofs.Sound.{sound_of}

-- the account at the end of a way
maker_on_way : (t : Tables) → IsCoherent t → (g : GrantId) (way : List Grant) (end : Origin) → IsWay t g way end → HasAccount t (maker_of end)
maker_on_way t coherent g _ _ (from_account {grant = grant} is given) = subst (λ (from : Giver). KnowsGiver t from) given (coherent.grants g grant is).knows.giver
maker_on_way t coherent g _ _ (from_site {grant = grant} is given) = subst (λ (from : Giver). KnowsGiver t from) given (coherent.grants g grant is).knows.giver
maker_on_way t coherent g _ _ (from_grant {p = p} {way = way} {end = end} is given on) = maker_on_way t coherent p way end on

-- a grant that goes to no account is a node of its own
pub own_node : (t : Tables) (g : GrantId) (grant : Grant) (to : Target) → IsGrant t g grant → grant.target ≡ to → IsNoUser to → IsOwnNode t g
own_node t g grant to is same no_user = record { grant = grant; is_row = is; no_user = subst (λ (x : Target). IsNoUser x) (sym same) no_user }

module _ (s : State) (formed : IsWellFormed s) where
  -- the root maker of a grant
  pub maker_is_there : (g : GrantId) (maker : AccountId) → IsRootMaker s.tables g maker → HasAccount s.tables maker
  maker_is_there g maker (end, (way, on), is) = subst (λ (a : AccountId). HasAccount s.tables a) (sym is) (maker_on_way s.tables (coherent s.tables formed.tables) g way end on)

  -- the grain of a run
  pub run_grain : (run : Run) → Contains s.runs run → HasGrain s.tables run.grain
  run_grain run listed = All-contains (λ (x : Run). HasGrain s.tables x.grain) s.runs run formed.rooted.runs listed

  -- the row of a grant
  pub grant_row : (grant : Grant) → Contains s.tables.grants grant → IsGrant s.tables grant.num grant
  grant_row grant listed = listed_row (λ (x : Grant). x.num.0) s.tables.grants grant formed.numbered.grants listed

  -- the grant of a run's handle is one that the run's grain claimed
  pub handle_grant : (run : Run) (handle : Handle) → Contains s.runs run → Contains s.handles handle → handle.run ≡ run.num
      → (grant : Grant) × IsGrant s.tables handle.grant grant × (grant.target ≡ target.Grain run.grain)
  handle_grant run handle listed held own =
      let rooted = All-contains (IsRootedHandle s) s.handles handle formed.rooted.handles held in
      let one = single (λ (x : Run). x.num.0) s.runs (λ (x : Run). x.num ≡ handle.run) formed.numbered.runs (λ x y a b. ap (λ (r : RunId). r.0) (a.is ∙ sym b.is)) in
      let same : rooted.run ≡ run = one.one rooted.run run rooted.is_run (record { listed = listed; is = sym own }) in
      (rooted.grant, rooted.is_grant, rooted.claimed ∙ ap (λ (x : Run). target.Grain x.grain) same)

  -- the grant of a saved reference is one that its holder claimed
  pub reference_grant : (saved : Saved) → Contains s.tables.saved saved → IsReference s.tables saved
  reference_grant saved listed = let (k, there) = place_of s.tables.saved saved listed in ((sound_of s.tables formed.tables).saved k saved there).reference
