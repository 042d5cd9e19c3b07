-- What holds is held at a node that is there, and is a fact that a set can have.
use Rattle.std.proofs.Common.{◌≡◌, List, Option, Some, None, Contains, sym, subst, arith}
use Rattle.host_base.specs.declared.ids.GrainId.{GrainId}
use Rattle.host_base.specs.declared.ids.GrantId.{GrantId}
use Rattle.share_graph.specs.declared.facts.Fact.{Fact}
use Rattle.share_graph.specs.declared.facts.Fact.TheVariants.{Open, Perm}
use Rattle.share_graph.specs.declared.facts.Node.{Node}
use Rattle.share_graph.specs.declared.facts.Node.TheVariants as node
use Rattle.share_graph.specs.declared.grants.Grant.{Grant}
use Rattle.share_graph.specs.declared.grants.Target.{Target}
use Rattle.share_graph.specs.declared.grants.Target.TheVariants as target
use Rattle.share_graph.specs.declared.rows.App.{App}
use Rattle.share_graph.specs.declared.rows.Grain.{Grain}
use Rattle.share_graph.specs.declared.state.Tables.{Tables}
use Rattle.share_graph.specs.Coherent.{IsCoherent}
use Rattle.share_graph.specs.Derivation.{Follows, Holds, IsFactOf, Owns}
use Rattle.share_graph.specs.Known.{HasGrain, HasGrant, KnowsNode, KnowsOfGrant, KnowsTarget}
use Rattle.share_graph.specs.Nodes.{node_at, node_of, source_of}
use Rattle.share_graph.specs.Rows.{IsAppOf, IsGrant}
use Rattle.share_graph.proofs.Contained.{place_of}
use Rattle.share_graph.proofs.Least.{least}
use Rattle.least_access.proofs.Following.{follows_at, follows_row, Rule}
use Rattle.access_report.specs.Entries.{IsOn}
use Rattle.access_report.specs.declared.step.Step.{Step}
use Rattle.access_report.specs.Explaining.{Explains}
use Rattle.access_report.specs.Steps.{Cites, IsBy, IsLawful}
use Rattle.access_report.proofs.SoundSteps.{sound_holds}
use Rattle.report_desk.specs.Showing.{IsPlaced, IsShowable}

-- the node is there, and a set can have the fact
abbrev pub IsThere : Tables → Node → Fact → Type 0
IsThere t at fact = KnowsNode t at × IsPlaced fact

module _ (t : Tables) (coherent : IsCoherent t) where
  -- where the facts of a grant are held
  pub goes_to : (g : GrantId) (grant : Grant) → IsGrant t g grant → KnowsNode t (node_of g grant)
  goes_to g grant is = by_target grant.target knows.target
    where
      knows : KnowsOfGrant t grant
      knows = (coherent.grants g grant is).knows

      by_target : (to : Target) → KnowsTarget t to → KnowsNode t (node_at g grant.grain to)
      by_target (target.User a) there = (knows.grain, there)
      by_target (target.Bearer for_sharing) there = (grant, is)
      by_target (target.Claim h) there = (grant, is)
      by_target (target.Grain h) there = (grant, is)

  owned : (n : GrainId) (grain : Grain) (app : App) (fact : Fact) → Owns t n grain app → IsFactOf app fact → IsPlaced fact
  owned n grain app Open o is = tt
  owned n grain app (Perm p) o is = let few = (coherent.apps grain.app app o.of_app).few_permissions in omega arith

  passed : (g : GrantId) (grant : Grant) (at : Node) (fact : Fact) (from : Option Node) → Rule t (IsThere t) g grant from at fact → IsPlaced fact
  passed g grant at fact None s = subst IsPlaced (sym s.2) tt
  passed g grant at fact (Some from) s = s.2.1

  stepped : (g : GrantId) (grant : Grant) (at : Node) (fact : Fact) → Follows t (IsThere t) g grant at fact → IsThere t at fact
  stepped g grant at fact f =
      let row = follows_row t (IsThere t) g grant at fact f in
      let here = follows_at t coherent (IsThere t) g grant at fact row f in
      (subst (λ (n : Node). KnowsNode t n) (sym here) (goes_to g grant row), passed g grant at fact (source_of grant) f.source)

  pub holds_there : {at : Node} {fact : Fact} → Holds t at fact → IsThere t at fact
  holds_there d =
      least t (IsThere t) (record {
        owned = λ n grain app fact o is. (((grain, o.is_row), (coherent.grains n grain o.is_row).owner), owned n grain app fact o is);
        stepped = stepped;
      }) d

  -- the application of a grain that is there
  pub app_of_grain : (n : GrainId) → HasGrain t n → (app : App) × IsAppOf t n app
  app_of_grain n (grain, is) = let (app, of) = (coherent.grains n grain is).app in (app, (grain, is, of))

  -- the application of the grain that a node is on
  pub app_of_node : (at : Node) (n : GrainId) → KnowsNode t at → IsOn t n at → (app : App) × IsAppOf t n app
  app_of_node (node.User m a) n there on = app_of_grain n (subst (λ (k : GrainId). HasGrain t k) on there.0)
  app_of_node (node.Grant g) n there (grant, is, of) = app_of_grain n (subst (λ (k : GrainId). HasGrain t k) of (coherent.grants g grant is).knows.grain)

-- the grant by which a step follows is there
lawful_grant : (t : Tables) (R : Node → Fact → Type 0) (step : Step) → IsLawful t R step → (g : GrantId) → step.grant ≡ Some g → HasGrant t g
lawful_grant t R step lawful g by =
    let (grant, follows) : (grant : Grant) × Follows t R g grant step.node step.fact = subst (λ (o : Option GrantId). IsBy t R o step.node step.fact) by lawful in
    (grant, follows_row t R g grant step.node step.fact follows)

-- the steps of an explanation can be shown
pub showable : (t : Tables) → IsCoherent t → (steps : List Step) (at : Node) (fact : Fact) → Explains t steps at fact → (step : Step) → Contains steps step → IsShowable t step
showable t coherent steps at fact explains step listed =
    let (i, there) = place_of steps step listed in
    let holds = holds_there t coherent (sound_holds t steps explains.sound i step there) in
    record { node = holds.0; fact = holds.1; grant = lawful_grant t (Cites steps i step.from) step (explains.sound i step there) }
