-- What follows by a grant, in coherent tables.
use Rattle.std.proofs.Common.{◌≡◌, ◌↔◌, List, Option, Some, None, All, Contains, MatchOption, false, refl, sym, ◌∙◌, ap, subst}
use Rattle.std.proofs.lemmas.List.Elements.{All-weaker, All-contains, All-contains_itself}
use Rattle.host_base.specs.declared.ids.GrantId.{GrantId}
use Rattle.share_graph.specs.declared.facts.Fact.{Fact}
use Rattle.share_graph.specs.declared.facts.Fact.TheVariants.{Open}
use Rattle.share_graph.specs.declared.facts.Node.{Node}
use Rattle.share_graph.specs.declared.facts.Node.TheVariants as node
use Rattle.share_graph.specs.declared.grants.Giver.{Giver}
use Rattle.share_graph.specs.declared.grants.Giver.TheVariants as giver
use Rattle.share_graph.specs.declared.grants.Grant.{Grant}
use Rattle.share_graph.specs.declared.grants.Target.{Target}
use Rattle.share_graph.specs.declared.state.Tables.{Tables}
use Rattle.share_graph.specs.Coherent.{IsCoherent}
use Rattle.share_graph.specs.Derivation.{IsLive, LetsThrough, IsOpenSite, IsMetBy, Follows}
use Rattle.share_graph.specs.Nodes.{node_of, node_at, source_of, source_at}
use Rattle.share_graph.specs.Parents.{GiverFits}
use Rattle.share_graph.specs.Rows.{IsGrant}

-- what is so of each element is so of each that the list contains
pub all_from_members : {X : Type 0} (P : X → Type 0) (xs : List X) → ((x : X) → Contains xs x → P x) → All P xs
all_from_members P xs each = All-weaker (Contains xs) P each xs (All-contains_itself xs)

-- what follows by a grant follows at its node, where the tables are coherent
module _ (t : Tables) (R : Node → Fact → Type 0) (g : GrantId) (grant : Grant) where
  abbrev pub Rule : Option Node → Node → Fact → Type 0
  Rule from at fact = MatchOption from (IsOpenSite t g grant × (at ≡ node.Grant g) × (fact ≡ Open)) (λ (n : Node). LetsThrough t g grant fact × (at ≡ node_of g grant) × R n fact)

  live_by : (from : Option Node) (at : Node) (fact : Fact) → Rule from at fact → IsLive t g grant
  live_by None at fact s = s.0.is_live
  live_by (Some n) at fact s = s.0.is_live

  -- only a live grant passes anything on
  pub follows_live : (at : Node) (fact : Fact) → Follows t R g grant at fact → IsLive t g grant
  follows_live at fact f = live_by (source_of grant) at fact f.source

  -- and it is there
  pub follows_row : (at : Node) (fact : Fact) → Follows t R g grant at fact → IsGrant t g grant
  follows_row at fact f = (follows_live at fact f).is_row

  -- what follows from a source
  pub follows_source : (from at : Node) (fact : Fact) → source_of grant ≡ Some from → Follows t R g grant at fact → LetsThrough t g grant fact × (at ≡ node_of g grant) × R from fact
  follows_source from at fact is f = subst (λ (o : Option Node). Rule o at fact) is f.source

  -- what follows of the site's own
  pub follows_site : (at : Node) (fact : Fact) → source_of grant ≡ None → Follows t R g grant at fact → IsOpenSite t g grant × (at ≡ node.Grant g) × (fact ≡ Open)
  follows_site at fact is f = subst (λ (o : Option Node). Rule o at fact) is f.source

-- a grant of the site is a node of its own
site_node : (t : Tables) (g : GrantId) (grant : Grant) (from : Giver) → source_at grant.grain from ≡ None → GiverFits t from grant → node.Grant g ≡ node_of g grant
site_node t g grant (giver.Account a) none fits = cc none
site_node t g grant (giver.Grant p) none fits = cc none
site_node t g grant (giver.Site by tag item) none fits = ap (λ (to : Target). node_at g grant.grain to) (sym fits)

pub node_of_site : (t : Tables) → IsCoherent t → (g : GrantId) (grant : Grant) → IsGrant t g grant → source_of grant ≡ None → node.Grant g ≡ node_of g grant
node_of_site t coherent g grant is none = site_node t g grant grant.giver none (coherent.grants g grant is).parent.giver

-- where what follows is held
follows_at_by : (t : Tables) → IsCoherent t → (R : Node → Fact → Type 0) (g : GrantId) (grant : Grant) (at : Node) (fact : Fact) → IsGrant t g grant
    → (from : Option Node) → source_of grant ≡ from → Follows t R g grant at fact → at ≡ node_of g grant
follows_at_by t coherent R g grant at fact is None none f = (follows_site t R g grant at fact none f).1 ∙ node_of_site t coherent g grant is none
follows_at_by t coherent R g grant at fact is (Some from) some f = (follows_source t R g grant from at fact some f).1

pub follows_at : (t : Tables) → IsCoherent t → (R : Node → Fact → Type 0) (g : GrantId) (grant : Grant) (at : Node) (fact : Fact) → IsGrant t g grant
    → Follows t R g grant at fact → at ≡ node_of g grant
follows_at t coherent R g grant at fact is f = follows_at_by t coherent R g grant at fact is (source_of grant) refl f

-- What a live grant passes on while its needs are met, from a source and of the site's own.
module _ (t : Tables) (R : Node → Fact → Type 0) (g : GrantId) (grant : Grant) (met : All (IsMetBy t R) grant.needs) where
  by_rule : (at : Node) (fact : Fact) (from : Option Node) → source_of grant ≡ from → Rule t R g grant from at fact → Follows t R g grant at fact
  by_rule at fact from is s = record {
    met = λ q c. All-contains (IsMetBy t R) grant.needs q met c;
    source = subst (λ (o : Option Node). Rule t R g grant o at fact) (sym is) s;
  }

  pub from_source : (from : Node) (fact : Fact) → source_of grant ≡ Some from → (LetsThrough t g grant fact × R from fact) ↔ Follows t R g grant (node_of g grant) fact
  from_source from fact is = (
    λ h. by_rule (node_of g grant) fact (Some from) is (h.0, refl, h.1),
    λ f. let s = follows_source t R g grant from (node_of g grant) fact is f in (s.0, s.2),
  )

  pub from_site : IsCoherent t → IsGrant t g grant → (fact : Fact) → source_of grant ≡ None → (IsOpenSite t g grant × (fact ≡ Open)) ↔ Follows t R g grant (node_of g grant) fact
  from_site coherent there fact is = (
    λ h. by_rule (node_of g grant) fact None is (h.0, sym (node_of_site t coherent g grant there is), h.1),
    λ f. let s = follows_site t R g grant (node_of g grant) fact is f in (s.0, s.2),
  )
