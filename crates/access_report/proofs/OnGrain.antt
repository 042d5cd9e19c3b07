-- The nodes on a grain that hold something are those of its owner and of the grants on it.
use Rattle.std.proofs.Common.{◌≡◌, ◌⊎◌, refl, sym, subst, ap, inl, inr}
use Rattle.host_base.specs.declared.ids.GrainId.{GrainId}
use Rattle.host_base.specs.declared.ids.GrantId.{GrantId}
use Rattle.share_graph.specs.declared.facts.Fact.{Fact}
use Rattle.share_graph.specs.declared.facts.Node.{Node}
use Rattle.share_graph.specs.declared.facts.Node.TheVariants as node
use Rattle.share_graph.specs.declared.grants.Grant.{Grant}
use Rattle.share_graph.specs.declared.grants.Target.{Target}
use Rattle.share_graph.specs.declared.grants.Target.TheVariants as target
use Rattle.share_graph.specs.declared.rows.Grain.{Grain}
use Rattle.share_graph.specs.declared.state.Tables.{Tables}
use Rattle.share_graph.specs.Coherent.{IsCoherent}
use Rattle.share_graph.specs.Derivation.{Derivation, own, via, site}
use Rattle.share_graph.specs.Nodes.{node_at, node_of}
use Rattle.share_graph.specs.Rows.{IsGrain, IsGrant}
use Rattle.least_access.proofs.Following.{node_of_site}
use Rattle.access_report.specs.Entries.{IsOn}

module _ (t : Tables) (n : GrainId) where
  -- the node is the owner's, or that of a grant on the grain
  abbrev pub IsCandidate : Node → Type 0
  IsCandidate at =
      ((grain : Grain) × IsGrain t n grain × (node.User n grain.owner ≡ at))
      ⊎ ((g : GrantId) × (grant : Grant) × IsGrant t g grant × (grant.grain ≡ n) × (node_of g grant ≡ at))

  module _ (g : GrantId) (grant : Grant) (row : IsGrant t g grant) where
    own_grain : (other : Grant) → IsGrant t g other → other.grain ≡ n → grant.grain ≡ n
    own_grain other is of = let same : other ≡ grant = cc in subst (λ (x : Grant). x.grain ≡ n) same of

    -- a grant's node is on a grain exactly where the grant is
    on_of : (to : Target) → IsOn t n (node_at g grant.grain to) → grant.grain ≡ n
    on_of (target.User a) on = on
    on_of (target.Bearer for_sharing) (other, is, of) = own_grain other is of
    on_of (target.Claim h) (other, is, of) = own_grain other is of
    on_of (target.Grain h) (other, is, of) = own_grain other is of

    at_on : (to : Target) → grant.grain ≡ n → IsOn t n (node_at g grant.grain to)
    at_on (target.User a) of = of
    at_on (target.Bearer for_sharing) of = (grant, row, of)
    at_on (target.Claim h) of = (grant, row, of)
    at_on (target.Grain h) of = (grant, row, of)

    pub grant_on : grant.grain ≡ n → IsOn t n (node_of g grant)
    grant_on of = at_on grant.target of

  pub holder : IsCoherent t → {at : Node} {fact : Fact} → Derivation t at fact → IsOn t n at → IsCandidate at
  holder coherent (own {n = m} {grain = grain} o is) on =
      inl (grain, subst (λ (k : GrainId). IsGrain t k grain) on o.is_row, ap (λ (k : GrainId). node.User k grain.owner) (sym on))
  holder coherent (via {g = g} {grant = grant} passes source d now needs) on =
      inr (g, grant, passes.is_live.is_row, on_of g grant passes.is_live.is_row grant.target on, refl)
  holder coherent (site {g = g} {grant = grant} opens source now needs) (other, is, of) =
      let row = opens.is_live.is_row in
      inr (g, grant, row, own_grain g grant row other is of, sym (node_of_site t coherent g grant row source))
