-- What lies outside the region of a change holds after it exactly where it held before.
use Rattle.std.proofs.Common.{◌≡◌, ◌↔◌, None, inl, inr}
use Rattle.host_base.specs.declared.ids.GrantId.{GrantId}
use Rattle.share_graph.specs.declared.facts.Fact.{Fact}
use Rattle.share_graph.specs.declared.facts.Node.{Node}
use Rattle.share_graph.specs.declared.facts.Node.TheVariants as node
use Rattle.share_graph.specs.declared.grants.Grant.{Grant}
use Rattle.share_graph.specs.declared.state.Tables.{Tables}
use Rattle.share_graph.specs.Derivation.{Derivation, own, via, site, Holds}
use Rattle.share_graph.specs.Nodes.{node_of, source_of}
use Rattle.share_graph.specs.Region.{Feeds, Reached, along, to_site, GivesOutside}
use Rattle.share_graph.specs.Rows.{IsGrant}

-- the set of nodes is closed along the shares and needs of the tables
pub record IsClosedAlong (t : Tables) (Inside : Node → Type 0) : Type 0 where
  pub grants : (from : Node) (g : GrantId) (grant : Grant) → IsGrant t g grant → Feeds from grant → Inside from → Inside (node_of g grant)
  pub sites : (from : Node) (g : GrantId) (grant : Grant) → IsGrant t g grant → source_of grant ≡ None → Feeds from grant → Inside from → Inside (node.Grant g)

-- A derivation at a node outside a set that is closed along the first tables has all its nodes outside.
pub outside : (Inside : Node → Type 0) (t u : Tables) → IsClosedAlong t Inside → GivesOutside Inside t u → {at : Node} {fact : Fact} → Derivation t at fact → ¬ Inside at → Derivation u at fact
outside Inside t u closed gives (own {n = n} {grain = grain} {app = app} {fact = fact} o r) out =
    let (now, owns, is) = gives.owned n grain fact out (app, o, r) in
    own owns is
outside Inside t u closed gives (via {g = g} {grant = grant} {from = from} {fact = fact} p s d now needs) out =
    via (gives.passed g grant fact out p) s
    (outside Inside t u closed gives d (λ i. out (closed.grants from g grant p.is_live.is_row (inl s) i)))
    (λ q c. gives.asked g grant q out p.is_live.is_row c (now q c))
    (λ q c at asked a. outside Inside t u closed gives (needs q c at asked a) (λ i. out (closed.grants at g grant p.is_live.is_row (inr (q, c, (asked, a))) i)))
outside Inside t u closed gives (site {g = g} {grant = grant} o s now needs) out =
    site (gives.opened g grant out s o) s
    (λ q c. gives.asked_of_site g grant q out o.is_live.is_row s c (now q c))
    (λ q c at asked a. outside Inside t u closed gives (needs q c at asked a) (λ i. out (closed.sites at g grant o.is_live.is_row s (inr (q, c, (asked, a))) i)))

-- What lies outside what the seeds reach along the second tables, and what isn't changed there, holds by both or by neither.
pub outside_same : (t u : Tables) (Seed : Node → Type 0) → IsClosedAlong t (Reached u Seed) → GivesOutside (Reached u Seed) t u → GivesOutside (Reached u Seed) u t
    → (at : Node) (fact : Fact) → ¬ Reached u Seed at → Holds t at fact ↔ Holds u at fact
outside_same t u Seed closed there back at fact out = (
  λ d. outside (Reached u Seed) t u closed there d out,
  λ d. outside (Reached u Seed) u t (record { grants = λ from g grant is f i. along i g grant is f; sites = λ from g grant is s f i. to_site i g grant is s f }) back d out,
)
