use Rattle.std.proofs.Common.{◌≡◌, Option, Some, None, MatchOption, Contains, refl, sym, subst}
use Rattle.host_base.specs.declared.ids.GrainId.{GrainId}
use Rattle.host_base.specs.declared.ids.GrantId.{GrantId}
use Rattle.share_graph.specs.declared.facts.Fact.{Fact}
use Rattle.share_graph.specs.declared.facts.Fact.TheVariants.{Open}
use Rattle.share_graph.specs.declared.facts.Node.{Node}
use Rattle.share_graph.specs.declared.facts.Node.TheVariants as node
use Rattle.share_graph.specs.declared.grants.Grant.{Grant}
use Rattle.share_graph.specs.declared.grants.Need.{Need}
use Rattle.share_graph.specs.declared.rows.App.{App}
use Rattle.share_graph.specs.declared.rows.Grain.{Grain}
use Rattle.share_graph.specs.declared.state.Tables.{Tables}
use Rattle.share_graph.specs.Nodes.{node_of, source_of}
use Rattle.share_graph.specs.Derivation.{Owns, IsFactOf, LetsThrough, IsOpenSite, Derivation, own, via, site, Holds, IsMetBy, Follows}

derived_from : (t : Tables) (g : GrantId) (grant : Grant) (at : Node) (fact : Fact) (from : Option Node) → source_of grant ≡ from
    → ((q : Need) → Contains grant.needs q → IsMetBy t (Holds t) q)
    → MatchOption from (IsOpenSite t g grant × (at ≡ node.Grant g) × (fact ≡ Open)) (λ node. LetsThrough t g grant fact × (at ≡ node_of g grant) × Holds t node fact) → Derivation t at fact
derived_from t g grant at fact None is met s =
    subst (λ (n : Node). Derivation t n fact) (sym s.1) (subst (λ (f : Fact). Derivation t (node.Grant g) f) (sym s.2) (site s.0 is (λ q c. (met q c).0) (λ q c. (met q c).1)))
derived_from t g grant at fact (Some from) is met s =
    subst (λ (n : Node). Derivation t n fact) (sym s.1) (via s.0 is s.2 (λ q c. (met q c).0) (λ q c. (met q c).1))

-- What follows in one step from what holds, holds.
pub derived : (t : Tables) (g : GrantId) (grant : Grant) (at : Node) (fact : Fact) → Follows t (Holds t) g grant at fact → Holds t at fact
derived t g grant at fact f = derived_from t g grant at fact (source_of grant) refl f.met f.source

-- What owners hold is in the relation, and whatever follows in one step from it is in it.
pub record IsClosed (t : Tables) (R : Node → Fact → Type 0) : Type 0 where
  pub owned : (n : GrainId) (grain : Grain) (app : App) (fact : Fact) → Owns t n grain app → IsFactOf app fact → R (node.User n grain.owner) fact
  pub stepped : (g : GrantId) (grant : Grant) (at : Node) (fact : Fact) → Follows t R g grant at fact → R at fact

-- What holds is in each such relation: it is the least of them.
pub least : (t : Tables) (R : Node → Fact → Type 0) → IsClosed t R → {at : Node} {fact : Fact} → Derivation t at fact → R at fact
least t R closed (own {n = n} {grain = grain} {app = app} {fact = fact} o is) = closed.owned n grain app fact o is
least t R closed (via {g = g} {grant = grant} {from = from} {fact = fact} passes source d now needs) =
    closed.stepped g grant (node_of g grant) fact (record {
      met = λ q c. (now q c, λ at asked a. least t R closed (needs q c at asked a));
      source = subst (λ (o : Option Node). MatchOption o (IsOpenSite t g grant × (node_of g grant ≡ node.Grant g) × (fact ≡ Open)) (λ node. LetsThrough t g grant fact × (node_of g grant ≡ node_of g grant) × R node fact))
          (sym source) (passes, refl, least t R closed d);
    })
least t R closed (site {g = g} {grant = grant} opens source now needs) =
    closed.stepped g grant (node.Grant g) Open (record {
      met = λ q c. (now q c, λ at asked a. least t R closed (needs q c at asked a));
      source = subst (λ (o : Option Node). MatchOption o (IsOpenSite t g grant × (node.Grant g ≡ node.Grant g) × (Open ≡ Open)) (λ from. LetsThrough t g grant Open × (node.Grant g ≡ node_of g grant) × R from Open))
          (sym source) (opens, refl, refl);
    })

-- A step from some facts is one from more.
pub follows_more : (t : Tables) (R S : Node → Fact → Type 0) → ((at : Node) (fact : Fact) → R at fact → S at fact) → (g : GrantId) (grant : Grant) (at : Node) (fact : Fact)
    → Follows t R g grant at fact → Follows t S g grant at fact
follows_more t R S more g grant at fact f = record {
  met = λ q c. ((f.met q c).0, λ n asked a. more n asked ((f.met q c).1 n asked a));
  source = source_more (source_of grant) f.source;
}
  where
    source_more : (o : Option Node) → MatchOption o (IsOpenSite t g grant × (at ≡ node.Grant g) × (fact ≡ Open)) (λ from. LetsThrough t g grant fact × (at ≡ node_of g grant) × R from fact)
        → MatchOption o (IsOpenSite t g grant × (at ≡ node.Grant g) × (fact ≡ Open)) (λ from. LetsThrough t g grant fact × (at ≡ node_of g grant) × S from fact)
    source_more None s = s
    source_more (Some from) s = (s.0, s.1, more from fact s.2)
