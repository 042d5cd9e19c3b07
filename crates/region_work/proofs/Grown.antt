-- A table from which the work begins where a change only adds.
use Rattle.std.proofs.Common.{◌≡◌, ◌⊎◌, [], Option, Some, None, MatchOption, List, Contains, refl, sym, subst, inl, inr}
use Rattle.host_base.specs.declared.ids.GrainId.{GrainId}
use Rattle.host_base.specs.declared.ids.GrantId.{GrantId}
use Rattle.share_graph.specs.declared.facts.Fact.{Fact}
use Rattle.share_graph.specs.declared.facts.Fact.TheVariants.{Open}
use Rattle.share_graph.specs.declared.facts.Node.{Node}
use Rattle.share_graph.specs.declared.facts.Node.TheVariants as node
use Rattle.share_graph.specs.declared.grants.Grant.{Grant}
use Rattle.share_graph.specs.declared.rows.App.{App}
use Rattle.share_graph.specs.declared.rows.Grain.{Grain}
use Rattle.share_graph.specs.declared.state.Tables.{Tables}
use Rattle.share_graph.specs.Coherent.{IsCoherent}
use Rattle.share_graph.specs.Derivation.{Owns, IsFactOf, LetsThrough, IsOpenSite, own, Holds, Follows}
use Rattle.share_graph.specs.Nodes.{node_of, source_of}
use Rattle.share_graph.specs.Region.{GivesOutside}
use Rattle.share_graph.specs.Rows.{IsGrant}
use Rattle.share_graph.proofs.Least.{derived, follows_more}
use Rattle.share_graph.proofs.Outside.{IsClosedAlong, outside}
use Rattle.least_access.specs.Rounds.{IsSound}
use Rattle.least_access.specs.Solved.{Table, HeldAt}
use Rattle.least_access.proofs.Following.{node_of_site}
use Rattle.region_work.specs.declared.claim.Claim.{Claim}
use Rattle.region_work.specs.Prepared.{HasGrants, IsToGrow, IsFresh}
use Rattle.region_work.specs.Work.{Work, Finds}
use Rattle.region_work.specs.Working.{IsWorking}
use Rattle.region_work.proofs.Resumed.{node_member}
use Rattle.region_work.proofs.Sums.{contains_none}

-- no node is closed along anything
none_closed : (t : Tables) → IsClosedAlong t (Contains [])
none_closed t = record {
  grants = λ from g grant is feeds inside. absurd (contains_none from inside);
  sites = λ from g grant is none feeds inside. absurd (contains_none from inside);
}

-- What follows by a grant after a change follows before it, where the change gives nothing more at the grant's node.
module _ (u t : Tables) (coherent : IsCoherent u) (starts : List Node) (only : GivesOutside (Contains starts) u t) (g : GrantId) (grant : Grant)
    (is : IsGrant u g grant) (out : Contains starts (node_of g grant) → ⊥) (R : Node → Fact → Type 0) (fact : Fact) where
  source_back : (o : Option Node) → source_of grant ≡ o
      → MatchOption o (IsOpenSite u g grant × (node_of g grant ≡ node.Grant g) × (fact ≡ Open)) (λ from. LetsThrough u g grant fact × (node_of g grant ≡ node_of g grant) × R from fact)
      → MatchOption o (IsOpenSite t g grant × (node_of g grant ≡ node.Grant g) × (fact ≡ Open)) (λ from. LetsThrough t g grant fact × (node_of g grant ≡ node_of g grant) × R from fact)
  source_back None none s = (only.opened g grant (λ c. out (subst (λ (n : Node). Contains starts n) (node_of_site u coherent g grant is none) c)) none s.0, s.1, s.2)
  source_back (Some from) some s = (only.passed g grant fact out s.0, s.1, s.2)

  follows_back : Follows u R g grant (node_of g grant) fact → Follows t R g grant (node_of g grant) fact
  follows_back f = record {
    met = λ q c. (only.asked g grant q out is c (f.met q c).0, (f.met q c).1);
    source = source_back (source_of grant) refl f.source;
  }

module _ (u : Tables) (coherent : IsCoherent u) (starts nodes : List Node) (table : Table) (grows : IsToGrow u starts nodes table) where
  pub grown_sound : IsSound u table
  grown_sound at fact h = outside (Contains []) grows.tables u (none_closed grows.tables) grows.adds ((grows.solved at fact).0 h) (λ c. contains_none at c)

  -- what follows from the table at a node that isn't one of the starts is in it
  held_already : (g : GrantId) (grant : Grant) (fact : Fact) → IsGrant u g grant → (Contains starts (node_of g grant) → ⊥) → Follows u (HeldAt table) g grant (node_of g grant) fact
      → HeldAt table (node_of g grant) fact
  held_already g grant fact is out f =
      let before = follows_back u grows.tables coherent starts grows.only g grant is out (HeldAt table) fact f in
      let held = follows_more grows.tables (HeldAt table) (Holds grows.tables) (λ at other h. (grows.solved at other).0 h) g grant (node_of g grant) fact before in
      (grows.solved (node_of g grant) fact).1 (derived grows.tables g grant (node_of g grant) fact held)

  module _ (grants : List GrantId) (first last : Work) (all_grants : HasGrants u starts grants) (fresh : IsFresh nodes first) (finds : Finds first last)
      (sound : IsSound u first.found → IsSound u last.found)
      (owners : (n : GrainId) (grain : Grain) (app : App) (fact : Fact) → Contains starts (node.User n grain.owner) → Owns u n grain app → IsFactOf app fact
      → HeldAt last.found (node.User n grain.owner) fact)
      (tested : (g : GrantId) (grant : Grant) (fact : Fact) → Contains grants g → IsGrant u g grant → Follows u (HeldAt table) g grant (node_of g grant) fact
      → HeldAt last.found (node_of g grant) fact) where
    pub grown_working : IsWorking u table last
    grown_working = record {
      table_sound = grown_sound;
      found_sound = sound (λ at fact h. absurd (fresh.nothing at fact h));
      places = λ at there. grows.places at ((fresh.places at).0 ((finds.places at).0 there));
      reaches = λ at g grant there is feeds.
          (finds.places (node_of g grant)).1 ((fresh.places (node_of g grant)).1 (grows.closed at g grant is feeds ((fresh.places at).0 ((finds.places at).0 there))));
      queued = λ c h.
          elim (finds.found c h) [
            | inl before ↦ absurd (contains_none c (subst (λ (q : List Claim). Contains q c) fresh.none before))
            | inr new ↦ new
          ];
      listed = λ at fact h.
          elim (finds.listed at fact h) [
            | inl before ↦ absurd (fresh.nothing at fact before)
            | inr waits ↦ inr waits
          ];
      owners = λ n grain app fact o is.
          elim (node_member starts (node.User n grain.owner)) [
            | inl inside ↦ inr (owners n grain app fact inside o is)
            | inr out ↦ inl ((grows.solved (node.User n grain.owner) fact).1 (let (now, owns, has) = grows.only.owned n grain fact out (app, o, is) in own owns has))
          ];
      closed = λ g grant fact is f.
          elim (node_member starts (node_of g grant)) [
            | inl inside ↦ inr (tested g grant fact ((all_grants g).1 (grant, is, inside)) is f)
            | inr out ↦ inl (held_already g grant fact is out f)
          ];
    }
