-- A cleared region from which the work begins.
use Rattle.std.proofs.Common.{◌⊎◌, [], ◌∷◌, List, Contains, sym, subst, inl, inr}
use Rattle.host_base.specs.declared.ids.GrainId.{GrainId}
use Rattle.host_base.specs.declared.ids.GrantId.{GrantId}
use Rattle.share_graph.specs.declared.facts.Fact.{Fact}
use Rattle.share_graph.specs.declared.facts.Node.{Node}
use Rattle.share_graph.specs.declared.facts.Node.TheVariants as node
use Rattle.share_graph.specs.declared.grants.Grant.{Grant}
use Rattle.share_graph.specs.declared.rows.App.{App}
use Rattle.share_graph.specs.declared.rows.Grain.{Grain}
use Rattle.share_graph.specs.declared.state.Tables.{Tables}
use Rattle.share_graph.specs.Coherent.{IsCoherent}
use Rattle.share_graph.specs.Derivation.{Owns, IsFactOf, own, Holds, Follows}
use Rattle.share_graph.specs.Nodes.{node_of}
use Rattle.share_graph.specs.Rows.{IsGrant}
use Rattle.share_graph.proofs.Least.{derived, follows_more}
use Rattle.share_graph.proofs.Outside.{IsClosedAlong, outside}
use Rattle.least_access.specs.Rounds.{IsSound}
use Rattle.least_access.specs.Solved.{Table, HeldAt}
use Rattle.least_access.proofs.Following.{node_of_site}
use Rattle.least_access.proofs.Nodes.{same_or_other}
use Rattle.least_access.proofs.Raising.{held_same}
use Rattle.region_work.specs.declared.claim.Claim.{Claim}
use Rattle.region_work.specs.Prepared.{LeadsNowhere, HasGrants, IsPrepared, IsFresh}
use Rattle.region_work.specs.Work.{Work, Finds}
use Rattle.region_work.specs.Working.{IsWorking, HasRegion}
use Rattle.region_work.proofs.Sums.{contains_cons, contains_none}

-- a node is in a list, or isn't
pub node_member : (nodes : List Node) (at : Node) → Contains nodes at ⊎ (Contains nodes at → ⊥)
node_member [] at = inr (λ c. contains_none at c)
node_member (n ∷ nodes) at =
    elim (same_or_other n at) [
      | inl here ↦ inl ((contains_cons n nodes at).1 (inl here))
      | inr apart ↦
          elim (node_member nodes at) [
            | inl later ↦ inl ((contains_cons n nodes at).1 (inr later))
            | inr never ↦ inr (λ c. elim ((contains_cons n nodes at).0 c) [ inl here ↦ apart here | inr later ↦ never later ])
          ]
    ]

closed_along : (t : Tables) → IsCoherent t → (nodes : List Node) → LeadsNowhere t nodes → IsClosedAlong t (Contains nodes)
closed_along t coherent nodes closed = record {
  grants = λ from g grant is feeds inside. closed from g grant is feeds inside;
  sites = λ from g grant is none feeds inside. subst (λ (n : Node). Contains nodes n) (sym (node_of_site t coherent g grant is none)) (closed from g grant is feeds inside);
}

module _ (u : Tables) (coherent : IsCoherent u) (nodes : List Node) (table : Table) (prepared : IsPrepared u nodes table) where
  -- what holds outside is in the table
  pub holds_outside : (at : Node) (fact : Fact) → (Contains nodes at → ⊥) → Holds u at fact → HeldAt table at fact
  holds_outside at fact out holds =
      let before = outside (Contains nodes) u prepared.tables (closed_along u coherent nodes prepared.touches.closed_after) prepared.touches.back holds out in
      held_same table prepared.start at fact (sym (prepared.clears.others at out)) ((prepared.solved at fact).1 before)

  pub prepared_sound : IsSound u table
  prepared_sound at fact h =
      elim (node_member nodes at) [
        | inl inside ↦ absurd (prepared.clears.nothing at fact inside h)
        | inr out ↦
            let before = (prepared.solved at fact).0 (held_same prepared.start table at fact (prepared.clears.others at out) h) in
            outside (Contains nodes) prepared.tables u (closed_along prepared.tables prepared.touches.coherent nodes prepared.touches.closed) prepared.touches.there before out
      ]

module _ (u : Tables) (coherent : IsCoherent u) (nodes : List Node) (grants : List GrantId) (table : Table) (first last : Work)
    (all_grants : HasGrants u nodes grants)
    (prepared : IsPrepared u nodes table)
    (fresh : IsFresh nodes first)
    (finds : Finds first last)
    (sound : IsSound u first.found → IsSound u last.found)
    (owners : (n : GrainId) (grain : Grain) (app : App) (fact : Fact) → Contains nodes (node.User n grain.owner) → Owns u n grain app → IsFactOf app fact
    → HeldAt last.found (node.User n grain.owner) fact)
    (tested : (g : GrantId) (grant : Grant) (fact : Fact) → Contains grants g → IsGrant u g grant → Follows u (HeldAt table) g grant (node_of g grant) fact
    → HeldAt last.found (node_of g grant) fact) where
  pub prepared_working : IsWorking u table last
  prepared_working = record {
    table_sound = prepared_sound u coherent nodes table prepared;
    found_sound = sound (λ at fact h. absurd (fresh.nothing at fact h));
    places = λ at there. prepared.clears.places at ((fresh.places at).0 ((finds.places at).0 there));
    reaches = λ at g grant there is feeds.
        (finds.places (node_of g grant)).1 ((fresh.places (node_of g grant)).1 (prepared.touches.closed_after at g grant is feeds ((fresh.places at).0 ((finds.places at).0 there))));
    queued = λ c h.
        elim (finds.found c h) [
          | inl before ↦ absurd (contains_none c (subst (λ (q : List Claim). Contains q c) fresh.none before))
          | inr new ↦ new
        ];
    listed = λ at fact h.
        elim (finds.listed at fact h) [
          | inl before ↦ absurd (fresh.nothing at fact before)
          | inr waits ↦ inr waits
        ];
    owners = λ n grain app fact o is.
        elim (node_member nodes (node.User n grain.owner)) [
          | inl inside ↦ inr (owners n grain app fact inside o is)
          | inr out ↦ inl (holds_outside u coherent nodes table prepared (node.User n grain.owner) fact out (own o is))
        ];
    closed = λ g grant fact is f.
        elim (node_member nodes (node_of g grant)) [
          | inl inside ↦ inr (tested g grant fact ((all_grants g).1 (grant, is, inside)) is f)
          | inr out ↦
              let holds = derived u g grant (node_of g grant) fact (follows_more u (HeldAt table) (Holds u) (prepared_sound u coherent nodes table prepared) g grant (node_of g grant) fact f) in
              inl (holds_outside u coherent nodes table prepared (node_of g grant) fact out holds)
        ];
  }

  -- the grants are the region's
  pub prepared_region : HasRegion u last.found grants
  prepared_region g grant is there = (all_grants g).1 (grant, is, (fresh.places (node_of g grant)).0 ((finds.places (node_of g grant)).0 there))
