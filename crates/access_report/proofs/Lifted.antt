-- What is known of nodes, and what grants add to it.
use Rattle.std.proofs.Common.{◌≡◌, ◌≢◌, ◌<◌, ◌≤◌, ◌+◌, ◌↔◌, ℕ, List, Option, Contains, length, take, get_or, sym, ◌∙◌, subst, inl, inr}
use Rattle.std.proofs.lemmas.List.{take_more, take_all}
use Rattle.std.proofs.lemmas.List.Elements.{Contains-push_cases}
use Rattle.host_base.specs.declared.ids.GrantId.{GrantId}
use Rattle.share_graph.specs.declared.facts.Fact.{Fact}
use Rattle.share_graph.specs.declared.facts.Node.{Node}
use Rattle.share_graph.specs.declared.grants.Grant.{Grant}
use Rattle.share_graph.specs.declared.state.Tables.{Tables}
use Rattle.share_graph.specs.Derivation.{HoldsWithout, Follows}
use Rattle.share_graph.specs.Nodes.{node_of}
use Rattle.share_graph.proofs.Least.{follows_more}
use Rattle.least_access.specs.declared.held.Held.{Held}
use Rattle.least_access.specs.Held.{IsIn}
use Rattle.least_access.specs.Solved.{Table, HeldAt}
use Rattle.region_work.proofs.Sums.{contains_none}
use Rattle.access_report.specs.Lifting.{IsKnown, IsFilled, AreFilled, HoldAll}
use Rattle.access_report.specs.Turns.{IsJoined}
use Rattle.access_report.proofs.Joined.{has_same, has_then}
use Rattle.access_report.proofs.Without.{derived_without}

-- a node was filled
pub is_filled : (t : Tables) (solved : Table) (region : List Node) (old new : Table) (node : Node) (known : Held) (gained : Option Node) → IsJoined node known old new gained
    → ((fact : Fact) → IsIn known fact ↔ IsKnown t solved region node fact) → IsFilled t solved region node old new
is_filled t solved region old new node known gained joined exact = record {
  more = joined.gain.more;
  known = λ fact is. joined.has fact ((exact fact).1 is);
  only = λ at fact h.
      elim (joined.only at fact h) [
        | inl earlier ↦ inl earlier
        | inr (one, fresh) ↦ inr (subst (λ (n : Node). IsKnown t solved region n fact) one ((exact fact).0 fresh))
      ];
}

-- the first nodes were
pub filled_none : (t : Tables) (solved : Table) (region nodes : List Node) (old : Table) → AreFilled t solved region (take 0 nodes) old old
filled_none t solved region nodes old = record { more = has_same old; known = λ at fact listed is. absurd (contains_none at listed); only = λ at fact h. inl h }

pub filled_next : (t : Tables) (solved : Table) (region nodes : List Node) (old mid new : Table) (n : ℕ) (d : Node) → n < length nodes → IsFilled t solved region (get_or nodes n d) mid new
    → AreFilled t solved region (take n nodes) old mid → AreFilled t solved region (take (n + 1) nodes) old new
filled_next t solved region nodes old mid new n d within one so_far = record {
  more = has_then old mid new so_far.more one.more;
  known = λ at fact listed is.
      elim (Contains-push_cases (take n nodes) (get_or nodes n d) at (subst (λ (xs : List Node). Contains xs at) (take_more nodes n d within) listed)) [
        | inl earlier ↦ one.more.facts at fact (so_far.known at fact earlier is)
        | inr last ↦ subst (λ (m : Node). HeldAt new m fact) last (one.known fact (subst (λ (m : Node). IsKnown t solved region m fact) (sym last) is))
      ];
  only = λ at fact h. elim (one.only at fact h) [ inl earlier ↦ so_far.only at fact earlier | inr is ↦ inr is ];
}

pub filled_all : (t : Tables) (solved : Table) (region nodes : List Node) (old new : Table) (n : ℕ) → length nodes ≤ n → AreFilled t solved region (take n nodes) old new → AreFilled t solved region nodes old new
filled_all t solved region nodes old new n all done = subst (λ (xs : List Node). AreFilled t solved region xs old new) (take_all n nodes all) done

-- what another grant adds holds without it
pub lifted_without : (t : Tables) (g h : GrantId) (grant : Grant) (node : Node) (held : Held) (old new : Table) (gained : Option Node) → node ≡ node_of h grant
    → ((fact : Fact) → IsIn held fact ↔ Follows t (HeldAt old) h grant (node_of h grant) fact) → IsJoined node held old new gained → h ≢ g → HoldAll t g old → HoldAll t g new
lifted_without t g h grant node held old new gained here exact joined other all at fact has =
    elim (joined.only at fact has) [
      | inl earlier ↦ all at fact earlier
      | inr (one, fresh) ↦
          subst (λ (n : Node). HoldsWithout t g n fact) (sym here ∙ one)
          (derived_without t g h grant other (node_of h grant) fact (follows_more t (HeldAt old) (HoldsWithout t g) all h grant (node_of h grant) fact ((exact fact).0 fresh)))
    ]
