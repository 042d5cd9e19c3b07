-- What is held is added to what was found, fact by fact and node by node.
use Rattle.std.proofs.Common.{◌≡◌, ◌+◌, ◌<◌, ℕ, List, length, take, get_or, Contains, subst, inl, inr, arith}
use Rattle.std.proofs.lemmas.List.{take_more}
use Rattle.std.proofs.lemmas.List.Elements.{Contains-push_cases}
use Rattle.host_base.specs.declared.ids.GrainId.{GrainId}
use Rattle.share_graph.specs.declared.facts.Fact.{Fact}
use Rattle.share_graph.specs.declared.facts.Node.{Node}
use Rattle.share_graph.specs.declared.facts.Node.TheVariants as node
use Rattle.share_graph.specs.declared.rows.App.{App}
use Rattle.share_graph.specs.declared.rows.Grain.{Grain}
use Rattle.share_graph.specs.declared.state.Tables.{Tables}
use Rattle.share_graph.specs.Derivation.{Owns, IsFactOf}
use Rattle.least_access.specs.Rounds.{IsSound}
use Rattle.least_access.specs.Solved.{HeldAt}
use Rattle.region_work.specs.Work.{Work, Finds}
use Rattle.region_work.proofs.Finding.{finds_none, finds_more}

-- after the first nodes
abbrev pub HasOwn : Tables → Work → Node → Type 0
HasOwn t now at = (n : GrainId) (grain : Grain) (app : App) (fact : Fact) → at ≡ node.User n grain.owner → Owns t n grain app → IsFactOf app fact → HeldAt now.found at fact

pub record OwnedBelow (t : Tables) (nodes : List Node) (start now : Work) (i : ℕ) : Type 0 where
  pub finds : Finds start now
  pub sound : IsSound t start.found → IsSound t now.found
  pub owners : (at : Node) → Contains (take i nodes) at → HasOwn t now at

pub owned_none : (t : Tables) (nodes : List Node) (start : Work) → OwnedBelow t nodes start start 0
owned_none t nodes start = record {
  finds = finds_none start;
  sound = λ before. before;
  owners = λ at (k, below, is). absurd (omega arith);
}

pub owned_one : (t : Tables) (nodes : List Node) (start now next : Work) (i : ℕ) (d : Node) → i < length nodes → OwnedBelow t nodes start now i → Finds now next
    → (IsSound t now.found → IsSound t next.found) → HasOwn t next (get_or nodes i d) → OwnedBelow t nodes start next (i + 1)
owned_one t nodes start now next i d within so_far finds sound own = record {
  finds = finds_more start now next so_far.finds finds;
  sound = λ before. sound (so_far.sound before);
  owners = λ at c.
      let split = take_more nodes i d within in
      elim (Contains-push_cases (take i nodes) (get_or nodes i d) at (subst (λ (xs : List Node). Contains xs at) split c)) [
        | inl earlier ↦ λ n grain app fact is o f. finds.kept at fact (so_far.owners at earlier n grain app fact is o f)
        | inr here ↦ subst (λ (n : Node). HasOwn t next n) here own
      ];
}
