-- Grants are tested by what their sources have.
use Rattle.std.proofs.Common.{◌≡◌, ◌+◌, ◌<◌, ◌≤◌, ◌∷◌, [], ℕ, Bool, true, false, if◌then◌else◌, List, Option, Some, None, length, take, get_or, Contains, ap, subst, inl, inr, arith}
use Rattle.std.specs.Prelude.{sum_by}
use Rattle.std.proofs.lemmas.List.{take_more}
use Rattle.std.proofs.lemmas.List.Elements.{Contains-push_cases}
use Rattle.std.proofs.lemmas.List.Sums.{sum_by-cons}
use Rattle.host_base.specs.declared.ids.GrantId.{GrantId}
use Rattle.share_graph.specs.declared.facts.Fact.{Fact}
use Rattle.share_graph.specs.declared.facts.Node.{Node}
use Rattle.share_graph.specs.declared.grants.Grant.{Grant}
use Rattle.share_graph.specs.declared.grants.Need.{Need}
use Rattle.share_graph.specs.declared.state.Tables.{Tables}
use Rattle.share_graph.specs.Derivation.{Follows}
use Rattle.share_graph.specs.Nodes.{node_of, source_of}
use Rattle.share_graph.specs.Rows.{row, IsGrant}
use Rattle.least_access.specs.declared.held.Held.{Held}
use Rattle.least_access.specs.Held.{gain, room}
use Rattle.least_access.specs.Rounds.{IsSound}
use Rattle.least_access.specs.Solved.{Table, HeldAt}
use Rattle.region_work.specs.Owed.{meets, held_in, holder_of, unmet_at, unmet, lacking, owed_by_grant, owed_by_row, owed}
use Rattle.region_work.specs.Starting.{bound_of_row, bound_of}
use Rattle.region_work.specs.Work.{Work, Finds}
use Rattle.region_work.proofs.Finding.{finds_none, finds_more}

-- ---- what a grant owes at the start

sum_of_ones : {X : Type 0} (f : X → ℕ) → ((x : X) → f x ≤ 1) → (xs : List X) → sum_by f xs ≤ length xs
sum_of_ones f each [] = omega arith
sum_of_ones f each (x ∷ xs) = let one = each x in let rest = sum_of_ones f each xs in let head = sum_by-cons f x xs in omega arith

entry_room : (entry : Bool) → (if entry then 0 else 1) ≤ 1
entry_room true = omega arith
entry_room false = omega arith

room_le : (held : Held) → room held ≤ 65
unfolding gain
room_le held = let entry = entry_room held.entry in omega arith

lacking_le : (table : Table) (o : Option Node) → lacking table o ≤ 65
lacking_le table None = omega arith
lacking_le table (Some at) = room_le (held_in table at)

unmet_le_at : (table : Table) (q : Need) (o : Option Node) → unmet_at table q o ≤ 1
unmet_le_at table q None = omega arith
unmet_le_at table q (Some at) = mark_le (meets (held_in table at) q)
  where
    mark_le : (b : Bool) → (if b then 0 else 1) ≤ 1
    mark_le true = omega arith
    mark_le false = omega arith

unmet_le : (table : Table) (q : Need) → unmet table q ≤ 1
unmet_le table q = unmet_le_at table q (holder_of q)

pub owed_start : (t : Tables) (table : Table) (g : GrantId) (grant : Grant) → IsGrant t g grant → owed t table g + 1 ≤ bound_of t g
unfolding owed bound_of
owed_start t table g grant is =
    let a : owed_by_row table (row t.grants g.0) ≡ owed_by_grant table grant = ap (owed_by_row table) is in
    let b : bound_of_row (row t.grants g.0) ≡ 66 + length grant.needs = ap bound_of_row is in
    let source = lacking_le table (source_of grant) in
    let needs = sum_of_ones (unmet table) (unmet_le table) grant.needs in
    omega arith

-- ---- grant by grant

pub record StartedBelow (t : Tables) (table : Table) (grants : List GrantId) (start now : Work) (i : ℕ) : Type 0 where
  pub finds : Finds start now
  pub sound : IsSound t table → IsSound t start.found → IsSound t now.found
  pub tested : (num : GrantId) → Contains (take i grants) num → (grant : Grant) (fact : Fact) → IsGrant t num grant
      → Follows t (HeldAt table) num grant (node_of num grant) fact → HeldAt now.found (node_of num grant) fact

pub started_none : (t : Tables) (table : Table) (grants : List GrantId) (start : Work) → StartedBelow t table grants start start 0
started_none t table grants start = record {
  finds = finds_none start;
  sound = λ sound before. before;
  tested = λ num (k, below, is). absurd (omega arith);
}

pub started_one : (t : Tables) (table : Table) (grants : List GrantId) (start now next : Work) (i : ℕ) (d : GrantId) → i < length grants
    → StartedBelow t table grants start now i → Finds now next
    → (IsSound t table → IsSound t now.found → IsSound t next.found)
    → ((grant : Grant) (fact : Fact) → IsGrant t (get_or grants i d) grant → Follows t (HeldAt table) (get_or grants i d) grant (node_of (get_or grants i d) grant) fact
    → HeldAt next.found (node_of (get_or grants i d) grant) fact)
    → StartedBelow t table grants start next (i + 1)
started_one t table grants start now next i d within so_far finds sound tested = record {
  finds = finds_more start now next so_far.finds finds;
  sound = λ holds before. sound holds (so_far.sound holds before);
  tested = λ num c.
      let split = take_more grants i d within in
      elim (Contains-push_cases (take i grants) (get_or grants i d) num (subst (λ (xs : List GrantId). Contains xs num) split c)) [
        | inl earlier ↦ λ grant fact is f. finds.kept (node_of num grant) fact (so_far.tested num earlier grant fact is f)
        | inr here ↦
            subst (λ (n : GrantId). (grant : Grant) (fact : Fact) → IsGrant t n grant → Follows t (HeldAt table) n grant (node_of n grant) fact → HeldAt next.found (node_of n grant) fact) here tested
      ];
}
