-- Places are made for nodes, one by one.
use Rattle.std.proofs.Common.{◌≡◌, ◌≢◌, ◌+◌, ◌<◌, ◌∷◌, [], ℕ, List, Option, Some, None, length, take, get_or, Contains, Bool, true, false, if◌then◌else◌, ◌-◌, ◌≤◌, ◌*◌, IsSome, IsSomeAnd, refl, sym, ◌∙◌, ap, subst, inl, inr, arith}
use Rattle.std.proofs.lemmas.List.{take_more}
use Rattle.std.proofs.lemmas.List.Elements.{Contains-append_left, Contains-push, Contains-push_cases}
use Rattle.share_graph.specs.declared.facts.Fact.{Fact}
use Rattle.share_graph.specs.declared.facts.Node.{Node}
use Rattle.least_access.specs.declared.held.Held.{Held}
use Rattle.perm_roles.specs.PermSet.{positions}
use Rattle.std.specs.Map.{values_of}
use Rattle.std.proofs.lemmas.List.Sums.{sum_by-cons}
use Rattle.least_access.specs.Rounds.{total_room}
use Rattle.least_access.specs.Held.{IsIn, gain, room}
use Rattle.least_access.specs.Solved.{Table, held_at, HeldAt}
use Rattle.least_access.proofs.Nodes.{same_or_other}
use Rattle.least_access.proofs.Raising.{held_there, held_same}
use Rattle.region_work.specs.Emptying.{AddsPlace, IsEmptyAt}
use Rattle.region_work.proofs.Sums.{contains_none}

-- a place that is there
pub place_there : (table : Table) (node : Node) → IsSome (held_at table node) → AddsPlace node table table
place_there table node there = record {
  places = λ at. (
    λ h. inl h,
    elim [ inl h ↦ h | inr same ↦ subst (λ (n : Node). IsSome (held_at table n)) (sym same) there ],
  );
  facts = λ at fact. (λ h. h, λ h. h);
}

-- a place that is made
pub place_made : (old new : Table) (node : Node) (none : Held) → ((fact : Fact) → IsIn none fact → ⊥) → held_at old node ≡ None
    → held_at new node ≡ Some none → ((at : Node) → at ≢ node → held_at new at ≡ held_at old at) → AddsPlace node old new
place_made old new node none nothing absent same others = record {
  places = λ at.
      elim (same_or_other at node) [
        | inl here ↦ (
          λ h. inr here,
          λ h. subst (λ (n : Node). IsSome (held_at new n)) (sym here) (subst (λ (o : Option Held). IsSome o) (sym same) refl),
        )
        | inr other ↦ (
          λ h. inl (subst (λ (o : Option Held). IsSome o) (others at other) h),
          elim [ inl h ↦ subst (λ (o : Option Held). IsSome o) (sym (others at other)) h | inr one ↦ absurd (other one) ],
        )
      ];
  facts = λ at fact.
      elim (same_or_other at node) [
        | inl here ↦ (
          λ h. absurd (nothing fact (held_there new node none fact same (subst (λ (n : Node). HeldAt new n fact) here h))),
          λ h. absurd (subst (λ (o : Option Held). IsSomeAnd o (λ x. IsIn x fact)) (ap (λ (n : Node). held_at old n) here ∙ absent) h),
        )
        | inr other ↦ (λ h. held_same old new at fact (others at other) h, λ h. held_same new old at fact (sym (others at other)) h)
      ];
}

pub empty_none : (nodes : List Node) → IsEmptyAt (take 0 nodes) []
empty_none nodes = record {
  places = λ at. (λ h. cc h, λ c. absurd (contains_none at c));
  nothing = λ at fact h. h;
}

pub empty_one : (nodes : List Node) (i : ℕ) (d : Node) (old new : Table) → i < length nodes → IsEmptyAt (take i nodes) old → AddsPlace (get_or nodes i d) old new → IsEmptyAt (take (i + 1) nodes) new
empty_one nodes i d old new within so_far adds = record {
  places = λ at.
      let split = take_more nodes i d within in (
        λ h.
            elim ((adds.places at).0 h) [
              | inl before ↦ subst (λ (xs : List Node). Contains xs at) (sym split) (Contains-append_left (take i nodes) (get_or nodes i d ∷ []) at ((so_far.places at).0 before))
              | inr here ↦ subst (λ (n : Node). Contains (take (i + 1) nodes) n) (sym here) (subst (λ (xs : List Node). Contains xs (get_or nodes i d)) (sym split) (Contains-push (take i nodes) (get_or nodes i d)))
            ],
        λ c.
            elim (Contains-push_cases (take i nodes) (get_or nodes i d) at (subst (λ (xs : List Node). Contains xs at) split c)) [
              | inl before ↦ (adds.places at).1 (inl ((so_far.places at).1 before))
              | inr here ↦ (adds.places at).1 (inr (sym here))
            ],
      );
  nothing = λ at fact h. so_far.nothing at fact ((adds.facts at fact).0 h);
}

pub empty_all : (nodes : List Node) (i : ℕ) (table : Table) → IsEmptyAt (take i nodes) table → take i nodes ≡ nodes → IsEmptyAt nodes table
empty_all nodes i table done whole = subst (λ (xs : List Node). IsEmptyAt xs table) whole done

-- a node lacks at most 65 facts
room_le : (held : Held) → room held ≤ 65
unfolding gain
room_le held = entry_le held.entry
  where
    entry_le : (entry : Bool) → (if entry then 0 else 1) + (64 - length (positions held.perms)) ≤ 65
    entry_le true = omega arith
    entry_le false = omega arith

pub total_room_le : (table : Table) → total_room table ≤ 65 * length table
total_room_le [] = omega arith
total_room_le (entry ∷ table) =
    let head = sum_by-cons room entry.1 (values_of table) in
    let here = room_le entry.1 in
    let rest = total_room_le table in
    omega arith
