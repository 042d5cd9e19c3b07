-- Places where nothing is held are dropped.
use Rattle.std.proofs.Common.{◌≡◌, ◌≢◌, ◌+◌, ◌<◌, ℕ, false, List, Option, Some, None, IsSomeAnd, length, take, get_or, Contains, sym, ◌∙◌, subst, inl, inr, arith}
use Rattle.std.proofs.lemmas.Bool.{cases_Bool}
use Rattle.std.proofs.lemmas.List.{take_more}
use Rattle.std.proofs.lemmas.List.Elements.{Contains-push_cases}
use Rattle.perm_roles.proofs.Sets.{same_members}
use Rattle.share_graph.specs.declared.facts.Fact.{Fact}
use Rattle.share_graph.specs.declared.facts.Fact.TheVariants.{Open, Perm}
use Rattle.share_graph.specs.declared.facts.Node.{Node}
use Rattle.least_access.specs.declared.held.Held.{Held}
use Rattle.least_access.specs.Held.{IsIn}
use Rattle.least_access.specs.Solved.{Table, held_at, HeldAt}
use Rattle.least_access.proofs.Nodes.{same_or_other}
use Rattle.least_access.proofs.Raising.{held_same}
use Rattle.region_access.specs.Room.{HasEmptyPlace, HasSameFacts}

no_entry : (held : Held) → ((fact : Fact) → IsIn held fact → ⊥) → held.entry ≡ false
no_entry held none = elim (cases_Bool held.entry) [ inl is ↦ absurd (none Open is) | inr is ↦ is ]

-- two that hold nothing are the same
pub nothing_same : (a b : Held) → ((fact : Fact) → IsIn a fact → ⊥) → ((fact : Fact) → IsIn b fact → ⊥) → a ≡ b
nothing_same a b none never =
    let entry = no_entry a none ∙ sym (no_entry b never) in
    let perms = same_members a.perms b.perms (λ p. (λ has. absurd (none (Perm p) has), λ has. absurd (never (Perm p) has))) in
    λ i. record { entry = entry i; perms = perms i }

held_none : (table : Table) (at : Node) (fact : Fact) → held_at table at ≡ None → HeldAt table at fact → ⊥
held_none table at fact none h = by_value (held_at table at) none h
  where
    by_value : (o : Option Held) → o ≡ None → IsSomeAnd o (λ held. IsIn held fact) → ⊥
    by_value (Some held) none h = cc none
    by_value None none h = h

-- a place was dropped where nothing was held
pub dropped_facts : (old new : Table) (node : Node) → ((fact : Fact) → HeldAt old node fact → ⊥) → held_at new node ≡ None
    → ((at : Node) → at ≢ node → held_at new at ≡ held_at old at) → HasSameFacts old new
dropped_facts old new node nothing gone others at fact =
    elim (same_or_other at node) [
      | inl here ↦ (
        λ h. absurd (held_none new node fact gone (subst (λ (n : Node). HeldAt new n fact) here h)),
        λ h. absurd (nothing fact (subst (λ (n : Node). HeldAt old n fact) here h)),
      )
      | inr apart ↦ (held_same old new at fact (others at apart), held_same new old at fact (sym (others at apart)))
    ]

pub gone_place : (table : Table) (node : Node) → held_at table node ≡ None → HasEmptyPlace table node → ⊥
gone_place table node gone (held, is, none) = let odd : None ≡ Some held = sym gone ∙ is in cc

-- after the first nodes
pub record DroppedBelow (start now : Table) (nodes : List Node) (i : ℕ) : Type 0 where
  pub facts : HasSameFacts start now
  pub dropped : (at : Node) → Contains (take i nodes) at → HasEmptyPlace now at → ⊥

pub dropped_none : (start : Table) (nodes : List Node) → DroppedBelow start start nodes 0
dropped_none start nodes = record {
  facts = λ at fact. (λ h. h, λ h. h);
  dropped = λ at (k, below, is). absurd (omega arith);
}

pub dropped_one : (start now next : Table) (nodes : List Node) (i : ℕ) (d : Node) → i < length nodes → DroppedBelow start now nodes i
    → (HasEmptyPlace next (get_or nodes i d) → ⊥) → HasSameFacts now next
    → ((at : Node) → at ≢ get_or nodes i d → held_at next at ≡ held_at now at) → DroppedBelow start next nodes (i + 1)
dropped_one start now next nodes i d within so_far own facts others = record {
  facts = λ at fact. (λ h. (so_far.facts at fact).0 ((facts at fact).0 h), λ h. (facts at fact).1 ((so_far.facts at fact).1 h));
  dropped = λ at c.
      let split = take_more nodes i d within in
      elim (Contains-push_cases (take i nodes) (get_or nodes i d) at (subst (λ (xs : List Node). Contains xs at) split c)) [
        | inl earlier ↦
            elim (same_or_other at (get_or nodes i d)) [
              | inl here ↦ subst (λ (n : Node). HasEmptyPlace next n → ⊥) (sym here) own
              | inr apart ↦ λ (held, is, none). so_far.dropped at earlier (held, sym (others at apart) ∙ is, none)
            ]
        | inr here ↦ subst (λ (n : Node). HasEmptyPlace next n → ⊥) here own
      ];
}

-- the same facts in turn
pub facts_both : (a b c : Table) → HasSameFacts a b → HasSameFacts b c → HasSameFacts a c
facts_both a b c first second at fact = (λ h. (first at fact).0 ((second at fact).0 h), λ h. (second at fact).1 ((first at fact).1 h))
