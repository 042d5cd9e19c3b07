-- Nodes are cleared, and put back, one by one.
use Rattle.std.proofs.Common.{◌≡◌, ◌≢◌, ◌⊎◌, ◌+◌, ◌<◌, ◌≤◌, ◌++◌, ◌∷◌, [], ℕ, zero, suc, List, Option, Some, length, take, get_or, Contains, IsSome, refl, sym, ◌∙◌, ap, subst, inl, inr, arith, length-append}
use Rattle.std.specs.Prelude.{AllPairs}
use Rattle.std.proofs.lemmas.List.{take_more, take_all}
use Rattle.std.proofs.lemmas.List.Elements.{Contains-append_left, Contains-push, Contains-push_cases}
use Rattle.share_graph.specs.declared.facts.Fact.{Fact}
use Rattle.share_graph.specs.declared.facts.Node.{Node}
use Rattle.least_access.specs.declared.held.Held.{Held}
use Rattle.least_access.specs.Held.{IsIn}
use Rattle.least_access.specs.Solved.{Table, held_at, HeldAt}
use Rattle.least_access.proofs.Nodes.{same_or_other}
use Rattle.least_access.proofs.Raising.{held_there, held_same, value_of}
use Rattle.region_access.specs.Clearing.{IsWhatWas}
use Rattle.region_work.specs.Prepared.{Clears}
use Rattle.region_work.proofs.Resumed.{node_member}

held_left : (xs ys : List Held) (k : ℕ) (d : Held) → k < length xs → get_or (xs ++ ys) k d ≡ get_or xs k d
held_left [] ys k d below = absurd (omega arith)
held_left (x ∷ xs) ys zero d below = refl
held_left (x ∷ xs) ys (suc k) d below = held_left xs ys k d (omega arith)

held_last : (xs : List Held) (y d : Held) → get_or (xs ++ y ∷ []) (length xs) d ≡ y
held_last [] y d = refl
held_last (x ∷ xs) y d = held_last xs y d

take_in : (nodes : List Node) (i : ℕ) (k : ℕ) (d : Node) → k < i → k < length nodes → get_or (take i nodes) k d ≡ get_or nodes k d
take_in nodes zero k d less below = absurd (omega arith)
take_in [] (suc i) k d less below = absurd (omega arith)
take_in (x ∷ nodes) (suc i) zero d less below = refl
take_in (x ∷ nodes) (suc i) (suc k) d less below = take_in nodes i k d (omega arith) (omega arith)

length_take : (nodes : List Node) (i : ℕ) → length (take i nodes) ≤ i
length_take nodes zero = omega arith
length_take [] (suc i) = omega arith
length_take (x ∷ nodes) (suc i) = let rest = length_take nodes i in omega arith

length_within : (nodes : List Node) (i : ℕ) → length (take i nodes) ≤ length nodes
length_within nodes zero = omega arith
length_within [] (suc i) = omega arith
length_within (x ∷ nodes) (suc i) = let rest = length_within nodes i in omega arith

pub any_default : {X : Type 0} (xs : List X) (i : ℕ) (d e : X) → i < length xs → get_or xs i d ≡ get_or xs i e
any_default [] i d e within = absurd (omega arith)
any_default (x ∷ xs) zero d e within = refl
any_default (x ∷ xs) (suc i) d e within = any_default xs i d e (omega arith)

-- a node that is once in a list isn't before its place
pub not_before : (nodes : List Node) → AllPairs (λ (a : Node) (b : Node). a ≢ b) nodes → (i : ℕ) (d : Node) → i < length nodes → Contains (take i nodes) (get_or nodes i d) → ⊥
not_before nodes once i d within (k, below, is) =
    let less = length_take nodes i in
    let whole = length_within nodes i in
    let early : k < i = omega arith in
    let here : Node = get_or nodes i d in
    once k i here early within (sym (take_in nodes i k here early (omega arith)) ∙ is ∙ any_default nodes i d here within)

-- ---- clearing

pub record ClearedBelow (nodes : List Node) (start now : Table) (before : List Held) (i : ℕ) : Type 0 where
  pub long : length before ≡ i
  pub others : (at : Node) → (Contains (take i nodes) at → ⊥) → held_at now at ≡ held_at start at
  pub places : (at : Node) → Contains nodes at → IsSome (held_at now at)
  pub nothing : (at : Node) (fact : Fact) → Contains (take i nodes) at → HeldAt now at fact → ⊥
  pub same : (k : ℕ) (d : Node) (e : Held) → k < i → held_at start (get_or nodes k d) ≡ Some (get_or before k e)

pub cleared_none : (nodes : List Node) (start : Table) → ((at : Node) → Contains nodes at → IsSome (held_at start at)) → ClearedBelow nodes start start [] 0
cleared_none nodes start places = record {
  long = refl;
  others = λ at out. refl;
  places = places;
  nothing = λ at fact (k, below, is). absurd (omega arith);
  same = λ k d e none. absurd (omega arith);
}

-- one node more
module _ (nodes : List Node) (once : AllPairs (λ (a : Node) (b : Node). a ≢ b) nodes) (start now next : Table) (before : List Held) (i : ℕ) (d : Node) (held none : Held)
    (within : i < length nodes)
    (so_far : ClearedBelow nodes start now before i)
    (there : (x : Held) → held_at now (get_or nodes i d) ≡ Some x → held ≡ x)
    (nothing : (fact : Fact) → IsIn none fact → ⊥)
    (same : held_at next (get_or nodes i d) ≡ Some none)
    (others : (at : Node) → at ≢ get_or nodes i d → held_at next at ≡ held_at now at) where
  abbrev here : Node
  here = get_or nodes i d

  split : take (i + 1) nodes ≡ take i nodes ++ here ∷ []
  split = take_more nodes i d within

  last_in : Contains (take (i + 1) nodes) here
  last_in = subst (λ (xs : List Node). Contains xs here) (sym split) (Contains-push (take i nodes) here)

  earlier_in : (at : Node) → Contains (take i nodes) at → Contains (take (i + 1) nodes) at
  earlier_in at c = subst (λ (xs : List Node). Contains xs at) (sym split) (Contains-append_left (take i nodes) (here ∷ []) at c)

  here_is : (x : Node) → get_or nodes i x ≡ here
  here_is x = any_default nodes i x d within

  pub cleared_one : ClearedBelow nodes start next (before ++ held ∷ []) (i + 1)
  cleared_one = record {
    long = let more = length-append before (held ∷ []) in let long = so_far.long in omega arith;
    others = λ at out.
        let apart : at ≢ here = λ one. out (subst (λ (n : Node). Contains (take (i + 1) nodes) n) (sym one) last_in) in
        others at apart ∙ so_far.others at (λ c. out (earlier_in at c));
    places = λ at inside.
        elim (same_or_other at here) [
          | inl one ↦ subst (λ (n : Node). IsSome (held_at next n)) (sym one) (subst (λ (o : Option Held). IsSome o) (sym same) refl)
          | inr apart ↦ subst (λ (o : Option Held). IsSome o) (sym (others at apart)) (so_far.places at inside)
        ];
    nothing = λ at fact c h.
        elim (same_or_other at here) [
          | inl one ↦ nothing fact (held_there next here none fact same (subst (λ (n : Node). HeldAt next n fact) one h))
          | inr apart ↦
              elim (Contains-push_cases (take i nodes) here at (subst (λ (xs : List Node). Contains xs at) split c)) [
                | inl earlier ↦ so_far.nothing at fact earlier (held_same now next at fact (others at apart) h)
                | inr one ↦ absurd (apart (sym one))
              ]
        ];
    same = λ k x e below.
        let long = so_far.long in
        let sides : (k < i) ⊎ (k ≡ i) = grind arith in
        elim sides [
          | inl earlier ↦ so_far.same k x e earlier ∙ ap (λ (h : Held). Some h) (sym (held_left before (held ∷ []) k e (omega arith)))
          | inr last ↦
              let (was, is) = value_of (held_at now here) (so_far.places here (i, within, here_is here)) in
              let at_start : held_at start here ≡ Some held = sym (so_far.others here (not_before nodes once i d within)) ∙ is ∙ ap (λ (h : Held). Some h) (sym (there was is)) in
              let at_k : get_or nodes k x ≡ here = ap (λ (j : ℕ). get_or nodes j x) last ∙ here_is x in
              let read : get_or (before ++ held ∷ []) k e ≡ held = ap (λ (j : ℕ). get_or (before ++ held ∷ []) j e) (last ∙ sym long) ∙ held_last before held e in
              ap (λ (n : Node). held_at start n) at_k ∙ at_start ∙ ap (λ (h : Held). Some h) (sym read)
        ];
  }

pub cleared_all : (nodes : List Node) (start now : Table) (before : List Held) (i : ℕ) → i ≡ length nodes → ClearedBelow nodes start now before i → Clears nodes start now × IsWhatWas start nodes before
cleared_all nodes start now before i end done =
    let whole = take_all i nodes (omega arith) in (
      record {
        places = done.places;
        nothing = λ at fact inside. done.nothing at fact (subst (λ (xs : List Node). Contains xs at) (sym whole) inside);
        others = λ at out. done.others at (λ c. out (subst (λ (xs : List Node). Contains xs at) whole c));
      },
      record { long = done.long ∙ end; same = λ k d e below. done.same k d e (omega arith) },
    )

-- ---- putting back

pub record RestoredBelow (nodes : List Node) (start now : Table) (i : ℕ) : Type 0 where
  pub back : (at : Node) → Contains (take i nodes) at → held_at now at ≡ held_at start at
  pub others : (at : Node) → (Contains nodes at → ⊥) → held_at now at ≡ held_at start at

pub restored_none : (nodes : List Node) (start table : Table) → Clears nodes start table → RestoredBelow nodes start table 0
restored_none nodes start table clears = record { back = λ at (k, below, is). absurd (omega arith); others = clears.others }

pub restored_one : (nodes : List Node) (start now next : Table) (before : List Held) (i : ℕ) (d : Node) (e : Held) → i < length nodes → IsWhatWas start nodes before
    → RestoredBelow nodes start now i
    → held_at next (get_or nodes i d) ≡ Some (get_or before i e)
    → ((at : Node) → at ≢ get_or nodes i d → held_at next at ≡ held_at now at)
    → RestoredBelow nodes start next (i + 1)
restored_one nodes start now next before i d e within was so_far same others = record {
  back = λ at c.
      elim (same_or_other at (get_or nodes i d)) [
        | inl one ↦ ap (λ (n : Node). held_at next n) one ∙ same ∙ sym (was.same i d e within) ∙ ap (λ (n : Node). held_at start n) (sym one)
        | inr apart ↦
            elim (Contains-push_cases (take i nodes) (get_or nodes i d) at (subst (λ (xs : List Node). Contains xs at) (take_more nodes i d within) c)) [
              | inl earlier ↦ others at apart ∙ so_far.back at earlier
              | inr one ↦ absurd (apart (sym one))
            ]
      ];
  others = λ at out.
      elim (same_or_other at (get_or nodes i d)) [
        | inl one ↦ absurd (out (i, within, any_default nodes i at d within ∙ sym one))
        | inr apart ↦ others at apart ∙ so_far.others at out
      ];
}

pub restored_all : (nodes : List Node) (start now : Table) (i : ℕ) → length nodes ≤ i → RestoredBelow nodes start now i → (at : Node) → held_at now at ≡ held_at start at
restored_all nodes start now i end done at =
    elim (node_member nodes at) [
      | inl inside ↦ done.back at (subst (λ (xs : List Node). Contains xs at) (sym (take_all i nodes end)) inside)
      | inr out ↦ done.others at out
    ]
