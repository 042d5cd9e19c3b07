-- What is held at a node is added to what was found.
use Rattle.std.proofs.Common.{◌≡◌, ◌≢◌, ◌⊎◌, ◌↔◌, ◌+◌, ◌≤◌, ℕ, Bool, true, false, eqb, eq-eqb, List, [], ◌∷◌, ◌++◌, Option, Some, IsSome, refl, sym, ◌∙◌, ap, subst, inl, inr, arith, length-append}
use Rattle.std.specs.Prelude.{◌&&◌}
use Rattle.std.proofs.Math.Bool.{beq}
use Rattle.std.proofs.lemmas.Bool.{and_from, and_parts, eqb-true}
use Rattle.std.proofs.lemmas.List.Elements.{Contains-append_left, Contains-push, Contains-push_cases}
use Rattle.host_base.specs.declared.ids.GrantId.{GrantId}
use Rattle.std.specs.Int.{bit_at}
use Rattle.perm_roles.specs.PermSet.{Has}
use Rattle.perm_roles.specs.declared.perm_set.PermSet.{PermSet}
use Rattle.perm_roles.proofs.Sets.{same_members}
use Rattle.share_graph.specs.declared.facts.Fact.{Fact}
use Rattle.share_graph.specs.declared.facts.Node.{Node}
use Rattle.share_graph.specs.declared.grants.Grant.{Grant}
use Rattle.share_graph.specs.declared.state.Tables.{Tables}
use Rattle.share_graph.specs.Derivation.{Holds, Follows}
use Rattle.share_graph.specs.Nodes.{node_of}
use Rattle.share_graph.proofs.Least.{derived, follows_more}
use Rattle.least_access.specs.declared.held.Held.{Held}
use Rattle.least_access.specs.Held.{IsIn, room}
use Rattle.least_access.specs.Rounds.{total_room, IsSound}
use Rattle.least_access.specs.Solved.{Table, held_at, HeldAt}
use Rattle.least_access.proofs.Nodes.{same_or_other}
use Rattle.least_access.proofs.Raising.{held_there, held_here, held_same, value_of}
use Rattle.region_work.specs.declared.claim.Claim.{Claim}
use Rattle.region_work.specs.Work.{IsFoundIn, Work, Finds, claim}

beq_same : (x y : Bool) → beq x y ≡ true → x ≡ y
beq_same true true is = refl
beq_same false false is = refl
beq_same true false is = absurd (let odd : false ≡ true = is in cc)
beq_same false true is = absurd (let odd : false ≡ true = is in cc)

beq_self : (x : Bool) → beq x x ≡ true
beq_self true = refl
beq_self false = refl

-- whether two are the same is told by their parts
abbrev are_same : Held → Held → Bool
are_same a b = beq a.entry b.entry && eqb a.perms.bits b.perms.bits

same_perms : (a b : PermSet) → a.bits ≡ b.bits → a ≡ b
unfolding Has
same_perms a b is = same_members a b (λ p. (λ has. subst (λ (n : ℕ). bit_at n p ≡ 1) is has, λ has. subst (λ (n : ℕ). bit_at n p ≡ 1) (sym is) has))

pub same_held : (a b : Held) → are_same a b ≡ true → a ≡ b
same_held a b is =
    let both = and_parts (beq a.entry b.entry) (eqb a.perms.bits b.perms.bits) is in
    let entry = beq_same a.entry b.entry both.0 in
    let perms = same_perms a.perms b.perms (eqb-true a.perms.bits b.perms.bits both.1) in
    λ i. record { entry = entry i; perms = perms i }

pub other_held : (a b : Held) → are_same a b ≡ false → a ≢ b
other_held a b not same =
    let self : are_same a a ≡ true = and_from (beq a.entry a.entry) (eqb a.perms.bits a.perms.bits) (beq_self a.entry) (eq-eqb a.perms.bits a.perms.bits refl) in
    let odd : false ≡ true = sym not ∙ subst (λ (h : Held). are_same a h ≡ true) same self in
    cc

-- a set that isn't what it was joined from has less room
pub less_room : (before joined : Held) → room joined ≤ room before → (room joined ≡ room before → joined ≡ before) → joined ≢ before → room joined + 1 ≤ room before
less_room before joined most same other =
    let apart : room joined ≢ room before = λ is. other (same is) in
    grind (arith, apart, most)

module _ (old new : Table) (queue : List Claim) (at : Node) (gained held joined : Held)
    (there : IsSome (held_at old at))
    (holds : (f : Fact) → IsIn held f ↔ HeldAt old at f)
    (one : (before : Held) → held_at old at ≡ Some before → held ≡ before)
    (members : (other : Fact) → IsIn joined other ↔ (IsIn held other ⊎ IsIn gained other))
    (less : room joined + 1 ≤ room held)
    (same : held_at new at ≡ Some joined)
    (others : (other : Node) → other ≢ at → held_at new other ≡ held_at old other)
    (sums : (before : Held) → held_at old at ≡ Some before → total_room new + room before ≡ total_room old + room joined) where
  pub found_only : (n : Node) (other : Fact) → HeldAt new n other → HeldAt old n other ⊎ ((n ≡ at) × IsIn gained other)
  found_only n other h =
      elim (same_or_other n at) [
        | inl here ↦
            elim ((members other).0 (held_there new at joined other same (subst (λ (m : Node). HeldAt new m other) here h))) [
              | inl before ↦ inl (subst (λ (m : Node). HeldAt old m other) (sym here) ((holds other).0 before))
              | inr fresh ↦ inr (here, fresh)
            ]
        | inr apart ↦ inl (held_same old new n other (others n apart) h)
      ]

  pub found_there : (fact : Fact) → IsIn gained fact → HeldAt new at fact
  found_there fact is = held_here new at joined fact same ((members fact).1 (inr is))

  found_kept : (n : Node) (other : Fact) → HeldAt old n other → HeldAt new n other
  found_kept n other h =
      elim (same_or_other n at) [
        | inl here ↦ subst (λ (m : Node). HeldAt new m other) (sym here) (held_here new at joined other same ((members other).1 (inl ((holds other).1 (subst (λ (m : Node). HeldAt old m other) here h)))))
        | inr apart ↦ held_same new old n other (sym (others n apart)) h
      ]

  found_place : IsSome (held_at new at)
  found_place = subst (λ (o : Option Held). IsSome o) (sym same) refl

  found_places : (n : Node) → IsSome (held_at new n) ↔ IsSome (held_at old n)
  found_places n =
      elim (same_or_other n at) [
        | inl here ↦ (
          λ h. subst (λ (m : Node). IsSome (held_at old m)) (sym here) there,
          λ h. subst (λ (m : Node). IsSome (held_at new m)) (sym here) found_place,
        )
        | inr apart ↦ (subst (λ (o : Option Held). IsSome o) (others n apart), subst (λ (o : Option Held). IsSome o) (sym (others n apart)))
      ]

  pub found_room : total_room new + 1 ≤ total_room old
  found_room =
      let (before, is) = value_of (held_at old at) there in
      let sum = sums before is in
      let value : room held ≡ room before = ap room (one before is) in
      omega arith

  pub found_new : Finds (record { found = old; queue = queue }) (record { found = new; queue = queue ++ claim at gained ∷ [] })
  found_new = record {
    places = found_places;
    kept = found_kept;
    waits = λ c h. Contains-append_left queue (claim at gained ∷ []) c h;
    listed = λ n other h.
        elim (found_only n other h) [
          | inl before ↦ inl before
          | inr fresh ↦ inr (claim at gained, Contains-push queue (claim at gained), sym fresh.0, fresh.1)
        ];
    found = λ c h.
        elim (Contains-push_cases queue (claim at gained) c h) [
          | inl before ↦ inl before
          | inr fresh ↦ inr (subst (λ (x : Claim). IsFoundIn new x) fresh (record { place = found_place; facts = found_there }))
        ];
    less = let room = found_room in let more = length-append queue (claim at gained ∷ []) in omega arith;
  }

-- nothing more was found
pub finds_none : (work : Work) → Finds work work
finds_none work = record {
  places = λ at. (λ h. h, λ h. h);
  kept = λ at fact h. h;
  waits = λ c h. h;
  listed = λ at fact h. inl h;
  found = λ c h. inl h;
  less = omega arith;
}

-- what was found is found still
pub still_found : (old new : Table) (c : Claim) → ((at : Node) → IsSome (held_at new at) ↔ IsSome (held_at old at)) → ((at : Node) (fact : Fact) → HeldAt old at fact → HeldAt new at fact)
    → IsFoundIn old c → IsFoundIn new c
still_found old new c places kept is = record { place = (places c.node).1 is.place; facts = λ fact has. kept c.node fact (is.facts fact has) }

-- one search after another
pub finds_more : (a b c : Work) → Finds a b → Finds b c → Finds a c
finds_more a b c first second = record {
  places = λ at. (λ h. (first.places at).0 ((second.places at).0 h), λ h. (second.places at).1 ((first.places at).1 h));
  kept = λ at fact h. second.kept at fact (first.kept at fact h);
  waits = λ x h. second.waits x (first.waits x h);
  listed = λ at fact h.
      elim (second.listed at fact h) [
        | inl before ↦ elim (first.listed at fact before) [ inl old ↦ inl old | inr new ↦ inr (new.0, second.waits new.0 new.1, new.2, new.3) ]
        | inr new ↦ inr new
      ];
  found = λ x h.
      elim (second.found x h) [
        | inl before ↦ elim (first.found x before) [ inl old ↦ inl old | inr new ↦ inr (still_found b.found c.found x second.places second.kept new) ]
        | inr new ↦ inr new
      ];
  less = let one = first.less in let two = second.less in omega arith;
}

-- what follows from what holds may be found
pub sound_found : (t : Tables) (table old new : Table) (g : GrantId) (grant : Grant) (at : Node) (passed : Held) → at ≡ node_of g grant
    → ((fact : Fact) → IsIn passed fact → Follows t (HeldAt table) g grant (node_of g grant) fact)
    → ((n : Node) (other : Fact) → HeldAt new n other → HeldAt old n other ⊎ ((n ≡ at) × IsIn passed other))
    → IsSound t table → IsSound t old → IsSound t new
sound_found t table old new g grant at passed here follows only sound before n other h =
    elim (only n other h) [
      | inl known ↦ before n other known
      | inr fresh ↦
          let holds = derived t g grant (node_of g grant) other (follows_more t (HeldAt table) (Holds t) sound g grant (node_of g grant) other (follows other fresh.1)) in
          subst (λ (m : Node). Holds t m other) (sym (fresh.0 ∙ here)) holds
    ]
