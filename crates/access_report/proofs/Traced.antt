-- Steps that are found by what they say.
use Rattle.std.proofs.Common.{◌≡◌, ◌<◌, ◌+◌, ◌⊎◌, ◌++◌, ◌∷◌, [], ℕ, Bool, true, false, List, Option, Some, None, IsSome, MatchOption, length, refl, sym, ◌∙◌, ap, subst, inl, inr, arith}
use Rattle.std.specs.BTreeMap.{BTreeMap, Updates, is_at}
use Rattle.std.specs.Cmp.{tied_then, unsigned_tied}
use Rattle.std.specs.Option.{option_cmp}
use Rattle.std.specs.Ordering.{is_eq, nat_cmp}
use Rattle.std.proofs.lemmas.Bool.{and_parts, eqb-true}
use Rattle.std.proofs.lemmas.List.{length_push}
use Rattle.std.proofs.lemmas.Option.{slice_get_within}
use Rattle.share_graph.specs.contracts.facts.NodeOrd.TheImpl as node_order
use Rattle.share_graph.specs.declared.facts.Fact.{Fact}
use Rattle.share_graph.specs.declared.facts.Fact.TheVariants.{Open, Perm}
use Rattle.share_graph.specs.declared.facts.Node.{Node}
use Rattle.least_access.proofs.Nodes.{same_node}
use Rattle.access_report.specs.declared.step.Step.{Step}
use Rattle.access_report.specs.Placing.{ArePlaced, key_cmp, place_in, position}
use Rattle.access_report.specs.Steps.{SaysBefore}
use Rattle.access_report.specs.Telling.{IsSaid}
use Rattle.access_report.proofs.Told.{pushed_cases, pushed_last, says_longer}

-- ---- keys that the order can't tell apart are of one node and fact

same_position : (p q : Option ℕ) → is_eq (option_cmp nat_cmp p q) ≡ true → p ≡ q
same_position None None h = refl
same_position None (Some q) h = cc h
same_position (Some p) None h = cc h
same_position (Some p) (Some q) h = ap (λ n. Some n) (eqb-true p q (sym (unsigned_tied p q) ∙ h))

same_fact : (f g : Fact) → position f ≡ position g → f ≡ g
same_fact Open Open h = refl
same_fact Open (Perm q) h = cc h
same_fact (Perm p) Open h = cc h
same_fact (Perm p) (Perm q) h = let one : p ≡ q = cc in ap (λ n. Perm n) one

same_key : (a b : Node) (f g : Fact) → is_at (key_cmp (a, position f)) (b, position g) ≡ true → (a ≡ b) × (f ≡ g)
same_key a b f g h =
    let both = and_parts (is_eq (node_order.ghosts.cmp a b)) (is_eq (option_cmp nat_cmp (position f) (position g))) (tied_then (node_order.ghosts.cmp a b) (option_cmp nat_cmp (position f) (position g)) ∙ h) in
    (same_node a b both.0, same_fact f g (same_position (position f) (position g) both.1))

-- ---- what is found

pub placed_match : (steps : List Step) (entries : List ((Node × Option ℕ) × ℕ)) (at : Node) (fact : Fact) → ArePlaced steps entries → (found : Option ℕ) → found ≡ place_in entries at fact
    → MatchOption found (IsSaid steps at fact → ⊥) (λ place. SaysBefore steps (length steps) place at fact)
placed_match steps entries at fact placed None is = λ said. (let none = subst (λ (o : Option ℕ). IsSome o) (sym is) (placed.all at fact said) in cc none)
placed_match steps entries at fact placed (Some place) is = placed.each at fact place (sym is)

-- ---- a step more

module _ (steps : List Step) (s : Step) (place : ℕ) (old new : BTreeMap (Node × Option ℕ) ℕ) (placed : ArePlaced steps old.entries) (here : place ≡ length steps)
    (updates : Updates key_cmp old new (s.node, position s.fact) (Some place)) where
  abbrev test : Node → Fact → Bool
  test at fact = is_at (key_cmp (s.node, position s.fact)) (at, position fact)

  -- another one than the step's
  kept : (at : Node) (fact : Fact) → test at fact ≡ false → place_in new.entries at fact ≡ place_in old.entries at fact
  kept at fact other = updates.2 (at, position fact) other

  -- the step's own
  found : (at : Node) (fact : Fact) → s.node ≡ at → s.fact ≡ fact → place_in new.entries at fact ≡ Some place
  found at fact one same = subst (λ (f : Fact). place_in new.entries at f ≡ Some place) same (subst (λ (n : Node). place_in new.entries n s.fact ≡ Some place) one updates.1)

  each : (at : Node) (fact : Fact) (p : ℕ) → place_in new.entries at fact ≡ Some p → SaysBefore (steps ++ s ∷ []) (length (steps ++ s ∷ [])) p at fact
  each at fact p is = by_test (test at fact) refl
    where
      by_test : (b : Bool) → test at fact ≡ b → SaysBefore (steps ++ s ∷ []) (length (steps ++ s ∷ [])) p at fact
      by_test true same =
          let (one, alike) = same_key s.node at s.fact fact same in
          let there = found at fact one alike in
          let last : length steps ≡ p = cc in
          subst (λ (k : ℕ). SaysBefore (steps ++ s ∷ []) (length (steps ++ s ∷ [])) k at fact) last (record {
            earlier = let long = length_push steps s in omega arith;
            step = s;
            there = pushed_last steps s;
            of_node = one;
            of_fact = alike;
          })
      by_test false other =
          let long = length_push steps s in
          says_longer steps s (length steps) (length (steps ++ s ∷ [])) p at fact (omega arith) (placed.each at fact p (sym (kept at fact other) ∙ is))

  all : (at : Node) (fact : Fact) → IsSaid (steps ++ s ∷ []) at fact → IsSome (place_in new.entries at fact)
  all at fact (k, says) = by_test (test at fact) refl
    where
      by_test : (b : Bool) → test at fact ≡ b → IsSome (place_in new.entries at fact)
      by_test true same =
          let (one, alike) = same_key s.node at s.fact fact same in
          subst (λ (o : Option ℕ). IsSome o) (sym (found at fact one alike)) refl
      by_test false other =
          elim (pushed_cases steps s k says.step says.there) [
            | inl there ↦
                subst (λ (o : Option ℕ). IsSome o) (sym (kept at fact other))
                (placed.all at fact (k, record { earlier = slice_get_within steps k says.step there; step = says.step; there = there; of_node = says.of_node; of_fact = says.of_fact }))
            | inr (last, same) ↦
                let one : s.node ≡ at = ap (λ (x : Step). x.node) same ∙ says.of_node in
                let alike : s.fact ≡ fact = ap (λ (x : Step). x.fact) same ∙ says.of_fact in
                subst (λ (o : Option ℕ). IsSome o) (sym (found at fact one alike)) refl
          ]

  pub placed_push : ArePlaced (steps ++ s ∷ []) new.entries
  placed_push = record { each = each; all = all }
