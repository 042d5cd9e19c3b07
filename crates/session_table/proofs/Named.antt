-- The names of a set's positions, up to a place.
use Rattle.std.proofs.Common.{◌≡◌, ◌<◌, ◌≤◌, ◌+◌, ◌-◌, ◌⊎◌, ◌↔◌, ◌++◌, ℕ, List, [], ◌∷◌, Contains, All, Option, None, option_map, length, get_or, refl, sym, ◌∙◌, ap, subst, inl, inr, arith}
use Rattle.std.specs.List.{cons_option}
use Rattle.std.specs.List.Sorted.{IsStrictlyIncreasing}
use Rattle.std.proofs.lemmas.List.{get_or_append_left, get_or-append_right, length-append, append-nil}
use Rattle.std.proofs.lemmas.List.Elements.{All-contains, Contains-get_or, Contains-append_left, Contains-push, Contains-push_cases, filter_map-append}
use Rattle.std.proofs.lemmas.Option.{slice_get_past}
use Rattle.app_manifest.specs.declared.manifest.PermissionDef.{PermissionDef}
use Rattle.perm_roles.specs.declared.perm_set.PermSet.{PermSet}
use Rattle.perm_roles.specs.PermSet.{Has, positions}
use Rattle.share_graph.specs.declared.rows.App.{App}
use Rattle.session_table.specs.Naming.{AreNamesOf}
use Rattle.session_table.specs.Verdict.{name_at, names_at}

-- the names at the positions of the set that are below a place
pub record Named (app : App) (set : PermSet) (names : List (List ℕ)) (n : ℕ) : Type 0 where
  pub held : List ℕ
  pub ascends : IsStrictlyIncreasing held
  pub exact : (p : ℕ) → Contains held p ↔ ((p < n) × Has set p)
  pub are : names ≡ names_at app held

pub none_named : (app : App) (set : PermSet) → Named app set [] 0
none_named app set = record {
  held = [];
  ascends = λ k less. absurd (omega arith);
  exact = λ p. (λ c. absurd (omega (arith, c.1)), λ h. absurd (omega (arith, h.0)));
  are = refl;
}

-- a position that the set hasn't
pub one_less : (app : App) (set : PermSet) (names more : List (List ℕ)) (n : ℕ) → Named app set names n → (Has set n → ⊥) → more ≡ names → Named app set more (n + 1)
one_less app set names more n so none is = record {
  held = so.held;
  ascends = so.ascends;
  exact = λ p. (
    λ c. let (less, has) = (so.exact p).0 c in (omega (arith, less), has),
    λ h. (so.exact p).1 (below p h, h.1),
  );
  are = is ∙ so.are;
}
  where
    below : (p : ℕ) → (p < n + 1) × Has set p → p < n
    below p h =
        let sides : (p < n) ⊎ (p ≡ n) = let less : p < n + 1 = h.0 in grind arith in
        elim sides [
          | inl less ↦ less
          | inr same ↦ absurd (none (subst (λ (q : ℕ). Has set q) same h.1))
        ]

-- a larger number at the end of an ascending list
ascends_more : (held : List ℕ) (n : ℕ) → IsStrictlyIncreasing held → ((p : ℕ) → Contains held p → p < n) → IsStrictlyIncreasing (held ++ n ∷ [])
ascends_more held n up below k less = elim sides [
  | inl inside ↦
      let here : get_or (held ++ n ∷ []) k 0 ≡ get_or held k 0 = get_or_append_left held (n ∷ []) 0 k (omega arith) in
      let next : get_or (held ++ n ∷ []) (k + 1) 0 ≡ get_or held (k + 1) 0 = get_or_append_left held (n ∷ []) 0 (k + 1) inside in
      let step : get_or held k 0 < get_or held (k + 1) 0 = up k inside in
      omega arith
  | inr last ↦
      let here : get_or (held ++ n ∷ []) k 0 ≡ get_or held k 0 = get_or_append_left held (n ∷ []) 0 k (omega arith) in
      let next : get_or (held ++ n ∷ []) (k + 1) 0 ≡ get_or (n ∷ []) (k + 1 - length held) 0 = get_or-append_right held (n ∷ []) (length held) (k + 1) 0 refl (omega arith) in
      let first : get_or (n ∷ []) (k + 1 - length held) 0 ≡ n = ap (λ (i : ℕ). get_or (n ∷ []) i 0) (let none : k + 1 - length held ≡ 0 = omega arith in none) in
      let step : get_or held k 0 < n = below (get_or held k 0) (Contains-get_or held k 0 (omega arith)) in
      omega arith
]
  where
    long : length (held ++ n ∷ []) ≡ length held + 1
    long = length-append held (n ∷ [])

    sides : (k + 1 < length held) ⊎ (k + 1 ≡ length held)
    sides = grind (arith, long, less)

-- a position that the set has
pub one_more : (app : App) (set : PermSet) (names more : List (List ℕ)) (n : ℕ) → Named app set names n → Has set n → more ≡ names ++ cons_option (name_at app n) [] → Named app set more (n + 1)
one_more app set names more n so has is = record {
  held = so.held ++ n ∷ [];
  ascends = ascends_more so.held n so.ascends (λ p c. ((so.exact p).0 c).0);
  exact = λ p. (
    λ c. elim (Contains-push_cases so.held n p c) [
      | inl before ↦ let (less, there) = (so.exact p).0 before in (omega (arith, less), there)
      | inr here ↦ (omega (arith, here), subst (λ (q : ℕ). Has set q) here has)
    ],
    λ h. listed p h,
  );
  are = is ∙ ap (λ (xs : List (List ℕ)). xs ++ cons_option (name_at app n) []) so.are ∙ sym (filter_map-append (name_at app) so.held (n ∷ []));
}
  where
    listed : (p : ℕ) → (p < n + 1) × Has set p → Contains (so.held ++ n ∷ []) p
    listed p h =
        let sides : (p < n) ⊎ (n ≡ p) = let less : p < n + 1 = h.0 in grind arith in
        elim sides [
          | inl less ↦ Contains-append_left so.held (n ∷ []) p ((so.exact p).1 (less, h.1))
          | inr same ↦ subst (λ (q : ℕ). Contains (so.held ++ n ∷ []) q) same (Contains-push so.held n)
        ]

-- a set has no position from 64 on
pub all_named : (app : App) (set : PermSet) (names : List (List ℕ)) (n : ℕ) → Named app set names n → 64 ≤ n → ((p : ℕ) → Contains (positions set) p ↔ Has set p) → All (λ p. p < 64) (positions set)
    → AreNamesOf app set names
all_named app set names n so end members below = record {
  held = so.held;
  ascends = so.ascends;
  exact = λ p. (
    λ c. ((so.exact p).0 c).1,
    λ has. (so.exact p).1 (let less : p < 64 = All-contains (λ p. p < 64) (positions set) p below ((members p).1 has) in omega arith, has),
  );
  are = so.are;
}

-- past the application's permissions there is no name to add
pub no_name : (app : App) (place : ℕ) (names : List (List ℕ)) → length app.manifest.permissions ≤ place → names ≡ names ++ cons_option (name_at app place) []
no_name app place names past =
    let none : name_at app place ≡ None = ap (option_map (λ (permission : PermissionDef). permission.name)) (slice_get_past app.manifest.permissions place past) in
    sym (append-nil names) ∙ ap (λ (name : Option (List ℕ)). names ++ cons_option name []) (sym none)
