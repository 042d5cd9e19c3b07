-- Where each driver has one answer there is one list of what they answer.
use Rattle.std.proofs.Common.{◌≡◌, ◌∷◌, ◌⊎◌, inl, inr, ℕ, zero, suc, Bool, List, [], map, AllPairs, Contains, refl, sym, ◌∙◌, arith, subst}
use Rattle.std.proofs.lemmas.List.Elements.{All-contains, Contains-append_right}
use Rattle.powerbox_match.specs.Descriptor.{DescriptorData}
use Rattle.site_caps.specs.declared.offer.SiteOffer.{SiteOffer}
use Rattle.site_caps.specs.Answering.{AreAnswers, HaveOneAnswer}
use Rattle.site_caps.specs.Sites.{Listed, StandsBefore}
use Rattle.site_caps.proofs.Among.{contains_from_map, pairs_head, pairs_tail}

first : {X : Type 0} (x : X) (xs : List X) → Contains (x ∷ xs) x
first x xs = (zero, omega arith, refl)

nothing : {X : Type 0} (x : X) → Contains [] x → ⊥
nothing x (k, less, same) = omega arith

first_or_later : {X : Type 0} (x : X) (xs : List X) (y : X) → Contains (x ∷ xs) y → (x ≡ y) ⊎ Contains xs y
first_or_later x xs y (zero, less, same) = inl same
first_or_later x xs y (suc k, less, same) = inr (k, omega arith, same)

module _ {X : Type 0} (R : X → X → Type 0) (one_way : (x y : X) → R x y → R y x → ⊥) where
  same_first : (x y : X) (xs ys : List X) → AllPairs R (x ∷ xs) → AllPairs R (y ∷ ys) → Contains (y ∷ ys) x → Contains (x ∷ xs) y → x ≡ y
  same_first x y xs ys rising other x_there y_there = elim (first_or_later y ys x x_there) [
    | inl same ↦ sym same
    | inr x_later ↦ elim (first_or_later x xs y y_there) [
      | inl same ↦ same
      | inr y_later ↦ absurd (one_way x y (All-contains (R x) xs y (pairs_head R x xs rising) y_later) (All-contains (R y) ys x (pairs_head R y ys other) x_later))
    ]
  ]

  among_later : (x y : X) (xs ys : List X) → x ≡ y → AllPairs R (x ∷ xs) → ((z : X) → Contains (x ∷ xs) z → Contains (y ∷ ys) z) → (z : X) → Contains xs z → Contains ys z
  among_later x y xs ys same rising into z there = elim (first_or_later y ys z (into z (Contains-append_right (x ∷ []) xs z there))) [
    | inl again ↦ (let twice : R z z = subst (λ (w : X). R w z) (same ∙ again) (All-contains (R x) xs z (pairs_head R x xs rising) there) in absurd (one_way z z twice twice))
    | inr later ↦ later
  ]

  -- two lists in one order, with the same elements, are the same
  same_in_order : (xs ys : List X) → AllPairs R xs → AllPairs R ys → ((z : X) → Contains xs z → Contains ys z) → ((z : X) → Contains ys z → Contains xs z) → xs ≡ ys
  same_in_order [] [] rising other into back = refl
  same_in_order [] (y ∷ ys) rising other into back = absurd (nothing y (back y (first y ys)))
  same_in_order (x ∷ xs) [] rising other into back = absurd (nothing x (into x (first x xs)))
  same_in_order (x ∷ xs) (y ∷ ys) rising other into back =
      let heads : x ≡ y = same_first x y xs ys rising other (into x (first x xs)) (back y (first y ys)) in
      let tails : xs ≡ ys = same_in_order xs ys (pairs_tail R x xs rising) (pairs_tail R y ys other) (among_later x y xs ys heads rising into) (among_later y x ys xs (sym heads) other back) in
      λ i. heads i ∷ tails i

before_once : (p q : Listed) → StandsBefore p q → StandsBefore q p → ⊥
before_once p q (inl less) (inl more) = omega arith
before_once p q (inl less) (inr (same, more)) = omega arith
before_once p q (inr (same, less)) (inl more) = omega arith
before_once p q (inr (same, less)) (inr (again, more)) = omega arith

module _ {D : Type 0} (drivers : List D) (answers : D → List DescriptorData → List SiteOffer → Type 0) (query : List DescriptorData) (tag_of : D → ℕ) (admin : Bool)
    (single : HaveOneAnswer drivers answers query) where
  listed_too : (list other : List Listed) → AreAnswers drivers answers query tag_of admin list → AreAnswers drivers answers query tag_of admin other
      → (p : Listed) → Contains list p → Contains other p
  listed_too list other told too p there =
      let (driver, among, same) = contains_from_map tag_of drivers p.0 (All-contains (λ (q : Listed). Contains (map tag_of drivers) q.0) list p told.no_others there) in
      let (offers, answered, just) = told.offered driver among in
      let (others, again, has) = too.offered driver among in
      let (inside, shown) = (just p.1).0 (subst (λ (t : ℕ). Contains list (t, p.1)) (sym same) there) in
      subst (λ (t : ℕ). Contains other (t, p.1)) same ((has p.1).1 (subst (λ (os : List SiteOffer). Contains os p.1) (single driver among offers others answered again) inside, shown))

  pub one_list : (list other : List Listed) → AreAnswers drivers answers query tag_of admin list → AreAnswers drivers answers query tag_of admin other → other ≡ list
  one_list list other told too = same_in_order StandsBefore before_once other list too.ascends told.ascends (listed_too other list too told) (listed_too list other told too)
