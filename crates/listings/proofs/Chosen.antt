-- Numbers that are chosen of a list, once some of it was looked at.
use Rattle.std.proofs.Common.{◌≡◌, ◌≢◌, ◌++◌, ◌∷◌, ◌+◌, ◌<◌, ◌≤◌, ◌⊎◌, ◌↔◌, [], ℕ, List, Contains, length, take, get_or, sym, ◌∙◌, ap, subst, inl, inr, arith}
use Rattle.std.specs.List.{AllPairs}
use Rattle.std.proofs.lemmas.List.{get_or-take, length-take-le, take_more, take_all}
use Rattle.std.proofs.lemmas.List.Elements.{Contains-append_left, Contains-get_or, Contains-push, Contains-push_cases}
use Rattle.std.proofs.lemmas.List.Quantifiers.{all_pairs_push}

-- nothing stands in an empty list
nothing : {X : Type 0} (x : X) → Contains [] x → ⊥
nothing x (k, less, is) = omega (arith, less)

-- Of those of the list that were looked at, the ones that are chosen, by number.
pub record AreChosen {N : Type 0} (of_number : ℕ → N) (Chosen : ℕ → Type 0) (seen : List N) (numbers : List ℕ) : Type 0 where
  pub exact : (n : ℕ) → Contains numbers n ↔ (Contains seen (of_number n) × Chosen n)
  pub once : AllPairs (λ (n : ℕ) (m : ℕ). n ≢ m) numbers

module _ {N : Type 0} (of_number : ℕ → N) (Chosen : ℕ → Type 0) where
  pub none_chosen : (numbers : List ℕ) → numbers ≡ [] → AreChosen of_number Chosen [] numbers
  none_chosen numbers none = subst (λ (ns : List ℕ). AreChosen of_number Chosen [] ns) (sym none) (record {
    exact = λ n. (λ listed. absurd (nothing n listed), λ both. absurd (nothing (of_number n) both.0));
    once = λ i j d less within. absurd (omega arith);
  })

  -- one more, of that number
  module _ (all : List N) (apart : AllPairs (λ (a : N) (b : N). a ≢ b) all) (same : (n m : ℕ) → of_number n ≡ of_number m → n ≡ m) (i : ℕ) (number : ℕ) (within : i < length all) (here : get_or all i (of_number number) ≡ of_number number)
      (numbers : List ℕ) (so : AreChosen of_number Chosen (take i all) numbers) where
    more : take (i + 1) all ≡ take i all ++ of_number number ∷ []
    more = take_more all i (of_number number) within ∙ ap (λ (x : N). take i all ++ x ∷ []) here

    seen_cases : (n : ℕ) → Contains (take (i + 1) all) (of_number n) → Contains (take i all) (of_number n) ⊎ (number ≡ n)
    seen_cases n listed = elim (Contains-push_cases (take i all) (of_number number) (of_number n) (subst (λ (xs : List N). Contains xs (of_number n)) more listed)) [
      | inl earlier ↦ inl earlier
      | inr last ↦ inr (same number n last)
    ]

    seen_before : (n : ℕ) → Contains (take i all) (of_number n) → Contains (take (i + 1) all) (of_number n)
    seen_before n listed = subst (λ (xs : List N). Contains xs (of_number n)) (sym more) (Contains-append_left (take i all) (of_number number ∷ []) (of_number n) listed)

    seen_here : Contains (take (i + 1) all) (of_number number)
    seen_here = subst (λ (xs : List N). Contains xs (of_number number)) (sym more) (Contains-push (take i all) (of_number number))

    pub passed_over : (Chosen number → ⊥) → AreChosen of_number Chosen (take (i + 1) all) numbers
    passed_over not = record {
      exact = λ n. (
        λ listed. (let was = (so.exact n).0 listed in (seen_before n was.0, was.1)),
        λ (seen, chosen). elim (seen_cases n seen) [
          | inl earlier ↦ (so.exact n).1 (earlier, chosen)
          | inr last ↦ absurd (not (subst Chosen (sym last) chosen))
        ],
      );
      once = so.once;
    }

    -- it wasn't among those before
    not_before : Contains (take i all) (of_number number) → ⊥
    not_before (k, less, is) =
        let long = length-take-le i all (omega (arith, within)) in
        let early : k < i = omega (arith, less, long) in
        let own : get_or all k (of_number number) ≡ of_number number = sym (get_or-take i all k (of_number number) early) ∙ is in
        apart k i (of_number number) early within (own ∙ sym here)

    module _ (after : List ℕ) (pushed : after ≡ numbers ++ number ∷ []) (chosen : Chosen number) where
      pub one_chosen : AreChosen of_number Chosen (take (i + 1) all) after
      one_chosen = subst (λ (ns : List ℕ). AreChosen of_number Chosen (take (i + 1) all) ns) (sym pushed) (record {
        exact = λ n. (
          λ listed. elim (Contains-push_cases numbers number n listed) [
            | inl earlier ↦ (let was = (so.exact n).0 earlier in (seen_before n was.0, was.1))
            | inr last ↦ subst (λ (m : ℕ). Contains (take (i + 1) all) (of_number m) × Chosen m) last (seen_here, chosen)
          ],
          λ (seen, too). elim (seen_cases n seen) [
            | inl earlier ↦ Contains-append_left numbers (number ∷ []) n ((so.exact n).1 (earlier, too))
            | inr last ↦ subst (λ (m : ℕ). Contains (numbers ++ number ∷ []) m) last (Contains-push numbers number)
          ],
        );
        once = all_pairs_push (λ (n : ℕ) (m : ℕ). n ≢ m) numbers number so.once (λ k e less is.
            not_before (subst (λ (m : ℕ). Contains (take i all) (of_number m)) is ((so.exact (get_or numbers k e)).0 (Contains-get_or numbers k e less)).0));
      })

  -- all were looked at
  pub all_chosen : (all : List N) (numbers : List ℕ) (i : ℕ) → length all ≤ i → AreChosen of_number Chosen (take i all) numbers → AreChosen of_number Chosen all numbers
  all_chosen all numbers i end so = subst (λ (xs : List N). AreChosen of_number Chosen xs numbers) (take_all i all end) so
