-- The edges of a grant are added at the end of lists, and taken out there.
use Rattle.std.proofs.Common.{◌≡◌, ◌≢◌, ◌⊎◌, ◌+◌, ◌-◌, ◌<◌, ◌++◌, ◌∷◌, [], ℕ, Bool, true, false, List, Some, length, take, get_or, slice_get, Contains, refl, sym, ◌∙◌, ap, subst, inl, inr, arith}
use Rattle.std.proofs.lemmas.Bool.{false≢true}
use Rattle.std.proofs.lemmas.Cmp.{tied_itself}
use Rattle.std.specs.declared.cmp.Ordering.{Ordering}
use Rattle.std.specs.Cmp.{IsTotalOrder}
use Rattle.std.specs.Ordering.{is_eq}
use Rattle.std.proofs.lemmas.Option.{slice_get-get_or}
use Rattle.std.proofs.lemmas.List.{take_more, length-append, append_cancel_right}
use Rattle.std.proofs.Math.Seq.{get_or-append_seam}
use Rattle.std.proofs.lemmas.List.Elements.{Contains-push_cases, Contains-get_or}
use Rattle.host_base.specs.declared.ids.GrantId.{GrantId}
use Rattle.region_access.specs.Adding.{IsPushed, IsPopped, IsNewIn, HasSameEdges, MayAdd, AddsEdges}
use Rattle.region_access.proofs.Added.{contains_at, pushed_has}
use Rattle.region_work.proofs.Sums.{contains_none}

-- the number is the last of a list to which it was added
last_added : (xs : List GrantId) (x : GrantId) → slice_get (xs ++ x ∷ []) (length (xs ++ x ∷ []) - 1) ≡ Some x
last_added xs x =
    let long = length-append xs (x ∷ []) in
    let end : length (xs ++ x ∷ []) - 1 ≡ length xs = omega arith in
    let within : length xs < length (xs ++ x ∷ []) = omega arith in
    let read = slice_get-get_or (xs ++ x ∷ []) (length xs) x within in
    subst (λ (k : ℕ). slice_get (xs ++ x ∷ []) k ≡ Some x) (sym end) (read ∙ ap (λ (g : GrantId). Some g) (get_or-append_seam xs x [] x))

-- two keys are one, or they differ, where their order tells them apart
abbrev pub TellsApart : Type 0 → Type 0
TellsApart K = (a b : K) → (a ≡ b) ⊎ (a ≢ b)

pub tells_apart : {K : Type 0} (cmp : K → K → Ordering) → IsTotalOrder cmp → ((a b : K) → is_eq (cmp a b) ≡ true → a ≡ b) → TellsApart K
tells_apart {K} cmp total apart a b = by_test (is_eq (cmp a b)) refl
  where
    by_test : (test : Bool) → is_eq (cmp a b) ≡ test → (a ≡ b) ⊎ (a ≢ b)
    by_test true is = inl (apart a b is)
    by_test false is = inr (λ same. false≢true (sym is ∙ ap (λ (k : K). is_eq (cmp a k)) (sym same) ∙ ap is_eq (tied_itself total a)))

-- ---- keys, one by one

pub record AddedBelow {K : Type 0} (from : List K) (i : ℕ) (num : GrantId) (old now : K → List GrantId) : Type 0 where
  pub may : MayAdd (Contains from) num old now
  pub all : (at : K) → Contains (take i from) at → Contains (now at) num

pub added_none : {K : Type 0} (from : List K) (num : GrantId) (old now : K → List GrantId) → ((at : K) → now at ≡ old at) → AddedBelow from 0 num old now
added_none from num old now same = record { may = λ at. inl (same at); all = λ at c. absurd (contains_none at c) }

may_here : (num : GrantId) (old now next : List GrantId) → (Contains old num → ⊥) → (now ≡ old) ⊎ (now ≡ old ++ num ∷ []) → IsPushed now num next → next ≡ old ++ num ∷ []
may_here num old now next fresh (inl same) (inl (last, is)) = absurd (fresh (subst (λ (xs : List GrantId). Contains xs num) same (contains_at now (length now - 1) num last)))
may_here num old now next fresh (inl same) (inr (apart, is)) = is ∙ ap (λ (xs : List GrantId). xs ++ num ∷ []) same
may_here num old now next fresh (inr more) (inl (last, is)) = is ∙ more
may_here num old now next fresh (inr more) (inr (apart, is)) =
    absurd (apart (subst (λ (xs : List GrantId). slice_get xs (length xs - 1) ≡ Some num) (sym more) (last_added old num)))

pub added_one : {K : Type 0} → TellsApart K → (from : List K) (i : ℕ) (x : K) → i < length from → x ≡ get_or from i x → (num : GrantId) (old now next : K → List GrantId) → IsNewIn num old → AddedBelow from i num old now
    → IsPushed (now x) num (next x) → ((at : K) → at ≢ x → next at ≡ now at) → AddedBelow from (i + 1) num old next
added_one {K} same_or_other from i x within read num old now next fresh so_far here others =
    let is : Contains from x = subst (λ (y : K). Contains from y) (sym read) (Contains-get_or from i x within) in
    let split : take (i + 1) from ≡ take i from ++ x ∷ [] = take_more from i x within ∙ ap (λ (y : K). take i from ++ y ∷ []) (sym read) in
    let either : (now x ≡ old x) ⊎ (now x ≡ old x ++ num ∷ []) = elim (so_far.may x) [ inl same ↦ inl same | inr more ↦ inr more.1 ] in
    let at_x : next x ≡ old x ++ num ∷ [] = may_here num (old x) (now x) (next x) (fresh x) either here in
    record {
      may = λ at.
          elim (same_or_other at x) [
            | inl one ↦ subst (λ (n : K). (next n ≡ old n) ⊎ (Contains from n × (next n ≡ old n ++ num ∷ []))) (sym one) (inr (is, at_x))
            | inr apart ↦
                elim (so_far.may at) [
                  | inl same ↦ inl (others at apart ∙ same)
                  | inr more ↦ inr (more.0, others at apart ∙ more.1)
                ]
          ];
      all = λ at c.
          elim (same_or_other at x) [
            | inl one ↦ subst (λ (n : K). Contains (next n) num) (sym one) (pushed_has (now x) (next x) num here)
            | inr apart ↦
                elim (Contains-push_cases (take i from) x at (subst (λ (xs : List K). Contains xs at) split c)) [
                  | inl before ↦ subst (λ (xs : List GrantId). Contains xs num) (sym (others at apart)) (so_far.all at before)
                  | inr last ↦ absurd (apart (sym last))
                ]
          ];
    }

-- a node at which memory ran out feeds what it fed
pub still_may : {K : Type 0} → TellsApart K → (From : K → Type 0) (x : K) (num : GrantId) (old now next : K → List GrantId) → MayAdd From num old now → next x ≡ now x → ((at : K) → at ≢ x → next at ≡ now at)
    → MayAdd From num old next
still_may {K} same_or_other From x num old now next may here others at =
    let same : next at ≡ now at = elim (same_or_other at x) [ inl one ↦ subst (λ (n : K). next n ≡ now n) (sym one) here | inr apart ↦ others at apart ] in
    elim (may at) [
      | inl before ↦ inl (same ∙ before)
      | inr more ↦ inr (more.0, same ∙ more.1)
    ]

pub added_all : {K : Type 0} (From : K → Type 0) (num : GrantId) (old now : K → List GrantId) → IsNewIn num old → MayAdd From num old now → ((at : K) → From at → Contains (now at) num)
    → AddsEdges From num old now
added_all From num old now fresh may all = record {
  may = may;
  all = λ at is.
      elim (may at) [
        | inl same ↦ absurd (fresh at (subst (λ (xs : List GrantId). Contains xs num) same (all at is)))
        | inr more ↦ more.1
      ];
}

-- ---- taking out, key by key

-- the keys that are left to come
abbrev pub Left : {K : Type 0} → List K → ℕ → K → Type 0
Left from i at = Contains from at × (Contains (take i from) at → ⊥)

pub left_none : {K : Type 0} (from : List K) (num : GrantId) (base now : K → List GrantId) → MayAdd (Contains from) num base now → MayAdd (Left from 0) num base now
left_none from num base now may at =
    elim (may at) [
      | inl same ↦ inl same
      | inr more ↦ inr ((more.0, λ c. contains_none at c), more.1)
    ]

out_here : (num : GrantId) (old now next : List GrantId) → (Contains old num → ⊥) → (now ≡ old) ⊎ (now ≡ old ++ num ∷ []) → IsPopped now num next → next ≡ old
out_here num old now next fresh (inl same) (inl (last, is)) = absurd (fresh (subst (λ (xs : List GrantId). Contains xs num) same (contains_at now (length now - 1) num last)))
out_here num old now next fresh (inl same) (inr (apart, is)) = is ∙ same
out_here num old now next fresh (inr more) (inl (last, is)) = append_cancel_right next old (num ∷ []) (sym is ∙ more)
out_here num old now next fresh (inr more) (inr (apart, is)) =
    absurd (apart (subst (λ (xs : List GrantId). slice_get xs (length xs - 1) ≡ Some num) (sym more) (last_added old num)))

pub left_one : {K : Type 0} → TellsApart K → (from : List K) (i : ℕ) (x : K) → i < length from → x ≡ get_or from i x → (num : GrantId) (base now next : K → List GrantId) → IsNewIn num base → MayAdd (Left from i) num base now
    → IsPopped (now x) num (next x) → ((at : K) → at ≢ x → next at ≡ now at) → MayAdd (Left from (i + 1)) num base next
left_one {K} same_or_other from i x within read num base now next fresh may here others at =
    let split : take (i + 1) from ≡ take i from ++ x ∷ [] = take_more from i x within ∙ ap (λ (y : K). take i from ++ y ∷ []) (sym read) in
    let either : (now x ≡ base x) ⊎ (now x ≡ base x ++ num ∷ []) = elim (may x) [ inl same ↦ inl same | inr more ↦ inr more.1 ] in
    let at_x : next x ≡ base x = out_here num (base x) (now x) (next x) (fresh x) either here in
    elim (same_or_other at x) [
      | inl one ↦ inl (subst (λ (n : K). next n ≡ base n) (sym one) at_x)
      | inr apart ↦
          elim (may at) [
            | inl same ↦ inl (others at apart ∙ same)
            | inr more ↦
                inr (
                  (
                    more.0.0,
                    λ c.
                        elim (Contains-push_cases (take i from) x at (subst (λ (xs : List K). Contains xs at) split c)) [
                          | inl before ↦ more.0.1 before
                          | inr last ↦ apart (sym last)
                        ],
                  ),
                  others at apart ∙ more.1,
                )
          ]
    ]

pub left_all : {K : Type 0} (from : List K) (i : ℕ) (num : GrantId) (base now : K → List GrantId) → take i from ≡ from → MayAdd (Left from i) num base now → HasSameEdges base now
left_all {K} from i num base now whole may at =
    elim (may at) [
      | inl same ↦ same
      | inr more ↦ absurd (more.0.1 (subst (λ (xs : List K). Contains xs at) (sym whole) more.0.0))
    ]
