-- What is found among the rows that may have a clue is found among all rows.
use Rattle.std.proofs.Common.{◌≡◌, ◌++◌, ◌⊎◌, ℕ, zero, List, [], ◌∷◌, Option, Some, None, MatchOption, refl, sym, ap, subst, inl, inr, arith, suc, take, min, ◌≤◌, ◌∙◌, ◌<◌, length}
use Rattle.std.proofs.lemmas.Bool.{cases_lt}
use Rattle.std.specs.List.{Contains, AllWithin, HoldsAt}
use Rattle.std.proofs.lemmas.List.Elements.{Contains-append_cases, Contains-append_right}
use Rattle.row_index.specs.declared.clues.Clues.{Clues}
use Rattle.row_index.specs.Index.{HasClue}
use Rattle.row_index.specs.Narrow.{Narrows, done, kept, passed}
use Rattle.share_graph.specs.Keys.{IsFirstOf, IsNoneOf}
use Rattle.share_graph.proofs.Contained.{contains_at, only}
use Rattle.share_graph.proofs.FirstOf.{one_more, from_search}

module _ {X : Type 0} (P : X → Type 0) where
  nowhere : (other : X) → Contains [] other → ⊥
  nowhere other (k, within, same) = absurd (omega arith)

  at_head : (z : X) (rows : List X) → P z → IsFirstOf (z ∷ rows) P z
  at_head z rows so = record { before = []; after = rows; listed = refl; is = so; earlier = λ other there likewise. absurd (nowhere other there) }

  cases : (z : X) (seen : List X) (x : X) (before after : List X) → z ∷ seen ≡ before ++ x ∷ after → P x → ((other : X) → Contains before other → P other → ⊥)
      → (x ≡ z) ⊎ ((P z → ⊥) × IsFirstOf seen P x)
  cases z seen x [] after listed so none = inl cc
  cases z seen x (b ∷ before) after listed so none =
      let first : z ≡ b = cc in
      let others : seen ≡ before ++ x ∷ after = cc in
      inr (
        (λ likewise. none z (contains_at (b ∷ before) zero z (ap (λ y. Some y) (sym first))) likewise),
        record {
          before = before;
          after = after;
          listed = others;
          is = so;
          earlier = λ other there likewise. none other (Contains-append_right (b ∷ []) before other there) likewise;
        },
      )

  module _ (clues_of : X → Clues) (c : ℕ) (has : (row : X) → P row → HasClue (clues_of row) c) where
    none_narrowed : (rows seen : List X) → Narrows clues_of c rows seen → IsNoneOf seen P → IsNoneOf rows P
    none_narrowed [] [] done none = none
    none_narrowed [] (y ∷ seen) narrows none = elim narrows [ ]
    none_narrowed (z ∷ rows) (y ∷ seen) (kept narrows) none = λ row there so. elim (Contains-append_cases (z ∷ []) rows row there) [
      | inl here ↦ none row (contains_at (z ∷ seen) zero row (ap (λ y. Some y) (only z row here))) so
      | inr later ↦ none_narrowed rows seen narrows (λ other among likewise. none other (Contains-append_right (z ∷ []) seen other among) likewise) row later so
    ]
    none_narrowed (z ∷ rows) seen (passed without narrows) none = λ row there so. elim (Contains-append_cases (z ∷ []) rows row there) [
      | inl here ↦ without (has z (subst P (sym (only z row here)) so))
      | inr later ↦ none_narrowed rows seen narrows none row later so
    ]

    first_narrowed : (rows seen : List X) (x : X) → Narrows clues_of c rows seen → IsFirstOf seen P x → IsFirstOf rows P x
    first_narrowed [] [] x done first = first
    first_narrowed [] (y ∷ seen) x narrows first = elim narrows [ ]
    first_narrowed (z ∷ rows) (y ∷ seen) x (kept narrows) first = elim (cases z seen x first.before first.after first.listed first.is first.earlier) [
      | inl here ↦ subst (IsFirstOf (z ∷ rows) P) (sym here) (at_head z rows (subst P here first.is))
      | inr later ↦ one_more P z rows x later.0 (first_narrowed rows seen x narrows later.1)
    ]
    first_narrowed (z ∷ rows) seen x (passed without narrows) first = one_more P z rows x (λ so. without (has z so)) (first_narrowed rows seen x narrows first)

    found_narrowed : {A : Type 0} (now : A → X) (rows seen : List X) (r : Option A) → Narrows clues_of c rows seen
        → MatchOption r (IsNoneOf seen P) (λ x. IsFirstOf seen P (now x)) → MatchOption r (IsNoneOf rows P) (λ x. IsFirstOf rows P (now x))
    found_narrowed now rows seen None narrows none = none_narrowed rows seen narrows none
    found_narrowed now rows seen (Some x) narrows first = first_narrowed rows seen (now x) narrows first

    -- what a search through the candidates for a clue comes to
    pub from_candidates : {A : Type 0} (now : A → X) (rows seen : List X) (r : Option A) (clue : ℕ) → clue ≡ c → Narrows clues_of clue rows seen
        → MatchOption r (AllWithin (λ y. P y → ⊥) seen zero (length seen)) (λ x. P (now x) × (i : ℕ) × (i < length seen) × HoldsAt (λ y. y ≡ now x) seen i × AllWithin (λ y. P y → ⊥) seen zero i)
        → MatchOption r (IsNoneOf rows P) (λ x. IsFirstOf rows P (now x))
    from_candidates now rows seen r clue is narrows search = found_narrowed now rows seen r (subst (λ n. Narrows clues_of n rows seen) is narrows) (from_search P now seen r search)

take_past : {X : Type 0} (n : ℕ) (rows : List X) → length rows ≤ n → take n rows ≡ rows
take_past zero [] le = refl
take_past zero (x ∷ rows) le = absurd (omega (arith, le))
take_past (suc n) [] le = refl
take_past (suc n) (x ∷ rows) le = ap (λ xs. x ∷ xs) (take_past n rows (omega (arith, le)))

-- as many as there are, or fewer
pub take_within : {X : Type 0} (n m : ℕ) (rows : List X) → m ≡ length rows → take (min n m) rows ≡ take n rows
take_within n m rows is = elim (cases_lt n m) [
  | inl less ↦ ap (λ k. take k rows) (omega (arith, less))
  | inr le ↦ take_past (min n m) rows (omega (arith, le, is)) ∙ sym (take_past n rows (omega (arith, le, is)))
]

pub take_all : {X : Type 0} (slice rows : List X) → slice ≡ rows → take (length slice) rows ≡ rows
take_all slice rows is = take_past (length slice) rows (let e = ap (λ xs. length xs) is in omega (arith, e))
