-- Nodes are picked from rows, row by row, and gathered from lists, item by item.
use Rattle.std.proofs.Common.{◌≡◌, ◌⊎◌, ◌↔◌, ◌+◌, ◌<◌, ◌≤◌, ◌++◌, ◌∷◌, [], ℕ, List, Some, length, slice_get, take, get_or, Contains, IfOk, Result, Ok, Err, sym, ◌∙◌, ap, subst, inl, inr, arith}
use Rattle.std.proofs.lemmas.List.{take_more, take_all}
use Rattle.std.proofs.lemmas.List.Elements.{Contains-append_left, Contains-push, Contains-push_cases}
use Rattle.share_graph.specs.declared.facts.Node.{Node}
use Rattle.share_graph.specs.Rows.{row}
use Rattle.least_access.proofs.Turns.{numbered, row_within, row_first}
use Rattle.region_work.proofs.Sums.{contains_cons, contains_none}

-- ---- row by row

abbrev pub IsPicked : {X : Type 0} → List X → (ℕ → X → Node) → Node → Type 0
IsPicked {X} rows of at = (n : ℕ) × (x : X) × (row rows n ≡ Some x) × (at ≡ of n x)

pub record PickedBelow {X : Type 0} (rows : List X) (of : ℕ → X → Node) (start now : List Node) (i : ℕ) : Type 0 where
  pub kept : (at : Node) → Contains start at → Contains now at
  pub all : (n : ℕ) (x : X) → n ≤ i → row rows n ≡ Some x → Contains now (of n x)
  pub only : (at : Node) → Contains now at → Contains start at ⊎ IsPicked rows of at

pub picked_none : {X : Type 0} (rows : List X) (of : ℕ → X → Node) (start : List Node) → PickedBelow rows of start start 0
picked_none rows of start = record {
  kept = λ at c. c;
  all = λ n x none is. let first : 0 < n = row_first rows n x is in absurd (omega arith);
  only = λ at c. inl c;
}

pub picked_one : {X : Type 0} (rows : List X) (of : ℕ → X → Node) (start now : List Node) (i : ℕ) (x : X) → slice_get rows i ≡ Some x → PickedBelow rows of start now i
    → PickedBelow rows of start (now ++ of (i + 1) x ∷ []) (i + 1)
picked_one rows of start now i x is so_far = record {
  kept = λ at c. Contains-append_left now (of (i + 1) x ∷ []) at (so_far.kept at c);
  all = λ n other below there.
      let sides : (n ≤ i) ⊎ (n ≡ i + 1) = grind arith in
      elim sides [
        | inl earlier ↦ Contains-append_left now (of (i + 1) x ∷ []) (of n other) (so_far.all n other earlier there)
        | inr last ↦
            let here : row rows (i + 1) ≡ Some other = subst (λ (k : ℕ). row rows k ≡ Some other) last there in
            let known : row rows (i + 1) ≡ Some x = numbered rows i x is in
            let one : x ≡ other = cc in
            let same : of (i + 1) x ≡ of n other = ap (λ (k : ℕ). of k x) (sym last) ∙ ap (of n) one in
            subst (λ (y : Node). Contains (now ++ of (i + 1) x ∷ []) y) same (Contains-push now (of (i + 1) x))
      ];
  only = λ at c.
      elim (Contains-push_cases now (of (i + 1) x) at c) [
        | inl before ↦ so_far.only at before
        | inr last ↦ inr (i + 1, x, numbered rows i x is, sym last)
      ];
}

pub picked_all : {X : Type 0} (rows : List X) (of : ℕ → X → Node) (start now : List Node) (i : ℕ) → i ≡ length rows → PickedBelow rows of start now i
    → (at : Node) → Contains now at ↔ (Contains start at ⊎ IsPicked rows of at)
picked_all rows of start now i end done at = (
  done.only at,
  elim [
    | inl before ↦ done.kept at before
    | inr (n, x, is, same) ↦ subst (λ (y : Node). Contains now y) (sym same) (done.all n x (let within = row_within rows n x is in omega arith) is)
  ],
)

-- ---- item by item

-- it is so of an item of the list
abbrev pub IsOfOne : {X : Type 0} → (X → Type 0) → List X → Type 0
IsOfOne {X} P xs = (x : X) × Contains xs x × P x

pub gathered_none : {X : Type 0} (P : X → Type 0) (xs : List X) (Start : Type 0) → Start ↔ (Start ⊎ IsOfOne P (take 0 xs))
gathered_none P xs Start = (λ s. inl s, elim [ inl s ↦ s | inr (x, c, p) ↦ absurd (contains_none x c) ])

pub gathered_more : {X : Type 0} (P : X → Type 0) (xs : List X) (i : ℕ) (x : X) (Start Now Next Found : Type 0) → i < length xs → x ≡ get_or xs i x → Now ↔ (Start ⊎ IsOfOne P (take i xs)) → Found ↔ P x
    → Next ↔ (Now ⊎ Found) → Next ↔ (Start ⊎ IsOfOne P (take (i + 1) xs))
gathered_more {X} P xs i x Start Now Next Found within read so_far found next =
    let split : take (i + 1) xs ≡ take i xs ++ x ∷ [] = take_more xs i x within ∙ ap (λ (y : X). take i xs ++ y ∷ []) (sym read) in (
      λ n.
          elim (next.0 n) [
            | inl now ↦
                elim (so_far.0 now) [
                  | inl start ↦ inl start
                  | inr (y, c, p) ↦ inr (y, subst (λ (ys : List X). Contains ys y) (sym split) (Contains-append_left (take i xs) (x ∷ []) y c), p)
                ]
            | inr here ↦ inr (x, subst (λ (ys : List X). Contains ys x) (sym split) (Contains-push (take i xs) x), found.0 here)
          ],
      elim [
        | inl start ↦ next.1 (inl (so_far.1 (inl start)))
        | inr (y, c, p) ↦
            elim (Contains-push_cases (take i xs) x y (subst (λ (ys : List X). Contains ys y) split c)) [
              | inl before ↦ next.1 (inl (so_far.1 (inr (y, before, p))))
              | inr last ↦ next.1 (inr (found.1 (subst P (sym last) p)))
            ]
      ],
    )

pub gathered_all : {X : Type 0} (P : X → Type 0) (xs : List X) (i : ℕ) (Start Now : Type 0) → length xs ≤ i → Now ↔ (Start ⊎ IsOfOne P (take i xs)) → Now ↔ (Start ⊎ IsOfOne P xs)
gathered_all {X} P xs i Start Now end done = subst (λ (ys : List X). Now ↔ (Start ⊎ IsOfOne P ys)) (take_all i xs end) done

-- one node alone
pub contains_one : (x at : Node) → Contains (x ∷ []) at ↔ (at ≡ x)
contains_one x at = (
  λ c. elim ((contains_cons x [] at).0 c) [ inl here ↦ sym here | inr later ↦ absurd (contains_none at later) ],
  λ same. (contains_cons x [] at).1 (inl (sym same)),
)

-- what is so of a value is so of it by a weaker word
pub if_ok : {A E : Type 0} (r : Result A E) (P Q : A → Type 0) → ((x : A) → P x → Q x) → IfOk r P → IfOk r Q
if_ok (Ok x) P Q then p = then x p
if_ok (Err e) P Q then p = tt
