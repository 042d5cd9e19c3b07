-- Rows of checks have one answer at the most.
use Rattle.std.proofs.Common.{◌≡◌, List, Option, Some, None, sym, ◌∙◌, subst, inl, inr}
use Rattle.share_graph.specs.Forms.{answers, when◌then◌else◌, unless◌then◌else◌, must◌or◌then◌, found◌or◌then◌, none, some◌of◌or◌then◌, first◌then◌, IsOne}
use Rattle.share_graph.specs.Keys.{IsOneOf}

pub answers_one : {A : Type 0} (answer : A) → IsOne (answers answer)
answers_one answer = record { one = λ a b x y. x ∙ sym y }

when_cases : {A : Type 0} (P : Type 0) (answer : A) (Rest : A → Type 0) → IsOne Rest → (a b : A) → (when P then answer else Rest) a → (when P then answer else Rest) b → a ≡ b
when_cases P answer Rest rest a b (inl (e, p)) (inl (f, q)) = e ∙ sym f
when_cases P answer Rest rest a b (inl (e, p)) (inr (never, y)) = absurd (never p)
when_cases P answer Rest rest a b (inr (never, x)) (inl (f, q)) = absurd (never q)
when_cases P answer Rest rest a b (inr (never, x)) (inr (nor, y)) = rest.one a b x y

pub when_one : {A : Type 0} {P : Type 0} {answer : A} {Rest : A → Type 0} → IsOne Rest → IsOne (when P then answer else Rest)
when_one {A} {P} {answer} {Rest} rest = record { one = when_cases P answer Rest rest }

unless_cases : {A : Type 0} (P : Type 0) (answer : A) (Rest : A → Type 0) → IsOne Rest → (a b : A) → (unless P then answer else Rest) a → (unless P then answer else Rest) b → a ≡ b
unless_cases P answer Rest rest a b (inl (e, never)) (inl (f, nor)) = e ∙ sym f
unless_cases P answer Rest rest a b (inl (e, never)) (inr (p, y)) = absurd (never p)
unless_cases P answer Rest rest a b (inr (p, x)) (inl (f, never)) = absurd (never p)
unless_cases P answer Rest rest a b (inr (p, x)) (inr (q, y)) = rest.one a b x y

pub unless_one : {A : Type 0} {P : Type 0} {answer : A} {Rest : A → Type 0} → IsOne Rest → IsOne (unless P then answer else Rest)
unless_one {A} {P} {answer} {Rest} rest = record { one = unless_cases P answer Rest rest }

must_cases : {A : Type 0} (P : Type 0) (Answers Rest : A → Type 0) → ((a : A) → P → Answers a → ⊥) → IsOne Answers → IsOne Rest → (a b : A)
    → (must P or Answers then Rest) a → (must P or Answers then Rest) b → a ≡ b
must_cases P Answers Rest apart test rest a b (inl x) (inl y) = test.one a b x y
must_cases P Answers Rest apart test rest a b (inl x) (inr (p, y)) = absurd (apart a p x)
must_cases P Answers Rest apart test rest a b (inr (p, x)) (inl y) = absurd (apart b p y)
must_cases P Answers Rest apart test rest a b (inr (p, x)) (inr (q, y)) = rest.one a b x y

pub must_one : {A : Type 0} {P : Type 0} {Answers Rest : A → Type 0} → ((a : A) → P → Answers a → ⊥) → IsOne Answers → IsOne Rest → IsOne (must P or Answers then Rest)
must_one {A} {P} {Answers} {Rest} apart test rest = record { one = must_cases P Answers Rest apart test rest }

found_cases : {A X : Type 0} (P : X → Type 0) (Answers : A → Type 0) (Rest : X → A → Type 0) → ((x : X) (a : A) → P x → Answers a → ⊥) → IsOne P → IsOne Answers
    → ((x : X) → IsOne (Rest x)) → (a b : A) → (found P or Answers then Rest) a → (found P or Answers then Rest) b → a ≡ b
found_cases P Answers Rest apart rows test rest a b (inl x) (inl y) = test.one a b x y
found_cases P Answers Rest apart rows test rest a b (inl x) (inr (row, p, y)) = absurd (apart row a p x)
found_cases P Answers Rest apart rows test rest a b (inr (row, p, x)) (inl y) = absurd (apart row b p y)
found_cases {A} {X} P Answers Rest apart rows test rest a b (inr (row, p, x)) (inr (other, q, y)) =
    (rest row).one a b x (subst (λ (z : X). Rest z b) (sym (rows.one row other p q)) y)

pub found_one : {A X : Type 0} {P : X → Type 0} {Answers : A → Type 0} {Rest : X → A → Type 0} → ((x : X) (a : A) → P x → Answers a → ⊥) → IsOne P → IsOne Answers
    → ((x : X) → IsOne (Rest x)) → IsOne (found P or Answers then Rest)
found_one {A} {X} {P} {Answers} {Rest} apart rows test rest = record { one = found_cases P Answers Rest apart rows test rest }

-- a row or none
pub found_or_none_one : {A X : Type 0} {P : X → Type 0} {answer : A} {Rest : X → A → Type 0} → IsOne P → ((x : X) → IsOne (Rest x)) → IsOne (found P or none P answer then Rest)
found_or_none_one rows rest = found_one (λ x a p never. never.1 x p) rows (record { one = λ a b x y. x.0 ∙ sym y.0 }) rest

some_cases : {A X : Type 0} (P : X → Type 0) (rows : List X) (answer : A) (Rest : X → A → Type 0) → IsOne (λ (x : X). IsOneOf rows P x) → ((x : X) → IsOne (Rest x)) → (a b : A)
    → (some P of rows or answer then Rest) a → (some P of rows or answer then Rest) b → a ≡ b
some_cases P rows answer Rest single rest a b (inl (e, never)) (inl (f, nor)) = e ∙ sym f
some_cases P rows answer Rest single rest a b (inl (e, never)) (inr (row, p, y)) = absurd (never row p.listed p.is)
some_cases P rows answer Rest single rest a b (inr (row, p, x)) (inl (f, never)) = absurd (never row p.listed p.is)
some_cases {A} {X} P rows answer Rest single rest a b (inr (row, p, x)) (inr (other, q, y)) =
    (rest row).one a b x (subst (λ (z : X). Rest z b) (sym (single.one row other p q)) y)

pub some_of_one : {A X : Type 0} {P : X → Type 0} {rows : List X} {answer : A} {Rest : X → A → Type 0} → IsOne (λ (x : X). IsOneOf rows P x) → ((x : X) → IsOne (Rest x))
    → IsOne (some P of rows or answer then Rest)
some_of_one {A} {X} {P} {rows} {answer} {Rest} single rest = record { one = some_cases P rows answer Rest single rest }

-- first answers that have something, or else nothing
first_cases : {A : Type 0} (Answers Rest : Option A → Type 0) → IsOne Answers → IsOne Rest → (a b : Option A) → (first Answers then Rest) a → (first Answers then Rest) b → a ≡ b
first_cases Answers Rest test rest a b (inl (x, e, p)) (inl (y, f, q)) = e ∙ test.one (Some x) (Some y) p q ∙ sym f
first_cases Answers Rest test rest a b (inl (x, e, p)) (inr (never, q)) = let odd : Some x ≡ None = test.one (Some x) None p never in cc
first_cases Answers Rest test rest a b (inr (never, p)) (inl (y, f, q)) = let odd : Some y ≡ None = test.one (Some y) None q never in cc
first_cases Answers Rest test rest a b (inr (never, p)) (inr (nor, q)) = rest.one a b p q

pub first_one : {A : Type 0} {Answers Rest : Option A → Type 0} → IsOne Answers → IsOne Rest → IsOne (first Answers then Rest)
first_one {A} {Answers} {Rest} test rest = record { one = first_cases Answers Rest test rest }
