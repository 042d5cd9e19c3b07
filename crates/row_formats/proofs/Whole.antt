-- Whole bodies: what is read of a spelling, of its fronts, and of what goes on behind it.
use Rattle.std.proofs.Common.{◌≡◌, ℕ, ◌+◌, ◌<◌, Bool, true, false, cond, ltb, List, [], ◌∷◌, ◌++◌, length, take, Result, Ok, Err, refl, sym, ap, subst, ◌∙◌, arith, append-nil}
use Rattle.std.specs.Prelude.{IfOk}
use Rattle.std.proofs.lemmas.Bool.{ltb-false, lt-ltb}
use Rattle.std.proofs.lemmas.List.{nil_from_length}
use Rattle.row_formats.specs.declared.fault.RowFault.{RowFault}
use Rattle.row_formats.specs.declared.fault.RowFault.TheVariants.{Short, Spare}
use Rattle.row_formats.specs.declared.fault.ReadError.{ReadError}
use Rattle.row_formats.specs.Place.{start, ended, whole}
use Rattle.row_formats.specs.Gives.{GivesWhole}
use Rattle.row_formats.specs.Format.{Format}
use Rattle.row_formats.specs.Exact.{IsBytes, IsExact, Spells}
use Rattle.row_formats.proofs.Steps.{bind_ok, bind_at, bind_err}

no_more : {A : Type 0} (b : Bool) (d : RowFault) (x y : A) → cond b (Err d) (Ok x) ≡ Ok y → (b ≡ false) × (x ≡ y)
no_more true d x y e = absurd cc
no_more false d x y e = (refl, cc)

pub whole_found : {A : Type 0} (f : Format A) → IsExact f → (body : List ℕ) (x : A) → IsBytes body → whole f.read body ≡ Ok x → Spells f x body
whole_found {A} f exact body x fits e =
    let a = bind_ok (f.read (start body)) (λ y. ended y.0 y.1) x e in
    let n = no_more (ltb 0 (length a.0.1.rest)) (Spare a.0.1.at) a.0.0 x a.2 in
    let s = exact.found (start body) a.0.0 a.0.1 fits a.1 in
    let none : a.0.1.rest ≡ [] = nil_from_length a.0.1.rest (omega (arith, ltb-false _ _ n.0)) in
    let all : body ≡ f.write a.0.0 = s.0.parts ∙ ap (λ (r : List ℕ). f.write a.0.0 ++ r) none ∙ append-nil (f.write a.0.0) in
    subst (λ (y : A). Spells f y body) n.1 (record { fits = s.1; text = all })

pub whole_again : {A : Type 0} (f : Format A) → IsExact f → (body : List ℕ) (x : A) → Spells f x body → whole f.read body ≡ Ok x
whole_again f exact body x h =
    let text : f.write x ++ [] ≡ body = append-nil (f.write x) ∙ sym h.text in
    let read = exact.again x 0 [] h.fits in
    bind_at (f.read (start body)) (λ y. ended y.0 y.1) _ (Ok x) (subst (λ (bs : List ℕ). f.read (start bs) ≡ Ok (x, record { at = 0 + length (f.write x); rest = [] })) text read) refl

-- what was returned is spelled by the body, and what the body spells was returned
pub is_found : {A : Type 0} (f : Format A) → IsExact f → (body : List ℕ) (r : Result A ReadError) → IsBytes body → GivesWhole (λ x. x) r (whole f.read body) → IfOk r (λ x. Spells f x body)
is_found f exact body (Ok x) fits h = whole_found f exact body x fits h
is_found f exact body (Err e) fits h = tt

pub is_only : {A : Type 0} (f : Format A) → IsExact f → (body : List ℕ) (r : Result A ReadError) → GivesWhole (λ x. x) r (whole f.read body) → (x : A) → Spells f x body → GivesWhole (λ x. x) r (Ok x)
is_only {A} f exact body r h x s = subst (λ (read : Result A RowFault). GivesWhole (λ x. x) r read) (whole_again f exact body x s) h

-- a front of a spelling is short, and bytes behind it are spare
pub is_short : {A : Type 0} (f : Format A) → IsExact f → (body : List ℕ) (r : Result A ReadError) → GivesWhole (λ x. x) r (whole f.read body) → (x : A) (k : ℕ) → f.fits x → k < length (f.write x) → body ≡ take k (f.write x) → GivesWhole (λ x. x) r (Err (Short k))
is_short {A} f exact body r h x k fits lt is =
    let front : f.read (start body) ≡ Err (Short k) =
    ap (λ (bs : List ℕ). f.read (start bs)) is ∙ exact.short x 0 k fits lt ∙ ap (λ (j : ℕ). Err (Short j)) (omega arith) in
    subst (λ (read : Result A RowFault). GivesWhole (λ x. x) r read) (bind_err (f.read (start body)) (λ y. ended y.0 y.1) (Short k) front) h

spare_end : {A : Type 0} (x : A) (at b : ℕ) (more : List ℕ) → ended x (record { at = at; rest = b ∷ more }) ≡ Err (Spare at)
spare_end x at b more =
    let some : ltb 0 (length (b ∷ more)) ≡ true = lt-ltb 0 (length (b ∷ more)) (omega arith) in
    rw some refl

pub is_spare : {A : Type 0} (f : Format A) → IsExact f → (body : List ℕ) (r : Result A ReadError) → GivesWhole (λ x. x) r (whole f.read body) → (x : A) (b : ℕ) (more : List ℕ) → f.fits x → body ≡ f.write x ++ b ∷ more → GivesWhole (λ x. x) r (Err (Spare (length (f.write x))))
is_spare {A} f exact body r h x b more fits is =
    let all : whole f.read body ≡ Err (Spare (length (f.write x))) =
    bind_at (f.read (start body)) (λ y. ended y.0 y.1) (x, record { at = 0 + length (f.write x); rest = b ∷ more }) _ (ap (λ (bs : List ℕ). f.read (start bs)) is ∙ exact.again x 0 (b ∷ more) fits)
    (spare_end x (0 + length (f.write x)) b more ∙ ap (λ (k : ℕ). Err (Spare k)) (omega arith)) in
    subst (λ (read : Result A RowFault). GivesWhole (λ x. x) r read) all h
