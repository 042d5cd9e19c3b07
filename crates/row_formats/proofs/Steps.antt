-- Steps of reading, and what stands in a body.
use Rattle.std.proofs.Common.{◌≡◌, ℕ, zero, suc, ◌+◌, ◌-◌, ◌≤◌, Bool, true, false, cond, List, [], ◌∷◌, ◌++◌, length, take, drop, Option, Some, None, Result, Ok, Err, refl, sym, ap, ◌∙◌, append_assoc, arith, inl, inr}
use Rattle.std.proofs.lemmas.Bool.{cases_lt}
use Rattle.std.proofs.lemmas.List.{length-append, length-take, get_or-drop, get_or-take, get_or_past}
use Rattle.row_formats.specs.Place.{Place, ◌>>=◌, judged}
use Rattle.row_formats.specs.Exact.{IsBytes, StandsBetween}

pub IsBytes-drop : (n : ℕ) (bytes : List ℕ) → IsBytes bytes → IsBytes (drop n bytes)
IsBytes-drop n bytes h i = rw get_or-drop (h (n + i))

pub IsBytes-take : (n : ℕ) (bytes : List ℕ) → IsBytes bytes → IsBytes (take n bytes)
IsBytes-take n bytes h i =
    elim (cases_lt i n) [
      | inl lt ↦ rw (get_or-take n bytes i 0 lt) (h i)
      | inr le ↦ rw (get_or_past (take n bytes) i 0 (omega (arith, length-take n bytes))) (omega arith)
    ]

-- the value of a step that did not fail
pub bind_ok : {A B E : Type 0} (r : Result A E) (f : A → Result B E) (y : B) → (r >>= f) ≡ Ok y → (x : A) × (r ≡ Ok x) × (f x ≡ Ok y)
bind_ok (Ok x) f y e = (x, refl, e)
bind_ok (Err d) f y e = absurd cc

-- a step that did not fail leaves the next
pub bind_at : {A B E : Type 0} (r : Result A E) (f : A → Result B E) (x : A) (z : Result B E) → r ≡ Ok x → f x ≡ z → (r >>= f) ≡ z
bind_at r f x z e h = ap (λ s. s >>= f) e ∙ h

-- a test that did not fail
pub guard_ok : {A E : Type 0} (b : Bool) (d : E) (x y : A) → cond b (Err d) (Ok x) ≡ Ok y → (b ≡ false) × (x ≡ y)
guard_ok true d x y e = absurd cc
guard_ok false d x y e = (refl, cc)

abbrev done : {A : Type 0} (E : Type 0) → A → Result A E
done E x = Ok x

pub ok_is : {A E : Type 0} (x y : A) → done E x ≡ done E y → x ≡ y
ok_is x y e = cc

pub Stands-none : (p : Place) → IsBytes p.rest → StandsBetween [] p p
Stands-none p fits = record { parts = refl; moved = omega arith; bytes = fits }

pub Stands-then : (s t : List ℕ) (a b c : Place) → StandsBetween s a b → StandsBetween t b c → StandsBetween (s ++ t) a c
Stands-then s t a b c p q = record {
  parts = p.parts ∙ ap (λ (u : List ℕ). s ++ u) q.parts ∙ sym (append_assoc s t c.rest);
  moved = omega (arith, p.moved, q.moved, length-append s t);
  bytes = q.bytes;
}

-- a step that failed ends the reading
pub bind_err : {A B E : Type 0} (r : Result A E) (f : A → Result B E) (e : E) → r ≡ Err e → (r >>= f) ≡ Err e
bind_err r f e h = ap (λ s. s >>= f) h

-- a front of two lists that reaches into the second
pub take_beyond : (a b : List ℕ) (k : ℕ) → length a ≤ k → take k (a ++ b) ≡ a ++ take (k - length a) b
take_beyond [] b k le = ap (λ (j : ℕ). take j b) (omega arith)
take_beyond (x ∷ a) b zero le = absurd (omega arith)
take_beyond (x ∷ a) b (suc k) le =
    let e : suc k - length (x ∷ a) ≡ k - length a = omega arith in
    rw e (ap (λ (t : List ℕ). x ∷ t) (take_beyond a b k (omega arith)))

-- what was judged
pub judged_ok : {A : Type 0} (at : ℕ) (o : Option A) (q : Place) (y : A × Place) → judged at o q ≡ Ok y → (o ≡ Some y.0) × (q ≡ y.1)
judged_ok at None q y e = absurd cc
judged_ok {A} at (Some x) q y e = let h = ok_is (x, q) y e in (ap (λ (z : A × Place). Some z.0) h, ap (λ (z : A × Place). z.1) h)
