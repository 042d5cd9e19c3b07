-- What is put together of exact formats is exact.
use Rattle.std.proofs.Common.{◌≡◌, ℕ, ◌+◌, ◌-◌, ◌<◌, Bool, true, false, cond, List, [], ◌++◌, length, take, Some, None, Ok, Err, refl, sym, ap, subst, append_assoc, add-zero, ◌∙◌, arith, inl, inr}
use Rattle.std.proofs.lemmas.Bool.{cases_lt}
use Rattle.std.proofs.lemmas.List.{length-append, take-append-le}
use Rattle.row_formats.specs.declared.fault.RowFault.TheVariants.{Short}
use Rattle.row_formats.specs.Place.{Place, ◌>>=◌, judged}
use Rattle.row_formats.specs.Format.{Format, always, ◌⊗◌, made, only}
use Rattle.row_formats.specs.Exact.{StandsBetween, IsExact}
use Rattle.row_formats.proofs.Steps.{bind_ok, bind_at, bind_err, ok_is, judged_ok, take_beyond, Stands-none, Stands-then}

pub always_exact : {A : Type 0} (x : A) → IsExact (always x)
always_exact {A} x = record {
  found = λ p y q fits e.
      let h = ok_is (x, p) (y, q) e in
      (subst (λ (r : Place). StandsBetween [] p r) (ap (λ (z : A × Place). z.1) h) (Stands-none p fits), sym (ap (λ (z : A × Place). z.0) h));
  again = λ y at more h. rw (h, add-zero) refl;
  short = λ y at k h lt. absurd (omega arith);
}

pair_short : {A B : Type 0} (f : Format A) (g : Format B) → IsExact f → IsExact g → (x : A × B) (at k : ℕ) → (f ⊗ g).fits x → k < length ((f ⊗ g).write x) → (f ⊗ g).read (record { at = at; rest = take k ((f ⊗ g).write x) }) ≡ Err (Short (at + k))
pair_short {A} {B} f g ef eg x at k h lt =
    let a : List ℕ = f.write x.0 in
    let b : List ℕ = g.write x.1 in
    elim (cases_lt k (length a)) [
      | inl lt1 ↦ subst (λ (t : List ℕ). (f ⊗ g).read (record { at = at; rest = t }) ≡ Err (Short (at + k))) (sym (take-append-le k a b (omega arith)))
          (bind_err (f.read (record { at = at; rest = take k a })) _ (Short (at + k)) (ef.short x.0 at k h.0 lt1))
      | inr le1 ↦
          let moved : (at + length a) + (k - length a) ≡ at + k = omega arith in
          subst (λ (t : List ℕ). (f ⊗ g).read (record { at = at; rest = t }) ≡ Err (Short (at + k))) (sym (take_beyond a b k le1))
          (bind_at (f.read (record { at = at; rest = a ++ take (k - length a) b })) (λ y. g.read y.1 >>= λ z. Ok ((y.0, z.0), z.1)) (x.0, record { at = at + length a; rest = take (k - length a) b }) _ (ef.again x.0 at (take (k - length a) b) h.0)
          (bind_err (g.read (record { at = at + length a; rest = take (k - length a) b })) _ (Short (at + k)) (eg.short x.1 (at + length a) (k - length a) h.1 (omega (arith, length-append a b)) ∙ ap (λ (j : ℕ). Err (Short j)) moved)))
    ]

pub pair_exact : {A B : Type 0} (f : Format A) (g : Format B) → IsExact f → IsExact g → IsExact (f ⊗ g)
pair_exact {A} {B} f g ef eg = record {
  found = λ p x q fits e.
      let a = bind_ok (f.read p) (λ y. g.read y.1 >>= λ z. Ok ((y.0, z.0), z.1)) (x, q) e in
      let b = bind_ok (g.read a.0.1) (λ z. Ok ((a.0.0, z.0), z.1)) (x, q) a.2 in
      let s = ef.found p a.0.0 a.0.1 fits a.1 in
      let t = eg.found a.0.1 b.0.0 b.0.1 s.0.bytes b.1 in
      let both : StandsBetween (f.write a.0.0 ++ g.write b.0.0) p b.0.1 = Stands-then (f.write a.0.0) (g.write b.0.0) p a.0.1 b.0.1 s.0 t.0 in
      let whole : (A × B) × Place = ((a.0.0, b.0.0), b.0.1) in
      subst (λ (y : (A × B) × Place). StandsBetween (f.write y.0.0 ++ g.write y.0.1) p y.1 × (f.fits y.0.0 × g.fits y.0.1)) (ok_is whole (x, q) b.2) (both, (s.1, t.1));
  again = λ x at more h.
      let m : ℕ = length (f.write x.0) in
      let n : ℕ = length (g.write x.1) in
      let moved : (at + m) + n ≡ at + length (f.write x.0 ++ g.write x.1) = omega (arith, length-append (f.write x.0) (g.write x.1)) in
      let here : Place = record { at = at; rest = f.write x.0 ++ (g.write x.1 ++ more) } in
      let there : Place = record { at = at + m; rest = g.write x.1 ++ more } in
      let end : Place = record { at = (at + m) + n; rest = more } in
      let read : (f ⊗ g).read here ≡ Ok (x, end) =
      bind_at (f.read here) (λ y. g.read y.1 >>= λ z. Ok ((y.0, z.0), z.1)) (x.0, there) (Ok (x, end)) (ef.again x.0 at (g.write x.1 ++ more) h.0)
      (bind_at (g.read there) (λ z. Ok ((x.0, z.0), z.1)) (x.1, end) (Ok (x, end)) (eg.again x.1 (at + m) more h.1) refl) in
      subst (λ (bs : List ℕ). (f ⊗ g).read (record { at = at; rest = bs }) ≡ Ok (x, record { at = at + length (f.write x.0 ++ g.write x.1); rest = more }))
      (sym (append_assoc (f.write x.0) (g.write x.1) more))
      (subst (λ (k : ℕ). (f ⊗ g).read here ≡ Ok (x, record { at = k; rest = more })) moved read);
  short = pair_short f g ef eg;
}

pub made_exact : {A B : Type 0} (make : B → A) (parts : A → B) (f : Format B) → ((y : B) → f.fits y → parts (make y) ≡ y) → IsExact f → IsExact (made make parts f)
made_exact {A} {B} make parts f back ef = record {
  found = λ p x q fits e.
      let a = bind_ok (f.read p) (λ y. Ok (make y.0, y.1)) (x, q) e in
      let s = ef.found p a.0.0 a.0.1 fits a.1 in
      let whole : A × Place = (make a.0.0, a.0.1) in
      subst (λ (y : A × Place). StandsBetween (f.write (parts y.0)) p y.1 × (f.fits (parts y.0) × (make (parts y.0) ≡ y.0))) (ok_is whole (x, q) a.2)
      (subst (λ (y : B). StandsBetween (f.write y) p a.0.1 × (f.fits y × (make y ≡ make a.0.0))) (sym (back a.0.0 s.1)) (s.0, (s.1, refl)));
  again = λ x at more h.
      bind_at (f.read _) (λ y. Ok (make y.0, y.1)) (parts x, record { at = at + length (f.write (parts x)); rest = more }) _ (ef.again (parts x) at more h.0) (ap (λ (y : A). Ok (y, record { at = at + length (f.write (parts x)); rest = more })) h.1);
  short = λ x at k h lt. bind_err (f.read (record { at = at; rest = take k (f.write (parts x)) })) _ (Short (at + k)) (ef.short (parts x) at k h.0 lt);
}

pub tested : {A : Type 0} (b : Bool) (x y : A) → cond b (Some x) None ≡ Some y → (b ≡ true) × (x ≡ y)
tested true x y e = (refl, cc)
tested false x y e = absurd cc

pub only_exact : {A : Type 0} (test : A → Bool) (f : Format A) → IsExact f → IsExact (only test f)
only_exact {A} test f ef = record {
  found = λ p x q fits e.
      let a = bind_ok (f.read p) (λ y. judged p.at (cond (test y.0) (Some y.0) None) y.1) (x, q) e in
      let j = judged_ok p.at (cond (test a.0.0) (Some a.0.0) None) a.0.1 (x, q) a.2 in
      let t = tested (test a.0.0) a.0.0 x j.0 in
      let s = ef.found p a.0.0 a.0.1 fits a.1 in
      subst (λ (r : Place). StandsBetween (f.write x) p r × (f.fits x × (test x ≡ true))) j.1
      (subst (λ (y : A). StandsBetween (f.write y) p a.0.1 × (f.fits y × (test y ≡ true))) t.1 (s.0, (s.1, t.0)));
  again = λ x at more h.
      bind_at (f.read _) (λ y. judged at (cond (test y.0) (Some y.0) None) y.1) (x, record { at = at + length (f.write x); rest = more }) _ (ef.again x at more h.0) (rw h.1 refl);
  short = λ x at k h lt. bind_err (f.read (record { at = at; rest = take k (f.write x) })) _ (Short (at + k)) (ef.short x at k h.0 lt);
}
