-- A choice of exact formats is exact.
use Rattle.std.proofs.Common.{◌≡◌, ℕ, zero, suc, ◌+◌, ◌%◌, ◌<◌, ◌≤◌, Bool, true, false, cond, eqb, List, [], ◌∷◌, ◌++◌, length, take, Ok, Err, refl, sym, ap, subst, ◌∙◌, arith}
use Rattle.std.specs.Prelude.{MatchBool}
use Rattle.std.specs.Int.{w8}
use Rattle.std.proofs.lemmas.Bool.{eqb-true}
use Rattle.row_formats.specs.declared.fault.RowFault.{RowFault}
use Rattle.row_formats.specs.declared.fault.RowFault.TheVariants.{Short}
use Rattle.row_formats.specs.Place.{Place}
use Rattle.row_formats.specs.Format.{Format, number_at, fits_one, write_one, read_one, numbered}
use Rattle.row_formats.specs.Exact.{IsBytes, StandsBetween, IsExact}
use Rattle.row_formats.proofs.Steps.{bind_ok, bind_at, bind_err, Stands-then}
use Rattle.row_formats.proofs.Fields.{number_found, number_again, number_cut, wide8}

-- each of the formats, numbered from k on, is exact, and its values have its number
abbrev pub AreExact : {A : Type 0} → (A → ℕ) → ℕ → List (Format A) → Type 0
AreExact number_of k [] = Unit {0}
AreExact {A} number_of k (f ∷ fs) = IsExact f × ((x : A) → f.fits x → number_of x ≡ k) × AreExact number_of (suc k) fs

one_found : {A : Type 0} (fault : RowFault) (number_of : A → ℕ) (k : ℕ) (fs : List (Format A)) (n : ℕ) (p : Place) (x : A) (q : Place) → AreExact number_of k fs → IsBytes p.rest → read_one fault k fs n p ≡ Ok (x, q)
    → StandsBetween (write_one k fs n x) p q × fits_one k fs n x × (number_of x ≡ n) × (n < k + length fs)
one_found fault number_of k [] n p x q exact fits e = absurd cc
one_found fault number_of k (f ∷ fs) n p x q exact fits e = this (eqb n k) refl (λ h. one_found fault number_of (suc k) fs n p x q exact.2 fits h) e
  where
    this : (b : Bool) → eqb n k ≡ b
        → (read_one fault (suc k) fs n p ≡ Ok (x, q) → StandsBetween (write_one (suc k) fs n x) p q × fits_one (suc k) fs n x × (number_of x ≡ n) × (n < suc k + length fs))
        → cond b (f.read p) (read_one fault (suc k) fs n p) ≡ Ok (x, q)
        → StandsBetween (cond b (f.write x) (write_one (suc k) fs n x)) p q × MatchBool b (f.fits x) (fits_one (suc k) fs n x) × (number_of x ≡ n) × (n < k + suc (length fs))
    this true t next h =
        let s = exact.0.found p x q fits h in
        let same = eqb-true n k t in
        (s.0, s.1, exact.1 x s.1 ∙ sym same, omega arith)
    this false t next h =
        let r = next h in
        (r.0, r.1, r.2, omega (arith, r.3))

one_again : {A : Type 0} (fault : RowFault) (number_of : A → ℕ) (k : ℕ) (fs : List (Format A)) (n : ℕ) (x : A) (at : ℕ) (more : List ℕ) → AreExact number_of k fs → fits_one k fs n x
    → (n < k + length fs) × (read_one fault k fs n (record { at = at; rest = write_one k fs n x ++ more }) ≡ Ok (x, record { at = at + length (write_one k fs n x); rest = more }))
one_again fault number_of k [] n x at more exact h = absurd h
one_again fault number_of k (f ∷ fs) n x at more exact h = this (eqb n k) refl (λ g. one_again fault number_of (suc k) fs n x at more exact.2 g) h
  where
    this : (b : Bool) → eqb n k ≡ b
        → (fits_one (suc k) fs n x → (n < suc k + length fs) × (read_one fault (suc k) fs n (record { at = at; rest = write_one (suc k) fs n x ++ more }) ≡ Ok (x, record { at = at + length (write_one (suc k) fs n x); rest = more })))
        → MatchBool b (f.fits x) (fits_one (suc k) fs n x)
        → (n < k + suc (length fs)) × (cond b (f.read (record { at = at; rest = cond b (f.write x) (write_one (suc k) fs n x) ++ more })) (read_one fault (suc k) fs n (record { at = at; rest = cond b (f.write x) (write_one (suc k) fs n x) ++ more })) ≡ Ok (x, record { at = at + length (cond b (f.write x) (write_one (suc k) fs n x)); rest = more }))
    this true t next h = (let same = eqb-true n k t in omega arith, exact.0.again x at more h)
    this false t next h = let r = next h in (omega (arith, r.0), r.1)

one_short : {A : Type 0} (fault : RowFault) (number_of : A → ℕ) (k : ℕ) (fs : List (Format A)) (n : ℕ) (x : A) (at j : ℕ) → AreExact number_of k fs → fits_one k fs n x → j < length (write_one k fs n x)
    → read_one fault k fs n (record { at = at; rest = take j (write_one k fs n x) }) ≡ Err (Short (at + j))
one_short fault number_of k [] n x at j exact h lt = absurd h
one_short fault number_of k (f ∷ fs) n x at j exact h lt = this (eqb n k) (λ g l. one_short fault number_of (suc k) fs n x at j exact.2 g l) h lt
  where
    this : (b : Bool)
        → (fits_one (suc k) fs n x → j < length (write_one (suc k) fs n x) → read_one fault (suc k) fs n (record { at = at; rest = take j (write_one (suc k) fs n x) }) ≡ Err (Short (at + j)))
        → MatchBool b (f.fits x) (fits_one (suc k) fs n x) → j < length (cond b (f.write x) (write_one (suc k) fs n x))
        → cond b (f.read (record { at = at; rest = take j (cond b (f.write x) (write_one (suc k) fs n x)) })) (read_one fault (suc k) fs n (record { at = at; rest = take j (cond b (f.write x) (write_one (suc k) fs n x)) })) ≡ Err (Short (at + j))
    this true next h l = exact.0.short x at j h l
    this false next h l = next h l

-- the number of a value that fits
one_number : {A : Type 0} (k : ℕ) (fs : List (Format A)) (n : ℕ) (x : A) → fits_one k fs n x → n < k + length fs
one_number k [] n x h = absurd h
one_number k (f ∷ fs) n x h = this (eqb n k) refl (λ g. one_number (suc k) fs n x g) h
  where
    this : (b : Bool) → eqb n k ≡ b → (fits_one (suc k) fs n x → n < suc k + length fs) → MatchBool b (f.fits x) (fits_one (suc k) fs n x) → n < k + suc (length fs)
    this true t next h = let same = eqb-true n k t in omega arith
    this false t next h = let r = next h in omega arith

-- a byte is read again
byte_again : (n at : ℕ) (more : List ℕ) → n < 256 → number_at w8 (record { at = at; rest = n ∷ more }) ≡ Ok (n, record { at = at + 1; rest = more })
byte_again n at more lt =
    let same : n % 256 ≡ n = omega arith in
    subst (λ (m : ℕ). number_at w8 (record { at = at; rest = m ∷ more }) ≡ Ok (n, record { at = at + 1; rest = more })) same (number_again w8 wide8 n at more lt)

numbered_short : {A : Type 0} (fault : ℕ → ℕ → RowFault) (first : ℕ) (number_of : A → ℕ) (fs : List (Format A)) → first + length fs ≤ 256 → AreExact number_of first fs
    → (x : A) (at k : ℕ) → fits_one first fs (number_of x) x → k < length (number_of x ∷ write_one first fs (number_of x) x)
    → (numbered fault first number_of fs).read (record { at = at; rest = take k (number_of x ∷ write_one first fs (number_of x) x) }) ≡ Err (Short (at + k))
numbered_short fault first number_of fs few exact x at zero h lt = bind_err (number_at w8 (record { at = at; rest = [] })) _ (Short (at + 0)) (number_cut w8 [] at 0 (omega arith) (omega arith))
numbered_short {A} fault first number_of fs few exact x at (suc j) h lt =
    let n : ℕ = number_of x in
    let body : List ℕ = write_one first fs n x in
    let small : n < 256 = omega (arith, one_number first fs n x h) in
    let r = one_short (fault at n) number_of first fs n x (at + 1) j exact h (omega arith) in
    let moved : (at + 1) + j ≡ at + suc j = omega arith in
    bind_at (number_at w8 (record { at = at; rest = n ∷ take j body })) (λ m. read_one (fault at m.0) first fs m.0 m.1) (n, record { at = at + 1; rest = take j body }) _ (byte_again n at (take j body) small)
    (r ∙ ap (λ (i : ℕ). Err (Short i)) moved)

pub numbered_exact : {A : Type 0} (fault : ℕ → ℕ → RowFault) (first : ℕ) (number_of : A → ℕ) (fs : List (Format A)) → first + length fs ≤ 256 → AreExact number_of first fs → IsExact (numbered fault first number_of fs)
numbered_exact {A} fault first number_of fs few exact = record {
  found = λ p x q fits e.
      let a = bind_ok (number_at w8 p) (λ n. read_one (fault p.at n.0) first fs n.0 n.1) (x, q) e in
      let s = number_found w8 wide8 p a.0.0 a.0.1 fits a.1 in
      let r = one_found (fault p.at a.0.0) number_of first fs a.0.0 a.0.1 x q exact s.0.bytes a.2 in
      let byte : StandsBetween (a.0.0 ∷ []) p a.0.1 = subst (λ (t : List ℕ). StandsBetween t p a.0.1) (ap (λ (n : ℕ). n ∷ []) (omega (arith, s.1))) s.0 in
      let both : StandsBetween (a.0.0 ∷ write_one first fs a.0.0 x) p q = Stands-then (a.0.0 ∷ []) (write_one first fs a.0.0 x) p a.0.1 q byte r.0 in
      subst (λ (n : ℕ). StandsBetween (n ∷ write_one first fs n x) p q × fits_one first fs n x) (sym r.2) (both, r.1);
  again = λ x at more h.
      let n : ℕ = number_of x in
      let body : List ℕ = write_one first fs n x in
      let r = one_again (fault at n) number_of first fs n x (at + 1) more exact h in
      let small : n < 256 = omega (arith, r.0) in
      let head : number_at w8 (record { at = at; rest = n ∷ (body ++ more) }) ≡ Ok (n, record { at = at + 1; rest = body ++ more }) = byte_again n at (body ++ more) small in
      let moved : (at + 1) + length body ≡ at + suc (length body) = omega arith in
      bind_at (number_at w8 (record { at = at; rest = n ∷ (body ++ more) })) (λ m. read_one (fault at m.0) first fs m.0 m.1) (n, record { at = at + 1; rest = body ++ more }) _ head
      (subst (λ (k : ℕ). read_one (fault at n) first fs n (record { at = at + 1; rest = body ++ more }) ≡ Ok (x, record { at = k; rest = more })) moved r.1);
  short = numbered_short fault first number_of fs few exact;
}
