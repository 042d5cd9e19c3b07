-- The fields are exact: bytes, numbers and texts.
use Rattle.std.proofs.Common.{◌≡◌, ℕ, ◌+◌, ◌-◌, ◌^◌, ◌<◌, ◌≤◌, true, false, ltb, List, [], ◌∷◌, ◌++◌, length, take, Ok, Err, refl, sym, ap, subst, ◌∙◌, arith, inl, inr}
use Rattle.std.specs.Int.{Width, w8, w16, w32, w64, byte_len, from_be_bytes, to_be_bytes}
use Rattle.std.proofs.lemmas.Bool.{cases_lt, lt-ltb, ltb-false, le-ltb}
use Rattle.std.proofs.lemmas.List.{take_at, drop_at, take-append-drop, length-append, length-take}
use Rattle.std.proofs.lemmas.Nat.{be_bytes_2, be_bytes_4, be_bytes_8, from_be_bytes-to_be_bytes_2, from_be_bytes-to_be_bytes_4, from_be_bytes-to_be_bytes_8}
use Rattle.plain_data.specs.Name.{IsName}
use Rattle.row_formats.specs.declared.fault.RowFault.TheVariants.{Short}
use Rattle.row_formats.specs.Place.{Place, past, ◌>>=◌, bytes_at, judged}
use Rattle.row_formats.specs.Format.{number_at, number_bytes, text_at, number, bytes, text, name_of}
use Rattle.row_formats.specs.Exact.{IsBytes, StandsBetween, IsExact}
use Rattle.row_formats.proofs.Steps.{IsBytes-drop, IsBytes-take, bind_ok, bind_at, bind_err, guard_ok, ok_is, Stands-then, take_beyond, judged_ok}
use Rattle.row_formats.proofs.Names.{name_is, is_named, name_length}

pub bytes_found : (n : ℕ) (p : Place) (bs : List ℕ) (q : Place) → IsBytes p.rest → bytes_at n p ≡ Ok (bs, q) → StandsBetween bs p q × (length bs ≡ n) × IsBytes bs
unfolding bytes_at
bytes_found n p bs q fits e =
    let g = guard_ok (ltb (length p.rest) n) (Short (p.at + length p.rest)) (take n p.rest, past n p) (bs, q) e in
    let long : n ≤ length p.rest = ltb-false _ _ g.0 in
    let len : length (take n p.rest) ≡ n = omega (arith, length-take n p.rest) in
    subst (λ (x : List ℕ × Place). StandsBetween x.0 p x.1 × (length x.0 ≡ n) × IsBytes x.0) g.1
    (record { parts = sym (take-append-drop n p.rest); moved = omega (arith, len); bytes = IsBytes-drop n p.rest fits }, len, IsBytes-take n p.rest fits)

pub bytes_again : (n : ℕ) (bs : List ℕ) (at : ℕ) (more : List ℕ) → length bs ≡ n → bytes_at n (record { at = at; rest = bs ++ more }) ≡ Ok (bs, record { at = at + n; rest = more })
unfolding bytes_at
bytes_again n bs at more len =
    let long : ltb (length (bs ++ more)) n ≡ false = le-ltb _ _ (omega (arith, length-append bs more)) in
    rw (long, take_at bs more n len, drop_at bs more n len) refl

bytes_cut : (n : ℕ) (bs : List ℕ) (at k : ℕ) → k < n → k ≤ length bs → bytes_at n (record { at = at; rest = take k bs }) ≡ Err (Short (at + k))
unfolding bytes_at
bytes_cut n bs at k lt le =
    let len : length (take k bs) ≡ k = omega (arith, length-take k bs) in
    let short : ltb (length (take k bs)) n ≡ true = lt-ltb _ _ (omega arith) in
    rw (short, len) refl

pub bytes_exact : (n : ℕ) → IsExact (bytes n)
bytes_exact n = record {
  found = λ p x q fits e. let h = bytes_found n p x q fits e in (h.0, h.1);
  again = λ x at more len. subst (λ (k : ℕ). bytes_at n (record { at = at; rest = x ++ more }) ≡ Ok (x, record { at = at + k; rest = more })) (sym len) (bytes_again n x at more len);
  short = λ x at k len lt. bytes_cut n x at k (omega (arith, len)) (omega arith);
}

-- ---- numbers

pub record IsWide (w : Width) : Type 0 where
  pub len : (n : ℕ) → length (to_be_bytes w n) ≡ byte_len w
  pub back : (bs : List ℕ) → length bs ≡ byte_len w → IsBytes bs → to_be_bytes w (from_be_bytes w bs) ≡ bs
  pub again : (n : ℕ) → n < 256 ^ byte_len w → from_be_bytes w (to_be_bytes w n) ≡ n
  pub below : (bs : List ℕ) → IsBytes bs → from_be_bytes w bs < 256 ^ byte_len w

one_byte : (bs : List ℕ) → length bs ≡ 1 → IsBytes bs → to_be_bytes w8 (from_be_bytes w8 bs) ≡ bs
one_byte [] len fits = absurd (omega arith)
one_byte (b ∷ []) len fits = ap (λ (c : ℕ). c ∷ []) (omega (arith, fits 0))
one_byte (b ∷ c ∷ bs) len fits = absurd (omega arith)

pub wide8 : IsWide w8
wide8 = record {
  len = λ n. refl;
  back = one_byte;
  again = λ n lt. omega arith;
  below = λ bs fits. fits 0;
}

pub wide16 : IsWide w16
wide16 = record {
  len = λ n. refl;
  back = λ bs len fits. be_bytes_2 bs _ len fits refl;
  again = λ n lt. from_be_bytes-to_be_bytes_2 n lt;
  below = λ bs fits. omega (arith, fits 0, fits 1);
}

pub wide32 : IsWide w32
wide32 = record {
  len = λ n. refl;
  back = λ bs len fits. be_bytes_4 bs _ len fits refl;
  again = λ n lt. from_be_bytes-to_be_bytes_4 n lt;
  below = λ bs fits. omega (arith, fits 0, fits 1, fits 2, fits 3);
}

pub wide64 : IsWide w64
wide64 = record {
  len = λ n. refl;
  back = λ bs len fits. be_bytes_8 bs _ len fits refl;
  again = λ n lt. from_be_bytes-to_be_bytes_8 n lt;
  below = λ bs fits. omega (arith, fits 0, fits 1, fits 2, fits 3, fits 4, fits 5, fits 6, fits 7);
}

pub number_found : (w : Width) (wide : IsWide w) (p : Place) (n : ℕ) (q : Place) → IsBytes p.rest → number_at w p ≡ Ok (n, q) → StandsBetween (to_be_bytes w n) p q × (n < 256 ^ byte_len w)
unfolding number_at
number_found w wide p n q fits e =
    let a = bind_ok (bytes_at (byte_len w) p) (λ b. Ok (from_be_bytes w b.0, b.1)) (n, q) e in
    let t = bytes_found (byte_len w) p a.0.0 a.0.1 fits a.1 in
    let made = ok_is (from_be_bytes w a.0.0, a.0.1) (n, q) a.2 in
    let text : to_be_bytes w (from_be_bytes w a.0.0) ≡ a.0.0 = wide.back a.0.0 t.1 t.2 in
    subst (λ (x : ℕ × Place). StandsBetween (to_be_bytes w x.0) p x.1 × (x.0 < 256 ^ byte_len w)) made
    (subst (λ (s : List ℕ). StandsBetween s p a.0.1) (sym text) t.0, wide.below a.0.0 t.2)

pub number_again : (w : Width) (wide : IsWide w) (n at : ℕ) (more : List ℕ) → n < 256 ^ byte_len w → number_at w (record { at = at; rest = to_be_bytes w n ++ more }) ≡ Ok (n, record { at = at + byte_len w; rest = more })
unfolding number_at
number_again w wide n at more lt =
    rw (bytes_again (byte_len w) (to_be_bytes w n) at more (wide.len n), wide.again n lt) refl

pub number_cut : (w : Width) (bs : List ℕ) (at k : ℕ) → k < byte_len w → k ≤ length bs → number_at w (record { at = at; rest = take k bs }) ≡ Err (Short (at + k))
unfolding number_at
number_cut w bs at k lt le = bind_err (bytes_at (byte_len w) (record { at = at; rest = take k bs })) _ (Short (at + k)) (bytes_cut (byte_len w) bs at k lt le)

pub number_exact : (w : Width) → IsWide w → IsExact (number w)
unfolding number_bytes
number_exact w wide = record {
  found = number_found w wide;
  again = λ x at more lt. subst (λ (k : ℕ). number_at w (record { at = at; rest = to_be_bytes w x ++ more }) ≡ Ok (x, record { at = at + k; rest = more })) (sym (wide.len x)) (number_again w wide x at more lt);
  short = λ x at k fits lt. number_cut w (to_be_bytes w x) at k (omega (arith, wide.len x)) (omega arith);
}

-- ---- texts

text_found : (p : Place) (t : List ℕ) (q : Place) → IsBytes p.rest → text_at p ≡ Ok (t, q) → StandsBetween (number_bytes w16 (length t) ++ t) p q × IsName t
unfolding text_at number_bytes
text_found p t q fits e =
    let a = bind_ok (number_at w16 p) (λ size. bytes_at size.0 size.1 >>= λ bs. judged p.at (name_of bs.0) bs.1) (t, q) e in
    let b = bind_ok (bytes_at a.0.0 a.0.1) (λ bs. judged p.at (name_of bs.0) bs.1) (t, q) a.2 in
    let j = judged_ok p.at (name_of b.0.0) b.0.1 (t, q) b.2 in
    let n = is_named b.0.0 t j.0 in
    let s = number_found w16 wide16 p a.0.0 a.0.1 fits a.1 in
    let u = bytes_found a.0.0 a.0.1 b.0.0 b.0.1 s.0.bytes b.1 in
    let both : StandsBetween (to_be_bytes w16 a.0.0 ++ b.0.0) p b.0.1 = Stands-then (to_be_bytes w16 a.0.0) b.0.0 p a.0.1 b.0.1 s.0 u.0 in
    let sized : StandsBetween (to_be_bytes w16 (length b.0.0) ++ b.0.0) p b.0.1 = subst (λ (k : ℕ). StandsBetween (to_be_bytes w16 k ++ b.0.0) p b.0.1) (sym u.1) both in
    let named : StandsBetween (to_be_bytes w16 (length t) ++ t) p b.0.1 = subst (λ (x : List ℕ). StandsBetween (to_be_bytes w16 (length x) ++ x) p b.0.1) n.0 sized in
    (subst (λ (r : Place). StandsBetween (to_be_bytes w16 (length t) ++ t) p r) j.1 named, n.1)

text_again : (t : List ℕ) (at : ℕ) (more : List ℕ) → IsName t → text_at (record { at = at; rest = (number_bytes w16 (length t) ++ t) ++ more }) ≡ Ok (t, record { at = at + length (number_bytes w16 (length t) ++ t); rest = more })
unfolding text_at number_bytes
text_again t at more h =
    let small : length t < 65536 = omega (arith, name_length t h) in
    let moved : (at + 2) + length t ≡ at + length (to_be_bytes w16 (length t) ++ t) = omega arith in
    subst (λ (k : ℕ). text_at (record { at = at; rest = (to_be_bytes w16 (length t) ++ t) ++ more }) ≡ Ok (t, record { at = k; rest = more })) moved
    (bind_at (number_at w16 (record { at = at; rest = (to_be_bytes w16 (length t) ++ t) ++ more })) _ (length t, record { at = at + 2; rest = t ++ more }) _ (number_again w16 wide16 (length t) at (t ++ more) small)
    (bind_at (bytes_at (length t) (record { at = at + 2; rest = t ++ more })) _ (t, record { at = (at + 2) + length t; rest = more }) _ (bytes_again (length t) t (at + 2) more refl)
    (rw (name_is t h) refl)))

text_short : (t : List ℕ) (at k : ℕ) → IsName t → k < length (number_bytes w16 (length t) ++ t) → text_at (record { at = at; rest = take k (number_bytes w16 (length t) ++ t) }) ≡ Err (Short (at + k))
unfolding text_at number_bytes
text_short t at k h lt =
    let small : length t < 65536 = omega (arith, name_length t h) in
    elim (cases_lt k 2) [
      | inl lt2 ↦ bind_err (number_at w16 _) _ (Short (at + k)) (number_cut w16 (to_be_bytes w16 (length t) ++ t) at k lt2 (omega arith))
      | inr le2 ↦
          let e : take k (to_be_bytes w16 (length t) ++ t) ≡ to_be_bytes w16 (length t) ++ take (k - 2) t = take_beyond (to_be_bytes w16 (length t)) t k le2 in
          let moved : (at + 2) + (k - 2) ≡ at + k = omega arith in
          rw e (bind_at (number_at w16 _) _ (length t, record { at = at + 2; rest = take (k - 2) t }) _ (number_again w16 wide16 (length t) at (take (k - 2) t) small)
          (bind_err (bytes_at (length t) (record { at = at + 2; rest = take (k - 2) t })) _ (Short (at + k)) (bytes_cut (length t) t (at + 2) (k - 2) (omega arith) (omega arith) ∙ ap (λ (j : ℕ). Err (Short j)) moved)))
    ]

pub text_exact : IsExact text
text_exact = record { found = text_found; again = text_again; short = text_short }
