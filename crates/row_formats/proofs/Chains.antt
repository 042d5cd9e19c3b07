-- A counted list of items in exact formats is exact.
use Rattle.std.proofs.Common.{◌≡◌, ℕ, zero, suc, ◌+◌, ◌-◌, ◌<◌, leb, List, [], ◌∷◌, ◌++◌, length, take, Option, Some, None, Ok, Err, refl, sym, ap, subst, ◌∙◌, append_assoc, add-zero, arith, inl, inr}
use Rattle.std.specs.Int.{w16}
use Rattle.std.proofs.lemmas.Bool.{cases_lt}
use Rattle.std.proofs.lemmas.List.{length-append, take-append-le}
use Rattle.row_formats.specs.declared.fault.RowFault.TheVariants.{Short}
use Rattle.row_formats.specs.Place.{Place, Read, ◌>>=◌}
use Rattle.row_formats.specs.Format.{Format, number, number_bytes, count, AllFit, write_items, items_at, chain}
use Rattle.row_formats.specs.Exact.{IsBytes, StandsBetween, IsExact}
use Rattle.row_formats.proofs.Steps.{bind_ok, bind_at, bind_err, ok_is, take_beyond, Stands-none, Stands-then}
use Rattle.row_formats.proofs.Fields.{number_exact, wide16}
use Rattle.row_formats.proofs.Parts.{only_exact}

items_found : {A : Type 0} (f : Option A → Format A) → ((o : Option A) → IsExact (f o)) → (last : Option A) (n : ℕ) (p : Place) (xs : List A) (q : Place) → IsBytes p.rest → items_at (λ o. (f o).read) last n p ≡ Ok (xs, q)
    → StandsBetween (write_items (λ o. (f o).write) last xs) p q × AllFit (λ o. (f o).fits) last xs × (length xs ≡ n)
unfolding items_at
items_found {A} f exact last zero p xs q fits e =
    subst (λ (y : List A × Place). StandsBetween (write_items (λ o. (f o).write) last y.0) p y.1 × AllFit (λ o. (f o).fits) last y.0 × (length y.0 ≡ zero)) (ok_is ([], p) (xs, q) e) (Stands-none p fits, tt, refl)
items_found {A} f exact last (suc n) p xs q fits e =
    let a = bind_ok ((f last).read p) (λ x. items_at (λ o. (f o).read) (Some x.0) n x.1 >>= λ ys. Ok (x.0 ∷ ys.0, ys.1)) (xs, q) e in
    let b = bind_ok (items_at (λ o. (f o).read) (Some a.0.0) n a.0.1) (λ ys. Ok (a.0.0 ∷ ys.0, ys.1)) (xs, q) a.2 in
    let s = (exact last).found p a.0.0 a.0.1 fits a.1 in
    let t = items_found f exact (Some a.0.0) n a.0.1 b.0.0 b.0.1 s.0.bytes b.1 in
    let both = Stands-then ((f last).write a.0.0) (write_items (λ o. (f o).write) (Some a.0.0) b.0.0) p a.0.1 b.0.1 s.0 t.0 in
    subst (λ (y : List A × Place). StandsBetween (write_items (λ o. (f o).write) last y.0) p y.1 × AllFit (λ o. (f o).fits) last y.0 × (length y.0 ≡ suc n)) (ok_is (a.0.0 ∷ b.0.0, b.0.1) (xs, q) b.2)
    (both, (s.1, t.1), ap suc t.2)

items_again : {A : Type 0} (f : Option A → Format A) → ((o : Option A) → IsExact (f o)) → (last : Option A) (xs : List A) (at : ℕ) (more : List ℕ) → AllFit (λ o. (f o).fits) last xs
    → items_at (λ o. (f o).read) last (length xs) (record { at = at; rest = write_items (λ o. (f o).write) last xs ++ more }) ≡ Ok (xs, record { at = at + length (write_items (λ o. (f o).write) last xs); rest = more })
unfolding items_at
items_again f exact last [] at more h = rw add-zero refl
items_again {A} f exact last (x ∷ xs) at more h =
    let here : List ℕ = (f last).write x in
    let others : List ℕ = write_items (λ o. (f o).write) (Some x) xs in
    let moved : (at + length here) + length others ≡ at + length (here ++ others) = omega (arith, length-append here others) in
    let end : Place = record { at = (at + length here) + length others; rest = more } in
    let there : Place = record { at = at + length here; rest = others ++ more } in
    let read : items_at (λ o. (f o).read) last (suc (length xs)) (record { at = at; rest = here ++ (others ++ more) }) ≡ Ok (x ∷ xs, end) =
    bind_at ((f last).read (record { at = at; rest = here ++ (others ++ more) })) (λ y. items_at (λ o. (f o).read) (Some y.0) (length xs) y.1 >>= λ ys. Ok (y.0 ∷ ys.0, ys.1)) (x, there) (Ok (x ∷ xs, end)) ((exact last).again x at (others ++ more) h.0)
    (bind_at (items_at (λ o. (f o).read) (Some x) (length xs) there) (λ ys. Ok (x ∷ ys.0, ys.1)) (xs, end) (Ok (x ∷ xs, end)) (items_again f exact (Some x) xs (at + length here) more h.1) refl) in
    subst (λ (bs : List ℕ). items_at (λ o. (f o).read) last (suc (length xs)) (record { at = at; rest = bs }) ≡ Ok (x ∷ xs, record { at = at + length (here ++ others); rest = more })) (sym (append_assoc here others more))
    (subst (λ (k : ℕ). items_at (λ o. (f o).read) last (suc (length xs)) (record { at = at; rest = here ++ (others ++ more) }) ≡ Ok (x ∷ xs, record { at = k; rest = more })) moved read)

items_short : {A : Type 0} (f : Option A → Format A) → ((o : Option A) → IsExact (f o)) → (last : Option A) (xs : List A) (at k : ℕ) → AllFit (λ o. (f o).fits) last xs → k < length (write_items (λ o. (f o).write) last xs)
    → items_at (λ o. (f o).read) last (length xs) (record { at = at; rest = take k (write_items (λ o. (f o).write) last xs) }) ≡ Err (Short (at + k))
unfolding items_at
items_short f exact last [] at k h lt = absurd (omega arith)
items_short {A} f exact last (x ∷ xs) at k h lt =
    let a : List ℕ = (f last).write x in
    let b : List ℕ = write_items (λ o. (f o).write) (Some x) xs in
    let rest : Place → Read (List A) = items_at (λ o. (f o).read) last (suc (length xs)) in
    elim (cases_lt k (length a)) [
      | inl lt1 ↦ subst (λ (t : List ℕ). rest (record { at = at; rest = t }) ≡ Err (Short (at + k))) (sym (take-append-le k a b (omega arith)))
          (bind_err ((f last).read (record { at = at; rest = take k a })) _ (Short (at + k)) ((exact last).short x at k h.0 lt1))
      | inr le1 ↦
          let moved : (at + length a) + (k - length a) ≡ at + k = omega arith in
          let there : Place = record { at = at + length a; rest = take (k - length a) b } in
          subst (λ (t : List ℕ). rest (record { at = at; rest = t }) ≡ Err (Short (at + k))) (sym (take_beyond a b k le1))
          (bind_at ((f last).read (record { at = at; rest = a ++ take (k - length a) b })) (λ y. items_at (λ o. (f o).read) (Some y.0) (length xs) y.1 >>= λ ys. Ok (y.0 ∷ ys.0, ys.1)) (x, there) _ ((exact last).again x at (take (k - length a) b) h.0)
          (bind_err (items_at (λ o. (f o).read) (Some x) (length xs) there) _ (Short (at + k)) (items_short f exact (Some x) xs (at + length a) (k - length a) h.1 (omega (arith, length-append a b)) ∙ ap (λ (j : ℕ). Err (Short j)) moved)))
    ]

pub count_exact : (limit : ℕ) → IsExact (count limit)
count_exact limit = only_exact (λ n. leb n limit) (number w16) (number_exact w16 wide16)

chain_short : {A : Type 0} (limit : ℕ) (f : Option A → Format A) → ((o : Option A) → IsExact (f o)) → (xs : List A) (at k : ℕ) → (chain limit f).fits xs → k < length ((chain limit f).write xs)
    → (chain limit f).read (record { at = at; rest = take k ((chain limit f).write xs) }) ≡ Err (Short (at + k))
chain_short {A} limit f exact xs at k h lt =
    let a : List ℕ = (count limit).write (length xs) in
    let b : List ℕ = write_items (λ o. (f o).write) None xs in
    elim (cases_lt k (length a)) [
      | inl lt1 ↦ subst (λ (t : List ℕ). (chain limit f).read (record { at = at; rest = t }) ≡ Err (Short (at + k))) (sym (take-append-le k a b (omega arith)))
          (bind_err ((count limit).read (record { at = at; rest = take k a })) _ (Short (at + k)) ((count_exact limit).short (length xs) at k h.0 lt1))
      | inr le1 ↦
          let moved : (at + length a) + (k - length a) ≡ at + k = omega arith in
          subst (λ (t : List ℕ). (chain limit f).read (record { at = at; rest = t }) ≡ Err (Short (at + k))) (sym (take_beyond a b k le1))
          (bind_at ((count limit).read (record { at = at; rest = a ++ take (k - length a) b })) (λ n. items_at (λ o. (f o).read) None n.0 n.1) (length xs, record { at = at + length a; rest = take (k - length a) b }) _ ((count_exact limit).again (length xs) at (take (k - length a) b) h.0)
          (items_short f exact None xs (at + length a) (k - length a) h.1 (omega (arith, length-append a b)) ∙ ap (λ (j : ℕ). Err (Short j)) moved))
    ]

pub chain_exact : {A : Type 0} (limit : ℕ) (f : Option A → Format A) → ((o : Option A) → IsExact (f o)) → IsExact (chain limit f)
chain_exact {A} limit f exact = record {
  found = λ p xs q fits e.
      let a = bind_ok ((count limit).read p) (λ n. items_at (λ o. (f o).read) None n.0 n.1) (xs, q) e in
      let s = (count_exact limit).found p a.0.0 a.0.1 fits a.1 in
      let t = items_found f exact None a.0.0 a.0.1 xs q s.0.bytes a.2 in
      let both : StandsBetween (number_bytes w16 a.0.0 ++ write_items (λ o. (f o).write) None xs) p q = Stands-then (number_bytes w16 a.0.0) (write_items (λ o. (f o).write) None xs) p a.0.1 q s.0 t.0 in
      subst (λ (n : ℕ). StandsBetween (number_bytes w16 n ++ write_items (λ o. (f o).write) None xs) p q × ((count limit).fits n × AllFit (λ o. (f o).fits) None xs)) (sym t.2) (both, (s.1, t.1));
  again = λ xs at more h.
      let here : List ℕ = number_bytes w16 (length xs) in
      let others : List ℕ = write_items (λ o. (f o).write) None xs in
      let moved : (at + length here) + length others ≡ at + length (here ++ others) = omega (arith, length-append here others) in
      subst (λ (bs : List ℕ). (chain limit f).read (record { at = at; rest = bs }) ≡ Ok (xs, record { at = at + length (here ++ others); rest = more })) (sym (append_assoc here others more))
      (bind_at ((count limit).read (record { at = at; rest = here ++ (others ++ more) })) (λ n. items_at (λ o. (f o).read) None n.0 n.1) (length xs, record { at = at + length here; rest = others ++ more }) _ ((count_exact limit).again (length xs) at (others ++ more) h.0)
      (subst (λ (k : ℕ). items_at (λ o. (f o).read) None (length xs) (record { at = at + length here; rest = others ++ more }) ≡ Ok (xs, record { at = k; rest = more })) moved (items_again f exact None xs (at + length here) more h.1)));
  short = chain_short limit f exact;
}
