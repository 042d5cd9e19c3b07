-- Texts that are printed one after another.
use Rattle.std.proofs.Common.{◌≡◌, ◌≢◌, ◌∙◌, ◌⊎◌, ◌≤◌, ◌+◌, ◌++◌, ℕ, List, Some, take, length, min, inl, inr, ap, sym, refl, arith}
use Rattle.std.proofs.lemmas.List.{append_assoc, take-append-le, take_min}
use Rattle.std.proofs.Math.Seq.{take-append-add}
use Rattle.host_base.specs.Outside.{Outlet, Rose}
use Rattle.admin_run.specs.Outside.{Tells}

-- a count that rose behind another
pub rose_more : (old now new : ℕ) → old ≤ now → now ≤ new → Rose now new → Rose old new
rose_more old now new le le' rose small = grind (arith, rose)

-- a text was printed whole, and then another
pub tells_more : (old now new : Outlet) (a b : List ℕ) (first done status : ℕ) → first ≡ 0 → Tells old now a 0 first → old.faults ≤ now.faults → now.faults ≤ new.faults → Tells now new b done status → Tells old new (a ++ b) done status
tells_more old now new a b first done status zero (inr (five, rose, part)) le le' then = absurd (omega (arith, zero, five))
tells_more old now new a b first done status zero (inl (is, whole)) le le' (inl (is', whole')) =
    inl (is', λ before told. whole' (before ++ a) (whole before told) ∙ ap Some (append_assoc before a b))
tells_more old now new a b first done status zero (inl (is, whole)) le le' (inr (is', rose, part)) = inr (
  is',
  rose_more old.faults now.faults new.faults le le' rose,
  λ before told.
      let (n, cut) = part (before ++ a) (whole before told) in
      (length a + n, cut ∙ ap Some (append_assoc before a (take n b) ∙ ap (λ xs. before ++ xs) (sym (take-append-add a b n)))),
)

part_of_more : (a b : List ℕ) (n : ℕ) → take n a ≡ take (min n (length a)) (a ++ b)
part_of_more a b n = sym (take-append-le (min n (length a)) a b (omega arith) ∙ take_min n a)

-- a text was printed as far as the sink took it, and so it was of a longer one
pub tells_part : (old new : Outlet) (a b : List ℕ) (done status : ℕ) → status ≢ 0 → Tells old new a 0 status → Tells old new (a ++ b) done 5
tells_part old new a b done status not (inl (zero, whole)) = absurd (not zero)
tells_part old new a b done status not (inr (five, rose, part)) = inr (refl, rose, λ before told. let (n, cut) = part before told in (min n (length a), cut ∙ ap (λ xs. Some (before ++ xs)) (part_of_more a b n)))

pub is_five : (n : ℕ) → (n ≡ 0) ⊎ (n ≡ 5) → n ≢ 0 → n ≡ 5
is_five n (inl zero) not = absurd (not zero)
is_five n (inr five) not = five
