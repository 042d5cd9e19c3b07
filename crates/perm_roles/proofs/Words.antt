-- The word that a list of booleans states.
use Rattle.std.proofs.Common.{◌≡◌, ◌↔◌, ℕ, zero, suc, ◌+◌, ◌*◌, ◌/◌, ◌%◌, ◌^◌, ◌<◌, ◌≤◌, Bool, true, false, List, [], ◌∷◌, Some, length, slice_get, pow_mono, refl, ap, sym, ◌∙◌, arith}
use Rattle.std.specs.Int.{bit_at}
use Rattle.std.proofs.Math.Nat.{pow-suc}
use Rattle.std.proofs.lemmas.Nat.Bits.{bit_at_lowest, bit_at-suc, bit_at-zero}
use Rattle.perm_roles.specs.declared.perm_set.PermSet.{PermSet}
use Rattle.perm_roles.specs.PermSet.{Has, set_of, word_of}
use Rattle.perm_roles.proofs.Sets.{same_members}

-- the word of a list has as many bits as the list has places
word_below : (list : List Bool) → word_of list < 2 ^ length list
unfolding word_of
word_below [] = omega arith
word_below (true ∷ rest) = let less = word_below rest in let twice = pow-suc 2 (length rest) in omega arith
word_below (false ∷ rest) = let less = word_below rest in let twice = pow-suc 2 (length rest) in omega arith

word_64 : (list : List Bool) → length list ≤ 64 → word_of list % 2 ^ 64 ≡ word_of list
word_64 list few =
    let less = word_below list in
    let wide : 2 ^ length list ≤ 2 ^ 64 = pow_mono few in
    omega arith

later : (n w p : ℕ) → n / 2 ≡ w → bit_at n (suc p) ≡ bit_at w p
later n w p half = bit_at-suc n p ∙ ap (λ x. bit_at x p) half

-- its bits are at the places at which the list has true
bit_of_word : (list : List Bool) (p : ℕ) → (bit_at (word_of list) p ≡ 1) ↔ (slice_get list p ≡ Some true)
unfolding word_of
bit_of_word [] p = (λ h. let none = bit_at-zero p in absurd (omega arith), λ h. absurd cc)
bit_of_word (true ∷ rest) zero = (λ h. refl, λ h. let low = bit_at_lowest (1 + 2 * word_of rest) in omega arith)
bit_of_word (false ∷ rest) zero = (λ h. let low = bit_at_lowest (0 + 2 * word_of rest) in absurd (omega arith), λ h. absurd cc)
bit_of_word (true ∷ rest) (suc p) =
    let e = later (1 + 2 * word_of rest) (word_of rest) p (omega arith) in
    (λ h. (bit_of_word rest p).0 (sym e ∙ h), λ h. e ∙ (bit_of_word rest p).1 h)
bit_of_word (false ∷ rest) (suc p) =
    let e = later (0 + 2 * word_of rest) (word_of rest) p (omega arith) in
    (λ h. (bit_of_word rest p).0 (sym e ∙ h), λ h. e ∙ (bit_of_word rest p).1 h)

-- a set with the places at which a list has true is the set that the list states
pub is_set_of : (set : PermSet) (list : List Bool) → length list ≤ 64 → ((p : ℕ) → Has set p ↔ (slice_get list p ≡ Some true)) → set ≡ set_of list
unfolding Has set_of
is_set_of set list few members =
    let e = word_64 list few in
    same_members set (set_of list) (λ p. (
      λ h. ap (λ x. bit_at x p) e ∙ (bit_of_word list p).1 ((members p).0 h),
      λ h. (members p).1 ((bit_of_word list p).0 (sym (ap (λ x. bit_at x p) e) ∙ h)),
    ))
