-- The set of a word has this word.
use Rattle.std.proofs.Common.{◌≡◌, ℕ, zero, suc, ◌+◌, ◌*◌, ◌/◌, ◌%◌, ◌^◌, ◌<◌, map, ap, sym, ◌∙◌, arith}
use Rattle.std.specs.Prelude.{nat_eq, if◌then◌else◌}
use Rattle.std.specs.Int.{bit_at}
use Rattle.std.specs.List.{range_with_len}
use Rattle.std.proofs.lemmas.Nat.Bits.{bit_at-lt}
use Rattle.std.proofs.lemmas.Nat.{mod-pow-add, shr-shr}
use Rattle.std.proofs.lemmas.Bool.Decides.{nat_tests}
use Rattle.perm_roles.specs.PermSet.{bits_of, set_of, word_of}
use Rattle.row_formats.specs.Sets.{set_of_word}

one_bit : (n j : ℕ) → (if nat_eq (bit_at n j) 1 then 1 else 0) ≡ n / 2 ^ j % 2
one_bit n j = let small = bit_at-lt n j in grind (arith, nat_tests)

swapped : (a b : ℕ) → a + 2 * b ≡ b * 2 ^ 1 + a
swapped a b = omega arith

-- the lowest bit, and those above it
lowest_and : (m k : ℕ) → m % 2 + 2 * (m / 2 % 2 ^ k) ≡ m % 2 ^ suc k
lowest_and m k =
    let one : k + 1 ≡ suc k = omega arith in
    swapped (m % 2) (m / 2 % 2 ^ k) ∙ sym (mod-pow-add m k 1) ∙ ap (λ (e : ℕ). m % 2 ^ e) one

-- the bits of a number from place j on
word_of_bits : (k j n : ℕ) → word_of (map (λ p. nat_eq (bit_at n p) 1) (range_with_len j k)) ≡ n / 2 ^ j % 2 ^ k
unfolding word_of
word_of_bits zero j n = omega arith
word_of_bits (suc k) j n =
    let later : word_of (map (λ p. nat_eq (bit_at n p) 1) (range_with_len (j + 1) k)) ≡ n / 2 ^ (j + 1) % 2 ^ k = word_of_bits k (j + 1) n in
    ap (λ (x : ℕ). x + 2 * word_of (map (λ p. nat_eq (bit_at n p) 1) (range_with_len (j + 1) k))) (one_bit n j)
    ∙ ap (λ (x : ℕ). n / 2 ^ j % 2 + 2 * x) later
    ∙ ap (λ (x : ℕ). n / 2 ^ j % 2 + 2 * (x % 2 ^ k)) (sym (shr-shr n j 1))
    ∙ lowest_and (n / 2 ^ j) k

pub word_back : (n : ℕ) → n < 2 ^ 64 → bits_of (set_of_word n) ≡ n
unfolding bits_of set_of set_of_word
word_back n small = let word = word_of_bits 64 0 n in omega (arith, word)
