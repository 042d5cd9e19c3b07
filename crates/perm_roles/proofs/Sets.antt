-- What follows of sets from their members.
use Rattle.std.proofs.Common.{◌≡◌, ◌⊎◌, ◌↔◌, ℕ, ◌^◌, ◌<◌, ◌==◌, length, All, Contains, ap, subst, arith}
use Rattle.std.specs.Coded.{Coded-set, coded_ℕ}
use Rattle.std.specs.Int.{bit_at}
use Rattle.std.specs.List.Sorted.{IsStrictlyIncreasing}
use Rattle.std.proofs.Props.{props}
use Rattle.std.proofs.lemmas.List.Elements.{Contains-get_or}
use lib.Count.{ones}
use Rattle.perm_roles.specs.declared.perm_set.PermSet.{PermSet}
use Rattle.perm_roles.specs.PermSet.{Has, IsWithin, bits_of, positions}
use Rattle.perm_roles.proofs.Bits.{place_below, same_from_ones, same_test, below_power}
use Rattle.perm_roles.proofs.Listing.{listing_has, listing_ascends, ones_listing}

abbrev with_bits : (n : ℕ) → n < 2 ^ 64 → PermSet
with_bits n fits = record { bits = n; in_range = fits }

same_bits : (m n : ℕ) → m ≡ n → (p : m < 2 ^ 64) (q : n < 2 ^ 64) → with_bits m p ≡ with_bits n q
same_bits m n e p q =
    let one : IsProp (m < 2 ^ 64) = hlevel props in
    let P : ℕ → Type 0 = λ k. (r : k < 2 ^ 64) → with_bits m p ≡ with_bits k r in
    subst P e (λ r. ap (λ h. with_bits m h) (one p r)) q

-- two sets with the same word are equal
pub same_word : (a b : PermSet) → bits_of a ≡ bits_of b → a ≡ b
unfolding bits_of
same_word a b e = same_bits a.bits b.bits e a.in_range b.in_range

-- two sets with the same members are equal
pub same_members : (a b : PermSet) → ((p : ℕ) → Has a p ↔ Has b p) → a ≡ b
unfolding Has bits_of
same_members a b same =
    same_word a b (same_from_ones a.bits b.bits (λ p. (same p).0) (λ p. (same p).1))

-- the list of positions has the members
pub positions_has : (set : PermSet) (p : ℕ) → Contains (positions set) p ↔ Has set p
unfolding Has positions
positions_has set p =
    let listed = listing_has (λ k. bit_at set.bits k == 1) 0 set.bits p in (
      λ h. (same_test _ _).0 (listed.0 h).0,
      λ h. let below = place_below set.bits set.bits p (below_power set.bits) h in listed.1 ((same_test _ _).1 h, omega arith, omega arith),
    )

-- every set is within 64
pub always_within : (set : PermSet) → IsWithin set 64
unfolding Has
always_within set p here = place_below set.bits 64 p set.in_range here

-- the positions ascend
pub positions_ascend : (set : PermSet) → IsStrictlyIncreasing (positions set)
unfolding positions
positions_ascend set = listing_ascends (λ k. bit_at set.bits k == 1) 0 set.bits

-- and are below what every member is below
pub positions_below : (set : PermSet) (count : ℕ) → IsWithin set count → All (λ p. p < count) (positions set)
positions_below set count within = λ k d below. within _ ((positions_has set _).0 (Contains-get_or (positions set) k d below))

pub length-positions : (set : PermSet) → ones set.bits ≡ length (positions set)
unfolding positions
length-positions set = ones_listing set.bits set.bits (below_power set.bits)

-- a position is in a set or it is not
pub Has-or_not : (set : PermSet) (p : ℕ) → Has set p ⊎ ¬ Has set p
unfolding Has
Has-or_not set p = one_or_not (bit_at set.bits p)
  where
    one_or_not : (n : ℕ) → (n ≡ 1) ⊎ ¬ (n ≡ 1)
    one_or_not n = grind arith

-- that a position is in a set has one proof, as a ghost field wants
pub Has-prop : (set : PermSet) (p : ℕ) → IsProp (Has set p)
unfolding Has
Has-prop set p = Coded-set coded_ℕ (bit_at set.bits p) 1
