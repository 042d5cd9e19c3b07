-- How many positions sets have.
use Rattle.std.proofs.Common.{◌≡◌, ℕ, ◌+◌, ◌^◌, ◌<◌, ◌≤◌, ◌==◌, List, length, filter, Contains, sym, subst, ◌∙◌, arith}
use Rattle.std.specs.Int.{bit_at}
use Rattle.std.specs.List.{range_with_len}
use lib.Count.{ones-le}
use Rattle.perm_roles.specs.declared.perm_set.PermSet.{PermSet}
use Rattle.perm_roles.specs.PermSet.{Has, IsWithin, positions}
use Rattle.perm_roles.proofs.Bits.{place_below, same_test, shifted_out, below_from_shift, below_power}
use Rattle.perm_roles.proofs.Listing.{ones_listing, listing_part, listing_same}
use Rattle.perm_roles.proofs.Sets.{same_members, positions_has, length-positions, always_within}

-- the positions below a bound
listed : ℕ → ℕ → List ℕ
listed m n = filter (λ k. bit_at n k == 1) (range_with_len 0 m)

length-listed : (m : ℕ) (set : PermSet) → set.bits < 2 ^ m → length (listed m set.bits) ≡ length (positions set)
unfolding listed
length-listed m set fits = sym (ones_listing m set.bits fits) ∙ length-positions set

wider : (a b : ℕ) → (a < 2 ^ (a + b)) × (b < 2 ^ (a + b))
wider a b = let big = below_power (a + b) in (omega arith, omega arith)

-- a set that has the members of another has no fewer positions
pub length-positions-part : (part whole : PermSet) → ((p : ℕ) → Has part p → Has whole p) → length (positions part) ≤ length (positions whole)
unfolding Has listed
length-positions-part part whole more =
    let fit = wider part.bits whole.bits in
    let m = part.bits + whole.bits in
    let one = length-listed m part fit.0 in
    let two = length-listed m whole fit.1 in
    let le = listing_part (λ k. bit_at part.bits k == 1) (λ k. bit_at whole.bits k == 1) 0 m (λ p h. (same_test _ _).1 (more p ((same_test _ _).0 h))) in
    omega (arith, one, two, le)

-- and with as many positions it is that set
pub same_length : (part whole : PermSet) → ((p : ℕ) → Has part p → Has whole p) → length (positions part) ≡ length (positions whole) → part ≡ whole
unfolding Has listed
same_length part whole more same =
    let fit = wider part.bits whole.bits in
    let m = part.bits + whole.bits in
    let long = length-listed m whole fit.1 ∙ sym same ∙ sym (length-listed m part fit.0) in
    let back = λ (p : ℕ) (h : bit_at whole.bits p ≡ 1). (same_test _ _).0 (listing_same (λ k. bit_at part.bits k == 1) (λ k. bit_at whole.bits k == 1) 0 m (λ q e. (same_test _ _).1 (more q ((same_test _ _).0 e))) long p (omega arith) (let below = place_below whole.bits m p fit.1 h in omega arith) ((same_test _ _).1 h)) in
    same_members part whole (λ p. (more p, back p))

-- the word of a set that is within a count is below its power
bits_fit : (set : PermSet) (count : ℕ) → IsWithin set count → set.bits < 2 ^ count
unfolding Has
bits_fit set count within = below_from_shift set.bits count ((shifted_out set.bits count).1 within)

-- a set has at most as many positions as the count that it is within
pub length-positions-within : (set : PermSet) (count : ℕ) → IsWithin set count → length (positions set) ≤ count
length-positions-within set count within =
    let few = ones-le count set.bits (bits_fit set count within) in
    let same = length-positions set in
    omega arith

-- a set has at most 64 positions
pub length-positions-64 : (set : PermSet) → length (positions set) ≤ 64
length-positions-64 set = length-positions-within set 64 (always_within set)

-- two sets with the same list of positions are equal
pub same_positions : (a b : PermSet) → positions a ≡ positions b → a ≡ b
same_positions a b e =
    same_members a b (λ p. (
      λ h. (positions_has b p).0 (subst (λ xs. Contains xs p) e ((positions_has a p).1 h)),
      λ h. (positions_has a p).0 (subst (λ xs. Contains xs p) (sym e) ((positions_has b p).1 h)),
    ))
