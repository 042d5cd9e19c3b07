-- Sets of positions 0 to 63.
use Rattle.std.specs.Prelude.{◌≡◌, ℕ, ◌+◌, ◌*◌, ◌%◌, ◌^◌, ◌<◌, ◌==◌, Bool, List, [], ◌∷◌, if◌then◌else◌}
use Rattle.std.specs.Int.{bit_at}
use Rattle.std.specs.List.{filter, range_with_len}
use Rattle.std.proofs.Common.{lit<}
use Rattle.std.proofs.lemmas.Nat.{pow_pos, mod_below}
use Rattle.perm_roles.specs.declared.perm_set.PermSet.{PermSet}

-- the word of the set: its bit p, from the lowest, stands for position p
unfoldable pub bits_of : PermSet → ℕ
bits_of set = set.bits

-- the position is in the set
unfoldable pub Has : PermSet → ℕ → Type 0
Has set p = bit_at set.bits p ≡ 1

-- every position of the set is below the count
abbrev pub IsWithin : PermSet → ℕ → Type 0
IsWithin set count = (p : ℕ) → Has set p → p < count

-- the positions of the set, ascending (each one of a number stands at a place below that number)
unfoldable pub positions : PermSet → List ℕ
positions set = filter (λ p. bit_at set.bits p == 1) (range_with_len 0 set.bits)

-- the set with no position
unfoldable pub no_permissions : PermSet
no_permissions = record { bits = 0; in_range = lit< tt }

-- the word of a list: each place p at which it has true counts 2 ^ p
unfoldable pub word_of : List Bool → ℕ
word_of [] = 0
word_of (is_in ∷ rest) = (if is_in then 1 else 0) + 2 * word_of rest

-- the set that a list states: the places below 64 at which it has true
unfoldable pub set_of : List Bool → PermSet
set_of list = record { bits = word_of list % 2 ^ 64; in_range = mod_below (word_of list) (2 ^ 64) (pow_pos 64) }
