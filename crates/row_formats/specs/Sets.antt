-- The format of a set of positions.
use Rattle.std.specs.Prelude.{ℕ, ◌==◌, map}
use Rattle.std.specs.Int.{w64, bit_at}
use Rattle.std.specs.List.{range_with_len}
use Rattle.perm_roles.specs.declared.perm_set.PermSet.{PermSet}
use Rattle.perm_roles.specs.PermSet.{bits_of, set_of}
use Rattle.row_formats.specs.Format.{Format, number, made}

-- the set of the positions 0 to 63 at which a number has a bit
unfoldable pub set_of_word : ℕ → PermSet
set_of_word n = set_of (map (λ p. bit_at n p == 1) (range_with_len 0 64))

-- a set: a number of eight bytes, of which bit p stands for position p
abbrev pub set : Format PermSet
set = made set_of_word bits_of (number w64)
