-- The two bytes of a number are those of its lowest sixteen bits.
use Rattle.std.proofs.Common.{◌≡◌, ℕ, ◌/◌, ◌%◌, ◌^◌, arith}
use Rattle.std.specs.Int.{w16, to_be_bytes}

pub lowest_bytes : (n : ℕ) → to_be_bytes w16 (n % 65536) ≡ to_be_bytes w16 n
lowest_bytes n =
    let high : n % 65536 / 256 ^ 1 % 256 ≡ n / 256 ^ 1 % 256 = omega arith in
    let low : n % 65536 % 256 ≡ n % 256 = omega arith in
    cc
