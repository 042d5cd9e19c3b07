-- Sixteen bytes and two's complement are exact.
use Rattle.std.proofs.Common.{◌≡◌, ℕ, ◌+◌, ◌*◌, ◌/◌, ◌%◌, ◌^◌, ◌<◌, List, ◌++◌, length, take, drop, refl, ap, ◌∙◌, arith}
use Rattle.std.specs.Int.{w64, w128, to_be_bytes, from_be_bytes, cast_signed, cast_unsigned}
use Rattle.std.proofs.lemmas.List.{take-append-drop, length-take, length-drop, get_or-take, get_or-drop}
use mir.Facts.{of_z-to_z}
use Rattle.row_formats.specs.Exact.{IsBytes, IsExact}
use Rattle.row_formats.specs.Format.{integer, number}
use Rattle.row_formats.proofs.Steps.{IsBytes-take, IsBytes-drop}
use Rattle.row_formats.proofs.Fields.{IsWide, wide64, number_exact}
use Rattle.row_formats.proofs.Parts.{made_exact}

-- the upper eight bytes, and the lower eight
to_halves : (n : ℕ) → to_be_bytes w128 n ≡ to_be_bytes w64 (n / 2 ^ 64) ++ to_be_bytes w64 (n % 2 ^ 64)
to_halves n =
    let e15 : n / 256 ^ 15 % 256 ≡ n / 2 ^ 64 / 256 ^ 7 % 256 = omega arith in
    let e14 : n / 256 ^ 14 % 256 ≡ n / 2 ^ 64 / 256 ^ 6 % 256 = omega arith in
    let e13 : n / 256 ^ 13 % 256 ≡ n / 2 ^ 64 / 256 ^ 5 % 256 = omega arith in
    let e12 : n / 256 ^ 12 % 256 ≡ n / 2 ^ 64 / 256 ^ 4 % 256 = omega arith in
    let e11 : n / 256 ^ 11 % 256 ≡ n / 2 ^ 64 / 256 ^ 3 % 256 = omega arith in
    let e10 : n / 256 ^ 10 % 256 ≡ n / 2 ^ 64 / 256 ^ 2 % 256 = omega arith in
    let e9 : n / 256 ^ 9 % 256 ≡ n / 2 ^ 64 / 256 ^ 1 % 256 = omega arith in
    let e8 : n / 256 ^ 8 % 256 ≡ n / 2 ^ 64 % 256 = omega arith in
    let e7 : n / 256 ^ 7 % 256 ≡ n % 2 ^ 64 / 256 ^ 7 % 256 = omega arith in
    let e6 : n / 256 ^ 6 % 256 ≡ n % 2 ^ 64 / 256 ^ 6 % 256 = omega arith in
    let e5 : n / 256 ^ 5 % 256 ≡ n % 2 ^ 64 / 256 ^ 5 % 256 = omega arith in
    let e4 : n / 256 ^ 4 % 256 ≡ n % 2 ^ 64 / 256 ^ 4 % 256 = omega arith in
    let e3 : n / 256 ^ 3 % 256 ≡ n % 2 ^ 64 / 256 ^ 3 % 256 = omega arith in
    let e2 : n / 256 ^ 2 % 256 ≡ n % 2 ^ 64 / 256 ^ 2 % 256 = omega arith in
    let e1 : n / 256 ^ 1 % 256 ≡ n % 2 ^ 64 / 256 ^ 1 % 256 = omega arith in
    let e0 : n % 256 ≡ n % 2 ^ 64 % 256 = omega arith in
    cc

from_halves : (bs : List ℕ) → from_be_bytes w128 bs ≡ from_be_bytes w64 (take 8 bs) * 2 ^ 64 + from_be_bytes w64 (drop 8 bs)
from_halves bs =
    omega (
      arith,
      get_or-take 8 bs 0 0 (omega arith),
      get_or-take 8 bs 1 0 (omega arith),
      get_or-take 8 bs 2 0 (omega arith),
      get_or-take 8 bs 3 0 (omega arith),
      get_or-take 8 bs 4 0 (omega arith),
      get_or-take 8 bs 5 0 (omega arith),
      get_or-take 8 bs 6 0 (omega arith),
      get_or-take 8 bs 7 0 (omega arith),
      get_or-drop 8 bs 0 0,
      get_or-drop 8 bs 1 0,
      get_or-drop 8 bs 2 0,
      get_or-drop 8 bs 3 0,
      get_or-drop 8 bs 4 0,
      get_or-drop 8 bs 5 0,
      get_or-drop 8 bs 6 0,
      get_or-drop 8 bs 7 0,
    )

from_both : (h l : ℕ) → from_be_bytes w128 (to_be_bytes w64 h ++ to_be_bytes w64 l) ≡ from_be_bytes w64 (to_be_bytes w64 h) * 2 ^ 64 + from_be_bytes w64 (to_be_bytes w64 l)
from_both h l = from_halves (to_be_bytes w64 h ++ to_be_bytes w64 l)

wide_back : (bs : List ℕ) → length bs ≡ 16 → IsBytes bs → to_be_bytes w128 (from_be_bytes w128 bs) ≡ bs
wide_back bs len fits =
    let h : ℕ = from_be_bytes w64 (take 8 bs) in
    let l : ℕ = from_be_bytes w64 (drop 8 bs) in
    let n : ℕ = from_be_bytes w128 bs in
    let small : l < 2 ^ 64 = wide64.below (drop 8 bs) (IsBytes-drop 8 bs fits) in
    let whole : n ≡ h * 2 ^ 64 + l = from_halves bs in
    let high : n / 2 ^ 64 ≡ h = omega (arith, whole, small) in
    let low : n % 2 ^ 64 ≡ l = omega (arith, whole, small) in
    to_halves n
    ∙ ap (λ (m : ℕ). to_be_bytes w64 m ++ to_be_bytes w64 (n % 2 ^ 64)) high
    ∙ ap (λ (m : ℕ). to_be_bytes w64 h ++ to_be_bytes w64 m) low
    ∙ ap (λ (b : List ℕ). b ++ to_be_bytes w64 l) (wide64.back (take 8 bs) (omega (arith, length-take 8 bs)) (IsBytes-take 8 bs fits))
    ∙ ap (λ (b : List ℕ). take 8 bs ++ b) (wide64.back (drop 8 bs) (omega (arith, length-drop 8 bs)) (IsBytes-drop 8 bs fits))
    ∙ take-append-drop 8 bs

wide_again : (n : ℕ) → n < 256 ^ 16 → from_be_bytes w128 (to_be_bytes w128 n) ≡ n
wide_again n lt =
    let high : n / 2 ^ 64 < 2 ^ 64 = omega arith in
    let low : n % 2 ^ 64 < 2 ^ 64 = omega arith in
    ap (λ (bs : List ℕ). from_be_bytes w128 bs) (to_halves n)
    ∙ from_both (n / 2 ^ 64) (n % 2 ^ 64)
    ∙ ap (λ (m : ℕ). m * 2 ^ 64 + from_be_bytes w64 (to_be_bytes w64 (n % 2 ^ 64))) (wide64.again (n / 2 ^ 64) high)
    ∙ ap (λ (m : ℕ). n / 2 ^ 64 * 2 ^ 64 + m) (wide64.again (n % 2 ^ 64) low)
    ∙ omega arith

wide_below : (bs : List ℕ) → IsBytes bs → from_be_bytes w128 bs < 256 ^ 16
wide_below bs fits =
    let h = wide64.below (take 8 bs) (IsBytes-take 8 bs fits) in
    let l = wide64.below (drop 8 bs) (IsBytes-drop 8 bs fits) in
    omega (arith, from_halves bs, h, l)

pub wide128 : IsWide w128
wide128 = record { len = λ n. refl; back = wide_back; again = wide_again; below = wide_below }

pub integer_exact : IsExact integer
integer_exact = made_exact (cast_signed w128) (cast_unsigned w128) (number w128) (λ n fits. of_z-to_z {w = w128} {n = n} (record { fits = fits })) (number_exact w128 wide128)
