-- Sums of products, by which comparisons are bounded.
use Rattle.std.proofs.Common.{◌≡◌, ℕ, suc, ◌+◌, ◌*◌, ◌≤◌, arith}
use Rattle.std.proofs.lemmas.Nat.{mul-le}
use Rattle.powerbox_match.specs.Steps.{most_by}

-- one part more in the query
pub most_by-wanted : (a b c d w l : ℕ) → most_by (a + b) (c + d) w l ≡ most_by a c w l + most_by b d w l
most_by-wanted a b c d w l = omega arith

-- one part more in the offer
pub most_by-given : (w l a b c d : ℕ) → most_by w l (a + b) (c + d) ≡ most_by w l a c + most_by w l b d
most_by-given w l a b c d = omega arith

-- a part of the offer takes no more than the whole
pub most_by-part : (w l a b c d : ℕ) → a ≤ c → b ≤ d → most_by w l a b ≤ most_by w l c d
most_by-part w l a b c d h k = omega (arith, mul-le w b w d (omega arith) k, mul-le a l c l h (omega arith))

-- a list's own walk, over no more entries than there are values in it
pub most_by-lists : (n m w l v k : ℕ) → n ≤ w → m ≤ v → suc (2 * n + m + most_by w l v k) ≤ most_by (suc w) (suc l) (suc v) (suc k)
most_by-lists n m w l v k few short = omega arith

-- two looks more at parts that count one more each
pub most_by-two : (w l v k : ℕ) → 2 + most_by w l v k ≤ most_by (suc w) (suc l) (suc v) (suc k)
most_by-two w l v k = omega arith

-- one look at a list and a value
pub most_by-list : (w l v k : ℕ) → 1 ≤ l → 1 ≤ v → 1 ≤ most_by w l v k
most_by-list w l v k some there = omega (arith, mul-le 1 1 v l there some)
