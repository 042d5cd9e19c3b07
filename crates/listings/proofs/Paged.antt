-- How a page is cut.
use Rattle.std.proofs.Common.{◌≡◌, ◌↔◌, ◌<◌, ◌-◌, ◌∙◌, ℕ, List, Contains, length, min, nat_eq, arith, take, drop, sym, ap, subst}
use Rattle.std.specs.List.Sorted.{IsPermutation}
use Rattle.std.specs.Ordering.{nat_cmp}
use Rattle.std.specs.List.Sorted.{IsSorted}
use Rattle.std.proofs.lemmas.List.{drop_min, get_or-take, length-drop, length-take, take_min}
use Rattle.std.proofs.lemmas.List.Sorted.{Contains-permutation, IsNonDecreasingBy-from_sort, IsPermutation-sym}
use Rattle.std.specs.Bool.{Decides}
use Rattle.std.proofs.lemmas.Bool.Decides.{Decides-eqb, nat_tests}
use Rattle.std.proofs.lemmas.Map.Made.{IsDistinct-from_AllPairs}
use Rattle.std.proofs.lemmas.Map.Keys.{IsDistinct-IsPermutation, IsStrictlyIncreasing-from_distinct}
use Rattle.std.proofs.Math.Seq.{take-length}
use Rattle.listings.specs.Choosing.{AreApart, AreBehind, AreFirst}
use Rattle.listings.specs.Pages.{IsPage}

pub page_is : {X : Type 0} (rows behind : List X) (after from count : ℕ) → from ≡ min after (length rows) → behind ≡ take (length rows - from) (drop from rows) → count ≡ min 1000 (length behind)
    → take count behind ≡ take 1000 (drop after rows)
page_is rows behind after from count from_is behind_is count_is =
    let at : drop from rows ≡ drop after rows = ap (λ n. drop n rows) from_is ∙ drop_min after rows in
    let whole : take (length rows - from) (drop from rows) ≡ drop from rows = ap (λ n. take n (drop from rows)) (sym (length-drop from rows)) ∙ take-length (drop from rows) in
    ap (λ n. take n behind) count_is ∙ take_min 1000 behind ∙ ap (λ xs. take 1000 xs) (behind_is ∙ whole ∙ at)

flips : (n m : ℕ) → nat_eq n m ≡ nat_eq m n
flips n m = grind (arith, nat_tests)

decides : (n m : ℕ) → Decides (nat_eq n m) (n ≡ m)
decides n m = Decides-eqb n m

-- the numbers of a sorted list that holds the same, which all differ, ascend
pub first_are : (numbers sorted page : List ℕ) → AreApart numbers → IsPermutation numbers sorted → IsSorted nat_cmp sorted → page ≡ take 1000 sorted → AreFirst numbers page
first_are numbers sorted page apart moved ordered is = record {
  all = sorted;
  ascend = IsStrictlyIncreasing-from_distinct sorted (IsNonDecreasingBy-from_sort (λ n. n) sorted ordered)
      (IsDistinct-IsPermutation nat_eq (λ n m. flips n m) numbers sorted moved (IsDistinct-from_AllPairs (λ n m. decides n m) numbers apart));
  exact = λ n. (Contains-permutation sorted numbers n (IsPermutation-sym numbers sorted moved), Contains-permutation numbers sorted n moved);
  first = is;
}

-- the first numbers of those that belong are a page of them
pub page_by : (By Belongs : ℕ → Type 0) (after : ℕ) (numbers page : List ℕ) → ((n : ℕ) → By n ↔ Belongs n) → AreBehind By after numbers → AreFirst numbers page → IsPage Belongs after page
page_by By Belongs after numbers page same behind first = record {
  all = first.all;
  ascend = first.ascend;
  exact = λ n. (
    λ there. (let was = (behind.exact n).0 ((first.exact n).0 there) in (was.0, (same n).0 was.1)),
    λ (less, belongs). (first.exact n).1 ((behind.exact n).1 (less, (same n).1 belongs)),
  );
  first = first.first;
}

from_take : (k : ℕ) (xs : List ℕ) (x : ℕ) → Contains (take k xs) x → Contains xs x
from_take k xs x (i, less, is) =
    let long = length-take k xs in
    let early : i < k = omega (arith, less, long) in
    let within : i < length xs = omega (arith, less, long) in
    (i, within, sym (get_or-take k xs i x early) ∙ is)

-- what stands on a page belongs
pub belongs : (Belongs : ℕ → Type 0) (after : ℕ) (page : List ℕ) → IsPage Belongs after page → (n : ℕ) → Contains page n → Belongs n
belongs Belongs after page is n listed = ((is.exact n).0 (from_take 1000 is.all n (subst (λ (xs : List ℕ). Contains xs n) is.first listed))).1
