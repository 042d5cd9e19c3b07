-- Pages: a list is told by at most so many lines at a time, by number.
use Rattle.std.specs.Prelude.{◌≡◌, ◌↔◌, ◌<◌, ℕ, List, Contains, take, drop}
use Rattle.std.specs.List.Sorted.{IsStrictlyIncreasing}

-- how many lines a page has at the most
abbrev pub page_limit : ℕ
page_limit = 1000

-- the first of a list, as many as stand on a page
abbrev pub first_page : {X : Type 0} → List X → List X
first_page all = take page_limit all

-- THE PAGE of rows, which are numbered from 1 in their order: those behind a number
abbrev pub page_behind : {X : Type 0} → ℕ → List X → List X
page_behind after rows = first_page (drop after rows)

-- THE PAGE of the numbers that belong: the first of them behind one.
pub record IsPage (Belongs : ℕ → Type 0) (after : ℕ) (page : List ℕ) : Type 0 where
  pub all : List ℕ
  pub ascend : IsStrictlyIncreasing all
  pub exact : (n : ℕ) → Contains all n ↔ ((after < n) × Belongs n)
  pub first : page ≡ first_page all
