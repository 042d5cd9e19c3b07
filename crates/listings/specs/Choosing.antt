-- An aid for the proof: the numbers from which a page is taken, in any order.
use Rattle.std.specs.Prelude.{◌≡◌, ◌↔◌, ◌<◌, ◌^◌, ◌≢◌, ℕ, List, AllPairs, Contains}
use Rattle.std.specs.List.Sorted.{IsStrictlyIncreasing}
use Rattle.least_access.specs.Solved.{HeldAt, Table}
use Rattle.share_graph.specs.declared.facts.Fact.TheVariants.{Open}
use Rattle.share_graph.specs.declared.facts.Node.TheVariants as node
use Rattle.listings.specs.Pages.{first_page}
use Rattle.listings.specs.Terms.{AccountId}

-- no number stands there twice
abbrev pub AreApart : List ℕ → Type 0
AreApart numbers = AllPairs (λ (n : ℕ) (m : ℕ). n ≢ m) numbers

-- The first of the numbers, ascending, as many as stand on a page.
pub record AreFirst (numbers page : List ℕ) : Type 0 where
  pub all : List ℕ
  pub ascend : IsStrictlyIncreasing all
  pub exact : (n : ℕ) → Contains all n ↔ Contains numbers n
  pub first : page ≡ first_page all

-- The numbers behind one that belong, each once.
pub record AreBehind (Belongs : ℕ → Type 0) (after : ℕ) (numbers : List ℕ) : Type 0 where
  pub once : AreApart numbers
  pub exact : (n : ℕ) → Contains numbers n ↔ ((after < n) × Belongs n)

-- the account enters the grain of a number, by the table
abbrev pub EntersBy : Table → AccountId → ℕ → Type 0
EntersBy table a n = (n < 2 ^ 32) × HeldAt table (node.User (record { 0 = n }) a) Open
