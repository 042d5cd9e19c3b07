-- Whether a live run was found, and whether a giver is an account.
use Rattle.std.proofs.Common.{◌≡◌, ◌↔◌, ℕ, Bool, true, List, Option, Some, None, Bor, nat_eq, arith}
use Rattle.std.specs.Option.{is_some, MatchOption}
use Rattle.std.proofs.lemmas.Bool.Decides.{nat_tests}
use Rattle.share_graph.specs.declared.grants.Giver.TheVariants as giver
use Rattle.listings.specs.Terms.{AccountId, GrainId, IsLiveRun, IsNoneOf, IsOneOf, Run}

pub running_by : (runs : List Run) (n : GrainId) (found : Option (Bor Run)) (b : Bool) → b ≡ is_some found
    → MatchOption found (IsNoneOf runs (IsLiveRun n)) (λ run. IsOneOf runs (IsLiveRun n) run.now) → b ≡ true ↔ (IsNoneOf runs (IsLiveRun n) → ⊥)
running_by runs n None b is none = (λ yes. cc (is, yes), λ not. absurd (not none))
running_by runs n (Some run) b is one = (λ yes none. none run.now one.listed one.is, λ not. is)

pub equal_numbers : (n m : ℕ) → nat_eq n m ≡ true → n ≡ m
equal_numbers n m is = grind (arith, nat_tests)

pub equal_test : (n m : ℕ) → n ≡ m → nat_eq n m ≡ true
equal_test n m same = grind (arith, nat_tests)

pub given_by : (a b : AccountId) → giver.Account a ≡ giver.Account b → a.0 ≡ b.0
given_by a b same = cc same
