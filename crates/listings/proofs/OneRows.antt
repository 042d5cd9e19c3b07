-- Each question comes to one step at the most.
use Rattle.desk_base.specs.Terms.{Caller, GrainId, IsOne, IsWellFormed, State}
use Rattle.desk_base.proofs.OneWord.{by_account_one, known_grain_one}
use Rattle.share_graph.proofs.OneAnswer.{answers_one}
use Rattle.listings.specs.declared.asking.Subject.TheVariants as subject
use Rattle.listings.specs.Asking.{Lists}
use Rattle.listings.specs.Commands.{Asks, AsksOf}
use Rattle.listings.specs.Terms.{Subject}

module _ (s : State) (formed : IsWellFormed s) (who : Caller) where
  pub asks_one : IsOne (Asks s who)
  asks_one = by_account_one s formed who λ account. answers_one _

  pub asks_of_one : (n : GrainId) → IsOne (AsksOf s who n)
  asks_of_one n =
      by_account_one s formed who λ account.
      known_grain_one s n λ grain.
      answers_one _

  pub lists_one : (what : Subject) → IsOne (Lists s who what)
  lists_one subject.Own = asks_one
  lists_one (subject.Accounts after) = asks_one
  lists_one (subject.Apps after) = asks_one
  lists_one (subject.Entered after) = asks_one
  lists_one (subject.Given n after) = asks_of_one n
