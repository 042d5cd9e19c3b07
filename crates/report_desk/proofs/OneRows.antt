-- Each question comes to one step at the most.
use Rattle.desk_base.specs.Terms.{AccountId, Caller, GrainId, GrantId, IsOne, IsWellFormed, State}
use Rattle.desk_base.proofs.OneWord.{by_account_one, known_account_one, known_grain_one, known_grant_one}
use Rattle.share_graph.proofs.OneAnswer.{answers_one, unless_one}
use Rattle.report_desk.specs.Commands.{Access, Preview, Why}

module _ (s : State) (formed : IsWellFormed s) (who : Caller) where
  pub access_one : (n : GrainId) → IsOne (Access s who n)
  access_one n =
      by_account_one s formed who λ account.
      known_grain_one s n λ grain.
      unless_one (answers_one _)

  pub preview_one : (g : GrantId) → IsOne (Preview s who g)
  preview_one g =
      by_account_one s formed who λ account.
      known_grant_one s g λ grant.
      unless_one (answers_one _)

  pub why_one : (n : GrainId) (a : AccountId) → IsOne (Why s who n a)
  why_one n a =
      by_account_one s formed who λ account.
      known_grain_one s n λ grain.
      known_account_one s a λ asked.
      unless_one (answers_one _)
