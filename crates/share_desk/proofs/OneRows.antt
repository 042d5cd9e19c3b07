-- Each command makes one step at the most.
use Rattle.std.proofs.Common.{ℕ, Bool, List, Option}
use Rattle.desk_base.specs.Terms.{AccountId, Assignment, Caller, Digest, Giver, GrainId, GrantId, IsOne}
use Rattle.desk_base.specs.Terms.{IsWellFormed, Need, State, Target}
use Rattle.share_graph.specs.declared.facts.Node.TheVariants as node
use Rattle.share_graph.specs.declared.grants.Giver.TheVariants as giver
use Rattle.share_graph.specs.declared.grants.Target.TheVariants as target
use Rattle.share_graph.proofs.Apart.{bearer_one}
use Rattle.share_graph.proofs.MissingOne.{entry_one}
use Rattle.share_graph.proofs.OneAnswer.{when_one, unless_one, some_of_one}
use Rattle.desk_base.specs.Steps.{denies}
use Rattle.desk_base.proofs.OneWord.{by_account_one, by_bearer_one, known_account_one, known_grain_one, known_grant_one, adds_one}
use Rattle.desk_base.proofs.FirstRow.{keeps_one}
use Rattle.desk_base.proofs.GoodNeeds.{needs_one}
use Rattle.desk_base.proofs.GivenRoles.{role_one}
use Rattle.share_desk.specs.Commands.{Gives, Share, MakeToken, Child, Redeem, Revoke}

module _ (s : State) (formed : IsWellFormed s) (who : Caller) where
  gives_one : (n : GrainId) (from : Giver) (to : Target) (assignment : Assignment) (wanted : List Need) (expires : Option ℕ) → IsOne (Gives s n from to assignment wanted expires)
  gives_one n from to assignment wanted expires = role_one s n assignment (needs_one s wanted (unless_one (adds_one s _)))

  pub share_one : (n : GrainId) (to : AccountId) (assignment : Assignment) (wanted : List Need) (expires : Option ℕ) → IsOne (Share s who n to assignment wanted expires)
  share_one n to assignment wanted expires =
      by_account_one s formed who λ from.
      known_grain_one s n λ grain.
      known_account_one s to λ account.
      entry_one denies s.tables (node.User n from.num) (when_one (
      gives_one n (giver.Account from.num) (target.User to) assignment wanted expires))

  pub make_token_one : (n : GrainId) (for_sharing : Bool) (assignment : Assignment) (wanted : List Need) (expires : Option ℕ) → IsOne (MakeToken s who n for_sharing assignment wanted expires)
  make_token_one n for_sharing assignment wanted expires =
      by_account_one s formed who λ from.
      known_grain_one s n λ grain.
      entry_one denies s.tables (node.User n from.num) (
      gives_one n (giver.Account from.num) (target.Bearer for_sharing) assignment wanted expires)

  pub child_one : (for_sharing : Bool) (assignment : Assignment) (wanted : List Need) (expires : Option ℕ) → IsOne (Child s who for_sharing assignment wanted expires)
  child_one for_sharing assignment wanted expires =
      by_bearer_one s formed who λ from.
      gives_one from.grain (giver.Grant from.num) (target.Bearer for_sharing) assignment wanted expires

  pub redeem_one : (token : Digest) → IsOne (Redeem s who token)
  redeem_one token =
      by_account_one s formed who λ account.
      some_of_one (bearer_one s formed token) λ link.
      unless_one (entry_one denies s.tables (node.Grant link.num) (keeps_one (adds_one s _)))

  pub revoke_one : (g : GrantId) → IsOne (Revoke s who g)
  revoke_one g =
      by_account_one s formed who λ account.
      known_grant_one s g λ grant.
      unless_one (when_one (adds_one s _))
