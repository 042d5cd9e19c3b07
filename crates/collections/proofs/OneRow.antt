-- The rows of the question and of the command come to one step.
use Rattle.std.proofs.Common.{None}
use Rattle.desk_base.specs.Terms.{Account, AccountId, Caller, GrainId, Grant, GrantId, IsOne, IsWellFormed, State}
use Rattle.desk_base.specs.Steps.{denies, Step}
use Rattle.desk_base.proofs.OneWord.{by_account_one, known_account_one, known_grain_one, known_grant_one}
use Rattle.share_graph.specs.declared.facts.Node.TheVariants as node
use Rattle.share_graph.proofs.MissingOne.{entry_one}
use Rattle.share_graph.proofs.OneAnswer.{answers_one, unless_one}
use Rattle.share_desk.proofs.OneRows.{share_one}
use Rattle.collections.specs.Commands.{by_curator, Collect, Missing}
use Rattle.collections.specs.Members.{member_needs}

module _ (s : State) (formed : IsWellFormed s) (who : Caller) (c : GrainId) (g : GrantId) where
  curator_one : (Rest : Account → Grant → Step → Type 0) → ((account : Account) (link : Grant) → IsOne (Rest account link)) → IsOne (by_curator s who c g Rest)
  curator_one Rest rest =
      by_account_one s formed who λ account.
      known_grain_one s c λ grain.
      entry_one denies s.tables (node.User c account.num) (
      known_grant_one s g λ link.
      unless_one (unless_one (rest account link)))

  pub missing_one : IsOne (Missing s who c g)
  missing_one = curator_one _ λ account link. answers_one _

  pub collect_one : (u : AccountId) → IsOne (Collect s who c g u)
  collect_one u =
      curator_one _ λ account link.
      known_account_one s u λ member.
      unless_one (share_one s formed who link.grain u link.assignment (member_needs c g u) None)
