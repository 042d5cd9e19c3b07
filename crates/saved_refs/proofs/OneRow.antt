-- The row of options comes to one step.
use Rattle.desk_base.specs.Terms.{Caller, GrainId, IsOne, IsWellFormed, State}
use Rattle.share_graph.specs.declared.facts.Node.TheVariants as node
use Rattle.share_graph.proofs.MissingOne.{entry_one}
use Rattle.share_graph.proofs.OneAnswer.{answers_one}
use Rattle.desk_base.specs.Steps.{denies}
use Rattle.desk_base.proofs.OneWord.{by_account_one, known_grain_one}
use Rattle.saved_refs.specs.Options.{Options}

pub options_one : (s : State) → IsWellFormed s → (who : Caller) (n : GrainId) → IsOne (Options s who n)
options_one s formed who n =
    by_account_one s formed who λ account.
    known_grain_one s n λ grain.
    entry_one denies s.tables (node.User n account.num) (answers_one _)
