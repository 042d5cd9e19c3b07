-- THE ROW of the question what may be chosen for a grain, and its answer.
use Rattle.std.specs.Prelude.{List}
use Rattle.desk_base.specs.Terms.{Account, answers, Caller, entry, GrainId, State}
use Rattle.powerbox_match.specs.Descriptor.{DescriptorData}
use Rattle.powerbox_match.specs.declared.choices.Choice.{Choice}
use Rattle.share_graph.specs.declared.facts.Node.TheVariants as node
use Rattle.desk_base.specs.Calling.{IsCaller}
use Rattle.desk_base.specs.Made.{nothing_made}
use Rattle.desk_base.specs.Steps.{Step, Keeps, denies}
use Rattle.desk_base.specs.Wording.{secret_of, by_account, known_grain}
use Rattle.saved_refs.specs.Choosing.{AreChoices}

-- options: Unknown(3, n); access(n), Denied of the first step that is missing for the caller's entry on the grain. Nothing is changed.
abbrev pub Options : State → Caller → GrainId → Step → Type 0
Options s who n =
    by_account s who λ account.
    known_grain s n λ grain.
    entry denies s.tables (node.User n account.num) (
    answers (Keeps nothing_made))

-- the grains that the caller's account may choose for grain n
abbrev pub AreOptions : State → Caller → GrainId → List DescriptorData → List Choice → Type 0
AreOptions s who n query list = (account : Account) × IsCaller s (secret_of who) account × AreChoices s.tables account.num n query list
