use Rattle.powerbox_match.proofs.Merge.{get_field_other}
use Rattle.powerbox_match.proofs.matching.first_named.Goals as goal

pub returns-else-eq : goal.returns-else-eq
returns-else-eq c =
    get_field_other c.args.name.now c.args.fields.now c.in_ok-first.first.now c.requires.from_there c.in_ok-first.ensures.value (cc) c.requires.ascending
