use Rattle.powerbox_match.specs.Value.{tag_data}
use Rattle.powerbox_match.proofs.Tidy.{shallow_within, tidy_within}
use Rattle.powerbox_match.proofs.descriptor.Tag.new.Goals as goal

pub invariant_of-result : goal.invariant_of-result
invariant_of-result c =
    (shallow_within (tag_data c.args.value) c.requires, tidy_within (tag_data c.args.value) c.requires, c.in_ok-sorted.ensures)
