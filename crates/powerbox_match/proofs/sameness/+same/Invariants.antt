use Rattle.std.proofs.Common.{◌≡◌, map, take}
use Rattle.powerbox_match.specs.Value.{tag_data, field_data}
use Rattle.powerbox_match.proofs.sameness.+same.Given as goal

abbrev pub invariant-are_same_items-loop-place : goal.invariant-are_same_items-loop-place
invariant-are_same_items-loop-place l =
    map tag_data (take l.place l.values) ≡ map tag_data (take l.place l.others)

abbrev pub invariant-are_same_fields-loop-place : goal.invariant-are_same_fields-loop-place
invariant-are_same_fields-loop-place l =
    map field_data (take l.place l.values) ≡ map field_data (take l.place l.others)
