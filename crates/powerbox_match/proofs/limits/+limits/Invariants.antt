use Rattle.std.proofs.Common.{◌≡◌, drop}
use Rattle.powerbox_match.proofs.Within.{items_within, fields_within}
use Rattle.powerbox_match.proofs.limits.+limits.Given as goal

abbrev pub invariant-are_items_within-loop-item : goal.invariant-are_items_within-loop-item
invariant-are_items_within-loop-item l = items_within l.most (drop l.item-index l.items) ≡ items_within l.most l.items

abbrev pub invariant-are_fields_within-loop-field : goal.invariant-are_fields_within-loop-field
invariant-are_fields_within-loop-field l =
    fields_within l.most (drop l.field-index l.fields) ≡ fields_within l.most l.fields
