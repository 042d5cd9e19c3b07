use Rattle.std.proofs.Common.{◌≡◌, nat_le, drop}
use Rattle.serde_json.specs.View.{items_view, members_view}
use Rattle.powerbox_match.specs.Shape.{json_items_nesting, json_members_nesting}
use Rattle.powerbox_match.proofs.depth.+depth.Given as goal

abbrev pub invariant-items_nest_within-loop-item : goal.invariant-items_nest_within-loop-item
invariant-items_nest_within-loop-item l =
    nat_le (json_items_nesting (items_view (drop l.item-index l.items))) l.most ≡ nat_le (json_items_nesting (items_view l.items)) l.most

abbrev pub invariant-members_nest_within-loop-member : goal.invariant-members_nest_within-loop-member
invariant-members_nest_within-loop-member l =
    nat_le (json_members_nesting (members_view l.member-iterator)) l.most ≡ nat_le (json_members_nesting (members_view l.initial.member-iterator)) l.most
