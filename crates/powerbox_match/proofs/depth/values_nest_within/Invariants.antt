use Rattle.std.proofs.Common.{◌≡◌, nat_le, drop}
use Rattle.serde_json.specs.View.{items_view}
use Rattle.powerbox_match.specs.Shape.{deepest_value}
use Rattle.powerbox_match.proofs.depth.values_nest_within.Given as goal

abbrev pub invariant-loop-tag : goal.invariant-loop-tag
invariant-loop-tag l =
    nat_le (deepest_value (items_view (drop l.tag-index l.tags))) l.most ≡ nat_le (deepest_value (items_view l.tags)) l.most
