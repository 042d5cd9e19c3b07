use Rattle.std.proofs.Common.{◌≡◌, ◌+◌, drop}
use Rattle.powerbox_match.specs.Value.{tag_data}
use Rattle.powerbox_match.specs.Steps.{items_not_before}
use Rattle.powerbox_match.proofs.matching.items_from.Given as goal

abbrev pub invariant-loop-place : goal.invariant-loop-place
invariant-loop-place g l =
    record {
      same : items_not_before (tag_data l.value) (drop l.place l.items) ≡ items_not_before (tag_data l.value) l.items;
      counted : l.steps ≡ l.initial.steps + l.place;
    }
