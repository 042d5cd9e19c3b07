use Rattle.std.proofs.Common.{◌≡◌, ◌+◌, drop}
use Rattle.powerbox_match.specs.Steps.{fields_not_below}
use Rattle.powerbox_match.proofs.matching.fields_not_below.Given as goal

abbrev pub invariant-loop-place : goal.invariant-loop-place
invariant-loop-place g l =
    record {
      same : fields_not_below l.name (drop l.place l.fields) ≡ fields_not_below l.name l.fields;
      counted : l.steps ≡ l.initial.steps + l.place;
    }
