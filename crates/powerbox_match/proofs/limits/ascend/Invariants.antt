use Rattle.std.proofs.Common.{◌≡◌, drop}
use Rattle.powerbox_match.specs.Value.{is_ascending, fields_data}
use Rattle.powerbox_match.proofs.limits.ascend.Given as goal

abbrev pub invariant-loop-place : goal.invariant-loop-place
invariant-loop-place l =
    is_ascending (fields_data (drop l.place l.fields)) ≡ is_ascending (fields_data l.fields)
