-- The fields so far are copied.
use Rattle.std.proofs.Common.{◌≡◌, take}
use Rattle.cloud_serve.proofs.passing.copy_of_fields.Given as goal

abbrev pub invariant-loop-field : goal.invariant-loop-field
invariant-loop-field l = l.copy ≡ take l.field-index l.fields
