use Rattle.std.proofs.Common.{◌≡◌, drop}
use Rattle.front_http.specs.Heads.{values_of}
use Rattle.front_http.proofs.fields.first_value.Given as goal

abbrev pub invariant-loop-field : goal.invariant-loop-field
invariant-loop-field l = values_of l.name (drop l.field-index l.fields) ≡ values_of l.name l.fields
