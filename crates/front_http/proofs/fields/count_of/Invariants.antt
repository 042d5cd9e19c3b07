use Rattle.std.proofs.Common.{◌≡◌, ◌+◌, ◌≤◌, length, drop}
use Rattle.front_http.specs.Heads.{values_of}
use Rattle.front_http.proofs.fields.count_of.Given as goal

abbrev pub invariant-loop-field : goal.invariant-loop-field
invariant-loop-field l = record {
  short : l.count ≤ l.field-index;
  rest : l.count + length (values_of l.name (drop l.field-index l.fields)) ≡ length (values_of l.name l.fields);
}
