use Rattle.std.proofs.Common.{◌≡◌, drop, codes}
use Rattle.std.specs.List.{list_any}
use Rattle.front_http.specs.Heads.{is_same, values_of}
use Rattle.front_http.proofs.fields.closes.Given as goal

abbrev pub invariant-loop-field : goal.invariant-loop-field
invariant-loop-field l =
    list_any (λ value. is_same value (codes "close")) (values_of (codes "Connection") (drop l.field-index l.fields))
    ≡ list_any (λ value. is_same value (codes "close")) (values_of (codes "Connection") l.fields)
