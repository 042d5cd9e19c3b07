use Rattle.std.proofs.Common.{◌≡◌, Some, map, rules}
use Rattle.row_formats.specs.Format.{last_of}
use Rattle.powerbox_match.specs.Value.{field_data}
use Rattle.row_formats.proofs.Loop.{last_seen}
use Rattle.row_codec.proofs.values.name_above.Goals as goal

pub returns-in-Some : goal.returns-in-Some
returns-in-Some c =
    let e : last_of (map field_data c.args.before.now) ≡ Some (field_data c.in-Some.field.now) = last_seen field_data c.args.before.now c.in-Some.field.now c.in-Some.ensures.value in
    rw e (search rules)
