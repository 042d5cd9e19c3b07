use Rattle.std.proofs.Common.{◌≡◌, length, ap, arith}
use Rattle.session_table.proofs.Named.{no_name}
use Rattle.session_table.proofs.names.add_name.Goals as goal

pub returns-in_default : goal.returns-in_default
returns-in_default c =
    let past = c.in_default.ensures.lookup.3 in
    let same : length c.as_slice.result.now ≡ length c.args.app.now.manifest.permissions = ap length c.as_slice.ensures in
    no_name c.args.app.now c.args.place c.args.list.now.items (omega (arith, c.from.ensures))
