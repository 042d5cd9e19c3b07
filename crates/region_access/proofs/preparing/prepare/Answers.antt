use Rattle.region_access.specs.Indexes.{entries_of}
use Rattle.region_access.proofs.After.{indexes_after}
use Rattle.region_access.proofs.Roomy.{room_prepared}
use Rattle.region_access.proofs.preparing.prepare.Goals as goal

pub returns-in-Ok-clause-indexes_after : goal.returns-in-Ok-clause-indexes_after
returns-in-Ok-clause-indexes_after g c after adds =
    indexes_after c.args.added.now (g.V.Probe.tables c.args.probe.now) after (entries_of c.args.indexes.now) (entries_of c.add_new.new.indexes) adds c.requires.indexes c.in-Ok.ensures.ok

pub returns-in-Ok-clause-prepared : goal.returns-in-Ok-clause-prepared
returns-in-Ok-clause-prepared g c after cleared solved touches =
    room_prepared (g.V.Probe.tables c.args.probe.now) after c.args.seeds.now c.args.table.now.entries c.make_room.new.table.entries c.in_ok-room.room cleared c.in_ok-room.ensures.ok solved touches
