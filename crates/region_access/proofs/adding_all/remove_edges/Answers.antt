use Rattle.std.proofs.lemmas.List.{take_all}
use Rattle.region_access.specs.Indexed.{listed_in}
use Rattle.region_access.proofs.TakenOut.{tells_apart, left_one, left_all}
use Rattle.region_access.proofs.adding_all.remove_edges.Goals as goal

pub loop-key-preserved : goal.loop-key-preserved
loop-key-preserved g c base fresh may =
    left_one (tells_apart g.K.Ord.cmp g.met.K.Ord.total g.met.K.Key.apart) c.args.from.now c.loop-key.key-index c.key-item.result c.loop-key-test.true c.key-item.is c.args.num base
    (listed_in g.K.Ord.cmp c.loop-key.edges.entries) (listed_in g.K.Ord.cmp c.remove_edge.new.edges.entries)
    fresh (c.loop-key.invariant base fresh may) c.remove_edge.ensures.here c.remove_edge.ensures.others

pub returns : goal.returns
returns g c base fresh may =
    left_all c.args.from.now c.loop-key.key-index c.args.num base (listed_in g.K.Ord.cmp c.loop-key.edges.entries)
    (take_all c.loop-key.key-index c.args.from.now c.loop-key-test.false) (c.loop-key.invariant base fresh may)
