use Rattle.std.proofs.Common.{List, Contains, sym, subst}
use Rattle.std.proofs.lemmas.List.{take_all}
use Rattle.region_access.specs.Indexed.{listed_in}
use Rattle.region_access.proofs.TakenOut.{tells_apart, added_one, still_may}
use Rattle.region_access.proofs.adding_all.add_edges.Goals as goal

pub loop-key-preserved : goal.loop-key-preserved
loop-key-preserved g c =
    added_one (tells_apart g.K.Ord.cmp g.met.K.Ord.total g.met.K.Key.apart) c.args.from.now c.loop-key.key-index c.key-item.result c.loop-key-test.true c.key-item.is c.args.num
    (listed_in g.K.Ord.cmp c.args.edges.now.entries) (listed_in g.K.Ord.cmp c.loop-key.edges.entries) (listed_in g.K.Ord.cmp c.add_edge.new.edges.entries)
    c.requires c.loop-key.invariant c.in_ok-add_edge.ensures.ok.here c.add_edge.ensures.others

pub returns-clause-all : goal.returns-clause-all
returns-clause-all g c at has =
    let whole = take_all c.loop-key.key-index c.args.from.now c.loop-key-test.false in
    c.loop-key.invariant.all at (subst (λ (xs : List _). Contains xs at) (sym whole) has)

pub returns-in_err-add_edge-clause-may : goal.returns-in_err-add_edge-clause-may
returns-in_err-add_edge-clause-may g c =
    still_may (tells_apart g.K.Ord.cmp g.met.K.Ord.total g.met.K.Key.apart) (Contains c.args.from.now) c.key-item.result c.args.num
    (listed_in g.K.Ord.cmp c.args.edges.now.entries) (listed_in g.K.Ord.cmp c.loop-key.edges.entries) (listed_in g.K.Ord.cmp c.add_edge.new.edges.entries)
    c.loop-key.invariant.may c.in_err-add_edge.ensures.err c.add_edge.ensures.others
