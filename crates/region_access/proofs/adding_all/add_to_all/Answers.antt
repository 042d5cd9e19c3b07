use Rattle.std.proofs.Common.{Contains}
use Rattle.region_access.specs.Indexed.{listed_in}
use Rattle.region_access.proofs.TakenOut.{added_all}
use Rattle.region_access.proofs.adding_all.add_to_all.Goals as goal

pub returns-in-Ok-clause-ok : goal.returns-in-Ok-clause-ok
returns-in-Ok-clause-ok g c =
    added_all (Contains c.args.from.now) c.args.num (listed_in g.K.Ord.cmp c.args.edges.now.entries) (listed_in g.K.Ord.cmp c.add_edges.new.edges.entries) c.requires c.add_edges.ensures.may c.in-Ok.ensures.all

pub returns-in-Err-clause-err : goal.returns-in-Err-clause-err
returns-in-Err-clause-err g c = c.remove_edges.ensures (listed_in g.K.Ord.cmp c.args.edges.now.entries) c.requires c.add_edges.ensures.may
