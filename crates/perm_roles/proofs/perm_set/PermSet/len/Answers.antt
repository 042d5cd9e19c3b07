use Rattle.perm_roles.proofs.Sets.{length-positions, positions_has, positions_ascend, positions_below, always_within}
use Rattle.perm_roles.proofs.perm_set.PermSet.len.Goals as goal

pub returns-clause-count : goal.returns-clause-count
returns-clause-count c = length-positions c.args.self.now

pub returns-clause-members : goal.returns-clause-members
returns-clause-members c = positions_has c.args.self.now

pub returns-clause-ascending : goal.returns-clause-ascending
returns-clause-ascending c = positions_ascend c.args.self.now

pub returns-clause-below : goal.returns-clause-below
returns-clause-below c = positions_below c.args.self.now 64 (always_within c.args.self.now)
