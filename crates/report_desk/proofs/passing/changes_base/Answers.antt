use Rattle.perm_roles.specs.PermSet.{positions}
use Rattle.report_desk.proofs.Changed.{changed_by, changed_first}
use Rattle.report_desk.proofs.passing.changes_base.Goals as goal

pub returns-then-len-gt0 : goal.returns-then-len-gt0
returns-then-len-gt0 c =
    let a = c.args.assignment.now in
    changed_first a c.len.result (positions a.add) c.len.ensures.count c.len.ensures.members c.if-len-gt0.true

pub returns-else-len-gt0 : goal.returns-else-len-gt0
returns-else-len-gt0 c =
    let a = c.args.assignment.now in
    changed_by a c.len.result c.len-else-len-gt0.result (positions a.add) (positions a.remove) c.len.ensures.count c.len.ensures.members c.len-else-len-gt0.ensures.count
    c.len-else-len-gt0.ensures.members c.if-len-gt0.false
