use Rattle.perm_roles.specs.PermSet.{positions}
use Rattle.access_report.proofs.Lost.{something_in}
use Rattle.access_report.proofs.previewing.is_something.Goals as goal

pub returns-else-held : goal.returns-else-held
returns-else-held c = something_in c.args.held.now c.len.result (positions c.args.held.now.perms) c.if-held.false c.len.ensures.count c.len.ensures.members
