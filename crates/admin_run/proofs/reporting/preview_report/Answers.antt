use Rattle.admin_run.proofs.reporting.preview_report.Goals as goal

pub loss_lines-requires-clause-there : goal.loss_lines-requires-clause-there
loss_lines-requires-clause-there c = c.has_grant.ensures.0 c.if-not-has_grant.false
