use Rattle.report_desk.proofs.passing.passed_by.Goals as goal

pub passing_of-requires-clause-there : goal.passing_of-requires-clause-there
passing_of-requires-clause-there c = c.requires.there c.in-Some.num c.in-Some.is
