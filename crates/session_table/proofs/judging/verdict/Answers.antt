use Rattle.session_table.proofs.VerdictOne.{verdict_one}
use Rattle.session_table.proofs.judging.verdict.Goals as goal

pub returns-in-Session-clause-one : goal.returns-in-Session-clause-one
returns-in-Session-clause-one c = verdict_one c.args.state.now c.requires.formed c.args.key.now

pub returns-in-Bearer-clause-one : goal.returns-in-Bearer-clause-one
returns-in-Bearer-clause-one c = verdict_one c.args.state.now c.requires.formed c.args.key.now

pub returns-in-Handle-clause-one : goal.returns-in-Handle-clause-one
returns-in-Handle-clause-one c = verdict_one c.args.state.now c.requires.formed c.args.key.now
