use Rattle.std.proofs.Common.{inl, inr, refl}
use Rattle.desk_base.specs.Outcomes.{step_of}
use Rattle.desk_base.proofs.Stopped.{stopped}
use Rattle.session_desk.specs.Commands.{StartRun}
use Rattle.session_desk.proofs.Words.{actor_passes, actor_fails}
use Rattle.session_desk.proofs.OneRows.{start_run_one}
use Rattle.session_desk.proofs.FitRows.{start_run_fits}
use Rattle.session_desk.proofs.runs.start_run.Goals as goal

pub returns-in_err-actor-clause-row : goal.returns-in_err-actor-clause-row
returns-in_err-actor-clause-row c =
    stopped (StartRun c.args.state.now c.args.caller.now c.args.num) step_of c.from_residual.result c.in_err-actor.field-0.0 c.from_residual.ensures.1
    (actor_fails c.args.state.now c.args.caller.now c.args.num c.requires.named _ c.in_err-actor.field-0.0 c.in_err-actor.ensures)

pub returns-in-Some-clause-row : goal.returns-in-Some-clause-row
returns-in-Some-clause-row c =
    actor_passes c.args.state.now c.args.caller.now c.args.num c.requires.named _ c.in_ok-actor.actor _ c.in_ok-actor.ensures (inl (refl, (_, c.in-Some.ensures)))

pub returns-clause-row : goal.returns-clause-row
returns-clause-row c = rw c.as_slice.ensures
    (actor_passes c.args.state.now c.args.caller.now c.args.num c.requires.named _ c.in_ok-actor.actor _ c.in_ok-actor.ensures
    (inr (λ (run, one). c.in_default.ensures run one.listed one.is, inr (refl, refl))))

pub returns-in_err-actor-clause-one : goal.returns-in_err-actor-clause-one
returns-in_err-actor-clause-one c = start_run_one c.args.state.now c.requires.formed c.args.caller.now c.args.num

pub returns-in_err-actor-clause-fits : goal.returns-in_err-actor-clause-fits
returns-in_err-actor-clause-fits c = start_run_fits c.args.state.now c.requires.formed c.args.caller.now c.args.num

pub returns-in-Some-clause-one : goal.returns-in-Some-clause-one
returns-in-Some-clause-one c = start_run_one c.args.state.now c.requires.formed c.args.caller.now c.args.num

pub returns-in-Some-clause-fits : goal.returns-in-Some-clause-fits
returns-in-Some-clause-fits c = start_run_fits c.args.state.now c.requires.formed c.args.caller.now c.args.num

pub returns-clause-one : goal.returns-clause-one
returns-clause-one c = start_run_one c.args.state.now c.requires.formed c.args.caller.now c.args.num

pub returns-clause-fits : goal.returns-clause-fits
returns-clause-fits c = start_run_fits c.args.state.now c.requires.formed c.args.caller.now c.args.num
