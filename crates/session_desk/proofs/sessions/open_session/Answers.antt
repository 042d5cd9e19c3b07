use Rattle.std.proofs.Common.{inl, inr, refl}
use Rattle.desk_base.specs.Outcomes.{step_of}
use Rattle.desk_base.proofs.Stopped.{stopped}
use Rattle.session_desk.specs.Commands.{OpenSession}
use Rattle.session_desk.proofs.Words.{actor_passes, actor_fails}
use Rattle.session_desk.proofs.OneRows.{open_session_one}
use Rattle.session_desk.proofs.FitRows.{open_session_fits}
use Rattle.session_desk.proofs.sessions.open_session.Goals as goal

pub returns-in_err-actor-clause-row : goal.returns-in_err-actor-clause-row
returns-in_err-actor-clause-row c =
    stopped (OpenSession c.args.state.now c.args.caller.now c.args.num c.args.tab) step_of c.from_residual.result c.in_err-actor.field-0.0 c.from_residual.ensures.1
    (actor_fails c.args.state.now c.args.caller.now c.args.num c.requires.named _ c.in_err-actor.field-0.0 c.in_err-actor.ensures)

pub returns-in_err-has_session_room-clause-row : goal.returns-in_err-has_session_room-clause-row
returns-in_err-has_session_room-clause-row c =
    stopped (OpenSession c.args.state.now c.args.caller.now c.args.num c.args.tab) step_of c.from_residual-in_err-has_session_room.result c.in_err-has_session_room.field-0.0
    c.from_residual-in_err-has_session_room.ensures.1
    (actor_passes c.args.state.now c.args.caller.now c.args.num c.requires.named _ c.in_ok-actor.actor _ c.in_ok-actor.ensures (inl (_, refl, c.in_err-has_session_room.ensures)))

pub returns-clause-row : goal.returns-clause-row
returns-clause-row c = rw (c.unwrap_or.ensures, c.from.ensures, c.as_slice.ensures)
    (actor_passes c.args.state.now c.args.caller.now c.args.num c.requires.named _ c.in_ok-actor.actor _ c.in_ok-actor.ensures (inr (refl, c.in_ok-has_session_room.ensures)))

pub returns-in_err-actor-clause-one : goal.returns-in_err-actor-clause-one
returns-in_err-actor-clause-one c = open_session_one c.args.state.now c.requires.formed c.args.caller.now c.args.num c.args.tab

pub returns-in_err-actor-clause-fits : goal.returns-in_err-actor-clause-fits
returns-in_err-actor-clause-fits c = open_session_fits c.args.state.now c.requires.formed c.args.caller.now c.args.num c.args.tab

pub returns-in_err-has_session_room-clause-one : goal.returns-in_err-has_session_room-clause-one
returns-in_err-has_session_room-clause-one c = open_session_one c.args.state.now c.requires.formed c.args.caller.now c.args.num c.args.tab

pub returns-in_err-has_session_room-clause-fits : goal.returns-in_err-has_session_room-clause-fits
returns-in_err-has_session_room-clause-fits c = open_session_fits c.args.state.now c.requires.formed c.args.caller.now c.args.num c.args.tab

pub returns-clause-one : goal.returns-clause-one
returns-clause-one c = open_session_one c.args.state.now c.requires.formed c.args.caller.now c.args.num c.args.tab

pub returns-clause-fits : goal.returns-clause-fits
returns-clause-fits c = open_session_fits c.args.state.now c.requires.formed c.args.caller.now c.args.num c.args.tab
