use Rattle.std.proofs.Common.{ap, sym, ◌∙◌, inl, inr, refl, rules}
use Rattle.std.proofs.lemmas.Bool.{false≢true}
use Rattle.desk_base.specs.Outcomes.{step_of}
use Rattle.desk_base.specs.Steps.{Refuses}
use Rattle.desk_base.proofs.Stopped.{stopped}
use Rattle.session_desk.specs.Commands.{CloseBy, CloseSession}
use Rattle.session_desk.proofs.Words.{root_passes, root_fails}
use Rattle.session_desk.proofs.sessions.close_session.Goals as goal

pub returns-in_err-root-clause-row : goal.returns-in_err-root-clause-row
returns-in_err-root-clause-row c =
    stopped (CloseSession c.args.state.now c.args.caller.now c.args.num) step_of c.from_residual.result c.in_err-root.field-0.0 c.from_residual.ensures.1
    (root_fails c.args.state.now c.args.caller.now (CloseBy c.args.state.now c.args.num) c.in_err-root.field-0.0 c.in_err-root.ensures)

pub returns-in_err-session-clause-row : goal.returns-in_err-session-clause-row
returns-in_err-session-clause-row c =
    stopped (CloseSession c.args.state.now c.args.caller.now c.args.num) step_of c.from_residual-in_err-session.result c.in_err-session.field-0.0 c.from_residual-in_err-session.ensures.1
    (root_passes c.args.state.now c.args.caller.now (CloseBy c.args.state.now c.args.num) c.in_ok-root.root _ c.in_ok-root.ensures (inl (ap Refuses c.in_err-session.ensures.0, c.in_err-session.ensures.1)))

pub returns-then-ne-clause-row : goal.returns-then-ne-clause-row
returns-then-ne-clause-row c =
    root_passes c.args.state.now c.args.caller.now (CloseBy c.args.state.now c.args.num) c.in_ok-root.root _ c.in_ok-root.ensures
    (inr (_, c.in_ok-session.ensures, inl (refl, search rules)))

pub returns-then-session-clause-row : goal.returns-then-session-clause-row
returns-then-session-clause-row c =
    root_passes c.args.state.now c.args.caller.now (CloseBy c.args.state.now c.args.num) c.in_ok-root.root _ c.in_ok-root.ensures
    (inr (_, c.in_ok-session.ensures, inr (search rules, inl (refl, c.if-session.true))))

pub returns-clause-row : goal.returns-clause-row
returns-clause-row c =
    root_passes c.args.state.now c.args.caller.now (CloseBy c.args.state.now c.args.num) c.in_ok-root.root _ c.in_ok-root.ensures
    (inr (_, c.in_ok-session.ensures, inr (search rules, inr (λ closed. false≢true (sym c.if-session.false ∙ closed), inr (refl, refl)))))
