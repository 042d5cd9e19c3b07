use Rattle.std.proofs.Common.{◌≡◌, ap, sym, subst, ◌∙◌}
use Rattle.share_graph.specs.declared.state.State.{State}
use Rattle.share_graph.specs.History as history
use Rattle.share_graph.specs.WellFormed.{IsWellFormed}
use Rattle.state_step.specs.Losing.{RevokesExactly, ShutsOut, LeavesTheRest}
use Rattle.state_step.specs.Staging.{event_of}
use Rattle.state_step.proofs.AfterAll.{replay_appended, revokes_exactly, shuts_out, leaves_the_rest}
use Rattle.state_step.proofs.DueEvents.{due_fits}
use Rattle.state_step.proofs.applying.apply.Goals as goal

pub returns-clause-history : goal.returns-clause-history
returns-clause-history c start events was =
    c.step.ensures ∙ ap (λ (s : State). history.after s (event_of c.args.staged)) was ∙ sym (replay_appended start events (event_of c.args.staged))

pub returns-clause-revoked : goal.returns-clause-revoked
returns-clause-revoked c =
    subst (λ (s : State). RevokesExactly c.args.state.now.tables (event_of c.args.staged) s.tables) (sym c.step.ensures) (revokes_exactly c.args.state.now (event_of c.args.staged))

pub returns-clause-shut_out : goal.returns-clause-shut_out
returns-clause-shut_out c =
    subst (λ (s : State). ShutsOut c.args.state.now.tables (event_of c.args.staged) s.tables) (sym c.step.ensures) (shuts_out c.args.state.now (event_of c.args.staged))

pub returns-clause-left : goal.returns-clause-left
returns-clause-left c =
    subst (λ (s : State). LeavesTheRest c.args.state.now.tables (event_of c.args.staged) s.tables) (sym c.step.ensures) (leaves_the_rest c.args.state.now (event_of c.args.staged))

pub returns-clause-formed : goal.returns-clause-formed
returns-clause-formed c formed due =
    subst (λ (s : State). IsWellFormed s) (sym c.step.ensures) (due_fits c.args.state.now (event_of c.args.staged) formed due).formed
