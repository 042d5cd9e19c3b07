-- What follows from the step of an event.
use Rattle.std.proofs.Common.{◌≡◌, List, [], ◌∷◌, ◌++◌, refl, subst, sym}
use Rattle.share_graph.specs.declared.event.Event.{Event}
use Rattle.share_graph.specs.declared.state.State.{State}
use Rattle.share_graph.specs.History as history
use Rattle.share_graph.specs.Revoking.{TakesExactly}
use Rattle.share_graph.proofs.RevokingLaw.{revoking_law}
use Rattle.state_step.specs.Losing.{RevokesExactly, ShutsOut, LeavesTheRest}

pub replay_appended : (start : State) (events : List Event) (e : Event) → history.replay start (events ++ e ∷ []) ≡ history.after (history.replay start events) e
replay_appended start [] e = refl
replay_appended start (first ∷ events) e = replay_appended (history.after start first) events e

pub revokes_exactly : (s : State) (e : Event) → RevokesExactly s.tables e (history.after s e).tables
revokes_exactly s e g same first =
    subst (λ (x : Event). TakesExactly s.tables g (history.after s x).tables) (sym same) (revoking_law s.tables g first)

pub shuts_out : (s : State) (e : Event) → ShutsOut s.tables e (history.after s e).tables
shuts_out s e g same first at used holds = let (d, fresh) = (revokes_exactly s e g same first at _).0 holds in fresh (used d)

pub leaves_the_rest : (s : State) (e : Event) → LeavesTheRest s.tables e (history.after s e).tables
leaves_the_rest s e g same first at f d fresh = (revokes_exactly s e g same first at f).1 (d, fresh)
