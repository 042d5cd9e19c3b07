use Rattle.share_graph.specs.declared.grants.Giver.TheVariants as giver
use Rattle.share_graph.specs.declared.grants.Target.TheVariants as target
use Rattle.desk_base.proofs.Stopped.{refused, carried_more}
use Rattle.desk_base.proofs.Words.{on_calls, on_refused}
use Rattle.share_desk.specs.Commands.{Gives, MakeToken}
use Rattle.share_desk.proofs.tokens.make_token.Goals as goal

pub returns-in_err-from-clause-row : goal.returns-in_err-from-clause-row
returns-in_err-from-clause-row c =
    refused (MakeToken c.args.state.now c.args.caller.now c.args.num c.args.for_sharing c.args.assignment.now c.args.needs.now c.args.expires) c.from_residual.result c.in_err-from.field-0.0 c.from_residual.ensures.1
    (on_refused c.args.state.now c.args.caller.now c.args.num (λ from. Gives c.args.state.now c.args.num (giver.Account from.num) (target.Bearer c.args.for_sharing) c.args.assignment.now c.args.needs.now c.args.expires) c.in_err-from.field-0.0 c.in_err-from.ensures)

pub returns-clause-row : goal.returns-clause-row
returns-clause-row c =
    let from = c.in_ok-from.from.now in
    carried_more (Gives c.args.state.now c.args.num (giver.Account from.num) (target.Bearer c.args.for_sharing) c.args.assignment.now c.args.needs.now c.args.expires) (MakeToken c.args.state.now c.args.caller.now c.args.num c.args.for_sharing c.args.assignment.now c.args.needs.now c.args.expires)
    (λ step. on_calls c.args.state.now c.args.caller.now c.args.num (λ from. Gives c.args.state.now c.args.num (giver.Account from.num) (target.Bearer c.args.for_sharing) c.args.assignment.now c.args.needs.now c.args.expires) from step c.in_ok-from.ensures)
    c.give.result c.give.ensures
