use Rattle.share_graph.specs.declared.grants.Giver.TheVariants as giver
use Rattle.share_graph.specs.declared.grants.Target.TheVariants as target
use Rattle.desk_base.specs.Terms.{Grant}
use Rattle.desk_base.proofs.Stopped.{refused, carried_more}
use Rattle.desk_base.proofs.Words.{bearer_passes, bearer_fails}
use Rattle.share_desk.specs.Commands.{Gives, Child}
use Rattle.share_desk.proofs.Words.{caller_grain}
use Rattle.share_desk.proofs.tokens.child.Goals as goal

pub returns-in_err-from-clause-row : goal.returns-in_err-from-clause-row
returns-in_err-from-clause-row c =
    let Rest = λ (x : Grant). Gives c.args.state.now x.grain (giver.Grant x.num) (target.Bearer c.args.for_sharing) c.args.assignment.now c.args.needs.now c.args.expires in
    refused (Child c.args.state.now c.args.caller.now c.args.for_sharing c.args.assignment.now c.args.needs.now c.args.expires) c.from_residual.result c.in_err-from.field-0.0 c.from_residual.ensures.1
    (bearer_fails c.args.state.now c.args.caller.now Rest c.in_err-from.field-0.0 c.in_err-from.ensures)

pub give-requires-clause-there : goal.give-requires-clause-there
give-requires-clause-there c = caller_grain c.args.state.now c.requires.formed c.args.caller.now c.in_ok-from.from.now c.in_ok-from.ensures

pub returns-clause-row : goal.returns-clause-row
returns-clause-row c =
    let from = c.in_ok-from.from.now in
    let Rest = λ (x : Grant). Gives c.args.state.now x.grain (giver.Grant x.num) (target.Bearer c.args.for_sharing) c.args.assignment.now c.args.needs.now c.args.expires in
    carried_more (Rest from) (Child c.args.state.now c.args.caller.now c.args.for_sharing c.args.assignment.now c.args.needs.now c.args.expires)
    (λ step. bearer_passes c.args.state.now c.args.caller.now Rest from step c.in_ok-from.ensures) c.give.result c.give.ensures
