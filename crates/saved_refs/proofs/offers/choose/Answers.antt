use Rattle.desk_base.proofs.Stopped.{loosely, refused, carried_more}
use Rattle.desk_base.proofs.Words.{listed_account, on_calls, on_refused}
use Rattle.saved_refs.specs.Commands.{Choose, ChooseGrain, ChooseSite, ChooseOffer}
use Rattle.saved_refs.proofs.offers.choose.Goals as goal

pub returns-in_err-account-clause-row : goal.returns-in_err-account-clause-row
returns-in_err-account-clause-row c =
    refused (Choose c.args.state.now c.args.caller.now c.args.num c.args.offer.now c.args.query.now c.args.assignment.now c.args.found) c.from_residual.result c.in_err-account.field-0.0 c.from_residual.ensures.1
    (on_refused c.args.state.now c.args.caller.now c.args.num (λ account. ChooseOffer c.args.state.now c.args.num c.args.offer.now c.args.query.now c.args.assignment.now c.args.found account.num) c.in_err-account.field-0.0 c.in_err-account.ensures)

pub choose_grain-requires-clause-there : goal.choose_grain-requires-clause-there
choose_grain-requires-clause-there c = listed_account c.args.state.now c.requires.formed c.in_ok-account.account.now c.in_ok-account.ensures.caller.one.listed

pub returns-in-Grain-clause-row : goal.returns-in-Grain-clause-row
returns-in-Grain-clause-row c =
    let account = c.in_ok-account.account.now in
    let Row = ChooseGrain c.args.state.now c.args.num c.in-Grain.other c.args.query.now c.args.assignment.now account.num in
    carried_more Row (Choose c.args.state.now c.args.caller.now c.args.num c.args.offer.now c.args.query.now c.args.assignment.now c.args.found) (λ step is. on_calls c.args.state.now c.args.caller.now c.args.num (λ account. ChooseOffer c.args.state.now c.args.num c.args.offer.now c.args.query.now c.args.assignment.now c.args.found account.num) account step c.in_ok-account.ensures (rw c.in-Grain.is is)) _ (loosely Row _ c.choose_grain.ensures)

pub returns-in-Site-clause-row : goal.returns-in-Site-clause-row
returns-in-Site-clause-row c =
    let account = c.in_ok-account.account.now in
    carried_more (ChooseSite c.args.state.now c.args.num c.in-Site.tag c.in-Site.item c.args.found account.num) (Choose c.args.state.now c.args.caller.now c.args.num c.args.offer.now c.args.query.now c.args.assignment.now c.args.found) (λ step is. on_calls c.args.state.now c.args.caller.now c.args.num (λ account. ChooseOffer c.args.state.now c.args.num c.args.offer.now c.args.query.now c.args.assignment.now c.args.found account.num) account step c.in_ok-account.ensures (rw c.in-Site.is is)) _ c.choose_site.ensures
