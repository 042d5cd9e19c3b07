use Rattle.std.proofs.Common.{ap, inl, inr, refl, rules}
use Rattle.share_graph.specs.declared.facts.Node.TheVariants as node
use Rattle.share_graph.specs.declared.grants.Giver.TheVariants as giver
use Rattle.share_graph.specs.declared.grants.Target.TheVariants as target
use Rattle.desk_base.specs.Steps.{Refuses}
use Rattle.desk_base.proofs.Stopped.{refused, carried_more}
use Rattle.desk_base.proofs.Words.{listed_account, lacking}
use Rattle.share_desk.specs.Commands.{Gives, Share}
use Rattle.share_desk.proofs.sharing.share.Goals as goal

pub returns-in_err-known_account-clause-row : goal.returns-in_err-known_account-clause-row
returns-in_err-known_account-clause-row c =
    refused (Share c.args.state.now c.args.caller.now c.args.num c.args.to c.args.assignment.now c.args.needs.now c.args.expires) c.from_residual-in_err-known_account.result c.in_err-known_account.field-0.0 c.from_residual-in_err-known_account.ensures.1
    (inr (_, c.in_ok-from.ensures.one, inr (c.in_ok-from.ensures.enabled, inr (_, c.in_ok-known_grain.ensures, inl (ap Refuses c.in_err-known_account.ensures.0, c.in_err-known_account.ensures.1)))))

pub has_entry-requires-clause-there : goal.has_entry-requires-clause-there
has_entry-requires-clause-there c =
    ((_, c.in_ok-known_grain.ensures), listed_account c.args.state.now c.requires.formed c.in_ok-from.from.now c.in_ok-from.ensures.one.listed)

pub returns-in_err-has_entry-clause-row : goal.returns-in_err-has_entry-clause-row
returns-in_err-has_entry-clause-row c =
    refused (Share c.args.state.now c.args.caller.now c.args.num c.args.to c.args.assignment.now c.args.needs.now c.args.expires) c.from_residual-in_err-has_entry.result c.in_err-has_entry.field-0.0 c.from_residual-in_err-has_entry.ensures.1
    (inr (_, c.in_ok-from.ensures.one, inr (c.in_ok-from.ensures.enabled, inr (_, c.in_ok-known_grain.ensures, inr (_, c.in_ok-known_account.ensures, inl (lacking c.args.state.now.tables (node.User c.args.num c.in_ok-from.from.now.num) c.in_err-has_entry.field-0.0 c.in_err-has_entry.ensures))))))

pub returns-then-eq-clause-row : goal.returns-then-eq-clause-row
returns-then-eq-clause-row c = inr (_, c.in_ok-from.ensures.one, inr (c.in_ok-from.ensures.enabled, inr (_, c.in_ok-known_grain.ensures, inr (_, c.in_ok-known_account.ensures, inr (c.in_ok-has_entry.ensures, inl (refl, search rules))))))

pub returns-clause-row : goal.returns-clause-row
returns-clause-row c =
    carried_more (Gives c.args.state.now c.args.num (giver.Account c.in_ok-from.from.now.num) (target.User c.args.to) c.args.assignment.now c.args.needs.now c.args.expires) (Share c.args.state.now c.args.caller.now c.args.num c.args.to c.args.assignment.now c.args.needs.now c.args.expires)
    (λ step is. inr (_, c.in_ok-from.ensures.one, inr (c.in_ok-from.ensures.enabled, inr (_, c.in_ok-known_grain.ensures, inr (_, c.in_ok-known_account.ensures, inr (c.in_ok-has_entry.ensures, inr (search rules, is)))))))
    c.give.result c.give.ensures
