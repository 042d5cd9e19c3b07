use Rattle.std.proofs.Common.{inl, inr, refl, rules}
use Rattle.std.proofs.lemmas.Bool.{false≢true}
use Rattle.desk_base.specs.Outcomes.{step_of}
use Rattle.desk_base.proofs.Stopped.{stopped}
use Rattle.share_graph.specs.declared.facts.Node.TheVariants as node
use Rattle.desk_base.proofs.Words.{lacking}
use Rattle.saved_refs.specs.Commands.{ChooseGrain}
use Rattle.saved_refs.proofs.offers.choose_grain.Goals as goal

pub returns-in_err-has_entry : goal.returns-in_err-has_entry
returns-in_err-has_entry c =
    stopped (ChooseGrain c.args.state.now c.args.num c.args.other c.args.query.now c.args.assignment.now c.args.by) step_of c.from_residual.result c.in_err-has_entry.field-0.0 c.from_residual.ensures.1
    (inr (search rules, inr (_, (c.if-not-has_grain.ensures.0 refl).1, inl (lacking c.args.state.now.tables (node.User c.args.other c.args.by) c.in_err-has_entry.field-0.0 c.in_err-has_entry.ensures))))

pub returns-then-not-has_match : goal.returns-then-not-has_match
returns-then-not-has_match c = inr (search rules, inr (_, (c.if-not-has_grain.ensures.0 refl).1, inr (c.in_ok-has_entry.ensures, inl (refl, λ matches. false≢true (c.if-not-has_match.ensures.1 matches)))))

pub returns-in_err-given_role : goal.returns-in_err-given_role
returns-in_err-given_role c =
    stopped (ChooseGrain c.args.state.now c.args.num c.args.other c.args.query.now c.args.assignment.now c.args.by) step_of c.from_residual-in_err-given_role.result c.in_err-given_role.field-0.0 c.from_residual-in_err-given_role.ensures.1
    (inr (search rules, inr (_, (c.if-not-has_grain.ensures.0 refl).1, inr (c.in_ok-has_entry.ensures, inr (c.if-not-has_match.ensures.0 refl, inl (_, refl, c.in_err-given_role.ensures))))))

pub returns-in_err-has_grant_room : goal.returns-in_err-has_grant_room
returns-in_err-has_grant_room c =
    stopped (ChooseGrain c.args.state.now c.args.num c.args.other c.args.query.now c.args.assignment.now c.args.by) step_of c.from_residual-in_err-has_grant_room.result c.in_err-has_grant_room.field-0.0 c.from_residual-in_err-has_grant_room.ensures.1
    (inr (search rules, inr (_, (c.if-not-has_grain.ensures.0 refl).1, inr (c.in_ok-has_entry.ensures, inr (c.if-not-has_match.ensures.0 refl, inr (c.in_ok-given_role.ensures, inl (_, refl, c.in_err-has_grant_room.ensures)))))))

pub returns : goal.returns
returns c = rw (c.draft_grant.ensures, c.empty-needs.ensures) (inr (search rules, inr (_, (c.if-not-has_grain.ensures.0 refl).1, inr (c.in_ok-has_entry.ensures, inr (c.if-not-has_match.ensures.0 refl, inr (c.in_ok-given_role.ensures, inr (refl, c.in_ok-has_grant_room.ensures)))))))
