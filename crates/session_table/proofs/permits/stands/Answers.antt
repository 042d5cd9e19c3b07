use Rattle.std.proofs.Common.{refl, inl, inr}
use Rattle.share_graph.proofs.MissingOne.{none_held}
use Rattle.session_table.specs.Standing.{node_on}
use Rattle.session_table.proofs.permits.stands.Goals as goal

pub returns-in-Some : goal.returns-in-Some
returns-in-Some c = inl (c.in-Some.reason, refl, rw c.node_on.ensures at c.in-Some.ensures.missing)

pub permit_of-requires-clause-entry : goal.permit_of-requires-clause-entry
permit_of-requires-clause-entry c = none_held c.args.state.now.tables (node_on c.args.num c.args.root) (rw c.node_on.ensures at c.in_default.ensures.missing)

pub returns-in_default-live_run : goal.returns-in_default-live_run
returns-in_default-live_run c =
    inr (none_held c.args.state.now.tables (node_on c.args.num c.args.root) (rw c.node_on.ensures at c.in_default.ensures.missing), inl (refl, c.in_default-live_run.ensures))

pub returns : goal.returns
returns c =
    inr (
      none_held c.args.state.now.tables (node_on c.args.num c.args.root) (rw c.node_on.ensures at c.in_default.ensures.missing),
      inr (c.in-Some-live_run.run'.now, c.in-Some-live_run.ensures, (c.in_ok-permit.permit, refl, c.in_ok-permit.ensures)),
    )
