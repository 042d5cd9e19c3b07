-- The words that the definitions here speak in, each defined in the crate that its line names.
pub use Rattle.access_report.specs.Entries.{HaveAccess, IsOn}
pub use Rattle.access_report.specs.Explaining.{Explains}
pub use Rattle.access_report.specs.Losses.{AreLosses}
pub use Rattle.access_report.specs.declared.{entry.Entry.Entry, loss.Loss.Loss, step.Step.Step as ProofStep}
pub use Rattle.desk_base.specs.Made.{nothing_made}
pub use Rattle.desk_base.specs.Steps.{Keeps, Refuses, Step}
pub use Rattle.desk_base.specs.Terms.{Account, AccountId, answers, Caller, GrainId, Grain, Grant, GrantId, IsAppOf, IsGrant, Node, State, Tables, unless◌then◌else◌}
pub use Rattle.desk_base.specs.Wording.{by_account, known_account, known_grain, known_grant}
pub use Rattle.least_access.specs.Held.{IsIn}
pub use Rattle.least_access.specs.declared.held.Held.{Held}
pub use Rattle.perm_roles.specs.declared.perm_set.PermSet.{PermSet}
pub use Rattle.perm_roles.specs.declared.roles.{Assignment.Assignment, Base.Base, Role.Role}
pub use Rattle.report_desk.specs.declared.{holder.Holder.Holder, holder.ReportLine.ReportLine, passing.GivenAs.GivenAs, passing.GivenBy.GivenBy, passing.Passing.Passing, step.ReasonStep.ReasonStep}
pub use Rattle.session_table.specs.Naming.{AreNamesOf}
pub use Rattle.share_desk.specs.Rows.{MayRevoke}
pub use Rattle.share_graph.specs.declared.facts.Fact.{Fact}
pub use Rattle.share_graph.specs.declared.grants.Giver.{Giver}
pub use Rattle.share_graph.specs.declared.rows.App.{App}
