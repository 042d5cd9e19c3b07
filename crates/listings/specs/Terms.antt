-- The words that the definitions here speak in, each defined in the crate that its line names.
pub use Rattle.desk_base.specs.Calling.{IsCaller}
pub use Rattle.desk_base.specs.Made.{nothing_made}
pub use Rattle.desk_base.specs.Steps.{Keeps, Step}
pub use Rattle.desk_base.specs.Terms.{Account, AccountId, answers, App, AppId, Caller, Giver, Grain, GrainId, Grant, GrantId, Holds, IsGrain, IsGrant, IsLiveRun, IsNoneOf, IsOneOf, Node, PermSet, Run, State, Tables, Target}
pub use Rattle.desk_base.specs.Wording.{by_account, known_grain, secret_of}
pub use Rattle.listings.specs.declared.asking.{Page.Page, Subject.Subject}
pub use Rattle.listings.specs.declared.line.{AccountLine.AccountLine, AppLine.AppLine, GivenTo.GivenTo, GrainLine.GrainLine, GrantLine.GrantLine, RoleLine.RoleLine}
pub use Rattle.perm_roles.specs.PermSet.{Has}
pub use Rattle.perm_roles.specs.declared.roles.Role.{Role}
pub use Rattle.report_desk.specs.Reasons.{IsPassing}
pub use Rattle.session_table.specs.Naming.{AreNamesOf}
pub use Rattle.share_graph.specs.Rows.{IsAccount, IsAppOf}
