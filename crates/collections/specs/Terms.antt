-- The words that the definitions here speak in, each defined in the crate that its line names.
pub use Rattle.desk_base.specs.Calling.{IsCaller}
pub use Rattle.desk_base.specs.Made.{nothing_made}
pub use Rattle.desk_base.specs.Steps.{Keeps, Refuses, Step}
pub use Rattle.desk_base.specs.Terms.{Account, AccountId, answers, Caller, GrainId, Grant, GrantId, Holds, IsGrant, Need, Node, State, Tables, unless◌then◌else◌}
pub use Rattle.desk_base.specs.Wording.{access◌of◌then◌, by_account, known_account, known_grain, known_grant, secret_of}
pub use Rattle.share_desk.specs.Commands.{Share}
pub use Rattle.share_graph.specs.Derivation.{Follows}
pub use Rattle.share_graph.specs.Nodes.{node_of}
pub use Rattle.share_graph.specs.declared.facts.Fact.{Fact}
