-- The words that the definitions here speak in, each defined in the crate that its line names.
pub use Rattle.cloud_keeper.specs.Keeping.{Keeping, LeavesAsBefore, LeavesItsRows, put, TheRowsAfter}
pub use Rattle.cloud_keeper.specs.declared.row.Row.{Row}
pub use Rattle.desk_base.specs.Terms.{after, App, AppId, Denial, Event, EventFits, GrainId, Grant, GrantId, Handle, HasRunToken, IsAppOf, IsBearerOf, IsHandleOf, IsOfTables, IsOneOf, IsWellFormed, Key, Made, Node, replay, Rose, row, Run, RunId, Session, State, Tables, tables_after, Verdict}
pub use Rattle.desk_orders.specs.Answers.{AcceptsWith, IsAnswer}
pub use Rattle.desk_orders.specs.Commands.{Asked}
pub use Rattle.desk_orders.specs.Secrets.{DrawsAll, secret_text, text_digest}
pub use Rattle.desk_orders.specs.Sites.{IsFoundBy}
pub use Rattle.desk_orders.specs.declared.reply.OrderFault.{OrderFault}
pub use Rattle.desk_orders.specs.declared.reply.Reply.{Reply}
pub use Rattle.grain_supervise.specs.Spawning.{Spawns}
pub use Rattle.grain_supervise.specs.declared.start.Start.{Start}
pub use Rattle.host_base.specs.Drawing.{Drawer}
pub use Rattle.host_base.specs.declared.permit.Permit.{Permit}
pub use Rattle.live_access.specs.Kept.{IsSolvedFor, Kept}
pub use Rattle.region_access.specs.Seeds.{EndsBy}
pub use Rattle.row_tables.specs.Checks.{GivesTables, IsBadRow}
pub use Rattle.row_tables.specs.Kept.{AreRowsOf, IsStored, with_row}
pub use Rattle.row_tables.specs.RowAfter.{row_after}
pub use Rattle.row_tables.specs.declared.stored.BadRow.{BadRow}
pub use Rattle.session_table.specs.Standing.{behind_session, node_behind}
pub use Rattle.session_table.specs.Verdict.{IsVerdict, names_at}
pub use Rattle.share_graph.specs.Derivation.{Derivation, HoldsWithout, Uses}
pub use Rattle.share_graph.specs.History.{IsOfRuns}
pub use Rattle.share_graph.specs.Keys.{HasKey}
pub use Rattle.share_graph.specs.declared.facts.Fact.TheVariants.{Open, Perm}
pub use Rattle.site_caps.specs.Law.{Law}
pub use Rattle.state_step.specs.Losing.{LeavesTheRest, RevokesExactly, ShutsOut}
