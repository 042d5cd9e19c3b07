-- The tables and the state may cross threads, as each of their rows may.
use denote.Param.Send.{IsSend, sendable}
use denote.Param.SendFields.{declared_send}
use Rattle.share_graph.specs.contracts.state.State as State
use Rattle.share_graph.specs.contracts.state.Tables as Tables
use Rattle.share_graph.proofs.grants.Grant.TheSendSync as grant
use Rattle.share_graph.proofs.row_list.Rows.TheSendSync as rows
use Rattle.share_graph.proofs.rows.Account.TheSendSync as account
use Rattle.share_graph.proofs.rows.Grain.TheSendSync as grain
use Rattle.share_graph.proofs.rows.Saved.TheSendSync as saved
use Rattle.share_graph.proofs.sessions.Handle.TheSendSync as handle
use Rattle.share_graph.proofs.sessions.Run.TheSendSync as run
use Rattle.share_graph.proofs.sessions.Session.TheSendSync as session
use Rattle.shared_hub.proofs.Manifests.{App-send}

tables_send : IsSend Tables.the_row
tables_send =
    declared_send Tables.the_type (
      rows.the_send _ _ account.the_send,
      (rows.the_send _ _ App-send, (rows.the_send _ _ grain.the_send, (rows.the_send _ _ grant.the_send, (rows.the_send _ _ saved.the_send, (search sendable depth 5, tt))))),
    )

pub State-send : IsSend State.the_row
State-send =
    declared_send State.the_type (
      tables_send,
      (rows.the_send _ _ session.the_send, (rows.the_send _ _ run.the_send, (rows.the_send _ _ handle.the_send, tt))),
    )
