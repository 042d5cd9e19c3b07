-- An event may cross threads, as what each of its variants has may.
use denote.Param.Send.{IsSend, sendable}
use denote.Param.SendFields.{variants_send}
use Rattle.host_base.proofs.digest.Digest.TheSendSync as digest
use Rattle.host_base.proofs.ids.AccountId.TheSendSync as account_id
use Rattle.host_base.proofs.ids.AppId.TheSendSync as app_id
use Rattle.host_base.proofs.ids.GrainId.TheSendSync as grain_id
use Rattle.host_base.proofs.ids.GrantId.TheSendSync as grant_id
use Rattle.host_base.proofs.ids.SavedId.TheSendSync as saved_id
use Rattle.host_base.proofs.ids.RunId.TheSendSync as run_id
use Rattle.host_base.proofs.ids.SessionId.TheSendSync as session_id
use Rattle.share_graph.specs.contracts.event.Event as Event
use Rattle.share_graph.proofs.rows.Account.TheSendSync as account
use Rattle.share_graph.proofs.rows.Grain.TheSendSync as grain
use Rattle.share_graph.proofs.rows.Saved.TheSendSync as saved
use Rattle.share_graph.proofs.grants.Grant.TheSendSync as grant
use Rattle.share_graph.proofs.sessions.Session.TheSendSync as session
use Rattle.share_graph.proofs.sessions.Run.TheSendSync as run
use Rattle.share_graph.proofs.sessions.Handle.TheSendSync as handle
use Rattle.shared_hub.proofs.Manifests.{App-send, Manifest-send}

pub Event-send : IsSend Event.the_row
Event-send =
    variants_send Event.enum (
      (account.the_send, tt),
      (
        (App-send, tt),
        (
          (app_id.the_send, (Manifest-send, tt)),
          (
            (grain.the_send, tt),
            (
              (grant.the_send, tt),
              (
                (saved.the_send, tt),
                (
                  (account_id.the_send, (search sendable depth 5, tt)),
                  (
                    (account_id.the_send, (search sendable depth 5, tt)),
                    (
                      (account_id.the_send, (digest.the_send, tt)),
                      (
                        (grain_id.the_send, (search sendable depth 5, tt)),
                        (
                          (grant_id.the_send, tt),
                          (
                            (grant.the_send, (handle.the_send, tt)),
                            (
                              (saved_id.the_send, tt),
                              (
                                (run.the_send, tt),
                                (
                                  (run_id.the_send, tt),
                                  (
                                    (session.the_send, tt),
                                    (
                                      (session_id.the_send, tt),
                                      ((handle.the_send, tt), ((search sendable depth 5, tt), tt)),
                                    ),
                                  ),
                                ),
                              ),
                            ),
                          ),
                        ),
                      ),
                    ),
                  ),
                ),
              ),
            ),
          ),
        ),
      ),
    )
