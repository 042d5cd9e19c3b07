-- A worker may cross threads: all workers share the hub, and one may be handed what lies under its lock.
use denote.RattleType.{RattleType}
use denote.Ref.{NamedLft}
use denote.Param.Send.{IsSend, IsSync, sendable, view_send}
use denote.Struct.Field.{row_field}
use denote.Param.SendFields.{as_row_send, declared_send}
use Rattle.std.proofs.Crossing.{crosses, send}
use Rattle.std.specs.declared.sync.Wait as wait
use Rattle.std.specs.declared.sync.ledger.Ledger as ledger
use Rattle.cloud_keeper.specs.declared.keeper.Keeper as keeper
use Rattle.host_base.specs.declared.secrets.Secrets as secrets
use Rattle.host_base.proofs.verdict.Verdict.TheSendSync as verdict
use Rattle.grain_supervise.specs.declared.spawner.Spawner as spawner
use Rattle.host_clock.specs.declared.clock.Clock as clock
use Rattle.site_caps.specs.declared.driver.SiteDriver as driver
use Rattle.site_caps.specs.declared.driver.SiteLaw as law
use Rattle.epoch_gate.specs.declared.book.Named as named
use Rattle.epoch_gate.specs.declared.seat.Placed as placed
use Rattle.epoch_gate.proofs.hub.Hub.TheSendSync as hub
use Rattle.epoch_gate.proofs.pass.Pass.TheSendSync as pass
use Rattle.hub_core.specs.declared.held.Holding as holding
use Rattle.shared_hub.specs.declared.history.Outset.{Outset}
use Rattle.shared_hub.specs.contracts.pass_desk.PassDesk as Desk
use Rattle.shared_hub.proofs.Histories.{SharedHistory-send}
use Rattle.tick_desk.proofs.tick_desk.TickDesk.TheSendSync as tick
use Rattle.hub_jobs.specs.contracts.worker.Worker as Worker

module _ (l : NamedLft) (H C N L R T J K S P W : RattleType) (b : placed.Ghosts N.Denot) (h : holding.Ghosts H.Denot K.Denot S.Denot P.Denot) (k : keeper.Ghosts K.Denot) (s : secrets.Ghosts S.Denot) (p : spawner.Ghosts P.Denot) (d : driver.Ghosts C.Denot W.Denot) (w : law.Ghosts W.Denot)
    (n : named.Ghosts N.Denot (Outset H.Denot C.Denot K.Denot S.Denot P.Denot W.Denot)) (g : ledger.Ghosts L.Denot) (r : wait.Ghosts R.Denot) (m : clock.Ghosts T.Denot) where
  desk_send : IsSync R → IsSend C → IsSend K → IsSend S → IsSend P → IsSend (Desk.the_row l H C N L R K S P W b h k s p d w n g)
  desk_send handle sites kept drawn spawned =
      view_send _ _ _ _ _ (declared_send (Desk.TheInside.the_type l H C N L R K S P W b h k s p d w n g) (
        search (crosses, sendable) depth 20,
        (search (SharedHistory-send, hub.the_sync, crosses, sendable) depth 20, (search (pass.the_send, verdict.the_send, crosses, sendable) depth 20, tt)),
      ))

  pub Worker-send : IsSync R → IsSend C → IsSend K → IsSend S → IsSend P → IsSend T → IsSend J → IsSend (Worker.the_row l H C N L R T J K S P W h k s p d w n b g r m)
  Worker-send handle sites kept drawn spawned told job =
      let desk = desk_send handle sites kept drawn spawned in
      declared_send (Worker.the_type l H C N L R T J K S P W h k s p d w n b g r m) (send, (search (tick.the_send, sendable) depth 8, (as_row_send (row_field J) job, tt)))
