-- What one holds who has the lock may cross threads, where the objects and the drivers of sites may.
use denote.RattleType.{RattleType}
use denote.Param.Send.{IsSend, sendable, view_send}
use denote.Param.SendFields.{declared_send}
use Rattle.std.proofs.Crossing.{Vec-send, crosses}
use Rattle.std.specs.contracts.snapshot.Snapshot as Snapshot
use Rattle.cloud_keeper.specs.declared.keeper.Keeper as keeper
use Rattle.host_base.specs.declared.secrets.Secrets as secrets
use Rattle.grain_supervise.specs.declared.spawner.Spawner as spawner
use Rattle.site_caps.specs.declared.driver.SiteDriver as driver
use Rattle.site_caps.specs.declared.driver.SiteLaw as law
use Rattle.site_caps.proofs.registry.Registry.TheSendSync as registry
use Rattle.live_access.proofs.solution.Solution.TheSendSync as solution
use Rattle.hub_core.proofs.held.Held.TheSendSync as held
use Rattle.hub_core.specs.contracts.history.History as History
use Rattle.hub_core.specs.contracts.locked.Locked as Locked
use Rattle.shared_hub.specs.contracts.history.Outset as Outset
use Rattle.shared_hub.specs.contracts.history.SharedHistory as SharedHistory
use Rattle.shared_hub.proofs.Events.{Event-send}
use Rattle.shared_hub.proofs.States.{State-send}

snapshot_send : (Y : RattleType) → IsSend (Snapshot.the_row Y)
snapshot_send Y = search (sendable, crosses) depth 8

history_send : IsSend History.the_row
history_send =
    view_send _ _ _ _ _ (declared_send History.TheInside.the_type (State-send, (State-send, (solution.the_send, (Vec-send _ Event-send, tt)))))

module _ (H C K S P L : RattleType) (k : keeper.Ghosts K.Denot) (s : secrets.Ghosts S.Denot) (p : spawner.Ghosts P.Denot) (d : driver.Ghosts C.Denot L.Denot) (l : law.Ghosts L.Denot) where
  pub Locked-send : IsSend C → IsSend K → IsSend S → IsSend P → IsSend (Locked.the_row H C K S P L k s p d l)
  Locked-send sites kept drawn spawned =
      view_send _ _ _ _ _ (declared_send (Locked.TheInside.the_type H C K S P L k s p d l) (history_send, (held.the_send H K S P k s p kept drawn spawned, (registry.the_send C L d l sites, tt))))

  Outset-send : IsSend (Outset.the_row H C K S P L k s p d l)
  Outset-send =
      view_send _ _ _ _ _ (declared_send (Outset.TheInside.the_type H C K S P L k s p d l) (snapshot_send (Locked.the_row H C K S P L k s p d l), tt))

  pub SharedHistory-send : IsSend C → IsSend K → IsSend S → IsSend P → IsSend (SharedHistory.the_row H C K S P L k s p d l)
  SharedHistory-send sites kept drawn spawned =
      view_send _ _ _ _ _ (declared_send (SharedHistory.TheInside.the_type H C K S P L k s p d l) (Locked-send sites kept drawn spawned, (Outset-send, tt)))
