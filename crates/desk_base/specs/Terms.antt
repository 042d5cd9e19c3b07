-- The words of the model that desks and hub speak in, each defined in the crate that its line names.
pub use Rattle.app_manifest.specs.declared.manifest.Manifest.{Manifest}
pub use Rattle.host_base.specs.Outside.{Rose}
pub use Rattle.host_base.specs.declared.digest.Digest.{Digest}
pub use Rattle.host_base.specs.declared.ids.AccountId.{AccountId}
pub use Rattle.host_base.specs.declared.ids.AppId.{AppId}
pub use Rattle.host_base.specs.declared.ids.GrainId.{GrainId}
pub use Rattle.host_base.specs.declared.ids.GrantId.{GrantId}
pub use Rattle.host_base.specs.declared.ids.RunId.{RunId}
pub use Rattle.host_base.specs.declared.ids.SessionId.{SessionId}
pub use Rattle.host_base.specs.declared.key.Key.{Key}
pub use Rattle.host_base.specs.declared.verdict.Denial.{Denial}
pub use Rattle.host_base.specs.declared.verdict.Verdict.{Verdict}
pub use Rattle.least_access.specs.Solved.{IsSolutionOf, Table}
pub use Rattle.perm_roles.specs.PermSet.{IsWithin}
pub use Rattle.perm_roles.specs.declared.perm_set.PermSet.{PermSet}
pub use Rattle.perm_roles.specs.declared.roles.Assignment.{Assignment}
pub use Rattle.share_graph.specs.Callers.{entry, LacksEntry}
pub use Rattle.share_graph.specs.Checked.{IsChecked}
pub use Rattle.share_graph.specs.Derivation.{Holds}
pub use Rattle.share_graph.specs.EventFits.{EventFits}
pub use Rattle.share_graph.specs.Fitting.{ForApp, IsSoundManifest, NeedSetFits, SetFits}
pub use Rattle.share_graph.specs.Forms.{answers, found◌or◌then◌, IsOne, must◌or◌then◌, none, some◌of◌or◌then◌}
pub use Rattle.share_graph.specs.Forms.{unless◌then◌else◌, when◌then◌else◌}
pub use Rattle.share_graph.specs.Fresh.{is_handle}
pub use Rattle.share_graph.specs.History.{after, is_open_of, IsOfTables, replay, tables_after}
pub use Rattle.share_graph.specs.Keys.{HasHandle, HasLogin, HasRunToken, IsBearerOf, IsHandleOf, IsLiveRun, IsNoneOf}
pub use Rattle.share_graph.specs.Keys.{IsOneOf}
pub use Rattle.share_graph.specs.Kinds.{HasDigest, IsUnused}
pub use Rattle.share_graph.specs.Known.{HasAccount, HasGrain, KnowsNeed}
pub use Rattle.share_graph.specs.Missing.{IsNode}
pub use Rattle.share_graph.specs.Parents.{IsNoUser, NeedFits}
pub use Rattle.share_graph.specs.Rows.{IsAppOf, IsGrain, IsGrant, row}
pub use Rattle.share_graph.specs.Ways.{IsRootMaker}
pub use Rattle.share_graph.specs.WellFormed.{IsWellFormed}
pub use Rattle.share_graph.specs.declared.desk.Caller.{Caller}
pub use Rattle.share_graph.specs.declared.desk.DeskFault.{DeskFault}
pub use Rattle.share_graph.specs.declared.desk.Made.{Made}
pub use Rattle.share_graph.specs.declared.desk.Offer.{Offer}
pub use Rattle.share_graph.specs.declared.event.Event.{Event}
pub use Rattle.share_graph.specs.declared.facts.Node.{Node}
pub use Rattle.share_graph.specs.declared.fault.Kind.{Kind}
pub use Rattle.share_graph.specs.declared.grants.Giver.{Giver}
pub use Rattle.share_graph.specs.declared.grants.Grant.{Grant}
pub use Rattle.share_graph.specs.declared.grants.Need.{Need}
pub use Rattle.share_graph.specs.declared.grants.Target.{Target}
pub use Rattle.share_graph.specs.declared.refusal.Refusal.{Refusal}
pub use Rattle.share_graph.specs.declared.rows.Account.{Account}
pub use Rattle.share_graph.specs.declared.rows.App.{App}
pub use Rattle.share_graph.specs.declared.rows.Grain.{Grain}
pub use Rattle.share_graph.specs.declared.rows.Saved.{Saved}
pub use Rattle.share_graph.specs.declared.sessions.Handle.{Handle}
pub use Rattle.share_graph.specs.declared.sessions.Root.{Root}
pub use Rattle.share_graph.specs.declared.sessions.Run.{Run}
pub use Rattle.share_graph.specs.declared.sessions.Session.{Session}
pub use Rattle.share_graph.specs.declared.state.State.{State}
pub use Rattle.share_graph.specs.declared.state.Tables.{Tables}
