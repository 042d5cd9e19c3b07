-- The history of a server: what accepted commands did, and the state after them.
use Rattle.std.specs.Prelude.{Bool, false, ◌&&◌, ◌==◌, not, nat_lt, List, [], ◌∷◌, ◌++◌, count_by, if◌then◌else◌}
use Rattle.share_graph.specs.declared.event.Event.{Event}
use Rattle.share_graph.specs.declared.event.Event.TheVariants as event
use Rattle.share_graph.specs.declared.sessions.Root.{Root}
use Rattle.share_graph.specs.declared.sessions.Root.TheVariants as root
use Rattle.share_graph.specs.declared.sessions.Session.{Session}
use Rattle.share_graph.specs.declared.state.State.{State}
use Rattle.share_graph.specs.declared.state.Tables.{Tables}
use Rattle.share_graph.specs.Changing.{change_row}
use Rattle.share_graph.specs.Revoking.{revoke_in}
use Rattle.share_graph.specs.Setting.{with_admin, with_enabled, with_login, with_manifest, with_trashed, dropped, stopped, closed}

abbrev pub is_same_root : Root → Root → Bool
is_same_root (root.Account a) (root.Account b) = a.0 == b.0
is_same_root (root.Grant g) (root.Grant h) = g.0 == h.0
is_same_root (root.Account a) (root.Grant h) = false
is_same_root (root.Grant g) (root.Account b) = false

-- the session is open, and has that root
abbrev pub is_open_of : Root → Session → Bool
is_open_of root session = not session.closed && is_same_root root session.root

-- the first open session of the root is closed
abbrev pub close_first : Root → List Session → List Session
close_first root [] = []
close_first root (session ∷ sessions) = if is_open_of root session then closed session ∷ sessions else session ∷ close_first root sessions

-- a session is opened; where its root then has more than 32 open ones, the first of them is closed
abbrev pub opened : List Session → Session → List Session
opened sessions session =
    let all = sessions ++ session ∷ [] in
    if nat_lt 32 (count_by (is_open_of session.root) all) then close_first session.root all else all

-- the tables after an event
abbrev pub tables_after : Tables → Event → Tables
tables_after t (event.AccountAdded account) = record t { accounts = t.accounts ++ account ∷ [] }
tables_after t (event.AppAdded app) = record t { apps = t.apps ++ app ∷ [] }
tables_after t (event.AppUpgraded p manifest) = record t { apps = change_row (with_manifest manifest) t.apps p.0 }
tables_after t (event.GrainAdded grain) = record t { grains = t.grains ++ grain ∷ [] }
tables_after t (event.GrantAdded grant) = record t { grants = t.grants ++ grant ∷ [] }
tables_after t (event.SavedAdded saved) = record t { saved = t.saved ++ saved ∷ [] }
tables_after t (event.AdminSet a on) = record t { accounts = change_row (with_admin on) t.accounts a.0 }
tables_after t (event.EnabledSet a on) = record t { accounts = change_row (with_enabled on) t.accounts a.0 }
tables_after t (event.LoginSet a login) = record t { accounts = change_row (with_login login) t.accounts a.0 }
tables_after t (event.TrashedSet n on) = record t { grains = change_row (with_trashed on) t.grains n.0 }
tables_after t (event.GrantRevoked g) = revoke_in t g
tables_after t (event.Claimed grant handle) = record t { grants = t.grants ++ grant ∷ [] }
tables_after t (event.SavedDropped v) = record t { saved = change_row dropped t.saved v.0 }
tables_after t (event.RunStarted run) = t
tables_after t (event.RunStopped r) = t
tables_after t (event.SessionOpened session) = t
tables_after t (event.SessionClosed n) = t
tables_after t (event.HandleMade handle) = t
tables_after t (event.Ticked m) = record t { moment = m }

-- THE STEP of the machine: the state after an event
abbrev pub after : State → Event → State
after s (event.AccountAdded account) = record s { tables = tables_after s.tables (event.AccountAdded account) }
after s (event.AppAdded app) = record s { tables = tables_after s.tables (event.AppAdded app) }
after s (event.AppUpgraded p manifest) = record s { tables = tables_after s.tables (event.AppUpgraded p manifest) }
after s (event.GrainAdded grain) = record s { tables = tables_after s.tables (event.GrainAdded grain) }
after s (event.GrantAdded grant) = record s { tables = tables_after s.tables (event.GrantAdded grant) }
after s (event.SavedAdded saved) = record s { tables = tables_after s.tables (event.SavedAdded saved) }
after s (event.AdminSet a on) = record s { tables = tables_after s.tables (event.AdminSet a on) }
after s (event.EnabledSet a on) = record s { tables = tables_after s.tables (event.EnabledSet a on) }
after s (event.LoginSet a login) = record s { tables = tables_after s.tables (event.LoginSet a login) }
after s (event.TrashedSet n on) = record s { tables = tables_after s.tables (event.TrashedSet n on) }
after s (event.GrantRevoked g) = record s { tables = tables_after s.tables (event.GrantRevoked g) }
after s (event.SavedDropped v) = record s { tables = tables_after s.tables (event.SavedDropped v) }
after s (event.Claimed grant handle) = record s { tables = tables_after s.tables (event.Claimed grant handle); handles = s.handles ++ handle ∷ [] }
after s (event.RunStarted run) = record s { runs = s.runs ++ run ∷ [] }
after s (event.RunStopped r) = record s { runs = change_row stopped s.runs r.0 }
after s (event.SessionOpened session) = record s { sessions = opened s.sessions session }
after s (event.SessionClosed n) = record s { sessions = change_row closed s.sessions n.0 }
after s (event.HandleMade handle) = record s { handles = s.handles ++ handle ∷ [] }
after s (event.Ticked m) = record s { tables = tables_after s.tables (event.Ticked m) }

-- the state after a list of events
abbrev pub replay : State → List Event → State
replay s [] = s
replay s (event ∷ events) = replay (after s event) events

-- the event starts a run or stops one: then it is the spawner's to do
abbrev pub IsOfRuns : Event → Type 0
IsOfRuns (event.RunStarted run) = Unit {0}
IsOfRuns (event.RunStopped r) = Unit {0}
IsOfRuns _ = ⊥

-- the event adds or changes a row of the tables: then it is the keeper's to store
abbrev pub IsOfTables : Event → Type 0
IsOfTables (event.RunStarted run) = ⊥
IsOfTables (event.RunStopped r) = ⊥
IsOfTables (event.SessionOpened session) = ⊥
IsOfTables (event.SessionClosed n) = ⊥
IsOfTables (event.HandleMade handle) = ⊥
IsOfTables (event.Ticked m) = ⊥
IsOfTables _ = Unit {0}
