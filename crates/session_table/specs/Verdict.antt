-- The verdict on a key.
use Rattle.std.specs.Prelude.{◌≡◌, ℕ, List, Option, slice_get, option_map, true}
use Rattle.std.specs.List.{filter_map}
use Rattle.host_base.specs.declared.ids.GrantId.{GrantId}
use Rattle.host_base.specs.declared.key.Key.{Key}
use Rattle.host_base.specs.declared.key.Key.TheVariants as key
use Rattle.host_base.specs.declared.permit.Permit.{Permit}
use Rattle.host_base.specs.declared.verdict.Denial.TheVariants as denial
use Rattle.host_base.specs.declared.verdict.Verdict.{Verdict}
use Rattle.host_base.specs.declared.verdict.Verdict.TheVariants as verdict
use Rattle.share_graph.specs.declared.facts.Node.TheVariants as node
use Rattle.share_graph.specs.declared.grants.Grant.{Grant}
use Rattle.share_graph.specs.declared.rows.App.{App}
use Rattle.share_graph.specs.declared.sessions.Run.{Run}
use Rattle.share_graph.specs.declared.state.State.{State}
use Rattle.share_graph.specs.declared.ways.Origin.{Origin}
use Rattle.share_graph.specs.declared.ways.Origin.TheVariants as origin
use Rattle.share_graph.specs.Callers.{entry, by_run}
use Rattle.share_graph.specs.Derivation.{IsAccess}
use Rattle.share_graph.specs.Forms.{answers, when◌then◌else◌, some◌of◌or◌then◌}
use Rattle.share_graph.specs.Keys.{HasKey, IsBearerOf, IsHandleOf, IsLiveRun}
use Rattle.share_graph.specs.Rows.{IsAppOf, IsGrant}
use Rattle.share_graph.specs.Ways.{IsOrigin}
use Rattle.session_table.specs.Standing.{Standing, behind_session, behind_grant, node_behind, IsShownFor}

-- the names at these positions of the application's list
abbrev pub name_at : App → ℕ → Option (List ℕ)
name_at app p = option_map (λ permission. permission.name) (slice_get app.manifest.permissions p)

abbrev pub names_at : App → List ℕ → List (List ℕ)
names_at app held = filter_map (name_at app) held

-- Where requests go and with what: to the run, with the names of the permissions held, in the application's order, shown as who
-- stands there, and with the mark of a session's tab.
pub record IsPermit (s : State) (standing : Standing) (run : Run) (permit : Permit) : Type 0 where
  pub held : List ℕ
  pub app : App
  pub access : IsAccess s.tables (node_behind standing) held
  pub is_app : IsAppOf s.tables standing.grain app
  pub run_is : permit.run ≡ run.num
  pub grain_is : permit.grain ≡ standing.grain
  pub names_are : permit.names ≡ names_at app held
  pub shown_is : IsShownFor s.tables standing.root permit.shown
  pub tab_is : permit.tab ≡ standing.tab

-- requests are forwarded, with a permit
abbrev pub Goes : State → Standing → Run → Verdict → Type 0
Goes s standing run v = (permit : Permit) × (v ≡ verdict.Forward permit) × IsPermit s standing run permit

-- The verdict on who stands behind a good key: the first step that is missing for entry; else that the grain has no live run; else
-- where requests go.
abbrev pub Stands : State → Standing → Verdict → Type 0
Stands s standing =
    entry verdict.Deny s.tables (node_behind standing) (
    some IsLiveRun standing.grain of s.runs or verdict.Deny (denial.GrainStopped standing.grain) then λ run.
    Goes s standing run)

-- The verdict on a grant of which the way ends there: as above at an account; at the site, the first step that is missing, else the
-- item of the site.
abbrev pub VerdictAtEnd : State → GrantId → Grant → Origin → Verdict → Type 0
VerdictAtEnd s g grant (origin.Account a) = Stands s (behind_grant g grant)
VerdictAtEnd s g grant (origin.Site by tag item) = entry verdict.Deny s.tables (node.Grant g) (answers (verdict.Site tag item))

-- the verdict on the grant of a good handle
abbrev pub Reaches : State → GrantId → Verdict → Type 0
Reaches s g v = (grant : Grant) × (end : Origin) × IsGrant s.tables g grant × IsOrigin s.tables g end × VerdictAtEnd s g grant end v

-- THE VERDICT on a key of a session, a bearer's token, or a handle of a run
abbrev pub IsVerdict : State → Key → Verdict → Type 0
IsVerdict s (key.Session d) =
    some HasKey d of s.sessions or verdict.Deny denial.UnknownKey then λ session.
    when session.closed ≡ true then verdict.Deny (denial.SessionClosed session.num) else
    Stands s (behind_session session)
IsVerdict s (key.Bearer d) =
    some IsBearerOf d of s.tables.grants or verdict.Deny denial.UnknownKey then λ grant.
    Stands s (behind_grant grant.num grant)
IsVerdict s (key.Handle d n) =
    by_run verdict.Deny s d λ run.
    some IsHandleOf run.num n of s.handles or verdict.Deny denial.UnknownKey then λ handle.
    Reaches s handle.grant
