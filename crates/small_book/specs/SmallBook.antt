-- The small book that a server without a keeper begins with.
use Rattle.std.specs.Prelude.{ℕ, ◌++◌, Bool, true, false, List, [], ◌∷◌, None, codes}
use Rattle.sha2.specs.Sha256.{sha256}
use Rattle.app_manifest.specs.Draft.{RoleDraft, ManifestDraft}
use Rattle.app_manifest.specs.Manifest.{manifest_of}
use Rattle.app_manifest.specs.declared.manifest.PermissionDef.{PermissionDef}
use Rattle.perm_roles.specs.PermSet.{no_permissions}
use Rattle.perm_roles.specs.declared.roles.Base.{Base}
use Rattle.perm_roles.specs.declared.roles.Base.TheVariants as base
use Rattle.powerbox_match.specs.Descriptor.{DescriptorData}
use Rattle.powerbox_match.specs.Value.{any}
use Rattle.powerbox_match.specs.declared.value.Quality.TheVariants as quality
use Rattle.share_graph.specs.declared.grants.Giver.TheVariants as giver
use Rattle.share_graph.specs.declared.grants.Grant.{Grant}
use Rattle.share_graph.specs.declared.grants.Target.TheVariants as target
use Rattle.share_graph.specs.declared.rows.Account.{Account}
use Rattle.share_graph.specs.declared.rows.App.{App}
use Rattle.share_graph.specs.declared.rows.Grain.{Grain}
use Rattle.share_graph.specs.declared.sessions.Root.TheVariants as root
use Rattle.share_graph.specs.declared.sessions.Run.{Run}
use Rattle.share_graph.specs.declared.sessions.Session.{Session}
use Rattle.share_graph.specs.declared.state.State.{State}

-- an enabled account with a login's text
abbrev pub account_row : ℕ → List ℕ → List ℕ → List ℕ → Bool → Account
account_row num handle name login admin =
    record { num = record { 0 = num }; handle = handle; name = name; login = record { 0 = sha256 login }; admin = admin; enabled = true }

abbrev pub ada : Account
ada = account_row 1 (codes "ada") (codes "Ada Holm") (codes "AQEBAQEBAQEBAQEBAQEBAQEBAQEBAQEBAQEBAQEBAQE") true

abbrev pub zoe : Account
zoe = account_row 2 (codes "zoe") (codes "Zo" ++ 195 ∷ 171 ∷ codes " K.") (codes "AgICAgICAgICAgICAgICAgICAgICAgICAgICAgICAgI") false

abbrev pub ben : Account
ben = account_row 3 (codes "ben") (codes "Ben Roy") (codes "AwMDAwMDAwMDAwMDAwMDAwMDAwMDAwMDAwMDAwMDAwM") false

abbrev pub dan : Account
dan = account_row 4 (codes "dan") (codes "Dan Ito") (codes "BAQEBAQEBAQEBAQEBAQEBAQEBAQEBAQEBAQEBAQEBAQ") false

-- ada, who is an admin, and three others
abbrev pub small_accounts : List Account
small_accounts = ada ∷ zoe ∷ ben ∷ dan ∷ []

-- a permission whose title is its name
abbrev pub permission_row : List ℕ → PermissionDef
permission_row name = record { name = name; title = name; description = []; obsolete = false }

-- a role without a verb phrase
abbrev pub role_draft : List ℕ → List Bool → Bool → RoleDraft
role_draft title list default = record { title = title; verb = []; list = list; default = default; obsolete = false }

-- the offer of anything under an id
abbrev pub offer : ℕ → DescriptorData
offer id = record { tags = (id, any) ∷ []; quality = quality.Acceptable }

-- Notes: a reader views, a writer views and edits, and it offers anything under the id 7
abbrev pub notes : ManifestDraft
notes = record {
  title = codes "Notes";
  version = 1;
  permissions = permission_row (codes "view") ∷ permission_row (codes "edit") ∷ permission_row (codes "manage") ∷ [];
  roles = role_draft (codes "reader") (true ∷ []) false ∷ role_draft (codes "writer") (true ∷ true ∷ []) false ∷ [];
  match_requests = offer 7 ∷ [];
}

-- Poll: a voter, the default, votes, and it offers nothing
abbrev pub poll : ManifestDraft
poll = record {
  title = codes "Poll";
  version = 1;
  permissions = permission_row (codes "vote") ∷ permission_row (codes "close") ∷ [];
  roles = role_draft (codes "voter") (true ∷ []) true ∷ [];
  match_requests = [];
}

-- an application, by what its manifest states
abbrev pub app_row : ℕ → ManifestDraft → App
app_row num draft = record { num = record { 0 = num }; manifest = manifest_of draft }

-- Notes and Poll
abbrev pub small_apps : List App
small_apps = app_row 1 notes ∷ app_row 2 poll ∷ []

-- a grain that is not in the trash
abbrev pub grain_row : ℕ → ℕ → ℕ → List ℕ → Grain
grain_row num app owner title = record { num = record { 0 = num }; app = record { 0 = app }; owner = record { 0 = owner }; title = title; trashed = false }

-- a grain of each application, both ada's
abbrev pub small_grains : List Grain
small_grains = grain_row 1 1 1 (codes "Minutes") ∷ grain_row 2 2 1 (codes "Vote") ∷ []

-- what an account shares with a user: a base and nothing else
abbrev pub share_row : ℕ → ℕ → ℕ → ℕ → Base → Grant
share_row num grain from user base = record {
  num = record { 0 = num };
  grain = record { 0 = grain };
  giver = giver.Account (record { 0 = from });
  target = target.User (record { 0 = user });
  assignment = record { base = base; add = no_permissions; remove = no_permissions };
  needs = [];
  digest = None;
  revoked = false;
  expires = None;
}

-- ada shares the first grain with zoe as a writer
abbrev pub first_share : Grant
first_share = share_row 1 1 1 2 (base.Role 1)

-- zoe shares all that she has there with ben
abbrev pub second_share : Grant
second_share = share_row 2 1 2 3 base.AllAccess

abbrev pub small_grants : List Grant
small_grants = first_share ∷ second_share ∷ []

-- an open session of an account, whose tab is its number
abbrev pub session_row : ℕ → List ℕ → ℕ → ℕ → Session
session_row num key grain account =
    record { num = record { 0 = num }; digest = record { 0 = sha256 key }; grain = record { 0 = grain }; root = root.Account (record { 0 = account }); tab = num; closed = false }

-- a session of each of the first three accounts on the first grain, and one of the third on the second
abbrev pub small_sessions : List Session
small_sessions =
    session_row 1 (codes "11111111111111111111111111111111") 1 1
    ∷ session_row 2 (codes "22222222222222222222222222222222") 1 2
    ∷ session_row 3 (codes "33333333333333333333333333333333") 1 3
    ∷ session_row 4 (codes "44444444444444444444444444444444") 2 3 ∷ []

-- a live run with a token's text
abbrev pub run_row : ℕ → ℕ → List ℕ → Run
run_row num grain token = record { num = record { 0 = num }; grain = record { 0 = grain }; digest = record { 0 = sha256 token }; stopped = false }

-- a run of each grain
abbrev pub small_runs : List Run
small_runs = run_row 1 1 (codes "ERERERERERERERERERERERERERERERERERERERERERE") ∷ run_row 2 2 (codes "EhISEhISEhISEhISEhISEhISEhISEhISEhISEhISEhI") ∷ []

-- The small book: four accounts, two applications, a grain of each, two shares of the first grain, four sessions and two runs.
abbrev pub small_book : State
small_book = record {
  tables = record { accounts = small_accounts; apps = small_apps; grains = small_grains; grants = small_grants; saved = []; moment = 0 };
  sessions = small_sessions;
  runs = small_runs;
  handles = [];
}
