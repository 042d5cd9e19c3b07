-- What events set in rows.
use Rattle.std.specs.Prelude.{Bool, true}
use Rattle.app_manifest.specs.declared.manifest.Manifest.{Manifest}
use Rattle.host_base.specs.declared.digest.Digest.{Digest}
use Rattle.share_graph.specs.declared.grants.Grant.{Grant}
use Rattle.share_graph.specs.declared.rows.Account.{Account}
use Rattle.share_graph.specs.declared.rows.App.{App}
use Rattle.share_graph.specs.declared.rows.Grain.{Grain}
use Rattle.share_graph.specs.declared.rows.Saved.{Saved}
use Rattle.share_graph.specs.declared.sessions.Run.{Run}
use Rattle.share_graph.specs.declared.sessions.Session.{Session}

abbrev pub with_admin : Bool → Account → Account
with_admin on account = record account { admin = on }

abbrev pub with_enabled : Bool → Account → Account
with_enabled on account = record account { enabled = on }

abbrev pub with_login : Digest → Account → Account
with_login login account = record account { login = login }

abbrev pub with_manifest : Manifest → App → App
with_manifest manifest app = record app { manifest = manifest }

abbrev pub with_trashed : Bool → Grain → Grain
with_trashed on grain = record grain { trashed = on }

abbrev pub revoked : Grant → Grant
revoked grant = record grant { revoked = true }

abbrev pub dropped : Saved → Saved
dropped saved = record saved { dropped = true }

abbrev pub stopped : Run → Run
stopped run = record run { stopped = true }

abbrev pub closed : Session → Session
closed session = record session { closed = true }
