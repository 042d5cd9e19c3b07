-- An aid for proofs: what was read field by field, as the draft that it stands for.
use Rattle.std.specs.Prelude.{map}
use Rattle.app_manifest.specs.declared.read.ReadManifest.{ReadManifest}
use Rattle.app_manifest.specs.declared.read.ReadRole.{ReadRole}
use Rattle.app_manifest.specs.Draft.{RoleDraft, ManifestDraft}

-- what a role that was read stands for
abbrev pub role_draft : ReadRole → RoleDraft
role_draft role =
    record { title = role.title; verb = role.verb; list = role.list.items; default = role.default; obsolete = role.obsolete }

-- what a manifest that was read stands for
abbrev pub manifest_draft : ReadManifest → ManifestDraft
manifest_draft read =
    record { title = read.title; version = read.version; permissions = read.permissions.items; roles = map role_draft read.roles.items; match_requests = read.match_requests.items }
