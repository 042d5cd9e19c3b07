-- The manifest that a draft states.
use Rattle.std.specs.Prelude.{map}
use Rattle.perm_roles.specs.PermSet.{set_of}
use Rattle.perm_roles.specs.declared.roles.Role.{Role}
use Rattle.app_manifest.specs.declared.manifest.Manifest.{Manifest}
use Rattle.app_manifest.specs.Draft.{RoleDraft, ManifestDraft}

-- the role of a draft: its set has the positions at which the list has true
abbrev pub role_of_draft : RoleDraft → Role
role_of_draft draft =
    record { title = draft.title; verb = draft.verb; perms = set_of draft.list; default = draft.default; obsolete = draft.obsolete }

-- the manifest of a draft
abbrev pub manifest_of : ManifestDraft → Manifest
manifest_of draft =
    record { title = draft.title; version = draft.version; permissions = draft.permissions; roles = map role_of_draft draft.roles; match_requests = draft.match_requests }
