-- What a JSON value states field by field, before its lists are compared.
use Rattle.std.specs.Prelude.{ℕ, ◌^◌, nat_lt, Bool, List, [], codes, Option, Some, None, Result, Ok, Err, if◌then◌else◌}
use Rattle.std.specs.Option.{ok_or}
use Rattle.std.specs.Result.{result_ok}
use Rattle.serde_json.specs.Data.{Data}
use Rattle.serde_json.specs.Find.{get, as_number, as_str, as_u64}
use Rattle.powerbox_match.specs.Descriptor.{DescriptorData}
use Rattle.powerbox_match.specs.Shape.{descriptor_of}
use Rattle.app_manifest.specs.declared.fault.ManifestFault.{ManifestFault}
use Rattle.app_manifest.specs.declared.fault.ManifestFault.TheVariants.{BadField}
use Rattle.app_manifest.specs.declared.manifest.PermissionDef.{PermissionDef}
use Rattle.app_manifest.specs.Text.{text_with, is_permission_name}
use Rattle.app_manifest.specs.Fields.{◌>>=◌, list_of, title_of, text_or_empty, flag_or_false, flags_of}

-- a role as it is stated, its set still a list of booleans
pub record RoleDraft : Type 0 where
  pub title : List ℕ
  pub verb : List ℕ
  pub list : List Bool
  pub default : Bool
  pub obsolete : Bool

-- a manifest as it is stated
pub record ManifestDraft : Type 0 where
  pub title : List ℕ
  pub version : ℕ
  pub permissions : List PermissionDef
  pub roles : List RoleDraft
  pub match_requests : List DescriptorData

-- a whole number of 32 bits, which has to be there
abbrev pub version_of : Option Data → Option ℕ
version_of found = do
  number ← found >>= as_number >>= as_u64
  if nat_lt number (2 ^ 32) then Some number else None

-- the permission that a value states, if it states one
abbrev pub permission_of : Data → Option PermissionDef
permission_of d = do
  name ← text_with is_permission_name (get (codes "name") d >>= as_str)
  title ← title_of (get (codes "title") d)
  description ← text_or_empty (get (codes "description") d)
  obsolete ← flag_or_false (get (codes "obsolete") d)
  Some (record { name = name; title = title; description = description; obsolete = obsolete })

-- the role that a value states, if it states one
abbrev pub role_of : Data → Option RoleDraft
role_of d = do
  title ← title_of (get (codes "title") d)
  verb ← text_or_empty (get (codes "verbPhrase") d)
  list ← flags_of (get (codes "permissions") d)
  default ← flag_or_false (get (codes "default") d)
  obsolete ← flag_or_false (get (codes "obsolete") d)
  Some (record { title = title; verb = verb; list = list; default = default; obsolete = obsolete })

-- the descriptor that a value states, if it states one
abbrev pub request_of : Data → Option DescriptorData
request_of d = result_ok (descriptor_of d)

-- the descriptors of a list, of which there are none where it is missing
abbrev pub requests_of : Option Data → Option (List DescriptorData)
requests_of None = Some []
requests_of (Some d) = list_of request_of (Some d)

-- `?` of a `Result`
abbrev pub and_then : {A B : Type 0} → Result A ManifestFault → (A → Result B ManifestFault) → Result B ManifestFault
and_then (Err fault) next = Err fault
and_then (Ok x) next = next x

-- a field of a number, or that it isn't as it should be
abbrev pub field : {A : Type 0} → ℕ → Option A → (A → Result ManifestDraft ManifestFault) → Result ManifestDraft ManifestFault
field number found next = and_then (ok_or found (BadField number)) next

-- what a value states field by field, or the first field that isn't as it should be
abbrev pub draft_of : Data → Result ManifestDraft ManifestFault
draft_of d =
    field 1 (title_of (get (codes "title") d)) (λ title.
    field 2 (version_of (get (codes "version") d)) (λ version.
    field 3 (list_of permission_of (get (codes "permissions") d)) (λ permissions.
    field 4 (list_of role_of (get (codes "roles") d)) (λ roles.
    field 5 (requests_of (get (codes "matchRequests") d)) (λ requests.
    Ok (record { title = title; version = version; permissions = permissions; roles = roles; match_requests = requests }))))))
