-- The manifest that bytes state, or their first fault.
use Rattle.std.specs.Prelude.{ℕ, List, Option, Some, None, option_and_then, Result, Ok, Err, if◌then◌else◌}
use Rattle.std.specs.Option.{is_some, ok_or, option_map_or}
use Rattle.std.specs.Str.{is_utf8}
use Rattle.serde_json.specs.Data.{Data}
use Rattle.serde_json.specs.Find.{as_object}
use Rattle.serde_json.specs.Read.{read}
use Rattle.app_manifest.specs.declared.fault.ManifestFault.{ManifestFault}
use Rattle.app_manifest.specs.declared.fault.ManifestFault.TheVariants.{NotJson}
use Rattle.app_manifest.specs.declared.manifest.Manifest.{Manifest}
use Rattle.app_manifest.specs.Draft.{ManifestDraft, and_then, draft_of}
use Rattle.app_manifest.specs.Manifest.{manifest_of}
use Rattle.app_manifest.specs.Checks.{whole_fault}

-- a JSON value, if it is an object
abbrev pub only_object : Data → Option Data
only_object d = if is_some (as_object d) then Some d else None

-- the JSON object that bytes are, if they are one
abbrev pub object_of : List ℕ → Option Data
object_of bytes = if is_utf8 bytes then option_and_then only_object (read bytes) else None

-- the manifest of a draft, or the first fault that the draft has as a whole
abbrev pub checked : ManifestDraft → Result Manifest ManifestFault
checked draft = option_map_or Err (whole_fault draft) (Ok (manifest_of draft))

-- the manifest that bytes state, or their first fault
abbrev pub stated_manifest : List ℕ → Result Manifest ManifestFault
stated_manifest bytes = and_then (ok_or (object_of bytes) NotJson) (λ value. and_then (draft_of value) checked)
