-- The row of an application: what its manifest says.
use Rattle.std.specs.Prelude.{ℕ, ◌≤◌, length, List, [], ◌∷◌}
use Rattle.std.specs.Int.{w32, w64}
use Rattle.app_manifest.specs.declared.manifest.PermissionDef.{PermissionDef}
use Rattle.perm_roles.specs.declared.roles.Role.{Role}
use Rattle.powerbox_match.specs.declared.value.Quality.{Quality}
use Rattle.powerbox_match.specs.declared.value.Quality.TheVariants.{Acceptable, Preferred, Unacceptable}
use Rattle.powerbox_match.specs.Descriptor.{DescriptorData}
use Rattle.powerbox_match.specs.Value.{TagData}
use Rattle.share_graph.specs.declared.rows.App.{App}
use Rattle.row_formats.specs.Format.{Format, number, text, flag, always, ◌⊗◌, made, choice, list, first_version}
use Rattle.row_formats.specs.Sets.{set}
use Rattle.row_codec.specs.ValueFormat.{value}

-- a permission: name, title, description, obsolete
abbrev pub permission : Format PermissionDef
permission = made
    (λ f. record { name = f.0; title = f.1.0; description = f.1.1.0; obsolete = f.1.1.1 })
    (λ p. (p.name, (p.title, (p.description, p.obsolete))))
    (text ⊗ text ⊗ text ⊗ flag)

-- a role: title, verb, permissions, default, obsolete
abbrev pub role : Format Role
role = made
    (λ f. record { title = f.0; verb = f.1.0; perms = f.1.1.0; default = f.1.1.1.0; obsolete = f.1.1.1.1 })
    (λ r. (r.title, (r.verb, (r.perms, (r.default, r.obsolete)))))
    (text ⊗ text ⊗ set ⊗ flag ⊗ flag)

-- the number of each quality
abbrev pub quality_number : Quality → ℕ
quality_number Acceptable = 0
quality_number Preferred = 1
quality_number Unacceptable = 2

-- 0 acceptable; 1 preferred; 2 unacceptable
abbrev pub qualities : List (Format Quality)
qualities = always Acceptable ∷ always Preferred ∷ always Unacceptable ∷ []

-- a quality: its number
abbrev pub quality : Format Quality
quality = choice 0 quality_number qualities

-- a tag: its id, and its value, in which values stand inside one another up to 16 deep
abbrev pub tag : Format (ℕ × TagData)
tag = number w64 ⊗ value 16

-- a descriptor: its quality, and at most 32 tags
abbrev pub descriptor : Format DescriptorData
descriptor = made
    (λ f. record { quality = f.0; tags = f.1 })
    (λ d. (d.quality, d.tags))
    (quality ⊗ list 32 tag)

-- two bytes can count each list of an application
pub record IsCountableApp (a : App) : Type 0 where
  pub permissions : length a.manifest.permissions ≤ 65535
  pub roles : length a.manifest.roles ≤ 65535
  pub descriptors : length a.manifest.match_requests ≤ 65535

-- the fields of an application: title, version, permissions, roles, descriptors
abbrev pub app_fields : ℕ → Format App
app_fields num = made
    (λ f. record { num = record { 0 = num }; manifest = record { title = f.0; version = f.1.0; permissions = f.1.1.0; roles = f.1.1.1.0; match_requests = f.1.1.1.1 } })
    (λ a. (a.manifest.title, (a.manifest.version, (a.manifest.permissions, (a.manifest.roles, a.manifest.match_requests)))))
    (text ⊗ number w32 ⊗ list 65535 permission ⊗ list 65535 role ⊗ list 65535 descriptor)

-- an application: version 1, and its fields
abbrev pub app : ℕ → Format App
app num = first_version (app_fields num)
