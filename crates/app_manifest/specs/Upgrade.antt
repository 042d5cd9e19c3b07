-- When a manifest may take the place of another.
use Rattle.std.specs.Prelude.{◌≡◌, ℕ, ◌<◌, ◌≤◌, nat_lt, IsSomeAnd, Bool, not, false, List, length, slice_get, Option, Some, None, option_map, if◌then◌else◌}
use Rattle.std.specs.Option.{option_or, option_map_or}
use Rattle.std.specs.Str.{bytes_eq}
use Rattle.perm_roles.specs.PermSet.{Has, IsWithin}
use Rattle.perm_roles.specs.Roles.{IsInDefault}
use Rattle.perm_roles.specs.declared.perm_set.PermSet.{PermSet}
use Rattle.perm_roles.specs.declared.roles.Role.{Role}
use Rattle.app_manifest.specs.declared.fault.ManifestFault.{ManifestFault}
use Rattle.app_manifest.specs.declared.fault.ManifestFault.TheVariants.{LostName, LostRole}
use Rattle.app_manifest.specs.declared.manifest.Manifest.{Manifest}
use Rattle.app_manifest.specs.declared.manifest.PermissionDef.{PermissionDef}
use Rattle.app_manifest.specs.Places.{first_from}

-- whether the permission at a position has a name
abbrev pub has_name_at : List PermissionDef → ℕ → List ℕ → Bool
has_name_at permissions place name = option_map_or (λ permission. bytes_eq name permission.name) (slice_get permissions place) false

-- the first old position whose name isn't at that position of the new list
abbrev pub lost_name : List PermissionDef → List PermissionDef → Option ℕ
lost_name old new = first_from (λ place permission. not (has_name_at new place permission.name)) 0 old

-- the first fault of an upgrade: a lost name, else fewer roles
abbrev pub upgrade_fault : Manifest → Manifest → Option ManifestFault
upgrade_fault old new =
    option_or (option_map LostName (lost_name old.permissions new.permissions))
    (if nat_lt (length new.roles) (length old.roles) then Some (LostRole (length new.roles)) else None)

-- what fitted the old manifest fits the new one: each set of permissions, each role's number, and each permission's name
pub record StillFits (old new : Manifest) : Type 0 where
  pub sets : (set : PermSet) → IsWithin set (length old.permissions) → IsWithin set (length new.permissions)
  pub roles : (n : ℕ) → n < length old.roles → n < length new.roles
  pub names : (p : ℕ) → p < length old.permissions → option_map (λ permission. permission.name) (slice_get new.permissions p) ≡ option_map (λ permission. permission.name) (slice_get old.permissions p)

-- the role at the number has the position
abbrev pub IsInRole : List Role → ℕ → ℕ → Type 0
IsInRole roles n p = IsSomeAnd (slice_get roles n) (λ role. Has role.perms p)

-- The new manifest gives no less than the old one: there are as many permissions, the default role has what it had, and so has
-- each role at its number. So whatever an assignment starts from has by the new one what it had.
pub record GivesNoLess (old new : Manifest) : Type 0 where
  pub all : length old.permissions ≤ length new.permissions
  pub default : (p : ℕ) → IsInDefault old.roles p → IsInDefault new.roles p
  pub roles : (n p : ℕ) → IsInRole old.roles n p → IsInRole new.roles n p
