-- The faults that a manifest has as a whole.
use Rattle.std.specs.Prelude.{ℕ, ◌&&◌, nat_lt, Bool, List, length, take, Option, Some, None, option_map, if◌then◌else◌}
use Rattle.std.specs.List.{list_any}
use Rattle.std.specs.Option.{option_or}
use Rattle.std.specs.Str.{bytes_eq}
use Rattle.app_manifest.specs.declared.fault.ManifestFault.{ManifestFault}
use Rattle.app_manifest.specs.declared.fault.ManifestFault.TheVariants.{TooMany, DoubleName, LongSet, TwoDefaults}
use Rattle.app_manifest.specs.declared.manifest.PermissionDef.{PermissionDef}
use Rattle.app_manifest.specs.Places.{first_from}
use Rattle.app_manifest.specs.Draft.{RoleDraft, ManifestDraft}

-- the first list that is too long: more than 64 permissions, 32 roles or 16 match requests
abbrev pub too_many : ManifestDraft → Option ℕ
too_many draft =
    if nat_lt 64 (length draft.permissions) then Some 1
    else (if nat_lt 32 (length draft.roles) then Some 2
    else (if nat_lt 16 (length draft.match_requests) then Some 3 else None))

-- the first position whose name stands earlier
abbrev pub double_name : List PermissionDef → Option ℕ
double_name permissions = first_from (λ place permission. list_any (λ earlier. bytes_eq permission.name earlier.name) (take place permissions)) 0 permissions

-- the first role whose list is longer than a number of permissions
abbrev pub long_set : ℕ → List RoleDraft → Option ℕ
long_set count roles = first_from (λ place role. nat_lt count (length role.list)) 0 roles

-- the position of the second element that passes a test
abbrev pub second_that : {A : Type 0} → (A → Bool) → List A → Option ℕ
second_that passes xs = first_from (λ place x. passes x && list_any passes (take place xs)) 0 xs

-- the first fault that a manifest has as a whole
abbrev pub whole_fault : ManifestDraft → Option ManifestFault
whole_fault draft =
    option_or (option_map TooMany (too_many draft))
    (option_or (option_map DoubleName (double_name draft.permissions))
    (option_or (option_map LongSet (long_set (length draft.permissions) draft.roles))
    (option_map TwoDefaults (second_that (λ role. role.default) draft.roles))))
