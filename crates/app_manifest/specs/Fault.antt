-- The faults of manifests and their numbers.
use Rattle.std.specs.Prelude.{ℕ}
use Rattle.app_manifest.specs.declared.fault.ManifestFault.{ManifestFault}
use Rattle.app_manifest.specs.declared.fault.ManifestFault.TheVariants.{NotJson, BadField, TooMany, DoubleName, LongSet, TwoDefaults, LostName, LostRole}
use Rattle.app_manifest.specs.declared.fault.ManifestError.{ManifestError}
use Rattle.app_manifest.specs.declared.fault.ManifestError.TheVariants.{Fault, Memory}

-- the number by which a fault is told to others
abbrev pub number_of : ManifestFault → ℕ
number_of NotJson = 1
number_of (BadField field) = 2
number_of (TwoDefaults place) = 3
number_of (DoubleName place) = 4
number_of (LongSet place) = 5
number_of (TooMany list) = 6
number_of (LostName place) = 7
number_of (LostRole count) = 8

-- the number of a field, of a list or of roles or the position that a fault names, or 0
abbrev pub argument_of : ManifestFault → ℕ
argument_of NotJson = 0
argument_of (BadField field) = field
argument_of (TwoDefaults place) = place
argument_of (DoubleName place) = place
argument_of (LongSet place) = place
argument_of (TooMany list) = list
argument_of (LostName place) = place
argument_of (LostRole count) = count

-- a fact of the fault of an error, which says nothing where memory was wanting
abbrev pub OnFault : ManifestError → (ManifestFault → Type 0) → Type 0
OnFault (Fault fault) fact = fact fault
OnFault Memory fact = Unit {0}
