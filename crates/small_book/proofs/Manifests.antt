-- The manifests of the small book are sound.
use Rattle.std.proofs.Common.{◌≡◌, inl, inr, ℕ, ◌<◌, ◌≤◌, true, [], ◌∷◌, refl, arith}
use Rattle.std.specs.Int.{bit_at}
use Rattle.std.proofs.lemmas.Bool.{cases_lt}
use Rattle.std.proofs.lemmas.List.Elements.{All-from_recursion}
use Rattle.std.proofs.lemmas.Nat.Bits.{bit_at_above, bit_at-zero}
use Rattle.app_manifest.specs.Manifest.{manifest_of}
use Rattle.app_manifest.specs.Text.{is_permission_name}
use Rattle.app_manifest.specs.declared.manifest.PermissionDef.{PermissionDef}
use Rattle.perm_roles.specs.PermSet.{Has, IsWithin, set_of, word_of, no_permissions}
use Rattle.perm_roles.specs.declared.roles.Role.{Role}
use Rattle.share_graph.specs.Fitting.{IsSoundManifest}
use Rattle.small_book.specs.SmallBook.{notes, poll}

-- nothing is in the set without positions
pub none_within : (count : ℕ) → IsWithin no_permissions count
unfolding Has no_permissions
none_within count p has = let none = bit_at-zero p in absurd (omega arith)

within : (word count p : ℕ) → word < 4 → 2 ≤ count → bit_at word p ≡ 1 → p < count
within word count p small many has =
    elim (cases_lt p 2) [
      | inl less ↦ omega arith
      | inr past ↦ let none = bit_at_above word 2 p (omega arith) past in absurd (omega arith)
    ]

-- a role of the first permission fits two and more
one_within : (count : ℕ) → 2 ≤ count → IsWithin (set_of (true ∷ [])) count
unfolding Has set_of word_of
one_within count many p has = within 1 count p (omega arith) many has

-- a role of the first two
two_within : (count : ℕ) → 2 ≤ count → IsWithin (set_of (true ∷ true ∷ [])) count
unfolding Has set_of word_of
two_within count many p has = within 3 count p (omega arith) many has

-- the permission's name has the right form
abbrev IsFormed : PermissionDef → Type 0
IsFormed def = is_permission_name def.name ≡ true

-- the role's set is within a count
abbrev HasWithin : ℕ → Role → Type 0
HasWithin count role = IsWithin role.perms count

pub notes_sound : IsSoundManifest (manifest_of notes)
notes_sound = record {
  few_permissions = omega arith;
  few_roles = omega arith;
  few_requests = omega arith;
  formed = All-from_recursion IsFormed notes.permissions (refl, (refl, (refl, tt)));
  differ = refl;
  sets_fit = All-from_recursion (HasWithin 3) (manifest_of notes).roles (one_within 3 (omega arith), (two_within 3 (omega arith), tt));
  one_default = refl;
}

pub poll_sound : IsSoundManifest (manifest_of poll)
poll_sound = record {
  few_permissions = omega arith;
  few_roles = omega arith;
  few_requests = omega arith;
  formed = All-from_recursion IsFormed poll.permissions (refl, (refl, tt));
  differ = refl;
  sets_fit = All-from_recursion (HasWithin 2) (manifest_of poll).roles (one_within 2 (omega arith), tt);
  one_default = refl;
}
