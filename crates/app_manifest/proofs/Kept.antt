-- What an upgrade without a fault keeps.
use Rattle.std.proofs.Common.{◌≡◌, ℕ, zero, suc, ◌+◌, ◌<◌, ◌≤◌, Bool, true, false, not, nat_lt, if◌then◌else◌, List, [], ◌∷◌, Option, Some, None, option_map, length, slice_get, inl, inr, refl, sym, ap, subst, ◌∙◌, arith}
use Rattle.std.specs.Option.{option_map_or, option_or}
use Rattle.std.specs.Str.{bytes_eq}
use Rattle.std.proofs.lemmas.Option.{slice_get_within, slice_get_cases, same_Some}
use Rattle.std.proofs.lemmas.Bool.Decides.{nat_tests}
use Rattle.std.proofs.lemmas.Slice.Eq.{bytes_eq-Decides}
use Rattle.app_manifest.specs.declared.manifest.Manifest.{Manifest}
use Rattle.app_manifest.specs.declared.manifest.PermissionDef.{PermissionDef}
use Rattle.app_manifest.specs.Places.{first_from}
use Rattle.app_manifest.specs.declared.fault.ManifestFault.{ManifestFault}
use Rattle.app_manifest.specs.declared.fault.ManifestFault.TheVariants.{LostName, LostRole}
use Rattle.app_manifest.specs.Upgrade.{has_name_at, lost_name, upgrade_fault, StillFits}
use Rattle.app_manifest.proofs.FirstPlace.{not_here}

-- where no element passes, the one at a place doesn't
passed_by : {A : Type 0} (test : ℕ → A → Bool) (n : ℕ) (xs : List A) (i : ℕ) (x : A) → first_from test n xs ≡ None → slice_get xs i ≡ Some x → test (n + i) x ≡ false
passed_by test n [] i x none at = absurd (cc)
passed_by {A} test n (y ∷ ys) zero x none at =
    let here = not_here (test n y) n (first_from test (suc n) ys) none in
    let same : n + 0 ≡ n = omega arith in
    ap (λ (m : ℕ). test m x) same ∙ ap (λ (z : A). test n z) (sym (same_Some y x at)) ∙ here.0
passed_by test n (y ∷ ys) (suc i) x none at =
    let here = not_here (test n y) n (first_from test (suc n) ys) none in
    let same : n + suc i ≡ suc n + i = omega arith in
    ap (λ (m : ℕ). test m x) same ∙ passed_by test (suc n) ys i x here.1 at

not_false : (b : Bool) → not b ≡ false → b ≡ true
not_false true e = refl
not_false false e = absurd (cc)

found : {A : Type 0} (f : A → Bool) (o : Option A) → option_map_or f o false ≡ true → (x : A) × (o ≡ Some x) × (f x ≡ true)
found f None e = absurd (cc)
found f (Some x) e = (x, refl, e)

-- the permission at a place of the old list, and one of its name at that place of the new list
kept : (old new : List PermissionDef) (p : ℕ) → lost_name old new ≡ None → p < length old → (x : PermissionDef) × (y : PermissionDef) × (slice_get old p ≡ Some x) × (slice_get new p ≡ Some y) × (y.name ≡ x.name)
kept old new p none within =
    elim (slice_get_cases old p).1 [
      | inl w ↦
          let passed = passed_by (λ place permission. not (has_name_at new place permission.name)) 0 old p w.0 none w.2 in
          let at : 0 + p ≡ p = omega arith in
          let named : has_name_at new p w.0.name ≡ true = rw at at (not_false _ passed) in
          let there = found (λ permission. bytes_eq w.0.name permission.name) (slice_get new p) named in
          (w.0, there.0, w.2, there.1, sym ((bytes_eq-Decides w.0.name there.0.name).0 there.2))
      | inr w ↦ absurd (omega (arith, w.0))
    ]

-- with each name at its place and no fewer roles, what fitted fits
pub still_fits : (old new : Manifest) → lost_name old.permissions new.permissions ≡ None → length old.roles ≤ length new.roles → StillFits old new
still_fits old new none more = record {
  sets = λ set within p has.
      let k = kept old.permissions new.permissions p none (within p has) in
      slice_get_within new.permissions p k.1 k.3;
  roles = λ n below. omega arith;
  names = λ p below.
      let k = kept old.permissions new.permissions p none below in
      rw (k.2, k.3, k.4);
}

none_of_two : (o : Option ℕ) (rest : Option ManifestFault) → option_or (option_map LostName o) rest ≡ None → (o ≡ None) × (rest ≡ None)
none_of_two None rest is = (refl, is)
none_of_two (Some p) rest is = cc is

none_lost : (n : ℕ) (b : Bool) → (if b then Some (LostRole n) else None) ≡ None → b ≡ false
none_lost n false is = refl
none_lost n true is = cc is

-- so where an upgrade has no fault, what fitted fits
pub fits_without_fault : (old new : Manifest) → upgrade_fault old new ≡ None → StillFits old new
fits_without_fault old new none =
    let both = none_of_two (lost_name old.permissions new.permissions) _ none in
    let enough : nat_lt (length new.roles) (length old.roles) ≡ false = none_lost (length new.roles) _ both.1 in
    still_fits old new both.0 (grind (arith, nat_tests))

-- where no element passes at its place, none is found
none_from : {A : Type 0} (test : ℕ → A → Bool) (n : ℕ) (xs : List A) → ((i : ℕ) (x : A) → slice_get xs i ≡ Some x → test (n + i) x ≡ false) → first_from test n xs ≡ None
none_from test n [] passed = refl
none_from {A} test n (x ∷ xs) passed =
    let same : n + 0 ≡ n = omega arith in
    let here : test n x ≡ false = subst (λ (k : ℕ). test k x ≡ false) same (passed 0 x refl) in
    rw here (none_from test (suc n) xs (λ i (y : A) is. (let next : n + suc i ≡ suc n + i = omega arith in subst (λ (k : ℕ). test k y ≡ false) next (passed (suc i) y is))))

named_so : (permissions : List PermissionDef) (i : ℕ) (x : PermissionDef) → slice_get permissions i ≡ Some x → not (has_name_at permissions i x.name) ≡ false
named_so permissions i x is = rw (is, (bytes_eq-Decides x.name x.name).1 refl) refl

-- and a manifest may take its own place
pub no_fault_of_same : (manifest : Manifest) → upgrade_fault manifest manifest ≡ None
no_fault_of_same manifest =
    let names : lost_name manifest.permissions manifest.permissions ≡ None =
    none_from (λ place permission. not (has_name_at manifest.permissions place permission.name)) 0 manifest.permissions
    (λ i x is. (let same : 0 + i ≡ i = omega arith in rw same (named_so manifest.permissions i x is))) in
    let roles : nat_lt (length manifest.roles) (length manifest.roles) ≡ false = grind (arith, nat_tests) in
    rw (names, roles) refl
