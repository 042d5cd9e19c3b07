-- Roles and their drafts, one more at a time, and what the two have in common.
use Rattle.std.proofs.Common.{◌≡◌, ℕ, suc, ◌<◌, ◌≤◌, ◌&&◌, ◌||◌, Bool, true, false, cond, nat_lt, List, [], ◌∷◌, ◌++◌, Option, Some, None, option_map, length, get_or, take, map, refl, sym, ap, ◌∙◌, arith}
use Rattle.std.specs.List.{list_any}
use Rattle.std.proofs.lemmas.Bool.Decides.{nat_tests}
use Rattle.std.proofs.lemmas.List.{take-map, map-append}
use Rattle.perm_roles.specs.declared.roles.Role.{Role}
use Rattle.app_manifest.specs.declared.fault.ManifestFault.TheVariants.{TwoDefaults}
use Rattle.app_manifest.specs.declared.read.ReadRole.{ReadRole}
use Rattle.app_manifest.specs.Places.{first_from}
use Rattle.app_manifest.specs.Draft.{RoleDraft, ManifestDraft}
use Rattle.app_manifest.specs.Checks.{too_many, double_name, long_set, second_that, whole_fault}
use Rattle.app_manifest.specs.Manifest.{role_of_draft}
use Rattle.app_manifest.specs.ReadParts.{role_draft}
use Rattle.app_manifest.proofs.FirstPlace.{first_from-append, first_here}

first_from-map : {A B : Type 0} (test : ℕ → B → Bool) (f : A → B) (n : ℕ) (xs : List A) → first_from test n (map f xs) ≡ first_from (λ i x. test i (f x)) n xs
first_from-map test f n [] = refl
first_from-map test f n (x ∷ xs) = ap (λ (r : Option ℕ). cond (test n (f x)) (Some n) r) (first_from-map test f (suc n) xs)

first_from_agree : {A : Type 0} (test other : ℕ → A → Bool) (n : ℕ) (xs : List A) → ((i : ℕ) (x : A) → test i x ≡ other i x) → first_from test n xs ≡ first_from other n xs
first_from_agree test other n [] same = refl
first_from_agree test other n (x ∷ xs) same =
    ap (λ (b : Bool). cond b (Some n) (first_from test (suc n) xs)) (same n x) ∙ ap (λ (r : Option ℕ). cond (other n x) (Some n) r) (first_from_agree test other (suc n) xs same)

-- ---- lists that are too long

-- the first draft whose list is longer than a number of permissions
abbrev pub first_long : ℕ → List ReadRole → Option ℕ
first_long count drafts = first_from (λ place draft. nat_lt count (length draft.list.items)) 0 drafts

pub long_set_is : (count : ℕ) (drafts : List ReadRole) → long_set count (map role_draft drafts) ≡ first_long count drafts
long_set_is count drafts = first_from-map (λ place role. nat_lt count (length role.list)) role_draft 0 drafts

above : (n m : ℕ) → n < m → nat_lt n m ≡ true
above n m h = grind (arith, nat_tests)

not_above : (n m : ℕ) → m ≤ n → nat_lt n m ≡ false
not_above n m h = grind (arith, nat_tests)

-- the first list that is too long
pub first_long_here : (count : ℕ) (drafts yielded : List ReadRole) (draft : ReadRole) → yielded ≡ take (length yielded) drafts → length yielded < length drafts → draft ≡ get_or drafts (length yielded) draft → first_long count yielded ≡ None → count < length draft.list.items
    → first_long count drafts ≡ Some (length yielded)
first_long_here count drafts yielded draft so_far within is short long =
    first_here (λ place draft. nat_lt count (length draft.list.items)) drafts (length yielded) draft within is (ap (first_long count) (sym so_far) ∙ short) (above _ _ long)

-- one list more that isn't too long
pub first_long_more : (count : ℕ) (yielded : List ReadRole) (draft : ReadRole) → first_long count yielded ≡ None → length draft.list.items ≤ count → first_long count (yielded ++ draft ∷ []) ≡ None
first_long_more count yielded draft short fits =
    first_from-append (λ place draft. nat_lt count (length draft.list.items)) 0 yielded (draft ∷ []) short ∙ rw (not_above count (length draft.list.items) fits) refl

-- ---- roles of drafts

-- one role more
pub roles_more : (yielded : List ReadRole) (roles : List Role) (read : ReadRole) (role : Role) → roles ≡ map role_of_draft (map role_draft yielded) → role ≡ role_of_draft (role_draft read) → roles ++ role ∷ [] ≡ map role_of_draft (map role_draft (yielded ++ read ∷ []))
roles_more yielded roles read role all here =
    rw (map-append role_draft yielded (read ∷ []), map-append role_of_draft (map role_draft yielded) (role_draft read ∷ []), all, here) refl

-- ---- default roles

any-map : {A : Type 0} (passes : A → Bool) (xs : List A) → list_any (λ b. b) (map passes xs) ≡ list_any passes xs
any-map passes [] = refl
any-map passes (x ∷ xs) = ap (λ (b : Bool). passes x || b) (any-map passes xs)

second_that-map : {A : Type 0} (passes : A → Bool) (xs : List A) → second_that (λ b. b) (map passes xs) ≡ second_that passes xs
second_that-map passes xs =
    first_from-map (λ i b. b && list_any (λ c. c) (take i (map passes xs))) passes 0 xs
    ∙ first_from_agree (λ i x. passes x && list_any (λ c. c) (take i (map passes xs))) (λ i x. passes x && list_any passes (take i xs)) 0 xs (λ i x. ap (λ (b : Bool). passes x && b) (ap (list_any (λ c. c)) (take-map passes i xs) ∙ any-map passes (take i xs)))

defaults : (drafts : List RoleDraft) → map (λ role. role.default) drafts ≡ map (λ role. role.default) (map role_of_draft drafts)
defaults [] = refl
defaults (d ∷ ds) = ap (λ (bs : List Bool). d.default ∷ bs) (defaults ds)

-- drafts and their roles have the same second default one
pub second_default_is : (drafts : List RoleDraft) → second_that (λ role. role.default) drafts ≡ second_that (λ role. role.default) (map role_of_draft drafts)
second_default_is drafts =
    sym (second_that-map (λ role. role.default) drafts) ∙ ap (second_that (λ b. b)) (defaults drafts) ∙ second_that-map (λ role. role.default) (map role_of_draft drafts)

-- a draft with none of the faults before has the last one, or none
pub last_fault : (draft : ManifestDraft) (place : Option ℕ) → too_many draft ≡ None → double_name draft.permissions ≡ None → long_set (length draft.permissions) draft.roles ≡ None → second_that (λ role. role.default) draft.roles ≡ place → whole_fault draft ≡ option_map TwoDefaults place
last_fault draft place few names short second = rw (few, names, short, second) refl

pub unchanged : {A : Type 0} (xs : List A) → map (λ x. x) xs ≡ xs
unchanged [] = refl
unchanged {A} (x ∷ xs) = ap (λ (ys : List A). x ∷ ys) (unchanged xs)
