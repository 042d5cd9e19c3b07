-- THE LAW of manifests that are read: one that bytes state without a fault is sound.
use Rattle.std.proofs.Common.{◌≡◌, ℕ, suc, ◌%◌, ◌^◌, ◌<◌, ◌≤◌, ◌⊎◌, Bool, true, false, cond, nat_lt, List, [], ◌∷◌, codes, Option, Some, None, Result, Ok, Err}
use Rattle.std.proofs.Common.{option_map, option_and_then, All, length, map, inl, inr, refl, sym, ap, ◌∙◌, subst, arith}
use Rattle.std.specs.Option.{ok_or, option_or, option_map_or}
use Rattle.std.proofs.Math.Nat.{pow-suc, mod-le}
use Rattle.std.proofs.lemmas.Bool.Decides.{nat_tests}
use Rattle.std.proofs.lemmas.List.{length-map}
use Rattle.std.proofs.lemmas.List.Elements.{All-nil, All-cons}
use Rattle.std.proofs.lemmas.Nat.Bits.{bit_at_above}
use Rattle.std.proofs.lemmas.Option.{same_Some, cond_some}
use Rattle.powerbox_match.specs.Descriptor.{DescriptorData}
use Rattle.perm_roles.specs.PermSet.{Has, IsWithin, set_of, word_of}
use Rattle.perm_roles.specs.declared.roles.Role.{Role}
use Rattle.serde_json.specs.Data.{Data, Items}
use Rattle.serde_json.specs.Find.{get, as_array, as_str}
use Rattle.app_manifest.specs.declared.fault.ManifestFault.{ManifestFault}
use Rattle.app_manifest.specs.declared.fault.ManifestFault.TheVariants.{NotJson, TooMany, DoubleName, LongSet, TwoDefaults}
use Rattle.app_manifest.specs.declared.manifest.Manifest.{Manifest}
use Rattle.app_manifest.specs.declared.manifest.PermissionDef.{PermissionDef}
use Rattle.app_manifest.specs.Checks.{too_many, double_name, long_set, second_that, whole_fault}
use Rattle.app_manifest.specs.Draft.{RoleDraft, ManifestDraft, and_then, field, version_of, permission_of, role_of, requests_of, draft_of}
use Rattle.app_manifest.specs.Fields.{◌>>=◌, each_of, list_of, title_of, text_or_empty, flag_or_false}
use Rattle.app_manifest.specs.Manifest.{role_of_draft, manifest_of}
use Rattle.app_manifest.specs.Places.{first_from}
use Rattle.app_manifest.specs.Stated.{object_of, checked, stated_manifest}
use Rattle.app_manifest.specs.Text.{text_with, is_permission_name}
use Rattle.app_manifest.proofs.FirstPlace.{not_here}
use Rattle.app_manifest.proofs.Sets.{second_default_is}
use Rattle.share_graph.specs.Fitting.{IsSoundManifest}

-- ---- the permissions that are stated have names of the right form

abbrev IsNamed : PermissionDef → Type 0
IsNamed permission = is_permission_name permission.name ≡ true

text_formed : (form : List ℕ → Bool) (found : Option (List ℕ)) (text : List ℕ) → text_with form found ≡ Some text → form text ≡ true
text_formed form None text e = absurd (cc)
text_formed form (Some t) text e = let is = cond_some (form t) t text e in ap form (sym is.1) ∙ is.0

name_there : (name title description : Option (List ℕ)) (obsolete : Option Bool) (p : PermissionDef) → (name >>= (λ n. title >>= (λ t. description >>= (λ d. obsolete >>= (λ o. Some (record { name = n; title = t; description = d; obsolete = o })))))) ≡ Some p → name ≡ Some p.name
name_there (Some n) (Some t) (Some d) (Some o) p e = ap (λ (q : PermissionDef). Some q.name) (same_Some _ p e)
name_there _ _ _ _ p e = absurd (cc)

is_named : (d : Data) (p : PermissionDef) → permission_of d ≡ Some p → IsNamed p
is_named d p e =
    text_formed is_permission_name (get (codes "name") d >>= as_str) p.name
    (name_there (text_with is_permission_name (get (codes "name") d >>= as_str)) (title_of (get (codes "title") d)) (text_or_empty (get (codes "description") d)) (flag_or_false (get (codes "obsolete") d)) p e)

-- one value more of a list
item_there : {A : Type 0} (first : Option A) (rest : Option (List A)) (xs : List A) → (first >>= (λ x. rest >>= (λ ys. Some (x ∷ ys)))) ≡ Some xs → (x : A) × (ys : List A) × (first ≡ Some x) × (rest ≡ Some ys) × (x ∷ ys ≡ xs)
item_there (Some x) (Some ys) xs e = (x, ys, refl, refl, same_Some (x ∷ ys) xs e)
item_there _ _ xs e = absurd (cc)

each_named : (ds : Items) (ps : List PermissionDef) → each_of permission_of ds ≡ Some ps → All IsNamed ps
each_named Items.no_items ps e = subst (All IsNamed) (same_Some [] ps e) (All-nil IsNamed)
each_named (Items.item d ds) ps e =
    let parts = item_there (permission_of d) (each_of permission_of ds) ps e in
    subst (All IsNamed) parts.4 (All-cons IsNamed parts.0 parts.1 (is_named d parts.0 parts.2) (each_named ds parts.1 parts.3))

list_named : (found : Option Items) (ps : List PermissionDef) → option_and_then (each_of permission_of) found ≡ Some ps → All IsNamed ps
list_named None ps e = absurd (cc)
list_named (Some ds) ps e = each_named ds ps e

abbrev fine : {A : Type 0} → A → Result A ManifestFault
fine a = Ok a

same_Ok : {A : Type 0} (a b : A) → fine a ≡ fine b → a ≡ b
same_Ok a b e = cc

permissions_there : (title : Option (List ℕ)) (version : Option ℕ) (permissions : Option (List PermissionDef)) (roles : Option (List RoleDraft)) (requests : Option (List DescriptorData)) (draft : ManifestDraft)
    → field 1 title (λ t. field 2 version (λ v. field 3 permissions (λ p. field 4 roles (λ r. field 5 requests (λ q. Ok (record { title = t; version = v; permissions = p; roles = r; match_requests = q })))))) ≡ Ok draft → permissions ≡ Some draft.permissions
permissions_there (Some t) (Some v) (Some p) (Some r) (Some q) draft e = ap (λ (m : ManifestDraft). Some m.permissions) (same_Ok _ draft e)
permissions_there _ _ _ _ _ draft e = absurd (cc)

all_named : (d : Data) (draft : ManifestDraft) → draft_of d ≡ Ok draft → All IsNamed draft.permissions
all_named d draft e =
    list_named (get (codes "permissions") d >>= as_array) draft.permissions
    (permissions_there (title_of (get (codes "title") d)) (version_of (get (codes "version") d)) (list_of permission_of (get (codes "permissions") d)) (list_of role_of (get (codes "roles") d)) (requests_of (get (codes "matchRequests") d)) draft e)

-- ---- the roles' sets fit

-- the word of a list has as many bits as the list has places
word_below : (list : List Bool) → word_of list < 2 ^ length list
unfolding word_of
word_below [] = omega arith
word_below (true ∷ rest) = let less = word_below rest in let twice = pow-suc 2 (length rest) in omega arith
word_below (false ∷ rest) = let less = word_below rest in let twice = pow-suc 2 (length rest) in omega arith

-- the set that a list states has positions below the list's length
set_within : (list : List Bool) (count : ℕ) → length list ≤ count → IsWithin (set_of list) count
unfolding Has set_of
set_within list count few p here =
    let sides : (p < count) ⊎ (length list ≤ p) = grind arith in
    elim sides [
      | inl below ↦ below
      | inr above ↦
          let less = word_below list in
          let part = mod-le (word_of list) (2 ^ 64) in
          let fits : word_of list % 2 ^ 64 < 2 ^ length list = omega arith in
          let none = bit_at_above (word_of list % 2 ^ 64) (length list) p fits above in
          absurd (omega arith)
    ]

not_above : (n m : ℕ) → nat_lt n m ≡ false → m ≤ n
not_above n m h = grind (arith, nat_tests)

sets_within : (count place : ℕ) (drafts : List RoleDraft) → first_from (λ i role. nat_lt count (length role.list)) place drafts ≡ None → All (λ (role : Role). IsWithin role.perms count) (map role_of_draft drafts)
sets_within count place [] short = All-nil (λ (role : Role). IsWithin role.perms count)
sets_within count place (d ∷ ds) short =
    let here = not_here (nat_lt count (length d.list)) place (first_from (λ i role. nat_lt count (length role.list)) (suc place) ds) short in
    All-cons (λ (role : Role). IsWithin role.perms count) (role_of_draft d) (map role_of_draft ds) (set_within d.list count (not_above count (length d.list) here.0)) (sets_within count (suc place) ds here.1)

-- ---- the whole

-- no list is too long
few : (a b c : ℕ) → cond {A = Option ℕ} (nat_lt 64 a) (Some 1) (cond {A = Option ℕ} (nat_lt 32 b) (Some 2) (cond {A = Option ℕ} (nat_lt 16 c) (Some 3) None)) ≡ None → (a ≤ 64) × (b ≤ 32) × (c ≤ 16)
few a b c none = grind (arith, nat_tests)

-- no fault of the four
none_of_all : (a b c d : Option ℕ) → option_or (option_map TooMany a) (option_or (option_map DoubleName b) (option_or (option_map LongSet c) (option_map TwoDefaults d))) ≡ None → (a ≡ None) × (b ≡ None) × (c ≡ None) × (d ≡ None)
none_of_all None None None None e = (refl, refl, refl, refl)
none_of_all _ _ _ _ e = absurd (cc)

draft_sound : (d : Data) (draft : ManifestDraft) → draft_of d ≡ Ok draft → whole_fault draft ≡ None → IsSoundManifest (manifest_of draft)
draft_sound d draft stated none =
    let parts = none_of_all (too_many draft) (double_name draft.permissions) (long_set (length draft.permissions) draft.roles) (second_that (λ role. role.default) draft.roles) none in
    let sizes = few (length draft.permissions) (length draft.roles) (length draft.match_requests) parts.0 in
    let count : length (manifest_of draft).roles ≡ length draft.roles = length-map draft.roles role_of_draft in
    record {
      few_permissions = sizes.0;
      few_roles = omega (arith, sizes.1, count);
      few_requests = sizes.2;
      formed = all_named d draft stated;
      differ = parts.1;
      sets_fit = sets_within (length draft.permissions) 0 draft.roles parts.2;
      one_default = sym (second_default_is draft.roles) ∙ parts.3;
    }

-- `?` of a `Result`
result_there : {A B : Type 0} (r : Result A ManifestFault) (next : A → Result B ManifestFault) (b : B) → and_then r next ≡ Ok b → (a : A) × (r ≡ Ok a) × (next a ≡ Ok b)
result_there (Err fault) next b e = absurd (cc)
result_there (Ok a) next b e = (a, refl, e)

no_fault : {A : Type 0} (fault : Option ManifestFault) (a b : A) → option_map_or Err fault (Ok a) ≡ Ok b → (fault ≡ None) × (a ≡ b)
no_fault (Some fault) a b e = absurd (cc)
no_fault None a b e = (refl, same_Ok a b e)

pub sound : (bytes : List ℕ) (m : Manifest) → stated_manifest bytes ≡ Ok m → IsSoundManifest m
sound bytes m e =
    let object = result_there (ok_or (object_of bytes) NotJson) (λ value. and_then (draft_of value) checked) m e in
    let draft = result_there (draft_of object.0) checked m object.2 in
    let whole = no_fault (whole_fault draft.0) (manifest_of draft.0) m draft.2 in
    subst IsSoundManifest whole.1 (draft_sound object.0 draft.0 draft.1 whole.0)
