-- The name that bytes are.
use Rattle.std.proofs.Common.{◌≡◌, ℕ, ◌≤◌, Bool, true, false, cond, List, length, Some, None, refl, sym, ap, subst, ◌∙◌, ◌&&◌}
use Rattle.std.specs.Str.{is_utf8}
use Rattle.std.proofs.lemmas.Bool.{leb-true, and_parts, and_from, false_from_ne_true}
use Rattle.std.proofs.lemmas.Str.{IsUtf8-from_is_utf8, is_utf8-from_IsUtf8}
use Rattle.plain_data.specs.Name.{IsName, is_plain}
use Rattle.row_formats.specs.Format.{name_of}

pub name_is : (bs : List ℕ) → IsName bs → name_of bs ≡ Some bs
unfolding name_of
name_is bs h = rw (and_from _ _ (is_utf8-from_IsUtf8 bs h.utf8) h.plain) refl

some_named : (b : Bool) (bs t : List ℕ) → cond b (Some bs) None ≡ Some t → (b ≡ true) × (bs ≡ t)
some_named true bs t e = (refl, cc)
some_named false bs t e = absurd cc

pub is_named : (bs t : List ℕ) → name_of bs ≡ Some t → (bs ≡ t) × IsName t
unfolding name_of
is_named bs t e =
    let h = some_named (is_utf8 bs && is_plain bs) bs t e in
    let both = and_parts (is_utf8 bs) (is_plain bs) h.0 in
    (h.1, subst IsName h.1 (record { utf8 = IsUtf8-from_is_utf8 bs both.0; plain = both.1 }))

pub name_length : (t : List ℕ) → IsName t → length t ≤ 2000
name_length t h = leb-true _ _ (and_parts _ _ h.plain).0

-- bytes that are no name
pub no_name : (bs : List ℕ) → (IsName bs → ⊥) → name_of bs ≡ None
unfolding name_of
no_name bs h =
    let no : (is_utf8 bs && is_plain bs) ≡ false =
    false_from_ne_true (is_utf8 bs && is_plain bs) (λ e. let both = and_parts (is_utf8 bs) (is_plain bs) e in h (record { utf8 = IsUtf8-from_is_utf8 bs both.0; plain = both.1 })) in
    rw no refl

-- the name that was found
pub name_found : (bs name : List ℕ) → name ≡ bs → IsName name → Some name ≡ name_of bs
name_found bs name e form = ap Some e ∙ sym (name_is bs (subst IsName e form))
