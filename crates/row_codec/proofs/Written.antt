-- What is written of each kind of value.
use Rattle.std.proofs.Common.{◌≡◌, ℕ, zero, suc, ◌-◌, ◌<◌, ◌≤◌, List, [], ◌∷◌, ap, ◌∙◌, arith}
use Rattle.std.specs.Prelude.{ℤ}
use Rattle.powerbox_match.specs.Value.{TagData, any, number, text, fields, items, fields_of, items_of, nesting, fields_nesting, items_nesting}
use Rattle.row_formats.specs.Format.{chain, list, integer, text as name}
use Rattle.row_codec.specs.ValueFormat.{entry, value}
use Rattle.row_codec.specs.ValueExact.{fields_back, items_back}

-- there is a level left
pub deep : (depth : ℕ) (d : TagData) → nesting d ≤ depth → 0 < depth
deep depth any h = omega arith
deep depth (number n) h = omega arith
deep depth (text t) h = omega arith
deep depth (fields fs) h = omega arith
deep depth (items vs) h = omega arith

pub deep_fields : (depth : ℕ) (d : TagData) (fs : List (List ℕ × TagData)) → d ≡ fields (fields_of fs) → nesting d ≤ depth → fields_nesting (fields_of fs) ≤ depth - 1
deep_fields depth d fs is h = let e : nesting d ≡ suc (fields_nesting (fields_of fs)) = ap nesting is in omega (arith, e)

pub deep_items : (depth : ℕ) (d : TagData) (vs : List TagData) → d ≡ items (items_of vs) → nesting d ≤ depth → items_nesting (items_of vs) ≤ depth - 1
deep_items depth d vs is h = let e : nesting d ≡ suc (items_nesting (items_of vs)) = ap nesting is in omega (arith, e)

pub write_any : (depth : ℕ) (d : TagData) → d ≡ any → 0 < depth → (value depth).write d ≡ 0 ∷ []
unfolding value
write_any zero d is lt = absurd (omega arith)
write_any (suc depth) d is lt = ap (λ (e : TagData). (value (suc depth)).write e) is

pub write_number : (depth : ℕ) (d : TagData) (n : ℤ) → d ≡ number n → 0 < depth → (value depth).write d ≡ 1 ∷ integer.write n
unfolding value
write_number zero d n is lt = absurd (omega arith)
write_number (suc depth) d n is lt = ap (λ (e : TagData). (value (suc depth)).write e) is

pub write_text : (depth : ℕ) (d : TagData) (t : List ℕ) → d ≡ text t → 0 < depth → (value depth).write d ≡ 2 ∷ name.write t
unfolding value
write_text zero d t is lt = absurd (omega arith)
write_text (suc depth) d t is lt = ap (λ (e : TagData). (value (suc depth)).write e) is

pub write_fields : (depth : ℕ) (d : TagData) (fs : List (List ℕ × TagData)) → d ≡ fields (fields_of fs) → 0 < depth → (value depth).write d ≡ 3 ∷ (chain 1000 (entry (value (depth - 1)))).write fs
unfolding value
write_fields zero d fs is lt = absurd (omega arith)
write_fields (suc depth) d fs is lt =
    let k : suc depth - 1 ≡ depth = omega arith in
    rw k (ap (λ (e : TagData). (value (suc depth)).write e) is ∙ ap (λ (gs : List (List ℕ × TagData)). 3 ∷ (chain 1000 (entry (value depth))).write gs) (fields_back fs))

pub write_items_of : (depth : ℕ) (d : TagData) (vs : List TagData) → d ≡ items (items_of vs) → 0 < depth → (value depth).write d ≡ 4 ∷ (list 1000 (value (depth - 1))).write vs
unfolding value
write_items_of zero d vs is lt = absurd (omega arith)
write_items_of (suc depth) d vs is lt =
    let k : suc depth - 1 ≡ depth = omega arith in
    rw k (ap (λ (e : TagData). (value (suc depth)).write e) is ∙ ap (λ (ws : List TagData). 4 ∷ (list 1000 (value depth)).write ws) (items_back vs))
