use Rattle.std.proofs.Common.{◌≡◌, ℕ, suc, ◌+◌, ◌<◌, ◌≤◌, ◌++◌, Bool, cond, true, false, not, List, [], ◌∷◌, take, length, slice_index_or, refl, ap, sym, ◌∙◌, arith, append_assoc}
use Rattle.std.specs.List.{flat_map, join_with_byte}
use Rattle.std.proofs.lemmas.Bool.{agree_below, agree_below_at}
use Rattle.std.proofs.lemmas.List.{take_more, length-take-le}
use Rattle.percent_encoding.specs.AsciiSet.{should_percent_encode}
use Rattle.percent_encoding.specs.Percent.{percent_encode, encode_byte, percent_encode_byte}
use Rattle.bridge_headers.specs.declared.names.TheConstants.{ESCAPED}
use Rattle.bridge_headers.specs.Text.{is_unreserved, name_byte, name_text}

-- one more piece, behind the first
pub join_with_byte-more : (c : ℕ) (x : List ℕ) (xs : List (List ℕ)) (y : List ℕ) → join_with_byte c ((x ∷ xs) ++ y ∷ []) ≡ join_with_byte c (x ∷ xs) ++ (c ∷ y)
join_with_byte-more c x [] y = refl
join_with_byte-more c x (w ∷ ws) y = ap (λ (rest : List ℕ). x ++ (c ∷ rest)) (join_with_byte-more c w ws y) ∙ sym (append_assoc x (c ∷ join_with_byte c (w ∷ ws)) (c ∷ y))

-- the set holds just the bytes that aren't left as they are
escaped_bytes : agree_below (should_percent_encode ESCAPED) (λ b. not (is_unreserved b)) 256 ≡ true
unfolding should_percent_encode
escaped_bytes = refl

by_test : (test : Bool) (b : ℕ) → cond (not test) (percent_encode_byte b) (b ∷ []) ≡ cond test (b ∷ []) (percent_encode_byte b)
by_test true b = refl
by_test false b = refl

same_byte : (b : ℕ) → b < 256 → encode_byte ESCAPED b ≡ name_byte b
same_byte b small = ap (λ (t : Bool). cond t (percent_encode_byte b) (b ∷ [])) (agree_below_at (should_percent_encode ESCAPED) (λ k. not (is_unreserved k)) 256 b escaped_bytes small) ∙ by_test (is_unreserved b) b

pub escaped_name : (name : List ℕ) → ((i : ℕ) → slice_index_or name i 0 < 256) → flat_map (encode_byte ESCAPED) name ≡ name_text name
escaped_name [] small = refl
escaped_name (b ∷ bs) small = ap (λ (xs : List ℕ). xs ++ flat_map (encode_byte ESCAPED) bs) (same_byte b (small 0)) ∙ ap (λ (xs : List ℕ). name_byte b ++ xs) (escaped_name bs (λ i. small (suc i)))

pub percent_encode-name : (name : List ℕ) → ((i : ℕ) → slice_index_or name i 0 < 256) → percent_encode ESCAPED name ≡ name_text name
unfolding percent_encode
percent_encode-name name small = escaped_name name small

-- pieces that were appended one after another
pub two_pieces : (new mid old a b : List ℕ) → mid ≡ old ++ a → new ≡ mid ++ b → new ≡ old ++ (a ++ b)
two_pieces new mid old a b first second = second ∙ ap (λ (xs : List ℕ). xs ++ b) first ∙ append_assoc old a b

pub three_pieces : (new mid low old a b d : List ℕ) → low ≡ old ++ a → mid ≡ low ++ b → new ≡ mid ++ d → new ≡ old ++ ((a ++ b) ++ d)
three_pieces new mid low old a b d first second third = two_pieces new mid old (a ++ b) d (two_pieces mid low old a b first second) third

-- the first piece stands alone, and each further one behind a separator
join_first : (c : ℕ) (front : List (List ℕ)) (y : List ℕ) → length front ≡ 0 → join_with_byte c (front ++ y ∷ []) ≡ join_with_byte c front ++ y
join_first c [] y none = refl
join_first c (x ∷ xs) y none = absurd (omega arith)

join_next : (c : ℕ) (front : List (List ℕ)) (y : List ℕ) → 0 < length front → join_with_byte c (front ++ y ∷ []) ≡ join_with_byte c front ++ (c ∷ y)
join_next c [] y some = absurd (omega arith)
join_next c (x ∷ xs) y some = join_with_byte-more c x xs y

-- the loop's step, in its two cases
pub joined_first : (names : List (List ℕ)) (i : ℕ) (name : List ℕ) → i < length names → name ≡ slice_index_or names i name → i ≤ 0
    → join_with_byte 44 (take (i + 1) names) ≡ join_with_byte 44 (take i names) ++ name
joined_first names i name within is none =
    let front : length (take i names) ≡ 0 = omega (arith, length-take-le i names) in
    ap (join_with_byte 44) (take_more names i name within ∙ ap (λ (y : List ℕ). take i names ++ y ∷ []) (sym is)) ∙ join_first 44 (take i names) name front

pub joined_next : (names : List (List ℕ)) (i : ℕ) (name : List ℕ) → i < length names → name ≡ slice_index_or names i name → 0 < i
    → join_with_byte 44 (take (i + 1) names) ≡ (join_with_byte 44 (take i names) ++ 44 ∷ []) ++ name
joined_next names i name within is some =
    let front : 0 < length (take i names) = omega (arith, length-take-le i names) in
    ap (join_with_byte 44) (take_more names i name within ∙ ap (λ (y : List ℕ). take i names ++ y ∷ []) (sym is)) ∙ join_next 44 (take i names) name front ∙ sym (append_assoc (join_with_byte 44 (take i names)) (44 ∷ []) name)
