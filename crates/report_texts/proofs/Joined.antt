-- Names that commas join.
use Rattle.std.proofs.Common.{◌≡◌, ◌≤◌, ◌-◌, ℕ, true, List, [], ◌∷◌, ◌++◌, length, take, drop, get_or, codes, append_assoc, ap, ◌∙◌, arith}
use Rattle.std.specs.Prelude.{flat_map}
use Rattle.std.specs.List.{join_with_byte}
use Rattle.std.proofs.lemmas.List.{append-nil, take_all}
use Rattle.report_texts.specs.Terms.{ReportLine}
use Rattle.report_texts.specs.Words.{facts_of, joined}

-- each behind a comma
abbrev pub behind : List (List ℕ) → List ℕ
behind names = flat_map (λ name. 44 ∷ name) names

row : (first : List ℕ) (others : List (List ℕ)) → first ++ behind others ≡ join_with_byte 44 (first ∷ others)
row first [] = append-nil first
row first (x ∷ xs) = ap (λ (rest : List ℕ). first ++ 44 ∷ rest) (row x xs)

-- the first one, and those behind it
pub joined_row : (first : List ℕ) (others : List (List ℕ)) → first ++ behind others ≡ joined (first ∷ others)
unfolding joined
joined_row first others = row first others

-- behind what was there
pub joined_names : (old : List ℕ) (names : List (List ℕ)) (none a b : List ℕ) → 1 ≤ length names
    → a ≡ old ++ get_or names 0 none → b ≡ a ++ behind (take (length names - 1) (drop 1 names)) → b ≡ old ++ joined names
joined_names old [] none a b some first others = absurd (omega arith)
joined_names old (x ∷ xs) none a b some first others =
    let all : take (length (x ∷ xs) - 1) xs ≡ xs = take_all (length (x ∷ xs) - 1) xs (omega arith) in
    others ∙ ap (λ (ys : List (List ℕ)). a ++ behind ys) all ∙ ap (λ (text : List ℕ). text ++ behind xs) first
    ∙ append_assoc old x (behind xs) ∙ ap (λ (text : List ℕ). old ++ text) (joined_row x xs)

-- entry, and then names
pub entry_first : (old : List ℕ) (line : ReportLine) (a b : List ℕ) → line.entry ≡ true → a ≡ old ++ codes "entry"
    → b ≡ a ++ behind line.permissions → b ≡ old ++ joined (facts_of line)
entry_first old line a b entry first others =
    let facts : codes "entry" ∷ line.permissions ≡ facts_of line = rw entry in
    others ∙ ap (λ (text : List ℕ). text ++ behind line.permissions) first
    ∙ append_assoc old (codes "entry") (behind line.permissions)
    ∙ ap (λ (text : List ℕ). old ++ text) (joined_row (codes "entry") line.permissions ∙ ap joined facts)
