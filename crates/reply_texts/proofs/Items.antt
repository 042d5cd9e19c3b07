-- Items as they are written, and items that commas join.
use Rattle.std.proofs.Common.{◌≡◌, ℕ, ◌-◌, ◌≤◌, List, [], ◌∷◌, ◌++◌, length, map, take, drop, get_or, codes, decimal, append_assoc, ap, ◌∙◌, Result, Ok, Err, OnOk, arith}
use Rattle.std.specs.Prelude.{flat_map}
use Rattle.std.specs.List.{join_with_byte}
use Rattle.std.proofs.lemmas.List.{append-nil, take_all}
use Rattle.host_base.specs.declared.ids.GrainId.{GrainId}
use Rattle.powerbox_match.specs.declared.value.Quality.{Quality}
use Rattle.saved_refs.specs.declared.listed.Listed.{Listed}
use Rattle.share_graph.specs.declared.desk.Offer.TheVariants.{Grain, Site}
use Rattle.reply_texts.specs.Options.{quality_name, item_text}

-- what holds on success may be put in other words
pub on_ok : {A E P Q : Type 0} (r : Result A E) → (P → Q) → OnOk r P → OnOk r Q
on_ok (Ok a) f p = f p
on_ok (Err e) f p = p

-- one part after another, behind what was there
grain_row : (old key n between q mark last : List ℕ) → old ++ key ++ n ++ between ++ q ++ mark ++ last ≡ old ++ (key ++ ((n ++ (between ++ (q ++ mark))) ++ last))
grain_row old key n between q mark last = simp append_assoc

site_row : (old key n between q mark site t last : List ℕ) → old ++ key ++ n ++ between ++ q ++ mark ++ site ++ t ++ last ≡ old ++ (key ++ ((n ++ (between ++ ((q ++ mark) ++ (site ++ t)))) ++ last))
site_row old key n between q mark site t last = simp append_assoc

-- the item of a grain
pub grain_item : (old : List ℕ) (grain : GrainId) (quality : Quality) (a b c d : List ℕ) →
    a ≡ old ++ codes "{\"grain\":" → b ≡ a ++ decimal grain.0 → c ≡ b ++ codes ",\"quality\":\"" ++ quality_name quality ++ codes "\"" → d ≡ c ++ codes "}"
    → d ≡ old ++ item_text (record { offer = Grain grain; quality = quality })
unfolding item_text
grain_item old grain quality a b c d first second third last =
    rw (last, third, second, first)
    (grain_row old (codes "{\"grain\":") (decimal grain.0) (codes ",\"quality\":\"") (quality_name quality) (codes "\"") (codes "}"))

-- an item of the site's own
pub site_item : (old : List ℕ) (tag item : ℕ) (quality : Quality) (a b c d e f : List ℕ) →
    a ≡ old ++ codes "{\"item\":" → b ≡ a ++ decimal item → c ≡ b ++ codes ",\"quality\":\"" ++ quality_name quality ++ codes "\"" → d ≡ c ++ codes ",\"site\":" → e ≡ d ++ decimal tag → f ≡ e ++ codes "}"
    → f ≡ old ++ item_text (record { offer = Site tag item; quality = quality })
unfolding item_text
site_item old tag item quality a b c d e f first second third fourth fifth last =
    rw (last, fifth, fourth, third, second, first)
    (site_row old (codes "{\"item\":") (decimal item) (codes ",\"quality\":\"") (quality_name quality) (codes "\"") (codes ",\"site\":") (decimal tag) (codes "}"))

-- the first item, and those behind commas
joined : (first : Listed) (others : List Listed) →
    item_text first ++ flat_map (λ other. 44 ∷ item_text other) others ≡ join_with_byte 44 (map item_text (first ∷ others))
joined first [] = append-nil (item_text first)
joined first (x ∷ xs) = ap (λ (rest : List ℕ). item_text first ++ 44 ∷ rest) (joined x xs)

pub items : (old : List ℕ) (listed : List Listed) (none : Listed) (a b : List ℕ) → 1 ≤ length listed →
    a ≡ old ++ item_text (get_or listed 0 none) → b ≡ a ++ flat_map (λ other. 44 ∷ item_text other) (take (length listed - 1) (drop 1 listed))
    → b ≡ old ++ join_with_byte 44 (map item_text listed)
items old [] none a b some first others = absurd (omega arith)
items old (x ∷ xs) none a b some first others =
    let all : take (length (x ∷ xs) - 1) xs ≡ xs = take_all (length (x ∷ xs) - 1) xs (omega arith) in
    let rest = flat_map (λ (other : Listed). 44 ∷ item_text other) in
    others ∙ ap (λ (ys : List Listed). a ++ rest ys) all ∙ ap (λ (text : List ℕ). text ++ rest xs) first
    ∙ append_assoc old (item_text x) (rest xs) ∙ ap (λ (text : List ℕ). old ++ text) (joined x xs)
