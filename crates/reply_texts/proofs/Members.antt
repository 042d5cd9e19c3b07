-- Members with commas before them, and members that commas join.
use Rattle.std.proofs.Common.{◌≡◌, ℕ, List, [], ◌∷◌, ◌++◌, codes, Option, Some, None, drop, append_assoc, refl, ap}
use Rattle.std.specs.Prelude.{flat_map}
use Rattle.std.specs.List.{filter_map, join_with_byte}
use Rattle.std.proofs.lemmas.List.{append-nil}
use Rattle.share_graph.specs.declared.desk.Made.{Made}
use Rattle.reply_texts.specs.declared.done.Handed.{Handed}
use Rattle.reply_texts.specs.Done.{key_of, token_of, members}
use Rattle.reply_texts.specs.DoneParts.{with_comma, number_part, text_part}

-- behind a member
behind : (m : List ℕ) (ms : List (Option (List ℕ))) → m ++ flat_map with_comma ms ≡ join_with_byte 44 (m ∷ filter_map (λ found. found) ms)
behind m [] = append-nil m
behind m (None ∷ ms) = behind m ms
behind m (Some x ∷ ms) = ap (λ (text : List ℕ). m ++ 44 ∷ text) (behind x ms)

-- without the first comma they are joined
pub joined : (ms : List (Option (List ℕ))) → drop 1 (flat_map with_comma ms) ≡ join_with_byte 44 (filter_map (λ found. found) ms)
joined [] = refl
joined (None ∷ ms) = joined ms
joined (Some x ∷ ms) = behind x ms

-- one after another, behind what was there
row : (old a b c d e f g h i : List ℕ) → old ++ a ++ b ++ c ++ d ++ e ++ f ++ g ++ h ++ i ≡ old ++ (a ++ (b ++ (c ++ (d ++ (e ++ (f ++ (g ++ (h ++ (i ++ [])))))))))
row old a b c d e f g h i = simp (append_assoc, append-nil)

pub in_order : (old : List ℕ) (made : Made) (handed : Handed) →
    old ++ number_part (codes "account") made.account ++ number_part (codes "app") made.app ++ number_part (codes "grain") made.grain
    ++ number_part (codes "grant") made.grant ++ number_part (codes "handle") made.handle ++ text_part (codes "key") (key_of handed)
    ++ number_part (codes "saved") made.saved ++ number_part (codes "session") made.session ++ text_part (codes "token") (token_of handed)
    ≡ old ++ flat_map with_comma (members made handed)
unfolding members
in_order old made handed = row old _ _ _ _ _ _ _ _ _
