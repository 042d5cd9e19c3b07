-- Writing items one after the other, as a loop does.
use Rattle.std.proofs.Common.{◌≡◌, ℕ, ◌+◌, ◌≤◌, ◌<◌, List, [], ◌∷◌, ◌++◌, length, get_or, take, map, Option, Some, None, sym, ap, ◌∙◌, append_assoc, append-nil}
use Rattle.std.proofs.lemmas.List.{take_more, take_all, map_push}
use Rattle.row_formats.specs.Format.{write_items}

-- the item before what comes after items
abbrev pub last_after : {A : Type 0} → Option A → List A → Option A
last_after last [] = last
last_after last (x ∷ xs) = last_after (Some x) xs

write_items-push : {A : Type 0} (w : Option A → A → List ℕ) (last : Option A) (xs : List A) (x : A) → write_items w last (xs ++ x ∷ []) ≡ write_items w last xs ++ w (last_after last xs) x
write_items-push w last [] x = append-nil (w last x)
write_items-push w last (y ∷ ys) x =
    ap (λ (t : List ℕ). w last y ++ t) (write_items-push w (Some y) ys x)
    ∙ sym (append_assoc (w last y) (write_items w (Some y) ys) (w (last_after (Some y) ys) x))

-- one more item is written
pub puts_on : {A : Type 0} (w : Option A → A → List ℕ) (xs : List A) (i : ℕ) (d : A) (before out new : List ℕ) → i < length xs → out ≡ before ++ write_items w None (take i xs)
    → new ≡ out ++ w (last_after None (take i xs)) (get_or xs i d) → new ≡ before ++ write_items w None (take (i + 1) xs)
puts_on w xs i d before out new lt so_far now =
    now ∙ ap (λ (t : List ℕ). t ++ w (last_after None (take i xs)) (get_or xs i d)) so_far
    ∙ append_assoc before (write_items w None (take i xs)) (w (last_after None (take i xs)) (get_or xs i d))
    ∙ ap (λ (t : List ℕ). before ++ t) (sym (write_items-push w None (take i xs) (get_or xs i d)))
    ∙ ap (λ ys. before ++ write_items w None ys) (sym (take_more xs i d lt))

-- all are written, behind their count
pub all_put : {A : Type 0} (w : Option A → A → List ℕ) (xs : List A) (i : ℕ) (old count out : List ℕ) → length xs ≤ i → out ≡ (old ++ count) ++ write_items w None (take i xs) → out ≡ old ++ (count ++ write_items w None xs)
all_put w xs i old count out le so_far =
    so_far ∙ ap (λ ys. (old ++ count) ++ write_items w None ys) (take_all i xs le) ∙ append_assoc old count (write_items w None xs)

-- the same, where the items are seen by a view
pub puts_on_seen : {X A : Type 0} (g : X → A) (w : Option A → A → List ℕ) (xs : List X) (i : ℕ) (d : X) (before out new : List ℕ) → i < length xs → out ≡ before ++ write_items w None (map g (take i xs))
    → new ≡ out ++ w (last_after None (map g (take i xs))) (g (get_or xs i d)) → new ≡ before ++ write_items w None (map g (take (i + 1) xs))
puts_on_seen g w xs i d before out new lt so_far now =
    now ∙ ap (λ (t : List ℕ). t ++ w (last_after None (map g (take i xs))) (g (get_or xs i d))) so_far
    ∙ append_assoc before (write_items w None (map g (take i xs))) (w (last_after None (map g (take i xs))) (g (get_or xs i d)))
    ∙ ap (λ (t : List ℕ). before ++ t) (sym (write_items-push w None (map g (take i xs)) (g (get_or xs i d))))
    ∙ ap (λ ys. before ++ write_items w None ys) (sym (map_push g (take i xs) (get_or xs i d)))
    ∙ ap (λ ys. before ++ write_items w None (map g ys)) (sym (take_more xs i d lt))

pub all_put_seen : {X A : Type 0} (g : X → A) (w : Option A → A → List ℕ) (xs : List X) (i : ℕ) (old count out : List ℕ) → length xs ≤ i → out ≡ (old ++ count) ++ write_items w None (map g (take i xs)) → out ≡ old ++ (count ++ write_items w None (map g xs))
all_put_seen g w xs i old count out le so_far =
    so_far ∙ ap (λ ys. (old ++ count) ++ write_items w None (map g ys)) (take_all i xs le) ∙ append_assoc old count (write_items w None (map g xs))
