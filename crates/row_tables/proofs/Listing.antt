-- Writing the rows of one kind one after the other, as a loop does.
use Rattle.std.proofs.Common.{◌≡◌, ℕ, suc, ◌+◌, ◌≤◌, ◌<◌, List, [], ◌∷◌, ◌++◌, length, get_or, take, sym, ap, ◌∙◌, append_assoc, arith}
use Rattle.std.proofs.lemmas.List.{take_more, take_all, length-take}
use Rattle.row_formats.specs.Format.{Format}
use Rattle.cloud_keeper.specs.declared.row.Row.{Row}
use Rattle.row_tables.specs.Sections.{section_rows, stored}

pub section_rows-push : {A : Type 0} (kind : ℕ) (format : ℕ → Format A) (n : ℕ) (xs : List A) (x : A) → section_rows kind format n (xs ++ x ∷ []) ≡ section_rows kind format n xs ++ stored kind format (n + length xs) x ∷ []
section_rows-push kind format n [] x = ap (λ (m : ℕ). stored kind format m x ∷ []) (omega arith)
section_rows-push kind format n (y ∷ ys) x =
    let moved : suc n + length ys ≡ n + suc (length ys) = omega arith in
    ap (λ (rows : List Row). stored kind format n y ∷ rows) (section_rows-push kind format (suc n) ys x)
    ∙ ap (λ (m : ℕ). stored kind format n y ∷ (section_rows kind format (suc n) ys ++ stored kind format m x ∷ [])) moved

-- one more row is written
pub puts_on : {A : Type 0} (kind : ℕ) (format : ℕ → Format A) (xs : List A) (i num : ℕ) (d : A) (row : Row) (before out new : List Row) → i < length xs → num ≡ i + 1 → row ≡ stored kind format num (get_or xs i d)
    → out ≡ before ++ section_rows kind format 1 (take i xs) → new ≡ out ++ row ∷ [] → new ≡ before ++ section_rows kind format 1 (take (i + 1) xs)
puts_on {A} kind format xs i num d row before out new lt counted is so_far now =
    let place : 1 + length (take i xs) ≡ num = omega (arith, length-take i xs) in
    let pushed : section_rows kind format 1 (take (i + 1) xs) ≡ section_rows kind format 1 (take i xs) ++ row ∷ [] =
    ap (λ (ys : List A). section_rows kind format 1 ys) (take_more xs i d lt) ∙ section_rows-push kind format 1 (take i xs) (get_or xs i d)
    ∙ ap (λ (m : ℕ). section_rows kind format 1 (take i xs) ++ stored kind format m (get_or xs i d) ∷ []) place
    ∙ ap (λ (r : Row). section_rows kind format 1 (take i xs) ++ r ∷ []) (sym is) in
    now ∙ ap (λ (rows : List Row). rows ++ row ∷ []) so_far ∙ append_assoc before (section_rows kind format 1 (take i xs)) (row ∷ []) ∙ ap (λ (rows : List Row). before ++ rows) (sym pushed)

-- all rows are written
pub all_put : {A : Type 0} (kind : ℕ) (format : ℕ → Format A) (xs : List A) (i : ℕ) (before out : List Row) → length xs ≤ i → out ≡ before ++ section_rows kind format 1 (take i xs) → out ≡ before ++ section_rows kind format 1 xs
all_put {A} kind format xs i before out le so_far = so_far ∙ ap (λ (ys : List A). before ++ section_rows kind format 1 ys) (take_all i xs le)
