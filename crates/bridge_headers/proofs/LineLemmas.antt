use Rattle.std.proofs.Common.{◌≡◌, ℕ, zero, suc, ◌<◌, ◌++◌, ◌||◌, Bool, true, false, List, [], ◌∷◌, length, get_or, map, filter, refl, ap, sym, ◌∙◌, arith, append_assoc, append-nil, ◌⊎◌, inl, inr, All, Contains}
use Rattle.std.specs.List.{list_any, AllByRecursion}
use Rattle.std.proofs.lemmas.List.Concat.{flat_map-append}
use Rattle.std.proofs.lemmas.List.Elements.{filter-append, Contains-get_or, Contains-append_right}
use Rattle.std.proofs.lemmas.List.{map-append}
use Rattle.std.proofs.lemmas.Bool.{false≢true}
use Rattle.std.proofs.lemmas.Slice.Eq.{bytes_eq-Decides}
use Rattle.std.specs.Str.{bytes_eq}
use Rattle.bridge_headers.specs.Lines.{HeaderLine, line_text, lines_text, lower, lower_line, is_passed, passed, same_name}

or_true : (a b : Bool) → b ≡ true → (a || b) ≡ true
or_true true b h = refl
or_true false b h = h

pub true_or : (a b : Bool) → (a || b) ≡ true → (a ≡ true) ⊎ (b ≡ true)
true_or true b h = inl refl
true_or false b h = inr h

-- a test that one item passes is passed by some
pub any_at : {X Y : Type 0} (p : Y → Bool) (f : X → Y) (xs : List X) (i : ℕ) (d : X) → i < length xs → p (f (get_or xs i d)) ≡ true → list_any p (map f xs) ≡ true
any_at p f [] i d within passes = absurd (omega arith)
any_at p f (x ∷ xs) zero d within passes = ap (λ (b : Bool). b || list_any p (map f xs)) passes
any_at p f (x ∷ xs) (suc i) d within passes = or_true (p (f x)) (list_any p (map f xs)) (any_at p f xs i d (omega arith) passes)

-- the lines that are passed on of more lines
pub passed-append : (names : List (List ℕ)) (lines more : List HeaderLine) → lines_text (passed names (lines ++ more)) ≡ lines_text (passed names lines) ++ lines_text (passed names more)
passed-append names lines more =
    ap (λ kept. lines_text (map lower_line kept)) (filter-append (λ sent. is_passed names sent.0) lines more)
    ∙ ap lines_text (map-append lower_line (filter (λ sent. is_passed names sent.0) lines) (filter (λ sent. is_passed names sent.0) more))
    ∙ flat_map-append line_text (passed names lines) (passed names more)

-- pieces that were appended one after another
pub one_line : (new old : List ℕ) (line : HeaderLine) → new ≡ old ++ line_text line → new ≡ old ++ lines_text (line ∷ [])
one_line new old line e = e ∙ ap (λ (xs : List ℕ). old ++ xs) (sym (append-nil (line_text line)))

pub more_lines : (new mid old : List ℕ) (a b : List HeaderLine) → mid ≡ old ++ lines_text a → new ≡ mid ++ lines_text b → new ≡ old ++ lines_text (a ++ b)
more_lines new mid old a b first second =
    second ∙ ap (λ (xs : List ℕ). xs ++ lines_text b) first ∙ append_assoc old (lines_text a) (lines_text b) ∙ ap (λ (xs : List ℕ). old ++ xs) (sym (flat_map-append line_text a b))

pub more_line : (new mid old : List ℕ) (a : List HeaderLine) (line : HeaderLine) → mid ≡ old ++ lines_text a → new ≡ mid ++ line_text line → new ≡ old ++ lines_text (a ++ line ∷ [])
more_line new mid old a line first second = more_lines new mid old a (line ∷ []) first (one_line new mid line second)

-- each item of a list is in it
pub all_contained : {X : Type 0} (xs : List X) → All (Contains xs) xs
all_contained xs = λ k d within. Contains-get_or xs k d within

-- a name that is the same as one of a list of names in lower case is in that list, in lower case
pub is_listed : (name : List ℕ) (names : List (List ℕ)) → AllByRecursion (λ listed. lower listed ≡ listed) names → list_any (same_name name) names ≡ true → Contains names (lower name)
unfolding same_name
is_listed name [] low same = absurd (false≢true same)
is_listed name (x ∷ xs) low same =
    elim (true_or (bytes_eq (lower name) (lower x)) (list_any (same_name name) xs) same) [
      | inl here ↦ let e : lower name ≡ x = (bytes_eq-Decides (lower name) (lower x)).0 here ∙ low.0 in (0, omega arith, sym e)
      | inr there ↦ Contains-append_right (x ∷ []) xs (lower name) (is_listed name xs low.1 there)
    ]

-- one line more, of which the text is passed on
pub passed_next : (names : List (List ℕ)) (new mid old : List ℕ) (lines more : List HeaderLine) (line : HeaderLine) → more ≡ lines ++ line ∷ [] → mid ≡ old ++ lines_text (passed names lines)
    → new ≡ mid ++ lines_text (passed names (line ∷ [])) → new ≡ old ++ lines_text (passed names more)
passed_next names new mid old lines more line is first second =
    second ∙ ap (λ (xs : List ℕ). xs ++ lines_text (passed names (line ∷ []))) first ∙ append_assoc old _ _ ∙ ap (λ (xs : List ℕ). old ++ xs) (sym (passed-append names lines (line ∷ [])))
    ∙ ap (λ (ls : List HeaderLine). old ++ lines_text (passed names ls)) (sym is)
