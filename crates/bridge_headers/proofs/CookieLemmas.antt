-- Cookies of other hosts, and the lines of an answer that are passed on.
use Rattle.std.proofs.Common.{◌≡◌, ℕ, ◌+◌, ◌<◌, ◌++◌, ◌==◌, ◌||◌, ◌&&◌, not, Bool, true, false, cond, List, [], ◌∷◌, length, get_or, drop, filter, refl, ap, sym, ◌∙◌, append_assoc}
use Rattle.std.proofs.lemmas.Bool.{false≢true}
use Rattle.std.proofs.lemmas.List.{drop_more}
use Rattle.std.proofs.lemmas.List.Elements.{filter-append}
use Rattle.bridge_headers.specs.Lines.{HeaderLine, lines_text, passed}
use Rattle.bridge_headers.specs.Cookies.{begins_domain, names_domain, is_foreign}
use Rattle.bridge_headers.specs.Relay.{answer_names, answer_lines}
use Rattle.bridge_headers.proofs.LineLemmas.{passed-append}

-- what a place of a value says of the attributes from there on
pub names_at : (i : ℕ) (value : List ℕ) → i < length value → names_domain (drop i value) ≡ ((get_or value i 0 == 59 && begins_domain (drop (i + 1) value)) || names_domain (drop (i + 1) value))
unfolding names_domain
names_at i value within = ap names_domain (drop_more value i 0 within)

-- a place at which an attribute is found, and two at which there is none
pub found_here : (byte attribute rest : Bool) → byte ≡ true → attribute ≡ true → ((byte && attribute) || rest) ≡ true
found_here true true rest is names = refl
found_here true false rest is names = absurd (false≢true names)
found_here false attribute rest is names = absurd (false≢true is)

pub other_attribute : (byte attribute rest : Bool) → attribute ≡ false → ((byte && attribute) || rest) ≡ rest
other_attribute true true rest names = absurd (false≢true (sym names))
other_attribute true false rest names = refl
other_attribute false attribute rest names = refl

pub no_semicolon : (byte attribute rest : Bool) → byte ≡ false → ((byte && attribute) || rest) ≡ rest
no_semicolon true attribute rest is = absurd (false≢true (sym is))
no_semicolon false attribute rest is = refl

-- a line that stays is passed on by its name
pub kept_line : (line : HeaderLine) → is_foreign line ≡ false → answer_lines (line ∷ []) ≡ passed answer_names (line ∷ [])
kept_line line own = ap (λ (foreign : Bool). passed answer_names (cond (not foreign) (line ∷ []) [])) own

-- the lines that are passed on of one line more
answer-more : (lines : List HeaderLine) (line : HeaderLine) → lines_text (answer_lines (lines ++ line ∷ [])) ≡ lines_text (answer_lines lines) ++ lines_text (answer_lines (line ∷ []))
answer-more lines line =
    ap (λ kept. lines_text (passed answer_names kept)) (filter-append (λ sent. not (is_foreign sent)) lines (line ∷ []))
    ∙ passed-append answer_names (filter (λ sent. not (is_foreign sent)) lines) (filter (λ sent. not (is_foreign sent)) (line ∷ []))

-- one line more, of which the text is passed on
pub answer_next : (new mid old : List ℕ) (lines more : List HeaderLine) (line : HeaderLine) → more ≡ lines ++ line ∷ [] → mid ≡ old ++ lines_text (answer_lines lines)
    → new ≡ mid ++ lines_text (answer_lines (line ∷ [])) → new ≡ old ++ lines_text (answer_lines more)
answer_next new mid old lines more line is first second =
    second ∙ ap (λ (xs : List ℕ). xs ++ lines_text (answer_lines (line ∷ []))) first ∙ append_assoc old _ _ ∙ ap (λ (xs : List ℕ). old ++ xs) (sym (answer-more lines line))
    ∙ ap (λ (ls : List HeaderLine). old ++ lines_text (answer_lines ls)) (sym is)
