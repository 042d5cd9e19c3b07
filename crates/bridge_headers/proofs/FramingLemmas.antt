-- What the lines of a head state.
use Rattle.std.proofs.Common.{◌≡◌, ℕ, zero, suc, ◌+◌, ◌-◌, ◌*◌, ◌^◌, ◌<◌, ◌≤◌, ◌++◌, ◌&&◌, Bool, true, false, cond, List, [], ◌∷◌, length, get_or, take, map, filter, refl, ap, sym, ◌∙◌, arith, append-nil, nat_le}
use Rattle.std.specs.Char.{is_ascii_digit, digit_value}
use Rattle.std.specs.Str.{all_ascii_digits}
use Rattle.std.specs.Str.Parse.{digits_value}
use Rattle.std.proofs.lemmas.Bool.{leb-true, false≢true}
use Rattle.std.proofs.lemmas.Bool.Decides.{nat_tests}
use Rattle.std.proofs.lemmas.List.{map-append, take_more, length-take-le}
use Rattle.std.proofs.lemmas.List.Elements.{filter-append}
use Rattle.std.proofs.lemmas.Str.Parse.{IsNumeralModel, numerals_by_value, tells_all_ascii_digits, digits_value_short}
use Rattle.httparse.proofs.ChunkLemmas.{digits_value_after_push}
use Rattle.httparse.specs.Spans.{header_bytes}
use Rattle.httparse.specs.declared.spans.HeaderSpan.{HeaderSpan}
use Rattle.bridge_headers.specs.declared.stated.Stated.{Stated}
use Rattle.bridge_headers.specs.declared.stated.Stated.TheVariants.{Bytes, Bad}
use Rattle.bridge_headers.specs.Lines.{HeaderLine}
use Rattle.bridge_headers.specs.Relay.{is_length_text, length_value, stated, stated_of}
use Rattle.bridge_headers.specs.Lines.{states_length}
use Rattle.bridge_headers.specs.Spans.{with_value}

own : IsNumeralModel (λ ds. all_ascii_digits ds ≡ true) (digits_value 10)
own = numerals_by_value (λ ds. all_ascii_digits ds ≡ true) tells_all_ascii_digits

and_false : (a : Bool) → (a && false) ≡ false
and_false true = refl
and_false false = refl

and_both : (a b : Bool) → (a && b) ≡ true → (a ≡ true) × (b ≡ true)
and_both true b h = (refl, h)
and_both false b h = absurd (false≢true h)

digits_push : (ds : List ℕ) (c : ℕ) → all_ascii_digits ds ≡ true → is_ascii_digit c ≡ true → all_ascii_digits (ds ++ c ∷ []) ≡ true
digits_push [] c all digit = ap (λ (b : Bool). b && true) digit
digits_push (x ∷ xs) c all digit =
    let both = and_both (is_ascii_digit x) (all_ascii_digits xs) all in
    ap (λ (b : Bool). b && all_ascii_digits (xs ++ c ∷ [])) both.0 ∙ digits_push xs c both.1 digit

no_digit : (ds : List ℕ) (i : ℕ) → i < length ds → is_ascii_digit (get_or ds i 0) ≡ false → all_ascii_digits ds ≡ false
no_digit [] i within other = absurd (omega arith)
no_digit (x ∷ xs) zero within other = ap (λ (b : Bool). b && all_ascii_digits xs) other
no_digit (x ∷ xs) (suc i) within other = ap (λ (b : Bool). is_ascii_digit x && b) (no_digit xs i (omega arith) other) ∙ and_false (is_ascii_digit x)

-- a value with another byte states nothing good
pub bad_value : (value : List ℕ) (i : ℕ) → i < length value → is_ascii_digit (get_or value i 0) ≡ false → Bad ≡ length_value value
bad_value value i within other =
    let first = nat_le 1 (length value) && nat_le (length value) 10 in
    sym (ap (λ (b : Bool). cond (first && b) (Bytes (digits_value 10 value)) Bad) (no_digit value i within other) ∙ ap (λ (b : Bool). cond b (Bytes (digits_value 10 value)) Bad) (and_false first))

-- the digits so far, and one more
pub digits_more : (value : List ℕ) (i : ℕ) → i < length value → all_ascii_digits (take i value) ≡ true → is_ascii_digit (get_or value i 0) ≡ true → all_ascii_digits (take (i + 1) value) ≡ true
digits_more value i within all digit = ap all_ascii_digits (take_more value i 0 within) ∙ digits_push (take i value) (get_or value i 0) all digit

digit_is : (c : ℕ) → is_ascii_digit c ≡ true → digit_value c ≡ c - 48
digit_is c digit = grind (arith, nat_tests)

pub number_more : (value : List ℕ) (i n : ℕ) → i < length value → n ≡ digits_value 10 (take i value) → is_ascii_digit (get_or value i 0) ≡ true
    → n * 10 + (get_or value i 0 - 48) ≡ digits_value 10 (take (i + 1) value)
number_more value i n within is digit =
    ap (λ (k : ℕ). k * 10 + (get_or value i 0 - 48)) is ∙ ap (λ (k : ℕ). digits_value 10 (take i value) * 10 + k) (sym (digit_is (get_or value i 0) digit))
    ∙ sym (digits_value_after_push 10 0 (take i value) (get_or value i 0)) ∙ ap (digits_value 10) (sym (take_more value i 0 within))

-- a number of at most nine digits
pub number_small : (value : List ℕ) (i n : ℕ) → i ≤ length value → i ≤ 9 → n ≡ digits_value 10 (take i value) → all_ascii_digits (take i value) ≡ true → n < 1000000000
number_small value i n within few is all =
    let long : length (take i value) ≤ 9 = omega (arith, length-take-le i value within) in
    let small : digits_value 10 (take i value) < 10 ^ 9 = digits_value_short own (take i value) 9 all long in
    omega arith

-- a stated length has at most ten digits
by_value : (value : List ℕ) (n : ℕ) (test : Bool) → test ≡ is_length_text value → cond test (Bytes (digits_value 10 value)) Bad ≡ Bytes n → n < 10000000000
by_value value n true is states =
    let same : digits_value 10 value ≡ n = cc in
    let both = and_both (nat_le 1 (length value) && nat_le (length value) 10) (all_ascii_digits value) (sym is) in
    let few : length value ≤ 10 = leb-true (length value) 10 (and_both (nat_le 1 (length value)) (nat_le (length value) 10) both.0).1 in
    let small : digits_value 10 value < 10 ^ 10 = digits_value_short own value 10 both.1 few in
    omega arith
by_value value n false is states = absurd (cc)

by_values : (values : List (List ℕ)) (n : ℕ) → stated_of values ≡ Bytes n → n < 10000000000
by_values [] n states = absurd (cc)
by_values (value ∷ []) n states = by_value value n (is_length_text value) refl states
by_values (value ∷ next ∷ values) n states = absurd (cc)

pub stated_small : (lines : List HeaderLine) (n : ℕ) → stated lines ≡ Bytes n → n < 10000000000
stated_small lines n states = by_values (map (λ line. line.1) (filter states_length lines)) n states

-- one line more
always_bad : (test : Bool) (n : ℕ) (value : Stated) → Bad ≡ with_value (cond test (Bytes n) Bad) value
always_bad true n value = refl
always_bad false n value = refl

more_value : (values : List (List ℕ)) (value : List ℕ) → stated_of (values ++ value ∷ []) ≡ with_value (stated_of values) (length_value value)
more_value [] value = refl
more_value (first ∷ []) value = always_bad (is_length_text first) (digits_value 10 first) (length_value value)
more_value (first ∷ next ∷ values) value = refl

by_test : (values : List (List ℕ)) (line : HeaderLine) (test : Bool) → stated_of (values ++ map (λ kept. kept.1) (cond test (line ∷ []) [])) ≡ cond test (with_value (stated_of values) (length_value line.1)) (stated_of values)
by_test values line true = more_value values line.1
by_test values line false = ap stated_of (append-nil values)

stated_more : (lines : List HeaderLine) (line : HeaderLine) → stated (lines ++ line ∷ []) ≡ cond (states_length line) (with_value (stated lines) (length_value line.1)) (stated lines)
stated_more lines line =
    ap (λ (kept : List HeaderLine). stated_of (map (λ (k : HeaderLine). k.1) kept)) (filter-append states_length lines (line ∷ []))
    ∙ ap stated_of (map-append (λ (k : HeaderLine). k.1) (filter states_length lines) (filter states_length (line ∷ [])))
    ∙ by_test (map (λ (k : HeaderLine). k.1) (filter states_length lines)) line (states_length line)

-- a span of nothing
abbrev pub blank : HeaderSpan
blank = record { name = record { start = 0; end = 0 }; value = record { start = 0; end = 0 } }

abbrev pub lines_at : List ℕ → List HeaderSpan → List HeaderLine
lines_at head fields = map (header_bytes head) fields

pub lines_more : (head : List ℕ) (fields : List HeaderSpan) (i : ℕ) → i < length fields → lines_at head (take (i + 1) fields) ≡ lines_at head (take i fields) ++ header_bytes head (get_or fields i blank) ∷ []
lines_more head fields i within = ap (lines_at head) (take_more fields i blank within) ∙ map-append (header_bytes head) (take i fields) (get_or fields i blank ∷ [])

pub stated_next : (head : List ℕ) (fields : List HeaderSpan) (i : ℕ) (found new : Stated) → i < length fields → found ≡ stated (lines_at head (take i fields))
    → states_length (header_bytes head (get_or fields i blank)) ≡ true → new ≡ with_value found (length_value (header_bytes head (get_or fields i blank)).1)
    → new ≡ stated (lines_at head (take (i + 1) fields))
stated_next head fields i found new within is test makes =
    let line = header_bytes head (get_or fields i blank) in
    makes ∙ ap (λ (s : Stated). with_value s (length_value line.1)) is
    ∙ sym (ap (λ (b : Bool). cond b (with_value (stated (lines_at head (take i fields))) (length_value line.1)) (stated (lines_at head (take i fields)))) test)
    ∙ sym (stated_more (lines_at head (take i fields)) line) ∙ ap stated (sym (lines_more head fields i within))

pub stated_kept : (head : List ℕ) (fields : List HeaderSpan) (i : ℕ) (found new : Stated) → i < length fields → found ≡ stated (lines_at head (take i fields))
    → states_length (header_bytes head (get_or fields i blank)) ≡ false → new ≡ found → new ≡ stated (lines_at head (take (i + 1) fields))
stated_kept head fields i found new within is test same =
    let line = header_bytes head (get_or fields i blank) in
    same ∙ is
    ∙ sym (ap (λ (b : Bool). cond b (with_value (stated (lines_at head (take i fields))) (length_value line.1)) (stated (lines_at head (take i fields)))) test)
    ∙ sym (stated_more (lines_at head (take i fields)) line) ∙ ap stated (sym (lines_more head fields i within))
