-- The text that bytes state, by what is known of the first of them.
use Rattle.std.proofs.Common.{◌≡◌, ℕ, zero, suc, ◌+◌, ◌-◌, ◌<◌, ◌≤◌, ◌++◌, ◌&&◌, ◌⊎◌, inl, inr, Bool, true, false, nat_le, nat_eq, List, [], ◌∷◌, Option, Some, None, option_map, length, take, drop, if◌then◌else◌, refl, sym, ◌∙◌, ap, subst, arith, length-append}
use Rattle.std.specs.Option.{option_and_then}
use Rattle.std.specs.List.{starts_with}
use Rattle.std.proofs.lemmas.List.{take-append-le, length-take-le}
use Rattle.std.proofs.lemmas.Bool.Decides.{nat_tests}
use Rattle.front_http.specs.Heads.{are_lengths, announced}
use Rattle.front_http.specs.Stream.{head_end, head_length}
use Rattle.front_http.specs.Pending.{HasNoEndBefore, IsSearched}
use Rattle.front_http.specs.declared.look.Pending.TheVariants.{Search}
use Rattle.front_http.proofs.HeadEnds.{EndsAt, ends_at, starts_append}
use Rattle.front_http.proofs.Pieces.{append-nil, pending_more}
use Rattle.grain_program.specs.Stated.{text_length, first_bytes, lengths_of, text_of}

none_by : (t : Bool) (o : Option ℕ) → (if t then Some 4 else option_map suc o) ≡ None → (t ≡ false) × (o ≡ None)
none_by true o e = cc
none_by false None e = (refl, refl)
none_by false (Some n) e = cc

found_by : (t : Bool) (o : Option ℕ) (n : ℕ) → (if t then Some 4 else option_map suc o) ≡ Some n → ((t ≡ true) × (n ≡ 4)) ⊎ ((m : ℕ) × (o ≡ Some m) × (n ≡ suc m))
found_by true o n e = inl (refl, cc)
found_by false None n e = cc
found_by false (Some m) n e = inr (m, refl, cc)

-- in bytes without a head CR LF CR LF stands nowhere
pub ends_nowhere : (xs : List ℕ) → head_length xs ≡ None → (place : ℕ) → starts_with nat_eq (drop place xs) head_end ≡ false
unfolding head_length
ends_nowhere [] none zero = refl
ends_nowhere [] none (suc place) = refl
ends_nowhere (b ∷ bs) none zero = (none_by (starts_with nat_eq (b ∷ bs) head_end) (head_length bs) none).0
ends_nowhere (b ∷ bs) none (suc place) = ends_nowhere bs (none_by (starts_with nat_eq (b ∷ bs) head_end) (head_length bs) none).1 place

-- they are searched but for the last three, and stay so when more bytes come
pub searched_more : (xs more ys : List ℕ) (from : ℕ) → head_length xs ≡ None → from ≤ length xs - 3 → ys ≡ xs ++ more → HasNoEndBefore from ys
searched_more xs more ys from none near is =
    let searched : IsSearched from xs = record { none = λ place before. ends_nowhere xs none place; far = λ place before. omega arith } in
    subst (HasNoEndBefore from) (sym is) (pending_more xs more (Search from) searched).none

-- a head that ends behind bytes is longer than they are
ends_behind : (xs ys : List ℕ) (n : ℕ) → head_length xs ≡ None → head_length (xs ++ ys) ≡ Some n → length xs < n
unfolding head_length
ends_behind [] ys n none is = omega (arith, (ends_at ys [] n is).four)
ends_behind (b ∷ bs) ys n none is =
    let now = none_by (starts_with nat_eq (b ∷ bs) head_end) (head_length bs) none in
    elim (found_by (starts_with nat_eq ((b ∷ bs) ++ ys) head_end) (head_length (bs ++ ys)) n is) [
      | inl h ↦ short h.0 h.1 now.0
      | inr h ↦ omega (arith, ends_behind bs ys h.0 now.1 h.1, h.2)
    ]
  where
    short : starts_with nat_eq ((b ∷ bs) ++ ys) head_end ≡ true → n ≡ 4 → starts_with nat_eq (b ∷ bs) head_end ≡ false → length (b ∷ bs) < n
    short holds four fails = by_bound (nat_le 4 (length (b ∷ bs))) refl
      where
        by_bound : (t : Bool) → nat_le 4 (length (b ∷ bs)) ≡ t → length (b ∷ bs) < n
        by_bound true long = let enough : 4 ≤ length (b ∷ bs) = grind (arith, nat_tests, long) in absurd (cc (starts_append (b ∷ bs) ys head_end enough))
        by_bound false less = grind (arith, nat_tests, less, four)

-- bytes without a head that are as long as a text may be state none, whatever follows
pub no_text : (held rest bytes : List ℕ) → head_length held ≡ None → 2097152 < length held → held ++ rest ≡ bytes → text_of bytes ≡ None
unfolding text_of text_length
no_text held rest bytes none long same = by_end (head_length bytes) refl
  where
    too_long : (n : ℕ) → head_length bytes ≡ Some n → text_length (take n bytes) ≡ None
    too_long n is =
        let there : head_length (held ++ rest) ≡ Some n = subst (λ (xs : List ℕ). head_length xs ≡ Some n) (sym same) is in
        let behind : length held < n = ends_behind held rest n none there in
        let within : n ≤ length bytes = (ends_at bytes [] n is).within in
        let size : length (take n bytes) ≡ n = length-take-le n bytes within in
        let over : nat_le (length (take n bytes) + announced (lengths_of (take n bytes))) 2097152 ≡ false = grind (arith, nat_tests, size, behind, long) in
        by_lengths (are_lengths (lengths_of (take n bytes))) (length (take n bytes) + announced (lengths_of (take n bytes))) over
      where
        by_lengths : (t : Bool) (m : ℕ) → nat_le m 2097152 ≡ false → (if t && nat_le m 2097152 then Some m else None) ≡ None
        by_lengths true m over = rw over refl
        by_lengths false m over = refl

    by_end : (end : Option ℕ) → head_length bytes ≡ end → text_of bytes ≡ None
    by_end None is = rw is refl
    by_end (Some n) is = rw (is, too_long n is) refl

-- what is held is all, where nothing is left
pub held_all : (bytes held rest : List ℕ) → held ++ rest ≡ bytes → rest ≡ [] → held ≡ bytes
held_all bytes held rest same none = sym (append-nil held) ∙ ap (λ (xs : List ℕ). held ++ xs) (sym none) ∙ same

-- nor do bytes without a head
pub no_head : (bytes : List ℕ) → head_length bytes ≡ None → text_of bytes ≡ None
unfolding text_of
no_head bytes none = rw none refl

-- the text of bytes of which the head is known
known_head : (held rest bytes : List ℕ) (n : ℕ) → head_length held ≡ Some n → held ++ rest ≡ bytes → text_of bytes ≡ option_and_then (λ m. first_bytes m bytes) (text_length (take n held))
unfolding text_of
known_head held rest bytes n is same =
    let ends : EndsAt held rest n = ends_at held rest n is in
    let there : head_length bytes ≡ Some n = subst (λ (xs : List ℕ). head_length xs ≡ Some n) same ends.stays in
    let run : take n bytes ≡ take n held = subst (λ (xs : List ℕ). take n xs ≡ take n held) same (take-append-le n held rest ends.within) in
    rw (there, run) refl

-- it has no length
pub refused_text : (held rest bytes : List ℕ) (n : ℕ) → head_length held ≡ Some n → held ++ rest ≡ bytes → text_length (take n held) ≡ None → text_of bytes ≡ None
refused_text held rest bytes n is same none = known_head held rest bytes n is same ∙ ap (option_and_then (λ m. first_bytes m bytes)) none

-- there are fewer bytes
pub cut_text : (held rest bytes : List ℕ) (n m : ℕ) → head_length held ≡ Some n → held ++ rest ≡ bytes → text_length (take n held) ≡ Some m → length (held ++ rest) < m → text_of bytes ≡ None
cut_text held rest bytes n m is same length_is few =
    let short : nat_le m (length bytes) ≡ false = grind (arith, nat_tests, few, ap length same) in
    known_head held rest bytes n is same ∙ ap (option_and_then (λ m. first_bytes m bytes)) length_is ∙ rw short refl

-- as many bytes were read
pub whole_text : (held rest bytes more others : List ℕ) (n m : ℕ) → head_length held ≡ Some n → held ++ rest ≡ bytes → text_length (take n held) ≡ Some m → m ≤ length more → more ++ others ≡ held ++ rest
    → text_of bytes ≡ Some (take m more)
whole_text held rest bytes more others n m is same length_is within all =
    let fits : nat_le m (length bytes) ≡ true = grind (arith, nat_tests, within, length-append more others, ap length all, ap length same) in
    let run : take m bytes ≡ take m more = subst (λ (xs : List ℕ). take m xs ≡ take m more) (all ∙ same) (take-append-le m more others within) in
    known_head held rest bytes n is same ∙ ap (option_and_then (λ m. first_bytes m bytes)) length_is ∙ rw (fits, run) refl
