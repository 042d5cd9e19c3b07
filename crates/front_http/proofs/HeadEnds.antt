-- Where the head of a request ends.
use Rattle.std.proofs.Common.{◌≡◌, ℕ, zero, suc, ◌+◌, ◌<◌, ◌≤◌, ◌++◌, ◌⊎◌, inl, inr, Bool, true, false, nat_eq, List, [], ◌∷◌, Option, Some, None, option_map, length, take, drop, if◌then◌else◌, refl, sym, ap, arith}
use Rattle.std.specs.List.{starts_with}
use Rattle.std.specs.Cmp.Lexicographic.{pointwise}
use Rattle.std.proofs.lemmas.List.{take-append-le, length-take}
use Rattle.std.proofs.lemmas.Bool.{false_from_ne_true}
use Rattle.std.proofs.lemmas.Slice.Eq.{bytes_eq-Decides}
use Rattle.front_http.specs.Stream.{head_end, head_length}

-- what begins with a text is as long as it
pub starts_bound : (xs p : List ℕ) → starts_with nat_eq xs p ≡ true → length p ≤ length xs
starts_bound xs p holds =
    let same : p ≡ take (length p) xs = (bytes_eq-Decides p (take (length p) xs)).0 holds in
    omega (arith, length-take (length p) xs, ap length same)

pub starts_append : (xs ys p : List ℕ) → length p ≤ length xs → starts_with nat_eq (xs ++ ys) p ≡ starts_with nat_eq xs p
starts_append xs ys p long = ap (λ (zs : List ℕ). pointwise nat_eq p zs) (take-append-le (length p) xs ys long)

-- what is shorter than CR LF CR LF doesn't begin with it
pub starts_short : (xs : List ℕ) → length xs < 4 → starts_with nat_eq xs head_end ≡ false
starts_short xs short = false_from_ne_true _ (λ holds. let long : 4 ≤ length xs = starts_bound xs head_end holds in omega arith)

found_by : (t : Bool) (o : Option ℕ) (n : ℕ) → (if t then Some 4 else option_map suc o) ≡ Some n → ((t ≡ true) × (n ≡ 4)) ⊎ ((t ≡ false) × ((m : ℕ) × (o ≡ Some m) × (n ≡ suc m)))
found_by true o n e = inl (refl, cc)
found_by false None n e = cc
found_by false (Some m) n e = inr (refl, (m, refl, cc))

-- the end of a head that is there stays where it is, whatever follows
pub record EndsAt (xs ys : List ℕ) (n : ℕ) : Type 0 where
  pub four : 4 ≤ n
  pub within : n ≤ length xs
  pub stays : head_length (xs ++ ys) ≡ Some n

pub ends_at : (xs ys : List ℕ) (n : ℕ) → head_length xs ≡ Some n → EndsAt xs ys n
unfolding head_length
ends_at [] ys n e = cc
ends_at (b ∷ bs) ys n e = elim (found_by (starts_with nat_eq (b ∷ bs) head_end) (head_length bs) n e) [
  | inl h ↦
      let long : 4 ≤ length (b ∷ bs) = starts_bound (b ∷ bs) head_end h.0 in
      record { four = omega arith; within = omega arith; stays = rw (starts_append (b ∷ bs) ys head_end long, h.0) (ap Some (sym h.1)) }
  | inr h ↦
      let rest : EndsAt bs ys h.1.0 = ends_at bs ys h.1.0 h.1.1 in
      let long : 4 ≤ length (b ∷ bs) = omega arith in
      record { four = omega arith; within = omega arith; stays = rw (starts_append (b ∷ bs) ys head_end long, h.0, rest.stays) (ap Some (sym h.1.2)) }
]

-- a head ends four bytes behind the first place at which CR LF CR LF stands
pub found_at : (k : ℕ) (xs : List ℕ) → ((j : ℕ) → j < k → starts_with nat_eq (drop j xs) head_end ≡ false) → starts_with nat_eq (drop k xs) head_end ≡ true → head_length xs ≡ Some (k + 4)
unfolding head_length
found_at zero [] none holds = cc
found_at zero (b ∷ bs) none holds = rw holds refl
found_at (suc k) [] none holds = cc
found_at (suc k) (b ∷ bs) none holds =
    let rest = found_at k bs (λ j h. none (suc j) (omega arith)) holds in
    rw (none 0 (omega arith), rest) (ap Some (omega arith))

-- no head ends where CR LF CR LF stands nowhere
pub found_nowhere : (xs : List ℕ) → ((j : ℕ) → j + 4 ≤ length xs → starts_with nat_eq (drop j xs) head_end ≡ false) → head_length xs ≡ None
unfolding head_length
found_nowhere [] none = refl
found_nowhere (b ∷ bs) none =
    let rest = found_nowhere bs (λ j h. none (suc j) (omega arith)) in
    let here : starts_with nat_eq (b ∷ bs) head_end ≡ false = false_from_ne_true _ (λ holds. let long : 4 ≤ length (b ∷ bs) = starts_bound (b ∷ bs) head_end holds in absurd_from (none 0 (omega arith)) holds) in
    rw (here, rest) refl
  where
    absurd_from : {t : Bool} → t ≡ false → t ≡ true → ⊥
    absurd_from fails holds = cc
