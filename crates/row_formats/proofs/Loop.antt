-- Reading items one after the other, as a loop does.
use Rattle.std.proofs.Common.{◌≡◌, ℕ, zero, suc, length, map, ◌-◌, ◌+◌, ◌≤◌, ◌<◌, List, [], ◌∷◌, ◌++◌, Option, Some, None, Ok, Err, refl, sym, ap, ◌∙◌, append_assoc, arith}
use Rattle.std.specs.Prelude.{slice_get, option_map}
use Rattle.std.proofs.lemmas.List.{append-nil, map_push}
use Rattle.row_formats.specs.declared.fault.ReadError.{ReadError}
use Rattle.row_formats.specs.declared.fault.ReadError.TheVariants as errors
use Rattle.row_formats.specs.Place.{Place, Read, ◌>>=◌}
use Rattle.row_formats.specs.Gives.{FailsToRead}
use Rattle.row_formats.specs.Format.{items_at, last_of, count, list_at}
use Rattle.row_formats.proofs.Steps.{bind_at}

-- what was read before, and what is still read
abbrev pub with_front : {A : Type 0} → List A → Read (List A) → Read (List A)
with_front front read = read >>= λ x. Ok (front ++ x.0, x.1)

regroup : {A : Type 0} (front : List A) (x : A) (read : Read (List A)) → with_front front (read >>= λ xs. Ok (x ∷ xs.0, xs.1)) ≡ with_front (front ++ x ∷ []) read
regroup {A} front x (Ok r) = ap (λ (xs : List A). Ok (xs, r.1)) (simp append_assoc)
regroup front x (Err f) = refl

pub last_of-push : {A : Type 0} (xs : List A) (x : A) → last_of (xs ++ x ∷ []) ≡ Some x
last_of-push [] x = refl
last_of-push (y ∷ []) x = refl
last_of-push (y ∷ z ∷ xs) x = last_of-push (z ∷ xs) x

pub goes_on : {A : Type 0} (r : Option A → Place → Read A) (front : List A) (count i : ℕ) (p : Place) (x : A) (q : Place) (total : Read (List A)) → i < count → r (last_of front) p ≡ Ok (x, q)
    → with_front front (items_at r (last_of front) (count - i) p) ≡ total → with_front (front ++ x ∷ []) (items_at r (last_of (front ++ x ∷ [])) (count - (i + 1)) q) ≡ total
unfolding items_at
goes_on r front count i p x q total lt h so_far =
    let k : count - i ≡ suc (count - (i + 1)) = omega arith in
    let one : with_front front (items_at r (last_of front) (count - i) p) ≡ with_front (front ++ x ∷ []) (items_at r (Some x) (count - (i + 1)) q) = rw (k, h) (regroup front x (items_at r (Some x) (count - (i + 1)) q)) in
    rw (last_of-push front x) (sym one ∙ so_far)

pub ends : {A : Type 0} (e : ReadError) (r : Option A → Place → Read A) (front : List A) (count i : ℕ) (p : Place) (total : Read (List A)) → i < count → FailsToRead e (r (last_of front) p)
    → with_front front (items_at r (last_of front) (count - i) p) ≡ total → FailsToRead e total
unfolding items_at
ends errors.Memory r front count i p total lt h so_far = tt
ends (errors.Fault fault) r front count i p total lt h so_far =
    let k : count - i ≡ suc (count - (i + 1)) = omega arith in
    let one : with_front front (items_at r (last_of front) (count - i) p) ≡ Err fault = rw (k, h) refl in
    sym so_far ∙ one

pub is_done : {A : Type 0} (r : Option A → Place → Read A) (front : List A) (count i : ℕ) (p : Place) (total : Read (List A)) → count ≤ i → with_front front (items_at r (last_of front) (count - i) p) ≡ total → total ≡ Ok (front, p)
unfolding items_at
is_done {A} r front count i p total le so_far =
    let k : count - i ≡ 0 = omega arith in
    let one : with_front front (items_at r (last_of front) (count - i) p) ≡ Ok (front, p) = rw k (ap (λ (xs : List A). Ok (xs, p)) (append-nil front)) in
    sym so_far ∙ one

front_nil : {A : Type 0} (read : Read (List A)) → with_front [] read ≡ read
front_nil (Ok x) = refl
front_nil (Err f) = refl

pub begins : {A : Type 0} (limit : ℕ) (r : Option A → Place → Read A) (p : Place) (n : ℕ) (q : Place) → (count limit).read p ≡ Ok (n, q) → with_front [] (items_at r None (n - 0) q) ≡ list_at limit r p
begins limit r p n q e =
    let k : n - 0 ≡ n = omega arith in
    rw k (front_nil (items_at r None n q) ∙ sym (bind_at ((count limit).read p) (λ m. items_at r None m.0 m.1) (n, q) (items_at r None n q) e refl))

last_get : {A : Type 0} (xs : List A) (k : ℕ) → length xs ≡ suc k → slice_get xs k ≡ last_of xs
last_get [] k e = absurd (omega arith)
last_get (x ∷ []) zero e = refl
last_get (x ∷ []) (suc k) e = absurd (omega arith)
last_get (x ∷ y ∷ ys) zero e = absurd (omega arith)
last_get (x ∷ y ∷ ys) (suc k) e = last_get (y ∷ ys) k (omega arith)

last_of-map : {A B : Type 0} (g : A → B) (xs : List A) → last_of (map g xs) ≡ option_map g (last_of xs)
last_of-map g [] = refl
last_of-map g (x ∷ []) = refl
last_of-map g (x ∷ y ∷ ys) = last_of-map g (y ∷ ys)

-- the last of what items stand for, where `last` found one
pub last_seen : {A B : Type 0} (g : A → B) (xs : List A) (x : A) → Some x ≡ slice_get xs (length xs - 1) → last_of (map g xs) ≡ Some (g x)
last_seen g [] x e = absurd cc
last_seen {A} g (y ∷ ys) x e =
    let k : length (y ∷ ys) ≡ suc (length (y ∷ ys) - 1) = omega arith in
    last_of-map g (y ∷ ys) ∙ ap (λ (o : Option A). option_map g o) (sym (last_get (y ∷ ys) (length (y ∷ ys) - 1) k) ∙ sym e)

-- the step of a loop that pushes what it read
pub reads_on : {X A : Type 0} (g : X → A) (r : Option A → Place → Read A) (xs ys : List X) (x : X) (count i : ℕ) (p q : Place) (total : Read (List A)) → i < count → ys ≡ xs ++ x ∷ [] → r (last_of (map g xs)) p ≡ Ok (g x, q)
    → with_front (map g xs) (items_at r (last_of (map g xs)) (count - i) p) ≡ total → with_front (map g ys) (items_at r (last_of (map g ys)) (count - (i + 1)) q) ≡ total
reads_on g r xs ys x count i p q total lt pushed h so_far =
    let e : map g ys ≡ map g xs ++ g x ∷ [] = rw pushed (map_push _ xs x) in
    rw e (goes_on r (map g xs) count i p (g x) q total lt h so_far)
