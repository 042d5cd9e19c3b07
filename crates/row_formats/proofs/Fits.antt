-- Items of which each fits, one after the other, as a loop writes them; and fields that fit by their type alone.
use Rattle.std.proofs.Common.{◌≡◌, ℕ, ◌+◌, ◌^◌, ◌≤◌, ◌<◌, Bool, true, false, List, [], ◌∷◌, ◌++◌, length, get_or, take, map, Option, Some, None, refl, sym, ap, subst, ◌∙◌, arith}
use Rattle.std.proofs.lemmas.List.{take_more, take_all, map_push}
use Rattle.std.proofs.lemmas.Bool.{le-leb}
use Rattle.perm_roles.specs.PermSet.{bits_of}
use Rattle.perm_roles.specs.declared.perm_set.PermSet.{PermSet}
use Rattle.perm_roles.proofs.Sets.{same_word}
use Rattle.row_formats.specs.Format.{AllFit, flag, count}
use Rattle.row_formats.specs.Sets.{set}
use Rattle.row_formats.proofs.Words.{word_back}

pub flag_fits : (b : Bool) → flag.fits b
flag_fits true = refl
flag_fits false = refl

pub set_fits : (s : PermSet) → bits_of s < 2 ^ 64 → set.fits s
set_fits s small = (omega arith, same_word _ s (word_back (bits_of s) small))

pub count_fits : (limit n : ℕ) → n ≤ limit → limit < 65536 → (count limit).fits n
count_fits limit n le small = (omega arith, le-leb n limit le)

AllFit-push : {A : Type 0} (P : A → Type 0) (last : Option A) (xs : List A) (x : A) → AllFit (λ before. P) last xs → P x → AllFit (λ before. P) last (xs ++ x ∷ [])
AllFit-push P last [] x h fits = (fits, tt)
AllFit-push P last (y ∷ ys) x h fits = (h.0, AllFit-push P (Some y) ys x h.1 fits)

-- one more item fits
pub fits_more : {A : Type 0} (P : A → Type 0) (xs : List A) (i : ℕ) (d : A) → i < length xs → AllFit (λ before. P) None (take i xs) → P (get_or xs i d) → AllFit (λ before. P) None (take (i + 1) xs)
fits_more {A} P xs i d lt h fits = subst (λ (ys : List A). AllFit (λ before. P) None ys) (sym (take_more xs i d lt)) (AllFit-push P None (take i xs) (get_or xs i d) h fits)

-- all fit
pub all_fit : {A : Type 0} (P : A → Type 0) (xs : List A) (i : ℕ) → length xs ≤ i → AllFit (λ before. P) None (take i xs) → AllFit (λ before. P) None xs
all_fit {A} P xs i le h = subst (λ (ys : List A). AllFit (λ before. P) None ys) (take_all i xs le) h

-- the same, where the items are seen by a view
pub fits_more_seen : {X A : Type 0} (g : X → A) (P : A → Type 0) (xs : List X) (i : ℕ) (d : X) → i < length xs → AllFit (λ before. P) None (map g (take i xs)) → P (g (get_or xs i d)) → AllFit (λ before. P) None (map g (take (i + 1) xs))
fits_more_seen {X} {A} g P xs i d lt h fits =
    let pushed : map g (take (i + 1) xs) ≡ map g (take i xs) ++ g (get_or xs i d) ∷ [] = ap (λ (ys : List X). map g ys) (take_more xs i d lt) ∙ map_push g (take i xs) (get_or xs i d) in
    subst (λ (ys : List A). AllFit (λ before. P) None ys) (sym pushed) (AllFit-push P None (map g (take i xs)) (g (get_or xs i d)) h fits)

pub all_fit_seen : {X A : Type 0} (g : X → A) (P : A → Type 0) (xs : List X) (i : ℕ) → length xs ≤ i → AllFit (λ before. P) None (map g (take i xs)) → AllFit (λ before. P) None (map g xs)
all_fit_seen {X} {A} g P xs i le h = subst (λ (ys : List X). AllFit (λ before. P) None (map g ys)) (take_all i xs le) h
