-- Fields that are written one behind the other.
use Rattle.std.proofs.Common.{◌≡◌, ℕ, List, ◌++◌, Result, Ok, Err, ap, sym, ◌∙◌, append_assoc}
use Rattle.std.specs.Prelude.{OnOk}

pub on_ok : {A E P Q : Type 0} (r : Result A E) → (P → Q) → OnOk r P → OnOk r Q
on_ok (Ok x) f h = f h
on_ok (Err e) f h = tt

-- one field, and what is written behind it
pub behind : (old a b mid new : List ℕ) → mid ≡ old ++ a → new ≡ mid ++ b → new ≡ old ++ (a ++ b)
behind old a b mid new h k = k ∙ ap (λ (t : List ℕ). t ++ b) h ∙ append_assoc old a b

-- the same, where the two are all of a whole
pub then_put : (old a b mid new whole : List ℕ) → mid ≡ old ++ a → new ≡ mid ++ b → whole ≡ a ++ b → new ≡ old ++ whole
then_put old a b mid new whole h k w = behind old a b mid new h k ∙ ap (λ (t : List ℕ). old ++ t) (sym w)
