-- What makes a format a grammar with one spelling for each value.
use Rattle.std.specs.Prelude.{◌≡◌, ℕ, ◌+◌, ◌<◌, List, ◌++◌, length, take, slice_index, Ok, Err}
use Rattle.row_formats.specs.declared.fault.RowFault.TheVariants.{Short}
use Rattle.row_formats.specs.Place.{Place}
use Rattle.row_formats.specs.Format.{Format}

-- numbers that are bytes
abbrev pub IsBytes : List ℕ → Type 0
IsBytes bytes = (i : ℕ) → slice_index bytes i < 256

-- a text stands at p, and q is the place behind it
pub record StandsBetween (text : List ℕ) (p q : Place) : Type 0 where
  pub parts : p.rest ≡ text ++ q.rest
  pub moved : q.at ≡ p.at + length text
  pub bytes : IsBytes q.rest

-- What is read stands there, spelled as it is written. What is spelled is read, whatever stands before and behind it. Each front of a
-- spelling that isn't all of it is short, and the fault names its end.
pub record IsExact {A : Type 0} (f : Format A) : Type 0 where
  pub found : (p : Place) (x : A) (q : Place) → IsBytes p.rest → f.read p ≡ Ok (x, q) → StandsBetween (f.write x) p q × f.fits x
  pub again : (x : A) (at : ℕ) (more : List ℕ) → f.fits x
      → f.read (record { at = at; rest = f.write x ++ more }) ≡ Ok (x, record { at = at + length (f.write x); rest = more })
  pub short : (x : A) (at k : ℕ) → f.fits x → k < length (f.write x) → f.read (record { at = at; rest = take k (f.write x) }) ≡ Err (Short (at + k))

-- a body is the spelling of a value
pub record Spells {A : Type 0} (f : Format A) (x : A) (body : List ℕ) : Type 0 where
  pub fits : f.fits x
  pub text : body ≡ f.write x
