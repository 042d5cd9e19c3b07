-- How a body is answered: by its fields, or by the first fault.
use Rattle.std.specs.Prelude.{◌≡◌, ℕ, Option, Some, None, Result, Ok, Err}
use Rattle.desk_bodies.specs.declared.fault.BodyFault.{BodyFault}
use Rattle.desk_bodies.specs.declared.fault.BodyFault.TheVariants.{BadBody, Manifest, Memory}

-- the rest of a body, where the field of a number states something; else the number's fault
abbrev pub field : {A B : Type 0} → ℕ → Option A → (A → Result B BodyFault) → Result B BodyFault
field number None rest = Err (BadBody number)
field number (Some x) rest = rest x

-- the answer is what the body states; want of memory may come in its place
abbrev pub Answers : {A : Type 0} → Result A BodyFault → Result A BodyFault → Type 0
Answers stated (Ok x) = stated ≡ Ok x
Answers stated (Err (BadBody number)) = stated ≡ Err (BadBody number)
Answers stated (Err (Manifest fault)) = stated ≡ Err (Manifest fault)
Answers stated (Err Memory) = Unit {0}
