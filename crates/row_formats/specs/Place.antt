-- Places in a row's body, and the rules about faults, each of which names the place where it stands.
use Rattle.std.specs.Prelude.{ℕ, ◌+◌, List, length, take, drop, Option, Some, None, Result, Ok, Err, nat_lt, if◌then◌else◌}
use Rattle.row_formats.specs.declared.fault.RowFault.{RowFault}
use Rattle.row_formats.specs.declared.fault.RowFault.TheVariants.{Short, BadField, Spare}

-- a place in a body: how many bytes stand before it, and the bytes from there on
pub record Place : Type 0 where
  pub at : ℕ
  pub rest : List ℕ

-- the place before a body's first byte
abbrev pub start : List ℕ → Place
start body = record { at = 0; rest = body }

-- the place n bytes further on
abbrev pub past : ℕ → Place → Place
past n p = record { at = p.at + n; rest = drop n p.rest }

-- what is read at a place: a value and the place behind it, or the first fault
abbrev pub Read : Type 0 → Type 0
Read A = Result (A × Place) RowFault

-- one step after another: the first fault ends the reading
infixl 10 ◌>>=◌
abbrev pub ◌>>=◌ : {A B E : Type 0} → Result A E → (A → Result B E) → Result B E
(Ok x) >>= f = f x
(Err e) >>= f = Err e

-- The next n bytes: where the body ends before, the fault names its end.
unfoldable pub bytes_at : ℕ → Place → Read (List ℕ)
bytes_at n p = if nat_lt (length p.rest) n then Err (Short (p.at + length p.rest)) else Ok (take n p.rest, past n p)

-- A field that is there whole: where it stands for nothing, the fault names its first byte, at which it began.
abbrev pub judged : {A : Type 0} → ℕ → Option A → Place → Read A
judged at None q = Err (BadField at)
judged at (Some x) q = Ok (x, q)

-- Behind the last field: where bytes stand there, the fault names the first of them.
abbrev pub ended : {A : Type 0} → A → Place → Result A RowFault
ended x q = if nat_lt 0 (length q.rest) then Err (Spare q.at) else Ok x

-- all of a body, read from its first byte
abbrev pub whole : {A : Type 0} → (Place → Read A) → List ℕ → Result A RowFault
whole read body = do
  x ← read (start body)
  ended x.0 x.1
