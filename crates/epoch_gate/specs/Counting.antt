-- What a pass counts of its orders.
use Rattle.std.specs.Prelude.{◌≡◌, ℕ, ◌+◌, min, nat_lt, if◌then◌else◌, Bool, true, false, List, ◌++◌, length}
use mathlib.Core.List.{IsPrefix}
use Rattle.epoch_gate.specs.declared.book.Faults.{Faults}
use Rattle.epoch_gate.specs.declared.fault_counts.FaultCounts.{FaultCounts}

-- a count that stays at its last value
abbrev pub one_more : ℕ → ℕ
one_more n = min (n + 1) 18446744073709551615

-- a count, one higher where there was a fault and it isn't at its last value
abbrev pub raised : ℕ → Bool → ℕ
raised n true = if nat_lt n 18446744073709551615 then n + 1 else n
raised n false = n

-- the counts of faults once an order met these
abbrev pub counts_after : FaultCounts → Faults → FaultCounts
counts_after c f = record { store = raised c.store f.store; secrets = raised c.secrets f.secrets; starts = raised c.starts f.starts }

module _ {E : Type 0} where
  -- The history gained what an order added, and the share of the ledger so many orders; the rest holds of what was added.
  abbrev pub Adds : List E → List E → ℕ → ℕ → (List E → Type 0) → Type 0
  Adds old new mine mine' rest = (added : List E) × (new ≡ old ++ added) × (mine' ≡ mine + length added) × rest added

  -- An order was answered at a place, which isn't before what was seen. What is seen now is the history before that place,
  -- with what the order added there; as many orders more are counted; and the rest holds of both.
  abbrev pub AnsweredAt : List E → List E → ℕ → ℕ → ℕ → (List E → List E → Type 0) → Type 0
  AnsweredAt old new mine mine' place rest =
      (before : List E) × (added : List E) × (new ≡ before ++ added) × IsPrefix old before × (place ≡ length before)
      × (mine' ≡ mine + length added) × rest before added
