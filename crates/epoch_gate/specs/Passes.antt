-- What contracts see of a pass.
use Rattle.std.specs.Prelude.{◌≡◌, ℕ, ◌+◌, ◌≤◌, Bool, Some, List, [], Contains, sum_by, length, take, slice_get}
use mathlib.Core.List.{IsPrefix}
use Rattle.lru.specs.LruCache.{LruCache, lru_cache}
use Rattle.host_base.specs.declared.key.Key.{Key}
use Rattle.host_base.specs.contracts.key.KeyPartialEq.TheImpl.{eq-value}
use Rattle.epoch_gate.specs.Counting.{one_more}
use Rattle.epoch_gate.specs.declared.fault_counts.FaultCounts.{FaultCounts}
use Rattle.epoch_gate.specs.declared.kept.Kept.{Kept}

-- the comparison of keys
abbrev pub same_key : Key → Key → Bool
same_key a b = eq-value.it a b

-- no faults
abbrev pub no_faults : FaultCounts
no_faults = record { store = 0; secrets = 0; starts = 0 }

-- The beginning of the history that it has seen, how many loads it made, how long the history was at its last load, its
-- cache, how often it waited for the lock, how many of its orders were accepted, and how many met faults.
pub record Passing (E V : Type 0) : Type 0 where
  pub seen : List E
  pub loads : ℕ
  pub last : ℕ
  pub cache : LruCache Key (Kept V)
  pub waits : ℕ
  pub orders : ℕ
  pub faults : FaultCounts

module _ {E V : Type 0} where
  -- The pass waited for the lock once, and made no load. It has seen what it had seen, and may have seen more.
  pub record Waited (old new : Passing E V) : Type 0 where
    pub seen : IsPrefix old.seen new.seen
    pub waits : new.waits ≡ one_more old.waits
    pub loads : new.loads ≡ old.loads
    pub last : new.last ≡ old.last

  -- The pass made one load, waited for nobody, and counts no order.
  pub record Loaded (old new : Passing E V) : Type 0 where
    pub seen : IsPrefix old.seen new.seen
    pub waits : new.waits ≡ old.waits
    pub orders : new.orders ≡ old.orders
    pub faults : new.faults ≡ old.faults
    pub loads : new.loads ≡ old.loads + 1
    pub within : length new.seen ≤ new.last
    pub later : old.last ≤ new.last

  -- Each cached view was shown of its key, when the history was as long as its number says.
  abbrev pub IsCached : (List E → Key → V → Type 0) → List E → List (Key × Kept V) → Type 0
  IsCached shows seen entries = (e : Key × Kept V) → Contains entries e → (e.1.number ≤ length seen) × shows (take e.1.number seen) e.0 e.1.view

module _ {V : Type 0} where
  -- The first entry of the cache has this number and a view of which the rest holds.
  abbrev pub IsFirst : LruCache Key (Kept V) → ℕ → (V → Type 0) → Type 0
  IsFirst cache n rest = (key : Key) × (view : V) × (slice_get cache.entries 0 ≡ Some (key, record { number = n; view = view })) × rest view

module _ {E V : Type 0} where
  -- a pass that was just made
  abbrev pub fresh : List E → ℕ → Passing E V
  fresh seen room = record { seen = seen; loads = 0; last = 0; cache = lru_cache [] room; waits = 0; orders = 0; faults = no_faults }

  -- how many orders of these passes were accepted
  abbrev pub accepted : List (Passing E V) → ℕ
  accepted passes = sum_by (λ p. p.orders) passes
