-- The grants that an index has under each key.
use Rattle.std.specs.Prelude.{◌≢◌, ◌↔◌, List, Contains, AllPairs}
use Rattle.std.specs.declared.cmp.Ordering.{Ordering}
use Rattle.std.specs.BTreeMap.{is_at}
use Rattle.std.specs.Map.{lookup}
use Rattle.std.specs.Global.{Vec}
use Rattle.host_base.specs.declared.ids.GrantId.{GrantId}
use Rattle.region_work.specs.Fed.{items_or_none}

-- the grants under a key, by the order of keys
abbrev pub listed_in : {K : Type 0} → (K → K → Ordering) → List (K × Vec GrantId) → K → List GrantId
listed_in cmp entries key = items_or_none (lookup (is_at (cmp key)) entries)

-- the index has under each key the grants that belong there, each once
pub record IsIndexBy {K : Type 0} (Belongs : K → GrantId → Type 0) (listed : K → List GrantId) : Type 0 where
  pub exact : (at : K) (g : GrantId) → Contains (listed at) g ↔ Belongs at g
  pub once : (at : K) → AllPairs (λ (a : GrantId) (b : GrantId). a ≢ b) (listed at)
