-- Edges are added, grant by grant.
use Rattle.std.specs.Prelude.{◌≡◌, ◌≢◌, ◌⊎◌, ◌<◌, ◌≤◌, ◌-◌, ◌++◌, ◌∷◌, [], List, Some, Contains, AllPairs, length, slice_get}
use Rattle.host_base.specs.declared.ids.GrantId.{GrantId}
use Rattle.share_graph.specs.declared.facts.Node.{Node}
use Rattle.share_graph.specs.declared.grants.Need.{Need}
use Rattle.region_work.specs.Owed.{holder_of}

abbrev pub Ascends : List GrantId → Type 0
Ascends gs = AllPairs (λ (a : GrantId) (b : GrantId). a.0 < b.0) gs

-- the second list is the first, with the number at its end, where it wasn't there
abbrev pub IsPushed : List GrantId → GrantId → List GrantId → Type 0
IsPushed old num new = ((slice_get old (length old - 1) ≡ Some num) × (new ≡ old)) ⊎ ((slice_get old (length old - 1) ≢ Some num) × (new ≡ old ++ num ∷ []))

-- the second list is the first, without the number at its end, where it was there
abbrev pub IsPopped : List GrantId → GrantId → List GrantId → Type 0
IsPopped old num new = ((slice_get old (length old - 1) ≡ Some num) × (old ≡ new ++ num ∷ [])) ⊎ ((slice_get old (length old - 1) ≢ Some num) × (new ≡ old))

-- the key has the grant, and the other keys what they had
pub record AddsEdge {K : Type 0} (from : K) (num : GrantId) (old new : K → List GrantId) : Type 0 where
  pub here : IsPushed (old from) num (new from)
  pub others : (at : K) → at ≢ from → new at ≡ old at

-- no key has the grant
abbrev pub IsNewIn : {K : Type 0} → GrantId → (K → List GrantId) → Type 0
IsNewIn {K} num fed = (at : K) → Contains (fed at) num → ⊥

-- each key has what it had
abbrev pub HasSameEdges : {K : Type 0} → (K → List GrantId) → (K → List GrantId) → Type 0
HasSameEdges {K} old new = (at : K) → new at ≡ old at

-- each key has what it had, and some of the keys have the grant too, which is the last of theirs
abbrev pub MayAdd : {K : Type 0} → (K → Type 0) → GrantId → (K → List GrantId) → (K → List GrantId) → Type 0
MayAdd {K} From num old new = (at : K) → (new at ≡ old at) ⊎ (From at × (new at ≡ old at ++ num ∷ []))

-- each key has what it had, and exactly the keys have the grant too, which is the last of theirs
pub record AddsEdges {K : Type 0} (From : K → Type 0) (num : GrantId) (old new : K → List GrantId) : Type 0 where
  pub may : MayAdd From num old new
  pub all : (at : K) → From at → new at ≡ old at ++ num ∷ []

-- each of the nodes feeds the grant, and all nodes what they fed; the lists stay in the order of numbers
pub record Adds (From : Node → Type 0) (num : GrantId) (old new : Node → List GrantId) : Type 0 where
  pub all : (at : Node) → From at → Contains (new at) num
  pub kept : (at : Node) (g : GrantId) → Contains (old at) g → Contains (new at) g
  pub only : (at : Node) (g : GrantId) → Contains (new at) g → Contains (old at) g ⊎ ((g ≡ num) × From at)
  pub ascends : ((at : Node) (g : GrantId) → Contains (old at) g → g.0 ≤ num.0) → ((at : Node) → Ascends (old at)) → (at : Node) → Ascends (new at)

-- a need of the list names the node
abbrev pub IsNamed : List Need → Node → Type 0
IsNamed needs at = (q : Need) × Contains needs q × (holder_of q ≡ Some at)
