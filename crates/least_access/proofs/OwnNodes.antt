-- The entries of a table from an account's first node to its last are the account's, and give the grains that it enters.
use Rattle.std.proofs.Common.{◌≡◌, ◌<◌, ◌^◌, ◌∙◌, ℕ, Bool, true, false, List, Option, Some, None, Contains, if◌then◌else◌, arith, refl, sym, subst, ap}
use Rattle.std.specs.BTreeMap.{BTreeMap, is_at, IsOrdered}
use Rattle.std.specs.BTreeMap.Range.{range_contains, entries_between, IsInRange, IsEntryInRange, IsRangeOf}
use Rattle.std.specs.List.{AllPairs, filter_map}
use Rattle.std.specs.Map.{keys_of, lookup}
use Rattle.std.specs.Option.{IsSomeAnd}
use Rattle.std.specs.Ordering.{nat_cmp, ordering_then, is_gt}
use Rattle.std.specs.declared.cmp.Ordering.TheVariants.{Less}
use Rattle.std.specs.declared.ops.Bound.TheVariants.{Included}
use Rattle.std.proofs.lemmas.Bool.Decides.{nat_tests}
use Rattle.std.proofs.lemmas.List.{get_or-map}
use Rattle.std.proofs.lemmas.List.Elements.{All-contains}
use Rattle.std.proofs.lemmas.List.Kept.{AllPairs-filter}
use Rattle.std.proofs.lemmas.Map.Entries.{length-keys_of, lookup-filter-keys, place_from_lookup}
use Rattle.std.proofs.lemmas.Map.Keys.{Less-from_sorted}
use Rattle.host_base.specs.declared.ids.AccountId.{AccountId}
use Rattle.host_base.specs.declared.ids.GrainId.{GrainId}
use Rattle.share_graph.proofs.Contained.{contains_at, contains-filter_map}
use Rattle.share_graph.proofs.Unused.{unfiltered}
use Rattle.share_graph.specs.contracts.facts.NodeOrd.TheImpl.{ghosts}
use Rattle.share_graph.specs.declared.facts.Fact.TheVariants.{Open}
use Rattle.share_graph.specs.declared.facts.Node.{Node}
use Rattle.share_graph.specs.declared.facts.Node.TheVariants as node
use Rattle.least_access.specs.declared.held.Held.{Held}
use Rattle.least_access.specs.Entered.{AreEntered, entered_by}
use Rattle.least_access.specs.Held.{IsIn}
use Rattle.least_access.specs.Solved.{held_at, HeldAt}
use Rattle.least_access.proofs.Kept.{pairs_kept}
use Rattle.least_access.proofs.Nodes.{same_node}

abbrev pub first_of : AccountId → Node
first_of a = node.User (record { 0 = 0 }) a

abbrev pub last_of : AccountId → Node
last_of a = node.User (record { 0 = 4294967295 }) a

abbrev pub IsOwn : AccountId → Node → Type 0
IsOwn a at = IsInRange ghosts.cmp (Included (first_of a)) (Included (last_of a)) at

-- of two accounts' nodes none but the account's own lie between its first and its last
numbers : (a b m : ℕ) → is_gt (ordering_then (nat_cmp a b) (nat_cmp 0 m)) ≡ false → is_gt (ordering_then (nat_cmp b a) (nat_cmp m 4294967295)) ≡ false → b ≡ a
numbers a b m low high = grind (arith, nat_tests)

own_account : (a : AccountId) (m : GrainId) (b : AccountId) → IsOwn a (node.User m b) → b ≡ a
own_account a m b (low, high) = ap (λ k. let i : AccountId = record { 0 = k } in i) (numbers a.0 b.0 m.0 low high)

within_numbers : (a m : ℕ) → is_gt (ordering_then (nat_cmp a a) (nat_cmp m 4294967295)) ≡ false → m < 2 ^ 32
within_numbers a m high = grind (arith, nat_tests)

own_within : (a : AccountId) (m : GrainId) (b : AccountId) → IsOwn a (node.User m b) → m.0 < 2 ^ 32
own_within a m b own = within_numbers a.0 m.0 (subst (λ (i : AccountId). is_gt (ordering_then (nat_cmp i.0 a.0) (nat_cmp m.0 4294967295)) ≡ false) (own_account a m b own) own.1)

own_node : (a : AccountId) (n : GrainId) → n.0 < 2 ^ 32 → range_contains ghosts.cmp (Included (first_of a)) (Included (last_of a)) (node.User n a) ≡ true
own_node a n less = grind (arith, nat_tests)

before_numbers : (a n m : ℕ) → ordering_then (nat_cmp a a) (nat_cmp n m) ≡ Less → n < m
before_numbers a n m is = grind (arith, nat_tests)

entry_of : (b : Bool) (m n : GrainId) → (if b then Some m else None) ≡ Some n → (b ≡ true) × (m ≡ n)
entry_of true m n is = (refl, cc)
entry_of false m n is = cc

some_held : (o : Option Held) → IsSomeAnd o (λ held. IsIn held Open) → (held : Held) × (o ≡ Some held) × (held.entry ≡ true)
some_held None has = absurd has
some_held (Some held) has = (held, refl, has)

module _ (a : AccountId) (m : BTreeMap Node Held) (r : List (Node × Held)) (between : r ≡ entries_between ghosts.cmp (Included (first_of a)) (Included (last_of a)) m.entries)
    (range : IsRangeOf ghosts.cmp (Included (first_of a)) (Included (last_of a)) m r) (ordered : IsOrdered ghosts.cmp m) where
  by_entry : (n : GrainId) (e : Node × Held) → entered_by e ≡ Some n → IsEntryInRange ghosts.cmp (Included (first_of a)) (Included (last_of a)) m e → (n.0 < 2 ^ 32) × HeldAt m.entries (node.User n a) Open
  by_entry n (node.User k b, held) is (inside, there) =
      let (entry, number) = entry_of held.entry k n is in
      let account = own_account a k b inside in
      let at : held_at m.entries (node.User n a) ≡ Some held = subst (λ (i : GrainId). held_at m.entries (node.User i a) ≡ Some held) number (subst (λ (i : AccountId). held_at m.entries (node.User k i) ≡ Some held) account there) in
      (subst (λ (i : GrainId). i.0 < 2 ^ 32) number (own_within a k b inside), subst (λ (o : Option Held). IsSomeAnd o (λ h. IsIn h Open)) (sym at) entry)
  by_entry n (node.Grant g, held) is inside = cc is

  entered_has : (n : GrainId) → Contains (filter_map entered_by r) n → (n.0 < 2 ^ 32) × HeldAt m.entries (node.User n a) Open
  entered_has n listed =
      let (e, there, is) = unfiltered entered_by r n listed in
      by_entry n e is (All-contains (IsEntryInRange ghosts.cmp (Included (first_of a)) (Included (last_of a)) m) r e range.0 there)

  has_entered : (n : GrainId) → n.0 < 2 ^ 32 → HeldAt m.entries (node.User n a) Open → Contains (filter_map entered_by r) n
  has_entered n less has =
      let at : Node = node.User n a in
      let (held, there, entry) = some_held (held_at m.entries at) has in
      let kept = lookup-filter-keys (is_at (ghosts.cmp at)) (range_contains ghosts.cmp (Included (first_of a)) (Included (last_of a))) true
      (λ k tied. subst (λ (q : Node). range_contains ghosts.cmp (Included (first_of a)) (Included (last_of a)) q ≡ true) (same_node at k tied) (own_node a n less)) m.entries in
      let found : lookup (is_at (ghosts.cmp at)) r ≡ Some held = subst (λ (es : List (Node × Held)). lookup (is_at (ghosts.cmp at)) es ≡ Some held) (sym between) (kept ∙ there) in
      let (i, k, place, tied) = place_from_lookup (is_at (ghosts.cmp at)) r held found in
      let of_entry : (if held.entry then Some n else None) ≡ Some n = rw entry refl in
      contains-filter_map entered_by r (k, held) n (contains_at r i (k, held) place) (subst (λ (q : Node). entered_by (q, held) ≡ Some n) (same_node at k tied) of_entry)

  abbrev pub Precedes : Node × Held → Node × Held → Type 0
  Precedes e f = IsOwn a e.0 × IsOwn a f.0 × (ghosts.cmp e.0 f.0 ≡ Less)

  rising : AllPairs (λ (e : Node × Held) (f : Node × Held). ghosts.cmp e.0 f.0 ≡ Less) m.entries
  rising i j d less within =
      let number = length-keys_of m.entries in
      let low = get_or-map (λ (e : Node × Held). e.0) m.entries i d d.0 (omega arith) in
      let high = get_or-map (λ (e : Node × Held). e.0) m.entries j d d.0 within in
      rw (← low, ← high) (Less-from_sorted ghosts.cmp (keys_of m.entries) i j d.0 ordered less (omega arith))

  own_rising : AllPairs Precedes r
  own_rising i j d less within = (
    (range.0 i d (omega arith)).0,
    (range.0 j d within).0,
    subst (AllPairs (λ (e : Node × Held) (f : Node × Held). ghosts.cmp e.0 f.0 ≡ Less)) (sym between) (AllPairs-filter (λ (e : Node × Held) (f : Node × Held). ghosts.cmp e.0 f.0 ≡ Less) _ m.entries rising) i j d less within,
  )

  ascends : (e f : Node × Held) (x y : GrainId) → entered_by e ≡ Some x → entered_by f ≡ Some y → Precedes e f → x.0 < y.0
  ascends (node.User k b, held) (node.User l c, other) x y is also (one, two, less) =
      let first : b ≡ a = own_account a k b one in
      let second : c ≡ a = own_account a l c two in
      let numbers : ordering_then (nat_cmp a.0 a.0) (nat_cmp k.0 l.0) ≡ Less = subst (λ (i : AccountId). ordering_then (nat_cmp a.0 i.0) (nat_cmp k.0 l.0) ≡ Less) second (subst (λ (i : AccountId). ordering_then (nat_cmp i.0 c.0) (nat_cmp k.0 l.0) ≡ Less) first less) in
      let below = before_numbers a.0 k.0 l.0 numbers in
      rw (← (entry_of held.entry k x is).1, ← (entry_of other.entry l y also).1) below
  ascends (node.Grant g, held) f x y is also precedes = cc is
  ascends (node.User k b, held) (node.Grant g, other) x y is also precedes = cc also

  pub are_entered : AreEntered m.entries a (filter_map entered_by r)
  are_entered = record {
    ascend = pairs_kept Precedes (λ (n : GrainId) (k : GrainId). n.0 < k.0) entered_by ascends r own_rising;
    exact = λ n. (entered_has n, λ has. has_entered n has.0 has.1);
  }

-- the same, by the bounds that a range has
pub entered_between : (a : AccountId) (m : BTreeMap Node Held) (r : List (Node × Held)) (first last : Node) → first ≡ first_of a → last ≡ last_of a → r ≡ entries_between ghosts.cmp (Included first) (Included last) m.entries
    → IsRangeOf ghosts.cmp (Included first) (Included last) m r → IsOrdered ghosts.cmp m → AreEntered m.entries a (filter_map entered_by r)
entered_between a m r first last from to between range ordered =
    are_entered a m r
    (subst (λ (low : Node). r ≡ entries_between ghosts.cmp (Included low) (Included (last_of a)) m.entries) from
    (subst (λ (high : Node). r ≡ entries_between ghosts.cmp (Included first) (Included high) m.entries) to between))
    (subst (λ (low : Node). IsRangeOf ghosts.cmp (Included low) (Included (last_of a)) m r) from
    (subst (λ (high : Node). IsRangeOf ghosts.cmp (Included first) (Included high) m r) to range))
    ordered
