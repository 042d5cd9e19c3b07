-- The nodes that were found on a grain, and the entries that are made of them.
use Rattle.std.proofs.Common.{◌≡◌, ◌≢◌, ◌<◌, ◌≤◌, ◌+◌, ◌⊎◌, ◌↔◌, ℕ, Bool, true, false, List, [], Option, Some, None, Contains, IsSome, length, slice_get, if◌then◌else◌, refl, sym, ◌∙◌, subst, ap, inl, inr, arith}
use Rattle.std.specs.BTreeMap.{BTreeMap, IsOrdered}
use Rattle.std.specs.List.{AllPairs, filter_map}
use Rattle.std.specs.Map.{keys_of}
use Rattle.std.specs.declared.cmp.Ordering.TheVariants.{Less}
use Rattle.std.proofs.lemmas.List.{get_or-map}
use Rattle.std.proofs.lemmas.Option.{slice_get_within}
use Rattle.std.proofs.lemmas.Map.Entries.{length-keys_of, place_from_lookup, btree_map_get_place}
use Rattle.std.proofs.lemmas.Map.Keys.{Less-from_sorted}
use Rattle.std.specs.BTreeMap.{is_at}
use Rattle.host_base.specs.declared.ids.GrainId.{GrainId}
use Rattle.host_base.specs.declared.ids.GrantId.{GrantId}
use Rattle.share_graph.specs.contracts.facts.NodeOrd.TheImpl.{ghosts}
use Rattle.share_graph.specs.declared.facts.Fact.{Fact}
use Rattle.share_graph.specs.declared.facts.Fact.TheVariants.{Open, Perm}
use Rattle.share_graph.specs.declared.facts.Node.{Node}
use Rattle.share_graph.specs.declared.facts.Node.TheVariants as node
use Rattle.share_graph.specs.declared.grants.Grant.{Grant}
use Rattle.share_graph.specs.declared.rows.Grain.{Grain}
use Rattle.share_graph.specs.declared.state.Tables.{Tables}
use Rattle.share_graph.specs.Coherent.{IsCoherent}
use Rattle.share_graph.specs.Derivation.{Holds}
use Rattle.share_graph.specs.NodeOrder.{node_cmp, node_total}
use Rattle.share_graph.specs.Nodes.{node_of}
use Rattle.share_graph.specs.Rows.{IsGrain, IsGrant}
use Rattle.share_graph.proofs.Contained.{contains_at, contains-filter_map, place_of}
use Rattle.share_graph.proofs.Unused.{unfiltered}
use Rattle.least_access.specs.declared.held.Held.{Held}
use Rattle.least_access.specs.Held.{IsIn}
use Rattle.least_access.specs.Solved.{Table, held_at, HeldAt, IsSolutionOf}
use Rattle.least_access.proofs.Kept.{pairs_kept}
use Rattle.least_access.proofs.Nodes.{same_node, same_or_other}
use Rattle.least_access.proofs.Raising.{value_of}
use Rattle.access_report.specs.declared.entry.Entry.{Entry}
use Rattle.access_report.specs.Entries.{IsOn, IsEntryOf, HaveAccess}
use Rattle.access_report.specs.Found.{IsGrantOn, HasPlaces, AreFound, HasOneMore, entry_of}
use Rattle.access_report.proofs.OnGrain.{IsCandidate, holder, grant_on}

-- a table in which one node was set
module _ (solved old new : Table) (at : Node) (held : Held) (exact : (fact : Fact) → IsIn held fact ↔ HeldAt solved at fact)
    (same : held_at new at ≡ Some held) (others : (other : Node) → other ≢ at → held_at new other ≡ held_at old other) where
  set_only : (other : Node) (has : Held) → held_at new other ≡ Some has → (held_at old other ≡ Some has) ⊎ ((at ≡ other) × ((fact : Fact) → IsIn has fact ↔ HeldAt solved other fact))
  set_only other has is =
      elim (same_or_other at other) [
        | inl one ↦
            let there : held_at new other ≡ Some held = subst (λ (n : Node). held_at new n ≡ Some held) one same in
            let equal : held ≡ has = cc in
            inr (one, subst (λ (h : Held). (fact : Fact) → IsIn h fact ↔ HeldAt solved other fact) equal (subst (λ (n : Node). (fact : Fact) → IsIn held fact ↔ HeldAt solved n fact) one exact))
        | inr differs ↦ inl (sym (others other (λ back. differs (sym back))) ∙ is)
      ]

  set_keeps : HasPlaces old new
  set_keeps other has =
      elim (same_or_other at other) [
        | inl one ↦ subst (λ (n : Node). IsSome (held_at new n)) one (subst (λ (o : Option Held). IsSome o) (sym same) refl)
        | inr differs ↦ subst (λ (o : Option Held). IsSome o) (sym (others other (λ back. differs (sym back)))) has
      ]

  pub one_more : HasOneMore solved old new at
  one_more = record { only = set_only; keeps = set_keeps; there = subst (λ (o : Option Held). IsSome o) (sym same) refl }

-- one node on the grain more
pub found_more : (t : Tables) (n : GrainId) (solved old new : Table) (at : Node) → HasOneMore solved old new at → IsOn t n at → AreFound t n solved old → AreFound t n solved new
found_more t n solved old new at more on found other held is =
    elim (more.only other held is) [
      | inl before ↦ found other held before
      | inr (one, exact) ↦ (subst (λ (m : Node). IsOn t n m) one on, exact)
    ]

entry_made : (at : Node) (held : Held) (b : Bool) (entry : Entry) → held.entry ≡ b → (if b then Some (record { node = at; perms = held.perms }) else None) ≡ Some entry
    → (held.entry ≡ true) × (entry ≡ record { node = at; perms = held.perms })
entry_made at held true entry is made = (is, cc)
entry_made at held false entry is made = cc made

made_of : (at : Node) (held : Held) → held.entry ≡ true → entry_of (at, held) ≡ Some (record { node = at; perms = held.perms })
made_of at held entry = rw entry refl

module _ (t : Tables) (coherent : IsCoherent t) (n : GrainId) (solved : Table) (solution : IsSolutionOf t solved) (m : BTreeMap Node Held) (ordered : IsOrdered ghosts.cmp m) (found : AreFound t n solved m.entries) where
  each_of : (at : Node) (held : Held) → held_at m.entries at ≡ Some held → held.entry ≡ true → IsEntryOf t n (record { node = at; perms = held.perms })
  each_of at held there entry =
      let (on, exact) = found at held there in
      record {
        on = on;
        enters = (solution at Open).0 ((exact Open).0 entry);
        exact = λ p. (λ has. (solution at (Perm p)).0 ((exact (Perm p)).0 has), λ holds. (exact (Perm p)).1 ((solution at (Perm p)).1 holds));
      }

  made : (e : Node × Held) (entry : Entry) → Contains m.entries e → entry_of e ≡ Some entry → IsEntryOf t n entry
  made (at, held) entry listed is =
      let (k, there) = place_of m.entries (at, held) listed in
      let known = btree_map_get_place node_total m k at held ordered there in
      let (enters, same) = entry_made at held held.entry entry refl is in
      subst (λ (x : Entry). IsEntryOf t n x) (sym same) (each_of at held known enters)

  each : (entry : Entry) → Contains (filter_map entry_of m.entries) entry → IsEntryOf t n entry
  each entry listed = let (e, there, is) = unfiltered entry_of m.entries entry listed in made e entry there is

  listed_for : (at : Node) (held : Held) → held_at m.entries at ≡ Some held → Holds t at Open → (entry : Entry) × Contains (filter_map entry_of m.entries) entry × (entry.node ≡ at)
  listed_for at held there holds =
      let (on, exact) = found at held there in
      let enters : held.entry ≡ true = (exact Open).1 ((solution at Open).1 holds) in
      let (i, k, place, tied) = place_from_lookup (is_at (ghosts.cmp at)) m.entries held there in
      let same : at ≡ k = same_node at k tied in
      let entry : Entry = record { node = k; perms = held.perms } in
      (entry, contains-filter_map entry_of m.entries (k, held) entry (contains_at m.entries i (k, held) place) (made_of k held enters), sym same)

  rising : AllPairs (λ (e : Node × Held) (f : Node × Held). ghosts.cmp e.0 f.0 ≡ Less) m.entries
  rising i j d less within =
      let number = length-keys_of m.entries in
      let low = get_or-map (λ (e : Node × Held). e.0) m.entries i d d.0 (omega arith) in
      let high = get_or-map (λ (e : Node × Held). e.0) m.entries j d d.0 within in
      rw (← low, ← high) (Less-from_sorted ghosts.cmp (keys_of m.entries) i j d.0 ordered less (omega arith))

  ascends : (e f : Node × Held) (x y : Entry) → entry_of e ≡ Some x → entry_of f ≡ Some y → ghosts.cmp e.0 f.0 ≡ Less → node_cmp x.node y.node ≡ Less
  ascends (a, held) (b, other) x y is also less =
      let first : x.node ≡ a = ap (λ (z : Entry). z.node) (entry_made a held held.entry x refl is).1 in
      let second : y.node ≡ b = ap (λ (z : Entry). z.node) (entry_made b other other.entry y refl also).1 in
      rw (first, second) less

  -- the entries that are made of them tell who has access, where each holder was found
  module _ (owner : (grain : Grain) → IsGrain t n grain → IsSome (held_at m.entries (node.User n grain.owner)))
      (grants : (g : GrantId) (grant : Grant) → IsGrant t g grant → grant.grain ≡ n → IsSome (held_at m.entries (node_of g grant))) where
    has_place : (at : Node) → IsCandidate t n at → IsSome (held_at m.entries at)
    has_place at (inl (grain, is, same)) = subst (λ (k : Node). IsSome (held_at m.entries k)) same (owner grain is)
    has_place at (inr (g, grant, is, of, same)) = subst (λ (k : Node). IsSome (held_at m.entries k)) same (grants g grant is of)

    all : (at : Node) → IsOn t n at → Holds t at Open → (entry : Entry) × Contains (filter_map entry_of m.entries) entry × (entry.node ≡ at)
    all at on holds =
        let (held, there) = value_of (held_at m.entries at) (has_place at (holder t n coherent holds on)) in
        listed_for at held there holds

    pub have_access : HaveAccess t n (filter_map entry_of m.entries)
    have_access = record {
      each = each;
      all = all;
      ascend = pairs_kept (λ (e : Node × Held) (f : Node × Held). ghosts.cmp e.0 f.0 ≡ Less) (λ (a : Entry) (b : Entry). node_cmp a.node b.node ≡ Less) entry_of ascends m.entries rising;
    }

-- what is so once the grants before a place were looked at
pub record AreAdded (t : Tables) (n : GrainId) (solved old new : Table) (grants : List GrantId) (i : ℕ) : Type 0 where
  pub found : AreFound t n solved old → AreFound t n solved new
  pub keeps : HasPlaces old new
  pub there : (k : ℕ) (g : GrantId) (grant : Grant) → k < i → slice_get grants k ≡ Some g → IsGrant t g grant → IsSome (held_at new (node_of g grant))

pub none_added : (t : Tables) (n : GrainId) (solved old : Table) (grants : List GrantId) → AreAdded t n solved old old grants 0
none_added t n solved old grants = record { found = λ f. f; keeps = λ at has. has; there = λ k g grant less is row. absurd (omega arith) }

pub one_added : (t : Tables) (n : GrainId) (solved old mid new : Table) (grants : List GrantId) (i : ℕ) (g : GrantId) (at : Node)
    → slice_get grants i ≡ Some g → IsGrantOn t n g → ((grant : Grant) → IsGrant t g grant → at ≡ node_of g grant)
    → HasOneMore solved mid new at → AreAdded t n solved old mid grants i → AreAdded t n solved old new grants (i + 1)
one_added t n solved old mid new grants i g at here (row, is, of) where_it more so_far = record {
  found = λ f. found_more t n solved mid new at more (subst (λ (k : Node). IsOn t n k) (sym (where_it row is)) (grant_on t n g row is of)) (so_far.found f);
  keeps = λ other has. more.keeps other (so_far.keeps other has);
  there = λ k num grant less placed there.
      (let sides : (k < i) ⊎ (i ≡ k) = grind arith in
      elim sides [
        | inl before ↦ more.keeps (node_of num grant) (so_far.there k num grant before placed there)
        | inr last ↦
            let same_place : slice_get grants k ≡ Some g = subst (λ (j : ℕ). slice_get grants j ≡ Some g) last here in
            let same : g ≡ num = cc in
            let row_of : IsGrant t g grant = subst (λ (j : GrantId). IsGrant t j grant) (sym same) there in
            subst (λ (k : Node). IsSome (held_at new k)) (where_it grant row_of ∙ ap (λ (j : GrantId). node_of j grant) same) more.there
      ]);
}

pub each_added : (t : Tables) (n : GrainId) (solved old new : Table) (grants : List GrantId) (i : ℕ) → length grants ≤ i → AreAdded t n solved old new grants i
    → (g : GrantId) (grant : Grant) → Contains grants g → IsGrant t g grant → IsSome (held_at new (node_of g grant))
each_added t n solved old new grants i all added g grant listed row =
    let (k, placed) = place_of grants g listed in
    let within : k < length grants = slice_get_within grants k g placed in
    added.there k g grant (omega arith) placed row

-- at first nothing is found
pub nothing_found : (t : Tables) (n : GrainId) (solved found : Table) → found ≡ [] → AreFound t n solved found
nothing_found t n solved found none at held is = let at_none : held_at [] at ≡ Some held = subst (λ (es : Table). held_at es at ≡ Some held) none is in cc at_none
