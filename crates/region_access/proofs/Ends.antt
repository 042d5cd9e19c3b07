-- The ties at ends between two moments are those of the grants that end in between.
use Rattle.std.proofs.Common.{◌≡◌, ◌<◌, ◌≤◌, ◌+◌, ◌∙◌, ◌⊎◌, ◌↔◌, ℕ, true, false, List, [], ◌∷◌, Option, Some, None, Contains, arith, refl, sym, subst, ap, inl, inr}
use Rattle.std.specs.BTreeMap.{BTreeMap, is_at}
use Rattle.std.specs.BTreeMap.Range.{range_contains, entries_between, IsInRange, IsEntryInRange, IsRangeOf}
use Rattle.std.specs.Global.{Vec}
use Rattle.std.specs.Map.{lookup}
use Rattle.std.specs.Ordering.{nat_cmp, is_gt}
use Rattle.std.specs.declared.ops.Bound.TheVariants.{Included}
use Rattle.std.proofs.lemmas.Bool.Decides.{nat_tests}
use Rattle.std.proofs.lemmas.List.Elements.{All-contains}
use Rattle.std.proofs.lemmas.Map.Entries.{lookup-filter-keys, place_from_lookup}
use Rattle.host_base.specs.declared.ids.GrantId.{GrantId}
use Rattle.share_graph.proofs.Contained.{contains_at}
use Rattle.share_graph.specs.declared.facts.Node.{Node}
use Rattle.share_graph.specs.declared.grants.Grant.{Grant}
use Rattle.share_graph.specs.declared.state.Tables.{Tables}
use Rattle.share_graph.specs.Nodes.{node_of}
use Rattle.share_graph.specs.Rows.{IsGrant}
use Rattle.region_work.proofs.Sums.{contains_cons, contains_none}
use Rattle.region_work.specs.Fed.{items_or_none}
use Rattle.region_access.specs.contracts.tie.TieOrd.TheImpl.{ghosts}
use Rattle.region_access.specs.declared.tie.Tie.{Tie}
use Rattle.region_access.specs.declared.tie.Tie.TheVariants as tie
use Rattle.region_access.specs.Keys.{same_tie}
use Rattle.region_access.specs.Seeds.{ComesBetween, EndsBy, IsSeedOfGrants, IsSeedOfTick, IsSeedOfTies}
use Rattle.region_access.specs.Ties.{IsTied, IsTiesOf, tied_in}

above : (now end : ℕ) → is_gt (nat_cmp (now + 1) end) ≡ false → now < end
above now end low = grind (arith, nat_tests)

at_most : (end m : ℕ) → is_gt (nat_cmp end m) ≡ false → end ≤ m
at_most end m high = grind (arith, nat_tests)

-- the key is an end between the moments
abbrev IsEndBetween : ℕ → ℕ → Tie → Type 0
IsEndBetween now m on = (end : ℕ) × (on ≡ tie.End end) × (now < end) × (end ≤ m)

abbrev IsInside : ℕ → ℕ → Tie → Type 0
IsInside now m on = IsInRange ghosts.cmp (Included (tie.End (now + 1))) (Included (tie.End m)) on

end_between : (now m : ℕ) (on : Tie) → IsInside now m on → IsEndBetween now m on
end_between now m (tie.Grain n) (low, high) = cc low
end_between now m (tie.Admin a) (low, high) = cc low
end_between now m (tie.End end) (low, high) = (end, refl, above now end low, at_most end m high)

inside_between : (now m end : ℕ) → now < end → end ≤ m → range_contains ghosts.cmp (Included (tie.End (now + 1))) (Included (tie.End m)) (tie.End end) ≡ true
inside_between now m end low high = grind (arith, nat_tests)

-- what a list has, an entry has
some_listed : (o : Option (Vec GrantId)) (g : GrantId) → Contains (items_or_none o) g → (gs : Vec GrantId) × (o ≡ Some gs) × Contains gs.items g
some_listed None g c = absurd (contains_none g c)
some_listed (Some gs) g c = (gs, refl, c)

module _ (t : Tables) (m : ℕ) (map : BTreeMap Tie (Vec GrantId)) (r : List (Tie × Vec GrantId))
    (between : r ≡ entries_between ghosts.cmp (Included (tie.End (t.moment + 1))) (Included (tie.End m)) map.entries)
    (range : IsRangeOf ghosts.cmp (Included (tie.End (t.moment + 1))) (Included (tie.End m)) map r) (ties : IsTiesOf t (tied_in map.entries)) where
  of_entry : (on : Tie) (gs : Vec GrantId) (at : Node) → IsEndBetween t.moment m on → lookup (is_at (ghosts.cmp on)) map.entries ≡ Some gs → IsSeedOfGrants t gs.items at → IsSeedOfTick t m at
  of_entry on gs at (end, key, low, high) there (g, c, (grant, is, same)) =
      let listed : Contains (tied_in map.entries on) g = subst (λ (o : Option (Vec GrantId)). Contains (items_or_none o) g) (sym there) c in
      let (other, row_is, tied) = (ties.exact on g).0 listed in
      let one : other ≡ grant = cc in
      let ends : grant.expires ≡ Some end = subst (λ (k : Tie). IsTied k grant) key (subst (λ (x : Grant). IsTied on x) one tied) in
      (g, grant, record { is_row = is; ends = subst (λ (expires : Option ℕ). ComesBetween t.moment m expires) (sym ends) (low, high) }, same)

  forth : (at : Node) → IsSeedOfTies t r at → IsSeedOfTick t m at
  forth at ((on, gs), listed, seed) =
      let (inside, there) = All-contains (IsEntryInRange ghosts.cmp (Included (tie.End (t.moment + 1))) (Included (tie.End m)) map) r (on, gs) range.0 listed in
      of_entry on gs at (end_between t.moment m on inside) there seed

  by_end : (g : GrantId) (grant : Grant) (end : ℕ) (at : Node) → IsGrant t g grant → grant.expires ≡ Some end → t.moment < end → end ≤ m → at ≡ node_of g grant → IsSeedOfTies t r at
  by_end g grant end at is ends low high same =
      let on : Tie = tie.End end in
      let (gs, there, c) = some_listed (lookup (is_at (ghosts.cmp on)) map.entries) g ((ties.exact on g).1 (grant, is, ends)) in
      let kept = lookup-filter-keys (is_at (ghosts.cmp on)) (range_contains ghosts.cmp (Included (tie.End (t.moment + 1))) (Included (tie.End m))) true
      (λ k tied. subst (λ (q : Tie). range_contains ghosts.cmp (Included (tie.End (t.moment + 1))) (Included (tie.End m)) q ≡ true) (same_tie on k tied) (inside_between t.moment m end low high)) map.entries in
      let found : lookup (is_at (ghosts.cmp on)) r ≡ Some gs = subst (λ (es : List (Tie × Vec GrantId)). lookup (is_at (ghosts.cmp on)) es ≡ Some gs) (sym between) (kept ∙ there) in
      let (i, k, place, tied) = place_from_lookup (is_at (ghosts.cmp on)) r gs found in
      ((k, gs), contains_at r i (k, gs) place, (g, c, (grant, is, same)))

  back_by : (g : GrantId) (grant : Grant) (expires : Option ℕ) (at : Node) → IsGrant t g grant → grant.expires ≡ expires → ComesBetween t.moment m expires → at ≡ node_of g grant → IsSeedOfTies t r at
  back_by g grant None at is ends comes same = absurd comes
  back_by g grant (Some end) at is ends (low, high) same = by_end g grant end at is ends low high same

  seeds_between : (at : Node) → IsSeedOfTies t r at ↔ IsSeedOfTick t m at
  seeds_between at = (forth at, λ (g, grant, ends, same). back_by g grant grant.expires at ends.is_row refl ends.ends same)

-- the same, by the bounds that a range has
pub seeds_in_range : (t : Tables) (m : ℕ) (map : BTreeMap Tie (Vec GrantId)) (r : List (Tie × Vec GrantId)) (first last : Tie)
    → first ≡ tie.End (t.moment + 1) → last ≡ tie.End m
    → r ≡ entries_between ghosts.cmp (Included first) (Included last) map.entries → IsRangeOf ghosts.cmp (Included first) (Included last) map r
    → IsTiesOf t (tied_in map.entries) → (at : Node) → IsSeedOfTies t r at ↔ IsSeedOfTick t m at
seeds_in_range t m map r first last from to between range ties =
    seeds_between t m map r
    (subst (λ (low : Tie). r ≡ entries_between ghosts.cmp (Included low) (Included (tie.End m)) map.entries) from
    (subst (λ (high : Tie). r ≡ entries_between ghosts.cmp (Included first) (Included high) map.entries) to between))
    (subst (λ (low : Tie). IsRangeOf ghosts.cmp (Included low) (Included (tie.End m)) map r) from
    (subst (λ (high : Tie). IsRangeOf ghosts.cmp (Included first) (Included high) map r) to range))
    ties

-- nothing ends where the clock doesn't go on
none_between : (now m : ℕ) (expires : Option ℕ) → m ≤ now → ComesBetween now m expires → ⊥
none_between now m None late comes = comes
none_between now m (Some end) late (low, high) = omega (arith, late, low, high)

pub none_ends : (t : Tables) (m : ℕ) (at : Node) → m ≤ t.moment → IsSeedOfTick t m at → ⊥
none_ends t m at late (g, grant, ends, same) = none_between t.moment m grant.expires late ends.ends

-- ---- gathering, one tie after another

abbrev pub Gathers : Tables → List Node → List (Tie × Vec GrantId) → List Node → List (Tie × Vec GrantId) → Type 0
Gathers t now left start all = (at : Node) → (Contains now at ⊎ IsSeedOfTies t left at) ↔ (Contains start at ⊎ IsSeedOfTies t all at)

pub gathers_next : (t : Tables) (start now new : List Node) (all left rest : List (Tie × Vec GrantId)) (e : Tie × Vec GrantId) → left ≡ e ∷ rest
    → ((at : Node) → Contains new at ↔ (Contains now at ⊎ IsSeedOfGrants t e.1.items at)) → Gathers t now left start all → Gathers t new rest start all
gathers_next t start now new all left rest e step more so_far at =
    let both = so_far at in (
      elim [
        | inl has ↦ elim ((more at).0 has) [
          | inl before ↦ both.0 (inl before)
          | inr here ↦ both.0 (inr (e, subst (λ (es : List (Tie × Vec GrantId)). Contains es e) (sym step) ((contains_cons e rest e).1 (inl refl)), here))
        ]
        | inr (f, listed, seed) ↦ both.0 (inr (f, subst (λ (es : List (Tie × Vec GrantId)). Contains es f) (sym step) ((contains_cons e rest f).1 (inr listed)), seed))
      ],
      λ is. elim (both.1 is) [
        | inl before ↦ inl ((more at).1 (inl before))
        | inr (f, listed, seed) ↦ elim ((contains_cons e rest f).0 (subst (λ (es : List (Tie × Vec GrantId)). Contains es f) step listed)) [
          | inl same ↦ inl ((more at).1 (inr (subst (λ (x : Tie × Vec GrantId). IsSeedOfGrants t x.1.items at) (sym same) seed)))
          | inr later ↦ inr (f, later, seed)
        ]
      ],
    )

pub gathers_all : (t : Tables) (start now : List Node) (all left : List (Tie × Vec GrantId)) → left ≡ [] → Gathers t now left start all
    → (at : Node) → Contains now at ↔ (Contains start at ⊎ IsSeedOfTies t all at)
gathers_all t start now all left done so_far at =
    let both = so_far at in (
      λ has. both.0 (inl has),
      λ is. elim (both.1 is) [
        | inl has ↦ has
        | inr (f, listed, seed) ↦ absurd (contains_none f (subst (λ (es : List (Tie × Vec GrantId)). Contains es f) done listed))
      ],
    )
