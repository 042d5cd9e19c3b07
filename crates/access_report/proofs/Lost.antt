-- What a revocation would take is what is gone at the nodes that the grant reaches.
use Rattle.std.proofs.Common.{◌≡◌, ◌≢◌, ◌<◌, ◌≤◌, ◌+◌, ◌⊎◌, ◌↔◌, ◌∷◌, ◌++◌, [], ℕ, nat_lt, false, IsTrue, List, Option, Some, Contains, IsSome, length, take, get_or, refl, sym, ◌∙◌, ap, subst, inl, inr, arith}
use Rattle.std.specs.BTreeMap.{BTreeMap, IsOrdered, is_at}
use Rattle.std.specs.List.{AllPairs, filter_map}
use Rattle.std.specs.Map.{keys_of}
use Rattle.std.specs.declared.cmp.Ordering.TheVariants.{Less}
use Rattle.std.proofs.lemmas.Bool.{false≢true}
use Rattle.std.proofs.lemmas.Bool.Decides.{nat_tests}
use Rattle.std.proofs.lemmas.List.{get_or-map, take_more, take_all}
use Rattle.std.proofs.lemmas.List.Elements.{Contains-append_left, Contains-get_or, Contains-push, Contains-push_cases}
use Rattle.std.proofs.lemmas.Map.Entries.{length-keys_of, place_from_lookup, btree_map_get_place}
use Rattle.std.proofs.lemmas.Map.Keys.{Less-from_sorted}
use Rattle.host_base.specs.declared.ids.GrantId.{GrantId}
use Rattle.perm_roles.specs.PermSet.{Has}
use Rattle.share_graph.specs.contracts.facts.NodeOrd.TheImpl.{ghosts}
use Rattle.share_graph.specs.declared.facts.Fact.{Fact}
use Rattle.share_graph.specs.declared.facts.Fact.TheVariants.{Open, Perm}
use Rattle.share_graph.specs.declared.facts.Node.{Node}
use Rattle.share_graph.specs.declared.facts.Node.TheVariants as node
use Rattle.share_graph.specs.declared.grants.Grant.{Grant}
use Rattle.share_graph.specs.declared.state.Tables.{Tables}
use Rattle.share_graph.specs.Coherent.{IsCoherent}
use Rattle.share_graph.specs.Derivation.{Holds, HoldsWithout}
use Rattle.share_graph.specs.NodeOrder.{node_cmp, node_total}
use Rattle.share_graph.specs.Nodes.{node_of}
use Rattle.share_graph.specs.Region.{seed}
use Rattle.share_graph.specs.Revoking.{revoke_in, TakesExactly}
use Rattle.share_graph.specs.Rows.{IsGrant}
use Rattle.share_graph.proofs.Contained.{contains_at, contains-filter_map, place_of}
use Rattle.share_graph.proofs.RevokingLaw.{revoking_law}
use Rattle.share_graph.proofs.Unused.{unfiltered}
use Rattle.least_access.specs.declared.held.Held.{Held}
use Rattle.least_access.specs.Held.{IsIn}
use Rattle.least_access.specs.Solved.{Table, held_at, HeldAt, IsSolutionOf}
use Rattle.least_access.proofs.Kept.{pairs_kept}
use Rattle.least_access.proofs.Nodes.{same_node, same_or_other}
use Rattle.least_access.proofs.Raising.{value_of}
use Rattle.least_access.proofs.Turns.{row_first}
use Rattle.region_access.specs.Reaching.{IsRegionOf}
use Rattle.region_access.proofs.Roomy.{region_closed}
use Rattle.region_work.proofs.Sums.{contains_none}
use Rattle.access_report.specs.declared.loss.Loss.{Loss}
use Rattle.access_report.specs.Lifting.{IsKnown}
use Rattle.access_report.specs.Losing.{IsSettled, IsGone, turned, AreLost, AddsLost, loss_of, made_of}
use Rattle.access_report.specs.Losses.{IsLost, IsLossOf, report_cmp, AreLosses}
use Rattle.access_report.proofs.Rested.{in_or_not}
use Rattle.access_report.proofs.Without.{own_without, outside_without, inner_without}

-- ---- all grants but one

pub others_next : (grants old new : List GrantId) (n : ℕ) (d num : GrantId) → n < length grants
    → ((g : GrantId) → Contains new g ↔ (Contains old g ⊎ ((get_or grants n d ≡ g) × (g ≢ num))))
    → ((g : GrantId) → Contains old g ↔ (Contains (take n grants) g × (g ≢ num))) → (g : GrantId) → Contains new g ↔ (Contains (take (n + 1) grants) g × (g ≢ num))
others_next grants old new n d num within more so_far g =
    let here : GrantId = get_or grants n d in
    let split = take_more grants n d within in (
      λ listed.
          elim ((more g).0 listed) [
            | inl before ↦
                let was = (so_far g).0 before in
                (subst (λ (xs : List GrantId). Contains xs g) (sym split) (Contains-append_left (take n grants) (here ∷ []) g was.0), was.1)
            | inr fresh ↦ (subst (λ (xs : List GrantId). Contains xs g) (sym split) (subst (λ (x : GrantId). Contains (take n grants ++ here ∷ []) x) fresh.0 (Contains-push (take n grants) here)), fresh.1)
          ],
      λ both.
          elim (Contains-push_cases (take n grants) here g (subst (λ (xs : List GrantId). Contains xs g) split both.0)) [
            | inl earlier ↦ (more g).1 (inl ((so_far g).1 (earlier, both.1)))
            | inr last ↦ (more g).1 (inr (last, both.1))
          ],
    )

pub others_all : (grants others : List GrantId) (n : ℕ) (num : GrantId) → length grants ≤ n → ((g : GrantId) → Contains others g ↔ (Contains (take n grants) g × (g ≢ num)))
    → (g : GrantId) → Contains others g ↔ (Contains grants g × (g ≢ num))
others_all grants others n num all done = subst (λ (xs : List GrantId). (g : GrantId) → Contains others g ↔ (Contains xs g × (g ≢ num))) (take_all n grants all) done

-- ---- what is gone

-- something is held exactly where entry is, or a position is in the set
pub something_in : (held : Held) (n : ℕ) (ps : List ℕ) → held.entry ≡ false → n ≡ length ps → ((p : ℕ) → Contains ps p ↔ Has held.perms p) → IsTrue (nat_lt 0 n) ↔ ((fact : Fact) × IsIn held fact)
something_in held n ps none count members = (
  λ h. (let less : 0 < length ps = grind (arith, nat_tests) in (Perm (get_or ps 0 0), (members (get_or ps 0 0)).0 (Contains-get_or ps 0 0 less))),
  λ some. by_fact some.0 some.1,
)
  where
    by_fact : (fact : Fact) → IsIn held fact → IsTrue (nat_lt 0 n)
    by_fact Open is = absurd (false≢true (sym none ∙ is))
    by_fact (Perm p) is = let (k, less, same) = (members p).1 is in grind (arith, nat_tests)

pub turned_twice : (at : Node) → turned (turned at) ≡ at
turned_twice (node.User n a) = refl
turned_twice (node.Grant g) = refl

pub cmp_turned : (a b : Node) → report_cmp (turned a) (turned b) ≡ node_cmp a b
cmp_turned (node.User n a) (node.User m b) = refl
cmp_turned (node.User n a) (node.Grant g) = refl
cmp_turned (node.Grant g) (node.User n a) = refl
cmp_turned (node.Grant g) (node.Grant h) = refl

-- ---- the table of what is gone

pub adds_none : (solved table : Table) (at : Node) (held : Held) (old : Table) → ((fact : Fact) → IsIn held fact ↔ IsGone solved table at fact) → ((fact : Fact) × IsIn held fact → ⊥) → AddsLost solved table at old old
adds_none solved table at held old exact none = record {
  only = λ n h is. inl is;
  keeps = λ n h. h;
  there = λ fact gone. absurd (none (fact, (exact fact).1 gone));
}

module _ (solved table : Table) (at : Node) (held : Held) (old new : Table) (exact : (fact : Fact) → IsIn held fact ↔ IsGone solved table at fact) (something : (fact : Fact) × IsIn held fact)
    (same : held_at new (turned at) ≡ Some held) (others : (other : Node) → other ≢ turned at → held_at new other ≡ held_at old other) where
  pub adds_one : AddsLost solved table at old new
  adds_one = record {
    only = λ n h is.
        elim (same_or_other (turned at) n) [
          | inl one ↦
              let there : held_at new n ≡ Some held = subst (λ (m : Node). held_at new m ≡ Some held) one same in
              let equal : held ≡ h = cc in
              inr (one, subst (λ (x : Held). (fact : Fact) → IsIn x fact ↔ IsGone solved table at fact) equal exact, subst (λ (x : Held). (fact : Fact) × IsIn x fact) equal something)
          | inr differs ↦ inl (sym (others n (λ back. differs (sym back))) ∙ is)
        ];
    keeps = λ n h.
        elim (same_or_other (turned at) n) [
          | inl one ↦ subst (λ (m : Node). IsSome (held_at new m)) one (subst (λ (o : Option Held). IsSome o) (sym same) refl)
          | inr differs ↦ subst (λ (o : Option Held). IsSome o) (sym (others n (λ back. differs (sym back)))) h
        ];
    there = λ fact gone. subst (λ (o : Option Held). IsSome o) (sym same) refl;
  }

pub lost_none : (solved table : Table) (nodes : List Node) (lost : Table) → lost ≡ [] → AreLost solved table (take 0 nodes) lost
lost_none solved table nodes lost none = record {
  only = λ at held is fact. absurd (nothing at held is);
  something = λ at held is. absurd (nothing at held is);
  inside = λ at held is. absurd (nothing at held is);
  all = λ at fact listed gone. absurd (contains_none at listed);
}
  where
    nothing : (at : Node) (held : Held) → held_at lost at ≡ Some held → ⊥
    nothing at held is = let at_none : held_at [] at ≡ Some held = subst (λ (es : Table). held_at es at ≡ Some held) none is in cc at_none

pub lost_next : (solved table : Table) (nodes : List Node) (old new : Table) (n : ℕ) (d : Node) → n < length nodes → AddsLost solved table (get_or nodes n d) old new → AreLost solved table (take n nodes) old
    → AreLost solved table (take (n + 1) nodes) new
lost_next solved table nodes old new n d within adds so_far =
    let here : Node = get_or nodes n d in
    let split = take_more nodes n d within in
    record {
      only = λ at held is.
          elim (adds.only at held is) [
            | inl earlier ↦ so_far.only at held earlier
            | inr (one, exact, some) ↦ subst (λ (m : Node). (fact : Fact) → IsIn held fact ↔ IsGone solved table m fact) (sym (turned_twice here) ∙ ap turned one) exact
          ];
      something = λ at held is. elim (adds.only at held is) [ inl earlier ↦ so_far.something at held earlier | inr (one, exact, some) ↦ some ];
      inside = λ at held is.
          elim (adds.only at held is) [
            | inl earlier ↦ subst (λ (xs : List Node). Contains xs (turned at)) (sym split) (Contains-append_left (take n nodes) (here ∷ []) (turned at) (so_far.inside at held earlier))
            | inr (one, exact, some) ↦
                subst (λ (m : Node). Contains (take (n + 1) nodes) m) (sym (turned_twice here) ∙ ap turned one)
                (subst (λ (xs : List Node). Contains xs here) (sym split) (Contains-push (take n nodes) here))
          ];
      all = λ at fact listed gone.
          elim (Contains-push_cases (take n nodes) here at (subst (λ (xs : List Node). Contains xs at) split listed)) [
            | inl earlier ↦ adds.keeps (turned at) (so_far.all at fact earlier gone)
            | inr last ↦
                subst (λ (m : Node). IsSome (held_at new (turned m))) last (adds.there fact (subst (λ (m : Node). IsGone solved table m fact) (sym last) gone))
          ];
    }

pub lost_all : (solved table : Table) (nodes : List Node) (lost : Table) (n : ℕ) → length nodes ≤ n → AreLost solved table (take n nodes) lost → AreLost solved table nodes lost
lost_all solved table nodes lost n all done = subst (λ (xs : List Node). AreLost solved table xs lost) (take_all n nodes all) done

-- ---- what is gone is what is lost

module _ (t : Tables) (coherent : IsCoherent t) (g : GrantId) (row : Grant) (is_row : IsGrant t g row) (nodes : List Node) (region : IsRegionOf t (node_of g row ∷ []) nodes)
    (solved : Table) (solution : IsSolutionOf t solved) (grants : List GrantId) (not_it : Contains grants g → ⊥)
    (listed : (h : GrantId) (grant : Grant) → h ≢ g → IsGrant t h grant → Contains nodes (node_of h grant) → Contains grants h) (table : Table) (settled : IsSettled t solved nodes grants table) where
  seeded : Contains nodes (node_of g row)
  seeded = (region.exact (node_of g row)).1 (seed (0, omega arith, refl))

  law : TakesExactly t g (revoke_in t g)
  law = revoking_law t g (row_first t.grants g.0 row is_row)

  out : (at : Node) (fact : Fact) → (Contains nodes at → ⊥) → Holds t at fact → HoldsWithout t g at fact
  out = outside_without t coherent g row is_row nodes seeded (region_closed t (node_of g row ∷ []) nodes region)

  known_without : (at : Node) (fact : Fact) → IsKnown t solved nodes at fact → HoldsWithout t g at fact
  known_without at fact (inl (inside, owned)) = own_without t g at fact owned
  known_without at fact (inr (outside, held)) = out at fact outside ((solution at fact).0 held)

  inside_held : (at : Node) (fact : Fact) → HoldsWithout t g at fact → Contains nodes at → HeldAt table at fact
  inside_held =
      inner_without t coherent g row is_row nodes seeded (region_closed t (node_of g row ∷ []) nodes region) grants listed table settled.owned
      (λ h grant at fact here is feeds outside holds. settled.outer h grant at fact here is feeds outside ((solution at fact).1 holds)) settled.closed

  gone_lost : (at : Node) (fact : Fact) → Contains nodes at → IsGone solved table at fact ↔ IsLost t g at fact
  gone_lost at fact inside = (
    λ gone. ((solution at fact).0 gone.0, λ after. gone.1 (inside_held at fact ((law at fact).0 after) inside)),
    λ lost. ((solution at fact).1 lost.0, λ held. lost.1 ((law at fact).1 (settled.without g not_it known_without at fact held))),
  )

  lost_inside : (at : Node) (fact : Fact) → IsLost t g at fact → Contains nodes at
  lost_inside at fact lost = elim (in_or_not nodes at) [ inl inside ↦ inside | inr outside ↦ absurd (lost.1 ((law at fact).1 (out at fact outside lost.0))) ]

  module _ (m : BTreeMap Node Held) (ordered : IsOrdered ghosts.cmp m) (are : AreLost solved table nodes m.entries) where
    loss_at : (at : Node) (held : Held) → held_at m.entries at ≡ Some held → IsLossOf t g (loss_of (at, held))
    loss_at at held there =
        let inside = are.inside at held there in
        let exact : (fact : Fact) → IsIn held fact ↔ IsLost t g (turned at) fact = λ fact. (
          λ h. (gone_lost (turned at) fact inside).0 ((are.only at held there fact).0 h),
          λ lost. (are.only at held there fact).1 ((gone_lost (turned at) fact inside).1 lost),
        ) in
        let (fact, some) = are.something at held there in
        record { entry = exact Open; exact = λ p. exact (Perm p); something = (fact, (exact fact).0 some) }

    made : (e : Node × Held) (loss : Loss) → Contains m.entries e → made_of e ≡ Some loss → IsLossOf t g loss
    made (at, held) loss here is =
        let (k, there) = place_of m.entries (at, held) here in
        let known = btree_map_get_place node_total m k at held ordered there in
        let same : loss_of (at, held) ≡ loss = cc in
        subst (λ (x : Loss). IsLossOf t g x) same (loss_at at held known)

    each : (loss : Loss) → Contains (filter_map made_of m.entries) loss → IsLossOf t g loss
    each loss here = let (e, there, is) = unfiltered made_of m.entries loss here in made e loss there is

    all : (at : Node) (fact : Fact) → IsLost t g at fact → (loss : Loss) × Contains (filter_map made_of m.entries) loss × (loss.node ≡ at)
    all at fact lost =
        let inside = lost_inside at fact lost in
        let (held, there) = value_of (held_at m.entries (turned at)) (are.all at fact inside ((gone_lost at fact inside).1 lost)) in
        let (i, k, place, tied) = place_from_lookup (is_at (ghosts.cmp (turned at))) m.entries held there in
        let same : turned at ≡ k = same_node (turned at) k tied in
        (loss_of (k, held), contains-filter_map made_of m.entries (k, held) (loss_of (k, held)) (contains_at m.entries i (k, held) place) refl, ap turned (sym same) ∙ turned_twice at)

    rising : AllPairs (λ (e : Node × Held) (f : Node × Held). ghosts.cmp e.0 f.0 ≡ Less) m.entries
    rising i j d less within =
        let number = length-keys_of m.entries in
        let low = get_or-map (λ (e : Node × Held). e.0) m.entries i d d.0 (omega arith) in
        let high = get_or-map (λ (e : Node × Held). e.0) m.entries j d d.0 within in
        rw (← low, ← high) (Less-from_sorted ghosts.cmp (keys_of m.entries) i j d.0 ordered less (omega arith))

    ascends : (e f : Node × Held) (x y : Loss) → made_of e ≡ Some x → made_of f ≡ Some y → ghosts.cmp e.0 f.0 ≡ Less → report_cmp x.node y.node ≡ Less
    ascends (a, held) (b, other) x y is also less =
        let first : loss_of (a, held) ≡ x = cc in
        let second : loss_of (b, other) ≡ y = cc in
        subst (λ (z : Loss). report_cmp x.node z.node ≡ Less) second (subst (λ (z : Loss). report_cmp z.node (turned b) ≡ Less) first (cmp_turned a b ∙ less))

    pub are_losses : AreLosses t g (filter_map made_of m.entries)
    are_losses = record {
      each = each;
      all = all;
      ascend = pairs_kept (λ (e : Node × Held) (f : Node × Held). ghosts.cmp e.0 f.0 ≡ Less) (λ (a : Loss) (b : Loss). report_cmp a.node b.node ≡ Less) made_of ascends m.entries rising;
    }
