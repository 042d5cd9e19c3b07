-- The grants of a list that nodes feed.
use Rattle.std.proofs.Common.{◌≡◌, ◌<◌, ◌≤◌, ◌+◌, ◌⊎◌, ◌∷◌, ◌++◌, [], ℕ, Bool, true, false, cond, List, Some, Contains, length, take, get_or, sym, subst, inl, inr, arith}
use Rattle.std.proofs.lemmas.List.{take_more, take_all}
use Rattle.std.proofs.lemmas.List.Elements.{Contains-append_left, Contains-push, Contains-push_cases}
use Rattle.std.specs.BTreeMap.{is_at}
use Rattle.std.specs.Global.{Vec}
use Rattle.std.specs.Map.{lookup}
use Rattle.host_base.specs.declared.ids.GrantId.{GrantId}
use Rattle.share_graph.specs.contracts.facts.NodeOrd.TheImpl as node_order
use Rattle.share_graph.specs.declared.facts.Node.{Node}
use Rattle.share_graph.specs.declared.grants.Grant.{Grant}
use Rattle.share_graph.specs.declared.state.Tables.{Tables}
use Rattle.share_graph.specs.Rows.{IsGrant}
use Rattle.least_access.proofs.Nodes.{same_or_other}
use Rattle.region_work.specs.Fed.{fed_in, items_or_none}
use Rattle.region_work.proofs.Sums.{contains_none}
use Rattle.access_report.specs.Resting.{feeders}
use Rattle.access_report.specs.Waiting.{AddsFed, AddsToAll, IsFeedOf, most_fed}
use Rattle.access_report.proofs.Rested.{feeds_in}

-- no node feeds more grants than all do
pub fed_few : (entries : List (Node × Vec GrantId)) (at : Node) → length (fed_in entries at) ≤ most_fed entries
fed_few [] at = omega arith
fed_few (e ∷ es) at =
    let rest = fed_few es at in
    elim (is_at (node_order.ghosts.cmp at) e.0)
    as (λ (b : Bool). length (items_or_none (cond b (Some e.1) (lookup (is_at (node_order.ghosts.cmp at)) es))) ≤ length e.1.items + most_fed es) [
      | true ↦ omega arith
      | false ↦ omega arith
    ]

-- ---- a grant more

module _ (node : Node) (g : GrantId) (old new : Node → List GrantId) (adds : AddsFed node g old new) where
  fed_here : Contains (new node) g
  fed_here = subst (λ (xs : List GrantId). Contains xs g) (sym adds.here) (Contains-push (old node) g)

  fed_keeps : (at : Node) (h : GrantId) → Contains (old at) h → Contains (new at) h
  fed_keeps at h c =
      elim (same_or_other at node) [
        | inl one ↦
            subst (λ (n : Node). Contains (new n) h) (sym one)
            (subst (λ (xs : List GrantId). Contains xs h) (sym adds.here) (Contains-append_left (old node) (g ∷ []) h (subst (λ (n : Node). Contains (old n) h) one c)))
        | inr other ↦ subst (λ (xs : List GrantId). Contains xs h) (sym (adds.others at other)) c
      ]

  fed_only : (at : Node) (h : GrantId) → Contains (new at) h → Contains (old at) h ⊎ (g ≡ h)
  fed_only at h c =
      elim (same_or_other at node) [
        | inl one ↦
            elim (Contains-push_cases (old node) g h (subst (λ (xs : List GrantId). Contains xs h) adds.here (subst (λ (n : Node). Contains (new n) h) one c))) [
              | inl before ↦ inl (subst (λ (n : Node). Contains (old n) h) (sym one) before)
              | inr here ↦ inr here
            ]
        | inr other ↦ inl (subst (λ (xs : List GrantId). Contains xs h) (adds.others at other) c)
      ]

pub to_none : (nodes : List Node) (g : GrantId) (fed : Node → List GrantId) → AddsToAll (take 0 nodes) g fed fed
to_none nodes g fed = record { all = λ at c. absurd (contains_none at c); keeps = λ at h c. c; only = λ at h c. inl c }

pub to_next : (nodes : List Node) (g : GrantId) (old mid new : Node → List GrantId) (n : ℕ) (d : Node) → n < length nodes → AddsToAll (take n nodes) g old mid → AddsFed (get_or nodes n d) g mid new
    → AddsToAll (take (n + 1) nodes) g old new
to_next nodes g old mid new n d within so_far adds = record {
  all = λ at c.
      elim (Contains-push_cases (take n nodes) (get_or nodes n d) at (subst (λ (xs : List Node). Contains xs at) (take_more nodes n d within) c)) [
        | inl earlier ↦ fed_keeps (get_or nodes n d) g mid new adds at g (so_far.all at earlier)
        | inr here ↦ subst (λ (m : Node). Contains (new m) g) here (fed_here (get_or nodes n d) g mid new adds)
      ];
  keeps = λ at h c. fed_keeps (get_or nodes n d) g mid new adds at h (so_far.keeps at h c);
  only = λ at h c. elim (fed_only (get_or nodes n d) g mid new adds at h c) [ inl before ↦ so_far.only at h before | inr here ↦ inr here ];
}

pub to_all : (nodes : List Node) (g : GrantId) (old new : Node → List GrantId) (n : ℕ) → length nodes ≤ n → AddsToAll (take n nodes) g old new → AddsToAll nodes g old new
to_all nodes g old new n all done = subst (λ (xs : List Node). AddsToAll xs g old new) (take_all n nodes all) done

-- ---- the first grants

pub feed_none : (t : Tables) (grants : List GrantId) (entries : List (Node × Vec GrantId)) → entries ≡ [] → IsFeedOf t (take 0 grants) (fed_in entries)
feed_none t grants entries none = record {
  all = λ at g grant c is feeds. absurd (contains_none g c);
  only = λ at g c. absurd (contains_none g (subst (λ (es : List (Node × Vec GrantId)). Contains (fed_in es at) g) none c));
}

pub feed_next : (t : Tables) (grants : List GrantId) (old new : Node → List GrantId) (n : ℕ) (d : GrantId) (grant : Grant) → n < length grants → IsGrant t (get_or grants n d) grant
    → AddsToAll (feeders grant) (get_or grants n d) old new → IsFeedOf t (take n grants) old → IsFeedOf t (take (n + 1) grants) new
feed_next t grants old new n d grant within row adds so_far =
    subst (λ (gs : List GrantId). IsFeedOf t gs new) (sym (take_more grants n d within)) (record {
      all = λ at g other c is feeds.
          elim (Contains-push_cases (take n grants) (get_or grants n d) g c) [
            | inl earlier ↦ adds.keeps at g (so_far.all at g other earlier is feeds)
            | inr here ↦
                let there : IsGrant t (get_or grants n d) other = subst (λ (k : GrantId). IsGrant t k other) (sym here) is in
                let one : other ≡ grant = cc in
                subst (λ (k : GrantId). Contains (new at) k) here (adds.all at (subst (λ (x : Grant). Contains (feeders x) at) one (feeds_in other at feeds)))
          ];
      only = λ at g c.
          elim (adds.only at g c) [
            | inl before ↦ Contains-append_left (take n grants) (get_or grants n d ∷ []) g (so_far.only at g before)
            | inr here ↦ subst (λ (k : GrantId). Contains (take n grants ++ get_or grants n d ∷ []) k) here (Contains-push (take n grants) (get_or grants n d))
          ];
    })

pub feed_all : (t : Tables) (grants : List GrantId) (fed : Node → List GrantId) (n : ℕ) → length grants ≤ n → IsFeedOf t (take n grants) fed → IsFeedOf t grants fed
feed_all t grants fed n all done = subst (λ (gs : List GrantId). IsFeedOf t gs fed) (take_all n grants all) done
