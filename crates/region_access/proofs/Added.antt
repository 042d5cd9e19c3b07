-- The index of edges, grant by grant.
use Rattle.std.proofs.Common.{◌≡◌, ◌≢◌, ◌⊎◌, ◌↔◌, ◌+◌, ◌-◌, ◌<◌, ◌≤◌, ◌∷◌, [], ℕ, List, Some, length, take, get_or, slice_get, Contains, sym, ◌∙◌, ap, subst, inl, inr, arith}
use Rattle.std.proofs.lemmas.Option.{slice_get_within, slice_get-get_or}
use Rattle.std.proofs.lemmas.List.{take_more}
use Rattle.std.proofs.lemmas.List.Elements.{Contains-append_left, Contains-push, Contains-push_cases, Contains-get_or}
use Rattle.std.proofs.lemmas.List.Quantifiers.{all_pairs_push}
use Rattle.host_base.specs.declared.ids.GrantId.{GrantId}
use Rattle.share_graph.specs.declared.facts.Fact.{Fact}
use Rattle.share_graph.specs.declared.facts.Fact.TheVariants.{Open, Perm}
use Rattle.share_graph.specs.declared.facts.Node.{Node}
use Rattle.share_graph.specs.declared.grants.Grant.{Grant}
use Rattle.share_graph.specs.declared.grants.Need.{Need}
use Rattle.share_graph.specs.declared.grants.Need.TheVariants as need
use Rattle.share_graph.specs.declared.state.Tables.{Tables}
use Rattle.share_graph.specs.Derivation.{Asks}
use Rattle.share_graph.specs.Nodes.{source_of}
use Rattle.share_graph.specs.Region.{Feeds}
use Rattle.share_graph.specs.Rows.{row, IsGrant}
use Rattle.least_access.proofs.Nodes.{same_or_other}
use Rattle.least_access.proofs.Turns.{grant_id, numbered, row_within, row_first}
use Rattle.region_access.specs.Adding.{Ascends, IsPushed, AddsEdge, Adds, IsNamed}
use Rattle.region_work.specs.Owed.{holder_of}
use Rattle.region_work.specs.Working.{IsIndexOf}
use Rattle.region_work.proofs.NeedsMet.{asks_open}
use Rattle.region_work.proofs.Sums.{contains_none}

pub contains_at : (xs : List GrantId) (k : ℕ) (x : GrantId) → slice_get xs k ≡ Some x → Contains xs x
contains_at xs k x is =
    let below : k < length xs = slice_get_within xs k x is in
    let read = slice_get-get_or xs k x below in
    let one : get_or xs k x ≡ x = cc in
    (k, below, one)

-- ---- one number at the end of a list

pub pushed_has : (old new : List GrantId) (num : GrantId) → IsPushed old num new → Contains new num
pushed_has old new num (inl same) = subst (λ (xs : List GrantId). Contains xs num) (sym same.1) (contains_at old (length old - 1) num same.0)
pushed_has old new num (inr more) = subst (λ (xs : List GrantId). Contains xs num) (sym more.1) (Contains-push old num)

pushed_kept : (old new : List GrantId) (num g : GrantId) → IsPushed old num new → Contains old g → Contains new g
pushed_kept old new num g (inl same) c = subst (λ (xs : List GrantId). Contains xs g) (sym same.1) c
pushed_kept old new num g (inr more) c = subst (λ (xs : List GrantId). Contains xs g) (sym more.1) (Contains-append_left old (num ∷ []) g c)

pushed_only : (old new : List GrantId) (num g : GrantId) → IsPushed old num new → Contains new g → Contains old g ⊎ (g ≡ num)
pushed_only old new num g (inl same) c = inl (subst (λ (xs : List GrantId). Contains xs g) same.1 c)
pushed_only old new num g (inr more) c =
    elim (Contains-push_cases old num g (subst (λ (xs : List GrantId). Contains xs g) more.1 c)) [
      | inl before ↦ inl before
      | inr fresh ↦ inr (sym fresh)
    ]

last_below : (old : List GrantId) (num : GrantId) → slice_get old (length old - 1) ≢ Some num → ((g : GrantId) → Contains old g → g.0 ≤ num.0) → Ascends old
    → (k : ℕ) (d : GrantId) → k < length old → (get_or old k d).0 < num.0
last_below old num apart below ascends k d within =
    let here : (get_or old k d).0 ≤ num.0 = below (get_or old k d) (Contains-get_or old k d within) in
    let sides : (k < length old - 1) ⊎ (k ≡ length old - 1) = grind arith in
    elim sides [
      | inl earlier ↦
          let at_end : length old - 1 < length old = omega arith in
          let less = ascends k (length old - 1) d earlier at_end in
          let last = below (get_or old (length old - 1) d) (Contains-get_or old (length old - 1) d at_end) in
          omega arith
      | inr end ↦
          let differ : (get_or old k d).0 ≢ num.0 = λ same.
          (let one : get_or old k d ≡ num = ap (λ n. grant_id n) same in
          let read = slice_get-get_or old k d within in
          apart (subst (λ (i : ℕ). slice_get old i ≡ Some num) end (read ∙ ap (λ (g : GrantId). Some g) one))) in
          omega arith
    ]

pushed_ascends : (old new : List GrantId) (num : GrantId) → IsPushed old num new → ((g : GrantId) → Contains old g → g.0 ≤ num.0) → Ascends old → Ascends new
pushed_ascends old new num (inl same) below ascends = subst (λ (xs : List GrantId). Ascends xs) (sym same.1) ascends
pushed_ascends old new num (inr more) below ascends =
    subst (λ (xs : List GrantId). Ascends xs) (sym more.1)
    (all_pairs_push (λ (a : GrantId) (b : GrantId). a.0 < b.0) old num ascends (last_below old num more.0 below ascends))

-- ---- one edge

pub some_node : (a b : Node) → Some a ≡ Some b → a ≡ b
some_node a b e = cc e

pub adds_edge : (from : Node) (num : GrantId) (old new : Node → List GrantId) → AddsEdge from num old new → Adds (λ at. Some from ≡ Some at) num old new
adds_edge from num old new edge = record {
  all = λ at is. subst (λ (n : Node). Contains (new n) num) (some_node from at is) (pushed_has (old from) (new from) num edge.here);
  kept = λ at g c.
      elim (same_or_other at from) [
        | inl here ↦ subst (λ (n : Node). Contains (new n) g) (sym here) (pushed_kept (old from) (new from) num g edge.here (subst (λ (n : Node). Contains (old n) g) here c))
        | inr other ↦ subst (λ (xs : List GrantId). Contains xs g) (sym (edge.others at other)) c
      ];
  only = λ at g c.
      elim (same_or_other at from) [
        | inl here ↦
            elim (pushed_only (old from) (new from) num g edge.here (subst (λ (n : Node). Contains (new n) g) here c)) [
              | inl before ↦ inl (subst (λ (n : Node). Contains (old n) g) (sym here) before)
              | inr fresh ↦ inr (fresh, ap (λ (n : Node). Some n) (sym here))
            ]
        | inr other ↦ inl (subst (λ (xs : List GrantId). Contains xs g) (edge.others at other) c)
      ];
  ascends = λ below ascends at.
      elim (same_or_other at from) [
        | inl here ↦ subst (λ (n : Node). Ascends (new n)) (sym here) (pushed_ascends (old from) (new from) num edge.here (below from) (ascends from))
        | inr other ↦ subst (λ (xs : List GrantId). Ascends xs) (sym (edge.others at other)) (ascends at)
      ];
}

pub adds_nothing : (From : Node → Type 0) (num : GrantId) (fed : Node → List GrantId) → ((at : Node) → From at → ⊥) → Adds From num fed fed
adds_nothing From num fed none = record {
  all = λ at is. absurd (none at is);
  kept = λ at g c. c;
  only = λ at g c. inl c;
  ascends = λ below ascends. ascends;
}

pub adds_both : (P Q R : Node → Type 0) (num : GrantId) (a b c : Node → List GrantId) → ((at : Node) → R at ↔ (P at ⊎ Q at)) → Adds P num a b → Adds Q num b c → Adds R num a c
adds_both P Q R num a b c either first second = record {
  all = λ at is. elim ((either at).0 is) [ inl p ↦ second.kept at num (first.all at p) | inr q ↦ second.all at q ];
  kept = λ at g h. second.kept at g (first.kept at g h);
  only = λ at g h.
      elim (second.only at g h) [
        | inl before ↦ elim (first.only at g before) [ inl old ↦ inl old | inr fresh ↦ inr (fresh.0, (either at).1 (inl fresh.1)) ]
        | inr fresh ↦ inr (fresh.0, (either at).1 (inr fresh.1))
      ];
  ascends = λ below ascends.
      second.ascends
      (λ at g h. elim (first.only at g h) [ inl old ↦ below at g old | inr fresh ↦ (let same = ap (λ (x : GrantId). x.0) fresh.0 in omega arith) ])
      (first.ascends below ascends);
}

-- ---- the needs of a grant

pub named_more : (needs : List Need) (i : ℕ) (d : Need) → i < length needs → (at : Node) → IsNamed (take (i + 1) needs) at ↔ (IsNamed (take i needs) at ⊎ (holder_of (get_or needs i d) ≡ Some at))
named_more needs i d within at = (
  λ (q, c, named).
      elim (Contains-push_cases (take i needs) (get_or needs i d) q (subst (λ (xs : List Need). Contains xs q) (take_more needs i d within) c)) [
        | inl earlier ↦ inl (q, earlier, named)
        | inr here ↦ inr (ap holder_of here ∙ named)
      ],
  elim [
    | inl (q, c, named) ↦ (q, subst (λ (xs : List Need). Contains xs q) (sym (take_more needs i d within)) (Contains-append_left (take i needs) (get_or needs i d ∷ []) q c), named)
    | inr named ↦ (get_or needs i d, subst (λ (xs : List Need). Contains xs (get_or needs i d)) (sym (take_more needs i d within)) (Contains-push (take i needs) (get_or needs i d)), named)
  ],
)

asks_holder : (q : Need) (at : Node) (asked : Fact) → Asks q at asked → holder_of q ≡ Some at
asks_holder (need.TokenValid h) at asked a = ap (λ (n : Node). Some n) (sym a.0)
asks_holder (need.PermissionsHeld holder set) at Open a = ap (λ (n : Node). Some n) (sym a)
asks_holder (need.PermissionsHeld holder set) at (Perm p) a = ap (λ (n : Node). Some n) (sym a.0)
asks_holder (need.UserIsAdmin u) at asked a = absurd a

-- what feeds a grant is its source, or named by a need
pub feeds_either : (grant : Grant) (at : Node) → Feeds at grant ↔ ((source_of grant ≡ Some at) ⊎ IsNamed grant.needs at)
feeds_either grant at = (
  elim [
    | inl source ↦ inl source
    | inr (q, c, (asked, a)) ↦ inr (q, c, asks_holder q at asked a)
  ],
  elim [
    | inl source ↦ inl source
    | inr (q, c, named) ↦ inr (q, c, (Open, asks_open q at named))
  ],
)

-- ---- grant by grant

pub record IndexBelow (t : Tables) (fed : Node → List GrantId) (i : ℕ) : Type 0 where
  pub all : (at : Node) (g : GrantId) (grant : Grant) → g.0 ≤ i → IsGrant t g grant → Feeds at grant → Contains (fed at) g
  pub rows : (at : Node) (g : GrantId) → Contains (fed at) g → (grant : Grant) × IsGrant t g grant × Feeds at grant × (g.0 ≤ i)
  pub ascends : (at : Node) → Ascends (fed at)

pub index_none : (t : Tables) (fed : Node → List GrantId) → ((at : Node) → fed at ≡ []) → IndexBelow t fed 0
index_none t fed empty = record {
  all = λ at g grant none is feeds. let first : 0 < g.0 = row_first t.grants g.0 grant is in absurd (omega arith);
  rows = λ at g c. absurd (contains_none g (subst (λ (xs : List GrantId). Contains xs g) (empty at) c));
  ascends = λ at. subst (λ (xs : List GrantId). Ascends xs) (sym (empty at)) (λ i j d less below. absurd (omega arith));
}

pub index_one : (t : Tables) (old new : Node → List GrantId) (i : ℕ) (grant : Grant) → slice_get t.grants i ≡ Some grant → IndexBelow t old i
    → Adds (λ at. Feeds at grant) (grant_id (i + 1)) old new → IndexBelow t new (i + 1)
index_one t old new i grant is so_far adds = record {
  all = λ at g other below there feeds.
      let sides : (g.0 ≤ i) ⊎ (g.0 ≡ i + 1) = grind arith in
      elim sides [
        | inl earlier ↦ adds.kept at g (so_far.all at g other earlier there feeds)
        | inr last ↦
            let num : grant_id (i + 1) ≡ g = ap (λ n. grant_id n) (sym last) in
            let here : row t.grants (i + 1) ≡ Some other = subst (λ (n : ℕ). row t.grants n ≡ Some other) last there in
            let known : row t.grants (i + 1) ≡ Some grant = numbered t.grants i grant is in
            let one : other ≡ grant = cc in
            subst (λ (h : GrantId). Contains (new at) h) num (adds.all at (subst (λ (x : Grant). Feeds at x) one feeds))
      ];
  rows = λ at g c.
      elim (adds.only at g c) [
        | inl before ↦ let (other, there, feeds, below) = so_far.rows at g before in (other, there, feeds, omega arith)
        | inr fresh ↦
            let there : IsGrant t g grant = subst (λ (h : GrantId). IsGrant t h grant) (sym fresh.0) (numbered t.grants i grant is) in
            let num = ap (λ (h : GrantId). h.0) fresh.0 in
            (grant, there, fresh.1, omega arith)
      ];
  ascends = adds.ascends (λ at g c. (let (other, there, feeds, below) = so_far.rows at g c in omega arith)) so_far.ascends;
}

pub index_all : (t : Tables) (fed : Node → List GrantId) (i : ℕ) → IndexBelow t fed i → i ≡ length t.grants → IsIndexOf t fed
index_all t fed i done all = record {
  all = λ at g grant is feeds. done.all at g grant (let within = row_within t.grants g.0 grant is in omega arith) is feeds;
  rows = λ at g c. let (grant, is, feeds, below) = done.rows at g c in (grant, is, feeds);
  once = λ at i j d less below same. (let apart = done.ascends at i j d less below in let one = ap (λ (h : GrantId). h.0) same in omega arith);
}
