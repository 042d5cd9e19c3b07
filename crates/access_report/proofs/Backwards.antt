-- The nodes on which what a node holds can rest, found backwards from it.
use Rattle.std.proofs.Common.{◌≡◌, ◌<◌, ◌≤◌, ◌+◌, ◌⊎◌, ◌∷◌, ◌++◌, [], ℕ, List, Contains, length, take, get_or, refl, sym, ◌∙◌, ap, subst, inl, inr, arith}
use Rattle.std.proofs.lemmas.List.{take_more, take_all}
use Rattle.std.proofs.lemmas.List.Elements.{Contains-append_left, Contains-append_right, Contains-append_cases, Contains-push, Contains-push_cases}
use Rattle.host_base.specs.declared.ids.GrantId.{GrantId}
use Rattle.share_graph.specs.declared.facts.Node.{Node}
use Rattle.share_graph.specs.declared.grants.Grant.{Grant}
use Rattle.share_graph.specs.declared.state.Tables.{Tables}
use Rattle.share_graph.specs.Nodes.{node_of}
use Rattle.share_graph.specs.Region.{Feeds}
use Rattle.share_graph.specs.Rows.{IsGrant}
use Rattle.share_graph.proofs.Contained.{only}
use Rattle.least_access.specs.Solved.{Table}
use Rattle.region_access.specs.Arriving.{IsArrivalsOf}
use Rattle.region_access.specs.Reaching.{IsVisited}
use Rattle.region_access.proofs.Visited.{extends_same, extends_push, extends_more, extends_has, visited_push}
use Rattle.region_work.specs.Emptying.{AddsPlace}
use Rattle.region_work.proofs.Sums.{contains_cons, contains_none}
use Rattle.access_report.specs.Resting.{AreFedBy, AreVisited, IsRestOf}
use Rattle.access_report.proofs.Rested.{all_feeders, feeders_in, feeds_in, few, universe}

-- ---- one more node, and those of a list

pub visited_none : (nodes : List Node) (places : Table) → IsVisited nodes places → AreVisited [] nodes nodes places
visited_none nodes places visited = record { visited = visited; extends = extends_same nodes; all = λ at c. absurd (contains_none at c); only = λ at c. inl c }

pub visited_there : (nodes : List Node) (node : Node) (places : Table) → IsVisited nodes places → Contains nodes node → AreVisited (node ∷ []) nodes nodes places
visited_there nodes node places visited there = record {
  visited = visited;
  extends = extends_same nodes;
  all = λ at c. subst (λ (n : Node). Contains nodes n) (only node at c) there;
  only = λ at c. inl c;
}

pub visited_new : (nodes : List Node) (node : Node) (old new : Table) → IsVisited nodes old → (Contains nodes node → ⊥) → AddsPlace node old new → AreVisited (node ∷ []) nodes (nodes ++ node ∷ []) new
visited_new nodes node old new visited fresh adds = record {
  visited = visited_push nodes old new node visited fresh adds;
  extends = extends_push nodes node;
  all = λ at c. subst (λ (n : Node). Contains (nodes ++ node ∷ []) n) (only node at c) (Contains-push nodes node);
  only = λ at c. elim (Contains-push_cases nodes node at c) [ inl before ↦ inl before | inr here ↦ inr (subst (λ (n : Node). Contains (node ∷ []) n) here (Contains-push [] node)) ];
}

pub visited_next : (more old mid new : List Node) (before after : Table) (n : ℕ) (d : Node) → n < length more → AreVisited (take n more) old mid before → AreVisited (get_or more n d ∷ []) mid new after
    → AreVisited (take (n + 1) more) old new after
visited_next more old mid new before after n d within so_far one =
    subst (λ (xs : List Node). AreVisited xs old new after) (sym (take_more more n d within)) (record {
      visited = one.visited;
      extends = extends_more old mid new so_far.extends one.extends;
      all = λ at c.
          elim (Contains-push_cases (take n more) (get_or more n d) at c) [
            | inl earlier ↦ extends_has mid new one.extends at (so_far.all at earlier)
            | inr here ↦ subst (λ (m : Node). Contains new m) here (one.all (get_or more n d) (Contains-push [] (get_or more n d)))
          ];
      only = λ at c.
          elim (one.only at c) [
            | inl before ↦
                elim (so_far.only at before) [
                  | inl first ↦ inl first
                  | inr earlier ↦ inr (Contains-append_left (take n more) (get_or more n d ∷ []) at earlier)
                ]
            | inr here ↦ inr (subst (λ (m : Node). Contains (take n more ++ get_or more n d ∷ []) m) (only (get_or more n d) at here) (Contains-push (take n more) (get_or more n d)))
          ];
    })

pub visited_all : (more old new : List Node) (places : Table) (n : ℕ) → length more ≤ n → AreVisited (take n more) old new places → AreVisited more old new places
visited_all more old new places n end done = subst (λ (xs : List Node). AreVisited xs old new places) (take_all n more end) done

-- ---- backwards from the node, node by node

-- Of the nodes that were visited, the grants that go to the first ones, and all on which these rest.
pub record Backwards (t : Tables) (into : Node → List GrantId) (node : Node) (nodes : List Node) (places : Table) (grants : List GrantId) (next : ℕ) : Type 0 where
  pub visited : IsVisited nodes places
  pub goal : Contains nodes node
  pub within : (at : Node) → Contains nodes at → Contains (universe t node) at
  pub rows : (g : GrantId) → Contains grants g → (grant : Grant) × IsGrant t g grant × Contains nodes (node_of g grant)
  pub done : (k : ℕ) (d : Node) (g : GrantId) → k < next → Contains (into (get_or nodes k d)) g → Contains grants g
  pub fed : (g : GrantId) (grant : Grant) (at : Node) → Contains grants g → IsGrant t g grant → Feeds at grant → Contains nodes at

pub back_none : (t : Tables) (into : Node → List GrantId) (node : Node) (old nodes : List Node) (places : Table) (grants : List GrantId) → old ≡ [] → grants ≡ []
    → AreVisited (node ∷ []) old nodes places → Backwards t into node nodes places grants 0
back_none t into node old nodes places grants first none visits = record {
  visited = visits.visited;
  goal = visits.all node (Contains-push [] node);
  within = λ at c.
      elim (visits.only at c) [
        | inl before ↦ absurd (contains_none at (subst (λ (xs : List Node). Contains xs at) first before))
        | inr here ↦ (contains_cons node (all_feeders t.grants) at).1 (inl (only node at here))
      ];
  rows = λ g c. absurd (contains_none g (subst (λ (gs : List GrantId). Contains gs g) none c));
  done = λ k d g less c. absurd (omega arith);
  fed = λ g grant at c is feeds. absurd (contains_none g (subst (λ (gs : List GrantId). Contains gs g) none c));
}

-- there are no more of them than there can be
pub back_few : (t : Tables) (into : Node → List GrantId) (node : Node) (nodes : List Node) (places : Table) (grants : List GrantId) (next : ℕ) → Backwards t into node nodes places grants next
    → length nodes ≤ length (universe t node)
back_few t into node nodes places grants next back = few nodes (universe t node) back.visited.once back.within

-- the rows that go to a node
pub arriving_rows : (t : Tables) (into : Node → List GrantId) → IsArrivalsOf t into → (at : Node) (g : GrantId) → Contains (into at) g → (grant : Grant) × IsGrant t g grant × (node_of g grant ≡ at)
arriving_rows t into index at g c = (index.exact at g).0 c

module _ (t : Tables) (into : Node → List GrantId) (index : IsArrivalsOf t into) (node : Node) (old new feeding : List Node) (before after : Table) (grants more : List GrantId) (next : ℕ) (here : Node)
    (within : next < length old) (at_next : (d : Node) → get_or old next d ≡ here) (so_far : Backwards t into node old before grants next) (fed : AreFedBy t [] (into here) feeding)
    (visits : AreVisited feeding old new after) (both : more ≡ grants ++ into here) where
  split : (g : GrantId) → Contains more g → Contains grants g ⊎ Contains (into here) g
  split g c = Contains-append_cases grants (into here) g (subst (λ (gs : List GrantId). Contains gs g) both c)

  old_in : (g : GrantId) → Contains grants g → Contains more g
  old_in g c = subst (λ (gs : List GrantId). Contains gs g) (sym both) (Contains-append_left grants (into here) g c)

  new_in : (g : GrantId) → Contains (into here) g → Contains more g
  new_in g c = subst (λ (gs : List GrantId). Contains gs g) (sym both) (Contains-append_right grants (into here) g c)

  kept : (at : Node) → Contains old at → Contains new at
  kept at c = extends_has old new visits.extends at c

  back_within : (at : Node) → Contains new at → Contains (universe t node) at
  back_within at c =
      elim (visits.only at c) [
        | inl known ↦ so_far.within at known
        | inr fresh ↦
            elim ((fed at).0 fresh) [
              | inl none ↦ absurd (contains_none at none)
              | inr (g, grant, has, is, feeds) ↦ (contains_cons node (all_feeders t.grants) at).1 (inr (feeders_in t.grants g.0 grant at is feeds))
            ]
      ]

  back_rows : (g : GrantId) → Contains more g → (grant : Grant) × IsGrant t g grant × Contains new (node_of g grant)
  back_rows g c =
      elim (split g c) [
        | inl earlier ↦ let (grant, is, inside) = so_far.rows g earlier in (grant, is, kept (node_of g grant) inside)
        | inr arrives ↦
            let (grant, is, goes) = arriving_rows t into index here g arrives in
            (grant, is, kept (node_of g grant) (next, within, at_next (node_of g grant) ∙ sym goes))
      ]

  back_done : (k : ℕ) (d : Node) (g : GrantId) → k < next + 1 → Contains (into (get_or new k d)) g → Contains more g
  back_done k d g less c =
      let same : get_or new k d ≡ get_or old k d = visits.extends.same k d (omega arith) in
      let there : Contains (into (get_or old k d)) g = subst (λ (n : Node). Contains (into n) g) same c in
      let sides : (k < next) ⊎ (k ≡ next) = grind arith in
      elim sides [
        | inl earlier ↦ old_in g (so_far.done k d g earlier there)
        | inr last ↦ new_in g (subst (λ (n : Node). Contains (into n) g) (ap (λ (i : ℕ). get_or old i d) last ∙ at_next d) there)
      ]

  back_fed : (g : GrantId) (grant : Grant) (at : Node) → Contains more g → IsGrant t g grant → Feeds at grant → Contains new at
  back_fed g grant at c is feeds =
      elim (split g c) [
        | inl earlier ↦ kept at (so_far.fed g grant at earlier is feeds)
        | inr arrives ↦ visits.all at ((fed at).1 (inr (g, grant, arrives, is, feeds_in grant at feeds)))
      ]

  pub back_next : Backwards t into node new after more (next + 1)
  back_next = record { visited = visits.visited; goal = kept node so_far.goal; within = back_within; rows = back_rows; done = back_done; fed = back_fed }

-- once each was looked at, they are all
pub is_rest : (t : Tables) (into : Node → List GrantId) → IsArrivalsOf t into → (node : Node) (nodes : List Node) (places : Table) (grants : List GrantId) (next : ℕ) → length nodes ≤ next
    → Backwards t into node nodes places grants next → IsRestOf t node nodes grants
is_rest t into index node nodes places grants next end back = record {
  goal = back.goal;
  rows = back.rows;
  grants_all = λ g grant is (k, below, at). back.done k (node_of g grant) g (omega arith) (subst (λ (n : Node). Contains (into n) g) (sym at) ((index.exact (node_of g grant) g).1 (grant, is, refl)));
  fed = back.fed;
}
