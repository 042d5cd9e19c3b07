-- The region grows, node by node.
use Rattle.std.proofs.Common.{◌≡◌, ◌≢◌, ◌⊎◌, ◌+◌, ◌<◌, ◌≤◌, ◌++◌, ◌∷◌, [], ℕ, zero, suc, List, Some, length, take, get_or, slice_get, Contains, refl, sym, ◌∙◌, ap, subst, inl, inr, arith, length-append}
use Rattle.std.specs.Prelude.{AllPairs, sum_by}
use Rattle.std.proofs.lemmas.List.{take_more, take_all}
use Rattle.std.proofs.lemmas.List.Sums.{sum_by-cons}
use Rattle.std.proofs.lemmas.Option.{slice_get-get_or}
use Rattle.std.proofs.lemmas.List.Elements.{Contains-append_left, Contains-append_right, Contains-push, Contains-push_cases, Contains-get_or}
use Rattle.std.proofs.lemmas.List.Quantifiers.{all_pairs_push}
use Rattle.host_base.specs.declared.ids.GrantId.{GrantId}
use Rattle.share_graph.specs.declared.facts.Node.{Node}
use Rattle.share_graph.specs.declared.grants.Grant.{Grant}
use Rattle.share_graph.specs.declared.state.Tables.{Tables}
use Rattle.share_graph.specs.Coherent.{IsCoherent}
use Rattle.share_graph.specs.Nodes.{node_of}
use Rattle.share_graph.specs.Region.{Feeds, Reached, seed, along, to_site}
use Rattle.share_graph.specs.Rows.{row, IsGrant}
use Rattle.least_access.specs.Solved.{Table}
use Rattle.least_access.proofs.Following.{node_of_site}
use Rattle.least_access.proofs.Turns.{grant_id}
use Rattle.region_work.specs.Emptying.{AddsPlace}
use Rattle.region_access.specs.Reaching.{IsVisited, Extends, ReachesFrom, IsRegionOf}
use Rattle.region_work.specs.Working.{IsIndexOf}
use Rattle.region_work.proofs.Sums.{contains_cons, sum_of_members}

-- ---- one node more

get_left : (xs ys : List Node) (k : ℕ) (d : Node) → k < length xs → get_or (xs ++ ys) k d ≡ get_or xs k d
get_left [] ys k d below = absurd (omega arith)
get_left (x ∷ xs) ys zero d below = refl
get_left (x ∷ xs) ys (suc k) d below = get_left xs ys k d (omega arith)

pub extends_same : (nodes : List Node) → Extends nodes nodes
extends_same nodes = record { longer = omega arith; same = λ k d below. refl }

pub extends_push : (nodes : List Node) (node : Node) → Extends nodes (nodes ++ node ∷ [])
extends_push nodes node = record {
  longer = let more = length-append nodes (node ∷ []) in omega arith;
  same = λ k d below. get_left nodes (node ∷ []) k d below;
}

pub extends_more : (a b c : List Node) → Extends a b → Extends b c → Extends a c
extends_more a b c first second = record {
  longer = let one = first.longer in let two = second.longer in omega arith;
  same = λ k d below. second.same k d (let one = first.longer in omega arith) ∙ first.same k d below;
}

pub extends_has : (old new : List Node) → Extends old new → (at : Node) → Contains old at → Contains new at
extends_has old new more at (k, below, is) = (k, (let longer = more.longer in omega arith), more.same k at below ∙ is)

pub visited_push : (nodes : List Node) (old new : Table) (node : Node) → IsVisited nodes old → (Contains nodes node → ⊥) → AddsPlace node old new → IsVisited (nodes ++ node ∷ []) new
visited_push nodes old new node visited fresh adds = record {
  empty = record {
    places = λ at. (
      λ h.
          elim ((adds.places at).0 h) [
            | inl before ↦ Contains-append_left nodes (node ∷ []) at ((visited.empty.places at).0 before)
            | inr here ↦ subst (λ (n : Node). Contains (nodes ++ node ∷ []) n) (sym here) (Contains-push nodes node)
          ],
      λ c.
          elim (Contains-push_cases nodes node at c) [
            | inl before ↦ (adds.places at).1 (inl ((visited.empty.places at).1 before))
            | inr here ↦ (adds.places at).1 (inr (sym here))
          ],
    );
    nothing = λ at fact h. visited.empty.nothing at fact ((adds.facts at fact).0 h);
  };
  once = all_pairs_push (λ (a : Node) (b : Node). a ≢ b) nodes node visited.once
      (λ k d below same. fresh (subst (λ (n : Node). Contains nodes n) same (Contains-get_or nodes k d below)));
}

-- ---- the nodes of the first grants

pub record ReachedBelow (t : Tables) (grants : List GrantId) (old new : List Node) (places : Table) (i : ℕ) : Type 0 where
  pub visited : IsVisited new places
  pub reaches : ReachesFrom t (take i grants) old new

pub reached_none : (t : Tables) (grants : List GrantId) (nodes : List Node) (places : Table) → IsVisited nodes places → ReachedBelow t grants nodes nodes places 0
reached_none t grants nodes places visited = record {
  visited = visited;
  reaches = record {
    extends = extends_same nodes;
    all = λ g grant (k, below, is) there. absurd (omega arith);
    only = λ at c. inl c;
  };
}

pub reached_one : (t : Tables) (grants : List GrantId) (old mid new : List Node) (before after : Table) (i : ℕ) (d : GrantId) (grant : Grant) (node : Node)
    → i < length grants → IsGrant t (get_or grants i d) grant → node ≡ node_of (get_or grants i d) grant
    → ReachedBelow t grants old mid before i → IsVisited new after → Extends mid new → Contains new node
    → ((at : Node) → Contains new at → Contains mid at ⊎ (at ≡ node))
    → ReachedBelow t grants old new after (i + 1)
reached_one t grants old mid new before after i d grant node within is at_node so_far visited extends there only = record {
  visited = visited;
  reaches = record {
    extends = extends_more old mid new so_far.reaches.extends extends;
    all = λ g other c row_is.
        elim (Contains-push_cases (take i grants) (get_or grants i d) g (subst (λ (xs : List GrantId). Contains xs g) (take_more grants i d within) c)) [
          | inl earlier ↦ extends_has mid new extends (node_of g other) (so_far.reaches.all g other earlier row_is)
          | inr here ↦
              let there_row : IsGrant t (get_or grants i d) other = subst (λ (h : GrantId). IsGrant t h other) (sym here) row_is in
              let one : grant ≡ other = cc in
              let same : node ≡ node_of g other = at_node ∙ ap (λ (x : Grant). node_of (get_or grants i d) x) one ∙ ap (λ (h : GrantId). node_of h other) here in
              subst (λ (n : Node). Contains new n) same there
        ];
    only = λ at c.
        elim (only at c) [
          | inl known ↦
              elim (so_far.reaches.only at known) [
                | inl first ↦ inl first
                | inr (g, other, has, row_is, same) ↦
                    inr (g, other, subst (λ (xs : List GrantId). Contains xs g) (sym (take_more grants i d within)) (Contains-append_left (take i grants) (get_or grants i d ∷ []) g has), row_is, same)
              ]
          | inr here ↦
              inr (get_or grants i d, grant, subst (λ (xs : List GrantId). Contains xs (get_or grants i d)) (sym (take_more grants i d within)) (Contains-push (take i grants) (get_or grants i d)), is, here ∙ at_node)
        ];
  };
}

pub reached_all : (t : Tables) (grants : List GrantId) (old new : List Node) (places : Table) (i : ℕ) → length grants ≤ i → ReachedBelow t grants old new places i → ReachesFrom t grants old new
reached_all t grants old new places i end done = subst (λ (xs : List GrantId). ReachesFrom t xs old new) (take_all i grants end) done.reaches

-- ---- the seeds

pub record SeedsBelow (seeds old new : List Node) (places : Table) (i : ℕ) : Type 0 where
  pub visited : IsVisited new places
  pub kept : (at : Node) → Contains old at → Contains new at
  pub all : (at : Node) → Contains (take i seeds) at → Contains new at
  pub only : (at : Node) → Contains new at → Contains old at ⊎ Contains (take i seeds) at

pub seeds_none : (seeds nodes : List Node) (places : Table) → IsVisited nodes places → SeedsBelow seeds nodes nodes places 0
seeds_none seeds nodes places visited = record {
  visited = visited;
  kept = λ at c. c;
  all = λ at (k, below, is). absurd (omega arith);
  only = λ at c. inl c;
}

pub seeds_one : (seeds old mid new : List Node) (before after : Table) (i : ℕ) (d : Node) → i < length seeds → SeedsBelow seeds old mid before i
    → IsVisited new after → Extends mid new → Contains new (get_or seeds i d) → ((at : Node) → Contains new at → Contains mid at ⊎ (at ≡ get_or seeds i d))
    → SeedsBelow seeds old new after (i + 1)
seeds_one seeds old mid new before after i d within so_far visited extends there only = record {
  visited = visited;
  kept = λ at c. extends_has mid new extends at (so_far.kept at c);
  all = λ at c.
      elim (Contains-push_cases (take i seeds) (get_or seeds i d) at (subst (λ (xs : List Node). Contains xs at) (take_more seeds i d within) c)) [
        | inl earlier ↦ extends_has mid new extends at (so_far.all at earlier)
        | inr here ↦ subst (λ (n : Node). Contains new n) here there
      ];
  only = λ at c.
      elim (only at c) [
        | inl known ↦
            elim (so_far.only at known) [
              | inl first ↦ inl first
              | inr has ↦ inr (subst (λ (xs : List Node). Contains xs at) (sym (take_more seeds i d within)) (Contains-append_left (take i seeds) (get_or seeds i d ∷ []) at has))
            ]
        | inr here ↦
            inr (subst (λ (n : Node). Contains (take (i + 1) seeds) n) (sym here) (subst (λ (xs : List Node). Contains xs (get_or seeds i d)) (sym (take_more seeds i d within)) (Contains-push (take i seeds) (get_or seeds i d))))
      ];
}

-- ---- how many nodes there can be

abbrev pub grant_nodes : ℕ → List Grant → List Node
grant_nodes n [] = []
grant_nodes n (grant ∷ grants) = node_of (grant_id (n + 1)) grant ∷ grant_nodes (n + 1) grants

has_node : (n : ℕ) (grants : List Grant) (i : ℕ) (grant : Grant) → slice_get grants i ≡ Some grant → Contains (grant_nodes n grants) (node_of (grant_id (n + i + 1)) grant)
has_node n [] i grant is = cc is
has_node n (first ∷ grants) zero grant is =
    let one : first ≡ grant = cc in
    let num : n + 1 ≡ n + 0 + 1 = omega arith in
    (contains_cons (node_of (grant_id (n + 1)) first) (grant_nodes (n + 1) grants) (node_of (grant_id (n + 0 + 1)) grant)).1
    (inl (ap (λ (x : Grant). node_of (grant_id (n + 1)) x) one ∙ ap (λ (k : ℕ). node_of (grant_id k) grant) num))
has_node n (first ∷ grants) (suc i) grant is =
    let num : n + 1 + i + 1 ≡ n + suc i + 1 = omega arith in
    subst (λ (k : ℕ). Contains (grant_nodes n (first ∷ grants)) (node_of (grant_id k) grant)) num
    ((contains_cons (node_of (grant_id (n + 1)) first) (grant_nodes (n + 1) grants) (node_of (grant_id (n + 1 + i + 1)) grant)).1 (inr (has_node (n + 1) grants i grant is)))

node_in : (grants : List Grant) (n : ℕ) (grant : Grant) → row grants n ≡ Some grant → Contains (grant_nodes 0 grants) (node_of (grant_id n) grant)
node_in grants zero grant is = cc is
node_in grants (suc i) grant is =
    let num : 0 + i + 1 ≡ suc i = omega arith in
    subst (λ (k : ℕ). Contains (grant_nodes 0 grants) (node_of (grant_id k) grant)) num (has_node 0 grants i grant is)

-- the seeds, and the nodes of all grants
abbrev pub all_nodes : Tables → List Node → List Node
all_nodes t seeds = seeds ++ grant_nodes 0 t.grants

reached_in : (t : Tables) → IsCoherent t → (seeds : List Node) → {at : Node} → Reached t (Contains seeds) at → Contains (all_nodes t seeds) at
reached_in t coherent seeds (seed {at = at} has) = Contains-append_left seeds (grant_nodes 0 t.grants) at has
reached_in t coherent seeds (along r g grant is feeds) = Contains-append_right seeds (grant_nodes 0 t.grants) (node_of g grant) (node_in t.grants g.0 grant is)
reached_in t coherent seeds (to_site r g grant is none feeds) =
    subst (λ (n : Node). Contains (seeds ++ grant_nodes 0 t.grants) n) (sym (node_of_site t coherent g grant is none)) (Contains-append_right seeds (grant_nodes 0 t.grants) (node_of g grant) (node_in t.grants g.0 grant is))

ones_are : (xs : List Node) → sum_by (λ (x : Node). 1) xs ≡ length xs
ones_are [] = refl
ones_are (x ∷ xs) = let head = sum_by-cons (λ (x : Node). 1) x xs in let rest = ones_are xs in omega arith

few : (xs ys : List Node) → AllPairs (λ (a : Node) (b : Node). a ≢ b) xs → ((at : Node) → Contains xs at → Contains ys at) → length xs ≤ length ys
few xs ys once within =
    let less = sum_of_members (λ (x : Node). 1) xs ys once within in
    let a = ones_are xs in
    let b = ones_are ys in
    omega arith

-- ---- the region, so far

pub record Growing (t : Tables) (seeds nodes : List Node) (places : Table) (next : ℕ) : Type 0 where
  pub visited : IsVisited nodes places
  pub seeded : (at : Node) → Contains seeds at → Contains nodes at
  pub reached : (at : Node) → Contains nodes at → Reached t (Contains seeds) at
  pub done : (k : ℕ) (d : Node) (g : GrantId) (grant : Grant) → k < next → IsGrant t g grant → Feeds (get_or nodes k d) grant → Contains nodes (node_of g grant)

pub grow_none : (t : Tables) (seeds nodes : List Node) (places : Table) → IsVisited nodes places → ((at : Node) → Contains seeds at → Contains nodes at)
    → ((at : Node) → Contains nodes at → Contains seeds at) → Growing t seeds nodes places 0
grow_none t seeds nodes places visited all only = record {
  visited = visited;
  seeded = all;
  reached = λ at c. seed (only at c);
  done = λ k d g grant none is feeds. absurd (omega arith);
}

-- its nodes are no more than the seeds and the grants
pub grow_few : (t : Tables) → IsCoherent t → (seeds nodes : List Node) (places : Table) (next : ℕ) → Growing t seeds nodes places next → length nodes ≤ length (all_nodes t seeds)
grow_few t coherent seeds nodes places next growing = few nodes (all_nodes t seeds) growing.visited.once (λ at c. reached_in t coherent seeds (growing.reached at c))

pub grow_one : (t : Tables) (fed : Node → List GrantId) → IsIndexOf t fed → (seeds old new : List Node) (before after : Table) (next : ℕ) (here : Node)
    → next < length old → ((d : Node) → get_or old next d ≡ here) → Growing t seeds old before next → IsVisited new after → ReachesFrom t (fed here) old new
    → Growing t seeds new after (next + 1)
grow_one t fed index seeds old new before after next here within at_next growing visited reaches = record {
  visited = visited;
  seeded = λ at c. extends_has old new reaches.extends at (growing.seeded at c);
  reached = λ at c.
      elim (reaches.only at c) [
        | inl known ↦ growing.reached at known
        | inr (g, grant, has, is, same) ↦
            let (other, is_other, feeds) = index.rows here g has in
            let there = growing.reached here (next, within, at_next here) in
            let one : other ≡ grant = cc in
            subst (λ (n : Node). Reached t (Contains seeds) n) (sym same) (along there g grant is (subst (λ (x : Grant). Feeds here x) one feeds))
      ];
  done = λ k d g grant below is feeds.
      let sides : (k < next) ⊎ (k ≡ next) = grind arith in
      elim sides [
        | inl earlier ↦
            let same = reaches.extends.same k d (omega arith) in
            extends_has old new reaches.extends (node_of g grant) (growing.done k d g grant earlier is (subst (λ (n : Node). Feeds n grant) same feeds))
        | inr last ↦
            let same = reaches.extends.same k d (omega arith) in
            let at_here : get_or old k d ≡ here = ap (λ (i : ℕ). get_or old i d) last ∙ at_next d in
            reaches.all g grant (index.all here g grant is (subst (λ (n : Node). Feeds n grant) (same ∙ at_here) feeds)) is
      ];
}

grown_has : (t : Tables) → IsCoherent t → (seeds nodes : List Node) (places : Table) (next : ℕ) → length nodes ≤ next → Growing t seeds nodes places next
    → {at : Node} → Reached t (Contains seeds) at → Contains nodes at
grown_has t coherent seeds nodes places next end growing (seed {at = at} has) = growing.seeded at has
grown_has t coherent seeds nodes places next end growing (along {from = from} r g grant is feeds) =
    let (k, below, same) = grown_has t coherent seeds nodes places next end growing r in
    growing.done k from g grant (omega arith) is (subst (λ (n : Node). Feeds n grant) (sym same) feeds)
grown_has t coherent seeds nodes places next end growing (to_site {from = from} r g grant is none feeds) =
    let (k, below, same) = grown_has t coherent seeds nodes places next end growing r in
    subst (λ (n : Node). Contains nodes n) (sym (node_of_site t coherent g grant is none))
    (growing.done k from g grant (omega arith) is (subst (λ (n : Node). Feeds n grant) (sym same) feeds))

pub grown : (t : Tables) → IsCoherent t → (seeds nodes : List Node) (places : Table) (next : ℕ) → length nodes ≤ next → Growing t seeds nodes places next → IsRegionOf t seeds nodes
grown t coherent seeds nodes places next end growing = record {
  exact = λ at. (growing.reached at, λ r. grown_has t coherent seeds nodes places next end growing r);
  once = growing.visited.once;
}

-- what is read within a list doesn't depend on what a read past its end gives
pub at_any : (nodes : List Node) (i : ℕ) (here : Node) → i < length nodes → here ≡ get_or nodes i here → (d : Node) → get_or nodes i d ≡ here
at_any nodes i here within is d =
    let a = slice_get-get_or nodes i d within in
    let b = slice_get-get_or nodes i here within in
    let one : get_or nodes i d ≡ get_or nodes i here = cc in
    one ∙ sym is
