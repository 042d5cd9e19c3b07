-- The grants that go to each node.
use Rattle.std.proofs.Common.{◌≡◌, ◌≢◌, ◌↔◌, ◌+◌, ◌<◌, ◌≤◌, ◌++◌, ◌∷◌, [], ℕ, zero, suc, List, length, take, get_or, Contains, refl, sym, ◌∙◌, ap, subst, inl, inr, arith}
use Rattle.std.specs.Prelude.{AllPairs}
use Rattle.std.proofs.lemmas.List.{take_more, take_all}
use Rattle.std.proofs.lemmas.List.Elements.{Contains-append_left, Contains-append_right, Contains-append_cases, Contains-push, Contains-push_cases, Contains-get_or}
use Rattle.host_base.specs.declared.ids.GrantId.{GrantId}
use Rattle.share_graph.specs.declared.facts.Node.{Node}
use Rattle.share_graph.specs.declared.grants.Grant.{Grant}
use Rattle.share_graph.specs.declared.state.Tables.{Tables}
use Rattle.share_graph.specs.Nodes.{node_of}
use Rattle.region_access.specs.Arriving.{IsArrivalsOf, IsArrivalsAt}
use Rattle.region_access.proofs.Cleared.{not_before}
use Rattle.region_access.proofs.Picked.{contains_one}
use Rattle.region_work.proofs.Sums.{contains_none, contains_cons, apart_head, apart_tail}

-- the grant goes to the node
abbrev pub Arrives : Node → GrantId → Grant → Type 0
Arrives at g grant = node_of g grant ≡ at

pub arrives_one : (g : GrantId) (grant : Grant) (node : Node) → node ≡ node_of g grant → (at : Node) → Contains (node ∷ []) at ↔ Arrives at g grant
arrives_one g grant node is at =
    let alone = contains_one node at in (
      λ c. sym is ∙ sym (alone.0 c),
      λ same. alone.1 (sym same ∙ sym is),
    )

-- ---- lists that differ, end to end

apart_cons : (x : GrantId) (xs : List GrantId) → ((y : GrantId) → Contains xs y → x ≢ y) → AllPairs (λ (a : GrantId) (b : GrantId). a ≢ b) xs → AllPairs (λ (a : GrantId) (b : GrantId). a ≢ b) (x ∷ xs)
apart_cons x xs head tail zero zero d less below = absurd (omega arith)
apart_cons x xs head tail zero (suc j) d less below = head (get_or xs j d) (Contains-get_or xs j d (omega arith))
apart_cons x xs head tail (suc i) zero d less below = absurd (omega arith)
apart_cons x xs head tail (suc i) (suc j) d less below = tail i j d (omega arith) (omega arith)

apart_append : (xs ys : List GrantId) → AllPairs (λ (a : GrantId) (b : GrantId). a ≢ b) xs → AllPairs (λ (a : GrantId) (b : GrantId). a ≢ b) ys
    → ((x y : GrantId) → Contains xs x → Contains ys y → x ≢ y) → AllPairs (λ (a : GrantId) (b : GrantId). a ≢ b) (xs ++ ys)
apart_append [] ys first second across = second
apart_append (x ∷ xs) ys first second across =
    apart_cons x (xs ++ ys)
    (λ y c. elim (Contains-append_cases xs ys y c) [ inl here ↦ apart_head x xs first y here | inr there ↦ across x y ((contains_cons x xs x).1 (inl refl)) there ])
    (apart_append xs ys (apart_tail x xs first) second (λ a b c e. across a b ((contains_cons x xs a).1 (inr c)) e))

-- ---- node by node

pub arrivals_none : (nodes : List Node) (into : Node → List GrantId) → IsArrivalsAt (take 0 nodes) into []
arrivals_none nodes into = record {
  exact = λ g. (λ c. absurd (contains_none g c), λ (at, c, has). absurd (contains_none at c));
  once = λ i j d less below. absurd (omega arith);
}

pub arrivals_one : (t : Tables) (nodes : List Node) → AllPairs (λ (a : Node) (b : Node). a ≢ b) nodes → (into : Node → List GrantId) → IsArrivalsOf t into → (grants : List GrantId) (i : ℕ) (d : Node)
    → i < length nodes → IsArrivalsAt (take i nodes) into grants → IsArrivalsAt (take (i + 1) nodes) into (grants ++ into (get_or nodes i d))
arrivals_one t nodes once into arrivals grants i d within so_far =
    let split = take_more nodes i d within in
    let here : Node = get_or nodes i d in
    record {
      exact = λ g. (
        λ c.
            elim (Contains-append_cases grants (into here) g c) [
              | inl before ↦ let (at, inside, has) = (so_far.exact g).0 before in (at, subst (λ (xs : List Node). Contains xs at) (sym split) (Contains-append_left (take i nodes) (here ∷ []) at inside), has)
              | inr fresh ↦ (here, subst (λ (xs : List Node). Contains xs here) (sym split) (Contains-push (take i nodes) here), fresh)
            ],
        λ (at, inside, has).
            elim (Contains-push_cases (take i nodes) here at (subst (λ (xs : List Node). Contains xs at) split inside)) [
              | inl earlier ↦ Contains-append_left grants (into here) g ((so_far.exact g).1 (at, earlier, has))
              | inr one ↦ Contains-append_right grants (into here) g (subst (λ (n : Node). Contains (into n) g) (sym one) has)
            ],
      );
      once = apart_append grants (into here) so_far.once (arrivals.once here)
          (λ x y c e same.
          (let (at, inside, has) = (so_far.exact x).0 c in
          let (grant, is, goes) = (arrivals.exact at x).0 has in
          let (other, is_other, goes_other) = (arrivals.exact here x).0 (subst (λ (g : GrantId). Contains (into here) g) (sym same) e) in
          let one : grant ≡ other = cc in
          let places : at ≡ here = sym goes ∙ ap (λ (r : Grant). node_of x r) one ∙ goes_other in
          not_before nodes once i d within (subst (λ (n : Node). Contains (take i nodes) n) places inside)));
    }

pub arrivals_all : (nodes : List Node) (into : Node → List GrantId) (grants : List GrantId) (i : ℕ) → length nodes ≤ i → IsArrivalsAt (take i nodes) into grants → IsArrivalsAt nodes into grants
arrivals_all nodes into grants i end done = subst (λ (xs : List Node). IsArrivalsAt xs into grants) (take_all i nodes end) done
