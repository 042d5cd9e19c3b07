-- The nodes on which what a node holds can rest, found step by step.
use Rattle.std.proofs.Common.{◌≡◌, ◌≢◌, ◌<◌, ◌≤◌, ◌+◌, ◌⊎◌, ◌↔◌, ◌∷◌, ◌++◌, [], ℕ, zero, suc, List, Option, Some, None, Contains, length, take, get_or, slice_get, refl, sym, ◌∙◌, ap, subst, inl, inr, arith, append_assoc}
use Rattle.std.specs.Prelude.{AllPairs, sum_by}
use Rattle.std.specs.List.{cons_option, filter_map}
use Rattle.std.proofs.lemmas.List.{length_push, take_more, take_all}
use Rattle.std.proofs.lemmas.List.Elements.{Contains-append_left, Contains-append_right, Contains-append_cases, Contains-get_or, Contains-push, Contains-push_cases, filter_map-append}
use Rattle.std.proofs.lemmas.List.Quantifiers.{all_pairs_push}
use Rattle.std.proofs.lemmas.List.Sums.{sum_by-cons}
use Rattle.host_base.specs.declared.ids.GrantId.{GrantId}
use Rattle.share_graph.specs.declared.facts.Fact.{Fact}
use Rattle.share_graph.specs.declared.facts.Fact.TheVariants.{Open, Perm}
use Rattle.share_graph.specs.declared.facts.Node.{Node}
use Rattle.share_graph.specs.declared.grants.Grant.{Grant}
use Rattle.share_graph.specs.declared.grants.Need.{Need}
use Rattle.share_graph.specs.declared.grants.Need.TheVariants as need
use Rattle.share_graph.specs.declared.state.Tables.{Tables}
use Rattle.share_graph.specs.Derivation.{Asks}
use Rattle.share_graph.specs.Nodes.{node_of, source_of}
use Rattle.share_graph.specs.Region.{Feeds}
use Rattle.share_graph.specs.Rows.{row, IsGrant}
use Rattle.share_graph.proofs.Contained.{contains-filter_map, only}
use Rattle.least_access.proofs.Nodes.{same_or_other}
use Rattle.region_access.specs.Arriving.{IsArrivalsOf, IsArrivalsAt}
use Rattle.region_work.specs.Owed.{holder_of}
use Rattle.region_work.proofs.Sums.{contains_cons, contains_none, sum_of_members}
use Rattle.access_report.specs.Resting.{feeders, AreFedBy, IsRestOf}

-- ---- what a grant rests on

named : (q : Need) (at : Node) (asked : Fact) → Asks q at asked → holder_of q ≡ Some at
named (need.TokenValid h) at asked a = ap (λ (n : Node). Some n) (sym a.0)
named (need.PermissionsHeld holder set) at Open a = ap (λ (n : Node). Some n) (sym a)
named (need.PermissionsHeld holder set) at (Perm p) a = ap (λ (n : Node). Some n) (sym a.0)
named (need.UserIsAdmin b) at asked a = absurd a

first_in : (o : Option Node) (xs : List Node) (at : Node) → o ≡ Some at → Contains (cons_option o xs) at
first_in None xs at is = cc is
first_in (Some n) xs at is = let same : n ≡ at = cc in (contains_cons n xs at).1 (inl same)

later_in : (o : Option Node) (xs : List Node) (at : Node) → Contains xs at → Contains (cons_option o xs) at
later_in None xs at listed = listed
later_in (Some n) xs at listed = (contains_cons n xs at).1 (inr listed)

pub feeds_in : (grant : Grant) (at : Node) → Feeds at grant → Contains (feeders grant) at
feeds_in grant at (inl is) = first_in (source_of grant) (filter_map holder_of grant.needs) at is
feeds_in grant at (inr (q, listed, (asked, a))) =
    later_in (source_of grant) (filter_map holder_of grant.needs) at (contains-filter_map holder_of grant.needs q at listed (named q at asked a))

-- ---- all that grants rest on

abbrev pub all_feeders : List Grant → List Node
all_feeders [] = []
all_feeders (grant ∷ grants) = feeders grant ++ all_feeders grants

feeders_at : (grants : List Grant) (i : ℕ) (grant : Grant) (at : Node) → slice_get grants i ≡ Some grant → Contains (feeders grant) at → Contains (all_feeders grants) at
feeders_at [] i grant at is listed = cc is
feeders_at (first ∷ grants) zero grant at is listed =
    let same : grant ≡ first = cc in
    Contains-append_left (feeders first) (all_feeders grants) at (subst (λ (x : Grant). Contains (feeders x) at) same listed)
feeders_at (first ∷ grants) (suc i) grant at is listed = Contains-append_right (feeders first) (all_feeders grants) at (feeders_at grants i grant at is listed)

pub feeders_in : (grants : List Grant) (n : ℕ) (grant : Grant) (at : Node) → row grants n ≡ Some grant → Contains (feeders grant) at → Contains (all_feeders grants) at
feeders_in grants zero grant at is listed = cc is
feeders_in grants (suc i) grant at is listed = feeders_at grants i grant at is listed

-- the node, and all that grants rest on
abbrev pub universe : Tables → Node → List Node
universe t node = node ∷ all_feeders t.grants

-- ---- lists that differ

abbrev pub AreOnce : List Node → Type 0
AreOnce xs = AllPairs (λ (a : Node) (b : Node). a ≢ b) xs

ones_are : (xs : List Node) → sum_by (λ (x : Node). 1) xs ≡ length xs
ones_are [] = refl
ones_are (x ∷ xs) = let head = sum_by-cons (λ (x : Node). 1) x xs in let rest = ones_are xs in omega arith

pub few : (xs ys : List Node) → AreOnce xs → ((at : Node) → Contains xs at → Contains ys at) → length xs ≤ length ys
few xs ys once within =
    let less = sum_of_members (λ (x : Node). 1) xs ys once within in
    let a = ones_are xs in
    let b = ones_are ys in
    omega arith

pub in_or_not : (xs : List Node) (x : Node) → Contains xs x ⊎ (Contains xs x → ⊥)
in_or_not [] x = inr (contains_none x)
in_or_not (y ∷ ys) x =
    elim (same_or_other y x) [
      | inl one ↦ inl ((contains_cons y ys x).1 (inl one))
      | inr other ↦
          elim (in_or_not ys x) [
            | inl there ↦ inl ((contains_cons y ys x).1 (inr there))
            | inr not ↦ inr (λ c. elim ((contains_cons y ys x).0 c) [ inl e ↦ other e | inr l ↦ not l ])
          ]
    ]

-- the nodes that one need more names
pub holders_next : (needs : List Need) (old mid new : List Node) (n : ℕ) (q : Need) → n < length needs → q ≡ get_or needs n q → mid ≡ old ++ filter_map holder_of (take n needs)
    → new ≡ mid ++ cons_option (holder_of q) [] → new ≡ old ++ filter_map holder_of (take (n + 1) needs)
holders_next needs old mid new n q within is so_far more =
    let split : take (n + 1) needs ≡ take n needs ++ q ∷ [] = take_more needs n q within ∙ ap (λ (x : Need). take n needs ++ x ∷ []) (sym is) in
    let F : List Node = filter_map holder_of (take n needs) in
    let X : List Node = cons_option (holder_of q) [] in
    more ∙ ap (λ (xs : List Node). xs ++ X) so_far ∙ append_assoc old F X
    ∙ ap (λ (ys : List Node). old ++ ys) (sym (filter_map-append holder_of (take n needs) (q ∷ [])) ∙ sym (ap (λ (qs : List Need). filter_map holder_of qs) split))

-- ---- the feeders of the first grants

pub fed_none : (t : Tables) (nodes all : List Node) (grants : List GrantId) → all ≡ nodes → AreFedBy t nodes (take 0 grants) all
fed_none t nodes all grants same at = (
  λ listed. inl (subst (λ (xs : List Node). Contains xs at) same listed),
  λ fed. elim fed [ inl listed ↦ subst (λ (xs : List Node). Contains xs at) (sym same) listed | inr (g, grant, none, is, within) ↦ absurd (contains_none g none) ],
)

pub fed_next : (t : Tables) (nodes old new : List Node) (grants : List GrantId) (n : ℕ) (d : GrantId) (grant : Grant) → n < length grants → IsGrant t (get_or grants n d) grant → new ≡ old ++ feeders grant
    → AreFedBy t nodes (take n grants) old → AreFedBy t nodes (take (n + 1) grants) new
fed_next t nodes old new grants n d grant within row more so_far at =
    let g : GrantId = get_or grants n d in
    let split = take_more grants n d within in (
      λ listed.
          elim (Contains-append_cases old (feeders grant) at (subst (λ (xs : List Node). Contains xs at) more listed)) [
            | inl before ↦
                elim ((so_far at).0 before) [
                  | inl first ↦ inl first
                  | inr (h, other, earlier, is, fed) ↦
                      inr (h, other, subst (λ (gs : List GrantId). Contains gs h) (sym split) (Contains-append_left (take n grants) (g ∷ []) h earlier), is, fed)
                ]
            | inr fresh ↦ inr (g, grant, subst (λ (gs : List GrantId). Contains gs g) (sym split) (Contains-push (take n grants) g), row, fresh)
          ],
      λ fed.
          subst (λ (xs : List Node). Contains xs at) (sym more)
          (elim fed [
            | inl first ↦ Contains-append_left old (feeders grant) at ((so_far at).1 (inl first))
            | inr (h, other, listed, is, within_it) ↦
                elim (Contains-push_cases (take n grants) g h (subst (λ (gs : List GrantId). Contains gs h) split listed)) [
                  | inl earlier ↦ Contains-append_left old (feeders grant) at ((so_far at).1 (inr (h, other, earlier, is, within_it)))
                  | inr last ↦
                      let there : IsGrant t g other = subst (λ (k : GrantId). IsGrant t k other) (sym last) is in
                      let one : other ≡ grant = cc in
                      Contains-append_right old (feeders grant) at (subst (λ (x : Grant). Contains (feeders x) at) one within_it)
                ]
          ]),
    )

pub fed_all : (t : Tables) (nodes all : List Node) (grants : List GrantId) (n : ℕ) → length grants ≤ n → AreFedBy t nodes (take n grants) all → AreFedBy t nodes grants all
fed_all t nodes all grants n end fed = subst (λ (gs : List GrantId). AreFedBy t nodes gs all) (take_all n grants end) fed

-- the rows that go to nodes
pub arrive_rows : (t : Tables) (into : Node → List GrantId) → IsArrivalsOf t into → (nodes : List Node) (grants : List GrantId) → IsArrivalsAt nodes into grants → (g : GrantId) → Contains grants g
    → (grant : Grant) × IsGrant t g grant × Contains nodes (node_of g grant)
arrive_rows t into index nodes grants arrive g listed =
    let (at, inside, has) = (arrive.exact g).0 listed in
    let (grant, is, goes) = (index.exact at g).0 has in
    (grant, is, subst (λ (n : Node). Contains nodes n) (sym goes) inside)
