-- Needs that can be had, and the first that can't.
use Rattle.std.proofs.Common.{◌≡◌, ◌≤◌, ◌<◌, ◌⊎◌, ◌+◌, ◌∙◌, ℕ, All, List, Some, length, slice_get, get_or, sym, ap, subst, arith, inl, inr}
use Rattle.std.proofs.lemmas.Option.{slice_get_within, slice_get-get_or}
use Rattle.desk_base.specs.Terms.{IsNode, IsOne, KnowsNeed, Need, NeedFits, NeedSetFits, Node, Refusal, State, Tables}
use Rattle.share_graph.specs.declared.facts.Node.TheVariants as node
use Rattle.share_graph.specs.declared.grants.Need.TheVariants as need
use Rattle.share_graph.specs.declared.refusal.Refusal.TheVariants.{BadNeed}
use Rattle.share_graph.specs.Known.{KnowsNode}
use Rattle.share_graph.specs.Parents.{HolderFits}
use Rattle.share_graph.proofs.OneAnswer.{must_one}
use Rattle.desk_base.specs.Steps.{Step}
use Rattle.desk_base.specs.Needs.{CanBeHad, IsGoodAt, AreGood, IsFirstBad, HasBadNeed}
use Rattle.desk_base.specs.Wording.{needs◌of◌then◌}
use Rattle.desk_base.proofs.GivenRoles.{refusing_one, refusing_apart}

-- each need below an index is good
abbrev pub GoodBelow : Tables → List Need → ℕ → Type 0
GoodBelow t wanted i = (k : ℕ) (other : Need) → k < i → slice_get wanted k ≡ Some other → IsGoodAt t k other

pub good_further : (t : Tables) (wanted : List Need) (i : ℕ) (here : Need) → slice_get wanted i ≡ Some here → i < 8 → CanBeHad t here → GoodBelow t wanted i → GoodBelow t wanted (i + 1)
good_further t wanted i here there less had below k other within is =
    let sides : (k < i) ⊎ (k ≡ i) = grind arith in
    elim sides [
      | inl earlier ↦ below k other earlier is
      | inr same ↦ (
          let again : slice_get wanted i ≡ Some other = subst (λ (n : ℕ). slice_get wanted n ≡ Some other) same is in
          let one : here ≡ other = (let both : Some here ≡ Some other = sym there ∙ again in cc) in
          (omega arith, subst (λ (n : Need). CanBeHad t n) one had))
    ]

pub good_to_the_end : (t : Tables) (wanted : List Need) (i : ℕ) → length wanted ≤ i → GoodBelow t wanted i → AreGood t wanted
good_to_the_end t wanted i past below k other is = let within : k < length wanted = slice_get_within wanted k other is in below k other (omega arith) is

pub bad_at : (t : Tables) (wanted : List Need) (i n : ℕ) → i ≡ n → (here : Need) → slice_get wanted i ≡ Some here → (IsGoodAt t n here → ⊥) → GoodBelow t wanted i → IsFirstBad t wanted n
bad_at t wanted i n same here there bad below = record {
  need = here;
  there = subst (λ (k : ℕ). slice_get wanted k ≡ Some here) same there;
  bad = bad;
  earlier = λ k other less is. below k other (omega arith) is;
}

none_bad : (t : Tables) (wanted : List Need) (r : Refusal) → AreGood t wanted → HasBadNeed t wanted r → ⊥
unfolding HasBadNeed
none_bad t wanted r good (i, same, first) = first.bad (good i first.need first.there)

bad_same : (t : Tables) (wanted : List Need) (i j : ℕ) → IsFirstBad t wanted i → IsFirstBad t wanted j → i ≡ j
bad_same t wanted i j a b =
    let sides : (i < j) ⊎ ((i ≡ j) ⊎ (j < i)) = grind arith in
    elim sides [
      | inl less ↦ absurd (a.bad (b.earlier i a.need less a.there))
      | inr (inl same) ↦ same
      | inr (inr more) ↦ absurd (b.bad (a.earlier j b.need more b.there))
    ]

bad_cases : (t : Tables) (wanted : List Need) (r q : Refusal) → HasBadNeed t wanted r → HasBadNeed t wanted q → r ≡ q
unfolding HasBadNeed
bad_cases t wanted r q (i, e, first) (j, f, other) = e ∙ ap (λ (n : ℕ). BadNeed n) (bad_same t wanted i j first other) ∙ sym f

-- the word has one answer at the most
pub needs_one : (s : State) (wanted : List Need) {Rest : Step → Type 0} → IsOne Rest → IsOne (needs wanted of s then Rest)
needs_one s wanted rest =
    must_one (refusing_apart (AreGood s.tables wanted) (HasBadNeed s.tables wanted) (λ r. none_bad s.tables wanted r))
    (refusing_one (HasBadNeed s.tables wanted) (bad_cases s.tables wanted)) rest

-- what can be had fits
knows_node : (t : Tables) (at : Node) → IsNode t at → KnowsNode t at
knows_node t (node.User n a) is = is
knows_node t (node.Grant g) is = (is.grant, is.is_row)

holder_fits : (t : Tables) (at : Node) → IsNode t at → HolderFits t at
holder_fits t (node.User n a) is = tt
holder_fits t (node.Grant g) is = is

knows_need : (t : Tables) (q : Need) → CanBeHad t q → KnowsNeed t q
knows_need t (need.TokenValid h) is = (is.grant, is.is_row)
knows_need t (need.PermissionsHeld holder set) is = knows_node t holder is.0
knows_need t (need.UserIsAdmin a) is = is

need_fits : (t : Tables) (q : Need) → CanBeHad t q → NeedFits t q
need_fits t (need.TokenValid h) is = is
need_fits t (need.PermissionsHeld holder set) is = holder_fits t holder is.0
need_fits t (need.UserIsAdmin a) is = tt

need_set_fits : (t : Tables) (q : Need) → CanBeHad t q → NeedSetFits t q
need_set_fits t (need.TokenValid h) is = tt
need_set_fits t (need.PermissionsHeld holder set) is = is.1
need_set_fits t (need.UserIsAdmin a) is = tt

module _ (t : Tables) (wanted : List Need) (good : AreGood t wanted) where
  each : (P : Need → Type 0) → ((q : Need) → CanBeHad t q → P q) → All P wanted
  each P gives k d less = gives (get_or wanted k d) (good k (get_or wanted k d) (slice_get-get_or wanted k d less)).1

  pub known_needs : All (KnowsNeed t) wanted
  known_needs = each (KnowsNeed t) (knows_need t)

  pub fitting_needs : All (NeedFits t) wanted
  fitting_needs = each (NeedFits t) (need_fits t)

  pub fitting_sets : All (NeedSetFits t) wanted
  fitting_sets = each (NeedSetFits t) (need_set_fits t)

  pub few_needs : length wanted ≤ 8
  few_needs =
      let sides : (length wanted ≤ 8) ⊎ (8 < length wanted) = grind arith in
      elim sides [
        | inl few ↦ few
        | inr many ↦ (let ninth : Need = get_or wanted 8 (need.TokenValid (record { 0 = 0 })) in let no = (good 8 ninth (slice_get-get_or wanted 8 _ many)).0 in absurd (omega arith))
      ]
