-- The members that are left, once some were looked at.
use Rattle.std.proofs.Common.{◌≡◌, ◌++◌, ◌∷◌, ◌+◌, ◌<◌, ◌≤◌, ◌⊎◌, ◌↔◌, [], ℕ, zero, suc, List, Some, Contains, length, take, get_or, add-one, sym, ◌∙◌, subst, inl, inr, arith}
use Rattle.std.specs.List.{AllPairs}
use Rattle.std.proofs.lemmas.List.{get_or_default, get_or-take, length-take-le, take_more, take_all}
use Rattle.std.proofs.lemmas.List.Elements.{Contains-append_left, Contains-get_or, Contains-push, Contains-push_cases}
use Rattle.std.proofs.lemmas.List.Quantifiers.{all_pairs_push}
use Rattle.host_base.specs.declared.ids.AccountId.{AccountId}
use Rattle.host_base.specs.declared.ids.GrainId.{GrainId}
use Rattle.host_base.specs.declared.ids.GrantId.{GrantId}
use Rattle.share_graph.specs.declared.grants.Grant.{Grant}
use Rattle.share_graph.specs.declared.state.Tables.{Tables}
use Rattle.share_graph.specs.Rows.{row}
use Rattle.share_graph.specs.WellFormed.{AreNumbered}
use Rattle.region_work.proofs.Sums.{contains_none}
use Rattle.collections.specs.Members.{HasShare, IsPlan}
use Rattle.collections.specs.Scan.{AreMembers}

-- a row of a number carries it
pub numbered : {X : Type 0} (num : X → ℕ) (rows : List X) (n : ℕ) (x : X) → AreNumbered num rows → row rows n ≡ Some x → num x ≡ n
numbered num rows zero x by_place is = cc is
numbered num rows (suc i) x by_place is = by_place i x is ∙ add-one i

-- Of those who were looked at, the members but the curator that have no share.
pub record AreLeft (t : Tables) (c : GrainId) (g : GrantId) (link : Grant) (curator : AccountId) (seen plan : List AccountId) : Type 0 where
  pub exact : (u : AccountId) → Contains plan u ↔ (Contains seen u × (u ≡ curator → ⊥) × (HasShare t c g link u → ⊥))
  pub ascend : AllPairs (λ (a : AccountId) (b : AccountId). a.0 < b.0) plan

module _ (t : Tables) (c : GrainId) (g : GrantId) (link : Grant) (curator : AccountId) where
  pub none_left : (plan : List AccountId) → plan ≡ [] → AreLeft t c g link curator [] plan
  none_left plan none = subst (λ (xs : List AccountId). AreLeft t c g link curator [] xs) (sym none) (record {
    exact = λ u. (λ listed. absurd (contains_none u listed), λ both. absurd (contains_none u both.0));
    ascend = λ i j d less within. absurd (omega arith);
  })

  -- a member more
  module _ (members : List AccountId) (rising : AllPairs (λ (a : AccountId) (b : AccountId). a.0 < b.0) members) (i : ℕ) (d : AccountId) (within : i < length members) (plan : List AccountId)
      (left : AreLeft t c g link curator (take i members) plan) where
    abbrev here : AccountId
    here = get_or members i d

    seen_cases : (u : AccountId) → Contains (take (i + 1) members) u → Contains (take i members) u ⊎ (here ≡ u)
    seen_cases u listed = Contains-push_cases (take i members) here u (subst (λ (xs : List AccountId). Contains xs u) (take_more members i d within) listed)

    seen_before : (u : AccountId) → Contains (take i members) u → Contains (take (i + 1) members) u
    seen_before u listed = subst (λ (xs : List AccountId). Contains xs u) (sym (take_more members i d within)) (Contains-append_left (take i members) (here ∷ []) u listed)

    seen_here : Contains (take (i + 1) members) here
    seen_here = subst (λ (xs : List AccountId). Contains xs here) (sym (take_more members i d within)) (Contains-push (take i members) here)

    -- who isn't left makes no difference
    pub passed_over : (((here ≡ curator → ⊥) × (HasShare t c g link here → ⊥)) → ⊥) → AreLeft t c g link curator (take (i + 1) members) plan
    passed_over not = record {
      exact = λ u. (
        λ listed. (let was = (left.exact u).0 listed in (seen_before u was.0, was.1, was.2)),
        λ (seen, other, none). elim (seen_cases u seen) [
          | inl earlier ↦ (left.exact u).1 (earlier, other, none)
          | inr last ↦ absurd (not (subst (λ (x : AccountId). (x ≡ curator → ⊥) × (HasShare t c g link x → ⊥)) (sym last) (other, none)))
        ],
      );
      ascend = left.ascend;
    }

    -- who is left stands after all of those before
    before_here : (u : AccountId) → Contains (take i members) u → u.0 < here.0
    before_here u (k, less, is) =
        let long = length-take-le i members (omega (arith, within)) in
        let early : k < i = omega (arith, less, long) in
        let own : get_or members k u ≡ u = sym (get_or-take i members k u early) ∙ is in
        let pair : (get_or members k u).0 < (get_or members i u).0 = rising k i u early within in
        subst (λ (x : AccountId). u.0 < x.0) (get_or_default members i u d within) (subst (λ (x : AccountId). x.0 < (get_or members i u).0) own pair)

    module _ (plan_after : List AccountId) (more : plan_after ≡ plan ++ here ∷ []) (other : here ≡ curator → ⊥) (none : HasShare t c g link here → ⊥) where
      pub one_left : AreLeft t c g link curator (take (i + 1) members) plan_after
      one_left = subst (λ (xs : List AccountId). AreLeft t c g link curator (take (i + 1) members) xs) (sym more) (record {
        exact = λ u. (
          λ listed. elim (Contains-push_cases plan here u listed) [
            | inl earlier ↦ (let was = (left.exact u).0 earlier in (seen_before u was.0, was.1, was.2))
            | inr last ↦ subst (λ (x : AccountId). Contains (take (i + 1) members) x × (x ≡ curator → ⊥) × (HasShare t c g link x → ⊥)) last (seen_here, other, none)
          ],
          λ (seen, apart, free). elim (seen_cases u seen) [
            | inl earlier ↦ Contains-append_left plan (here ∷ []) u ((left.exact u).1 (earlier, apart, free))
            | inr last ↦ subst (λ (x : AccountId). Contains (plan ++ here ∷ []) x) last (Contains-push plan here)
          ],
        );
        ascend = all_pairs_push (λ (a : AccountId) (b : AccountId). a.0 < b.0) plan here left.ascend (λ k e less. before_here (get_or plan k e) ((left.exact (get_or plan k e)).0 (Contains-get_or plan k e less)).0);
      })

  -- all were looked at
  pub are_planned : (members plan : List AccountId) (i : ℕ) → length members ≤ i → AreMembers t c members → AreLeft t c g link curator (take i members) plan → IsPlan t c g link curator plan
  are_planned members plan i all are left =
      let done : AreLeft t c g link curator members plan = subst (λ (xs : List AccountId). AreLeft t c g link curator xs plan) (take_all i members all) left in record {
        exact = λ u. (
          λ listed. (let was = (done.exact u).0 listed in (was.1, (are.exact u).0 was.0, was.2)),
          λ (other, holds, none). (done.exact u).1 ((are.exact u).1 holds, other, none),
        );
        ascend = done.ascend;
      }
