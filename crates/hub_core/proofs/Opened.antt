-- Tables without a fault, within their limits and numbered, without sessions, runs and handles, are a well-formed state.
use Rattle.std.proofs.Common.{◌≡◌, ◌<◌, ◌+◌, ◌⊎◌, ℕ, List, All, Option, Some, None, slice_get, refl, sym, ◌∙◌, ap, subst, inl, inr, arith}
use Rattle.std.proofs.lemmas.List.Elements.{All-nil}
use Rattle.desk_base.specs.Terms.{Account, Digest, Grant, HasGrain, IsChecked, IsWellFormed, Kind, Run, Saved}
use Rattle.desk_base.specs.Terms.{Session, Tables}
use Rattle.share_graph.specs.declared.fault.Kind.TheVariants as kind
use Rattle.share_graph.specs.Checked.{AccountFault, GrantFault, SavedFault}
use Rattle.share_graph.specs.Fresh.{IsFreshLogin, IsFreshToken, IsNewToken, IsFreshReference}
use Rattle.share_graph.specs.Kinds.{AreApart}
use Rattle.share_graph.specs.WellFormed.{AreNumbered, IsWithinLimits, IsRootedSession, IsRootedHandle}
use Rattle.state_step.proofs.Each.{before_none, all_from_each, each_from_all}
use Rattle.table_check.specs.Apart.{HasNoOther, IsApart}
use Rattle.table_check.proofs.Digests.{HaveNoOther, no_other, apart_from}
use Rattle.row_tables.specs.Numbered.{TablesAreNumbered}
use Rattle.hub_core.specs.Opening.{opened}

login_of : (t : Tables) (k : ℕ) (account : Account) → AccountFault t k account None → IsFreshLogin t k account
login_of t k account (inl (e, never)) = absurd (cc e)
login_of t k account (inr (fresh, rest)) = fresh

token_of : (t : Tables) (k : ℕ) (grant : Grant) → GrantFault t k grant None → IsFreshToken t k grant.digest
token_of t k grant (inl (e, never)) = absurd (cc e)
token_of t k grant (inr (knows, inl (e, never))) = absurd (cc e)
token_of t k grant (inr (knows, inr (fresh, rest))) = fresh

reference_of : (t : Tables) (k : ℕ) (saved : Saved) → SavedFault t k saved None → IsFreshReference t k saved
reference_of t k saved (inl (e, never)) = absurd (cc e)
reference_of t k saved (inr (knows, inl (e, never))) = absurd (cc e)
reference_of t k saved (inr (knows, inr (fresh, rest))) = fresh

-- of two places, one is before the other or they are the same
sides : (i j : ℕ) → (i ≡ j) ⊎ ((i < j) ⊎ (j < i))
sides i j = grind arith

-- the rows of a list carry one number at one place
same_number : {X : Type 0} (num : X → ℕ) (rows : List X) (i j : ℕ) (x y : X) → AreNumbered num rows → slice_get rows i ≡ Some x → slice_get rows j ≡ Some y → i ≡ j → num y ≡ num x
same_number num rows i j x y numbered at there same = numbered j y there ∙ ap (λ (k : ℕ). k + 1) (sym same) ∙ sym (numbered i x at)

module _ (t : Tables) (checked : IsChecked t) where
  new_token : (k : ℕ) (grant : Grant) (d : Digest) → slice_get t.grants k ≡ Some grant → grant.digest ≡ Some d → IsNewToken t k d
  new_token k grant d there has = subst (λ (o : Option Digest). IsFreshToken t k o) has (token_of t k grant (checked.grants k grant there))

  no_login_of : (d : Digest) (i : ℕ) (a : Account) → slice_get t.accounts i ≡ Some a → a.login ≡ d → All (λ (other : Account). other.login ≡ d → ⊥) t.accounts → ⊥
  no_login_of d i a at same none = each_from_all (λ (other : Account). other.login ≡ d → ⊥) t.accounts none i a at same

  no_token_of : (d : Digest) (i : ℕ) (g : Grant) → slice_get t.grants i ≡ Some g → g.digest ≡ Some d → All (λ (other : Grant). other.digest ≡ Some d → ⊥) t.grants → ⊥
  no_token_of d i g at same none = each_from_all (λ (other : Grant). other.digest ≡ Some d → ⊥) t.grants none i g at same

  logins_apart : (i j : ℕ) (x y : Account) → slice_get t.accounts i ≡ Some x → slice_get t.accounts j ≡ Some y → x.login ≡ y.login → i ≡ j
  logins_apart i j x y at there same = elim (sides i j) [
    | inl e ↦ e
    | inr (inl less) ↦ absurd (before_none (λ (other : Account). other.login ≡ y.login) t.accounts j (login_of t j y (checked.accounts j y there)) i x less at same)
    | inr (inr less) ↦ absurd (before_none (λ (other : Account). other.login ≡ x.login) t.accounts i (login_of t i x (checked.accounts i x at)) j y less there (sym same))
  ]

  tokens_apart : (d : Digest) (i j : ℕ) (x y : Grant) → slice_get t.grants i ≡ Some x → slice_get t.grants j ≡ Some y → x.digest ≡ Some d → y.digest ≡ Some d → i ≡ j
  tokens_apart d i j x y at there has also = elim (sides i j) [
    | inl e ↦ e
    | inr (inl less) ↦ absurd (before_none (λ (other : Grant). other.digest ≡ Some d) t.grants j (new_token j y d there also).no_token i x less at has)
    | inr (inr less) ↦ absurd (before_none (λ (other : Grant). other.digest ≡ Some d) t.grants i (new_token i x d at has).no_token j y less there also)
  ]

  references_apart : (i j : ℕ) (x y : Saved) → slice_get t.saved i ≡ Some x → slice_get t.saved j ≡ Some y → x.digest ≡ y.digest → i ≡ j
  references_apart i j x y at there same = elim (sides i j) [
    | inl e ↦ e
    | inr (inl less) ↦ absurd (before_none (λ (other : Saved). other.digest ≡ y.digest) t.saved j (reference_of t j y (checked.saved j y there)).no_reference i x less at same)
    | inr (inr less) ↦ absurd (before_none (λ (other : Saved). other.digest ≡ x.digest) t.saved i (reference_of t i x (checked.saved i x at)).no_reference j y less there (sym same))
  ]

some_is : (d e : Digest) → Some d ≡ Some e → d ≡ e
some_is d e is = cc

module _ (t : Tables) (checked : IsChecked t) (accounts : AreNumbered (λ (account : Account). account.num.0) t.accounts) (grants : AreNumbered (λ (grant : Grant). grant.num.0) t.grants) (saved : AreNumbered (λ (row : Saved). row.num.0) t.saved) where
  alone : (d : Digest) (k : Kind) (n : ℕ) → HaveNoOther kind.Account (λ (row : Account). row.num.0) (λ row. Some row.login) t.accounts d k n
      → HaveNoOther kind.Grant (λ (row : Grant). row.num.0) (λ row. row.digest) t.grants d k n → HaveNoOther kind.Saved (λ (row : Saved). row.num.0) (λ row. Some row.digest) t.saved d k n → HasNoOther (opened t) d k n
  alone d k n a g v =
      no_other (opened t) d k n a g v (All-nil (λ (row : Session). Some row.digest ≡ Some d → (kind.Session ≡ k) × (row.num.0 ≡ n))) (All-nil (λ (row : Run). Some row.digest ≡ Some d → (kind.Run ≡ k) × (row.num.0 ≡ n)))

  account_alone : (i : ℕ) (a : Account) → slice_get t.accounts i ≡ Some a → HasNoOther (opened t) a.login kind.Account a.num.0
  account_alone i a at =
      alone a.login kind.Account a.num.0
      (all_from_each (λ (row : Account). Some row.login ≡ Some a.login → (kind.Account ≡ kind.Account) × (row.num.0 ≡ a.num.0)) t.accounts
      (λ j b there same. (refl, same_number (λ (row : Account). row.num.0) t.accounts i j a b accounts at there (logins_apart t checked i j a b at there (sym (some_is b.login a.login same))))))
      (all_from_each (λ (row : Grant). row.digest ≡ Some a.login → (kind.Grant ≡ kind.Account) × (row.num.0 ≡ a.num.0)) t.grants
      (λ j g there has. absurd (no_login_of t checked a.login i a at refl (new_token t checked j g a.login there has).no_login)))
      (all_from_each (λ (row : Saved). Some row.digest ≡ Some a.login → (kind.Saved ≡ kind.Account) × (row.num.0 ≡ a.num.0)) t.saved
      (λ j v there same. absurd (no_login_of t checked v.digest i a at (sym (some_is v.digest a.login same)) (reference_of t j v (checked.saved j v there)).no_login)))

  grant_alone : (i : ℕ) (g : Grant) (d : Digest) → slice_get t.grants i ≡ Some g → g.digest ≡ Some d → HasNoOther (opened t) d kind.Grant g.num.0
  grant_alone i g d at has =
      alone d kind.Grant g.num.0
      (all_from_each (λ (row : Account). Some row.login ≡ Some d → (kind.Account ≡ kind.Grant) × (row.num.0 ≡ g.num.0)) t.accounts
      (λ j b there same. absurd (no_login_of t checked d j b there (some_is b.login d same) (new_token t checked i g d at has).no_login)))
      (all_from_each (λ (row : Grant). row.digest ≡ Some d → (kind.Grant ≡ kind.Grant) × (row.num.0 ≡ g.num.0)) t.grants
      (λ j h there also. (refl, same_number (λ (row : Grant). row.num.0) t.grants i j g h grants at there (tokens_apart t checked d i j g h at there has also))))
      (all_from_each (λ (row : Saved). Some row.digest ≡ Some d → (kind.Saved ≡ kind.Grant) × (row.num.0 ≡ g.num.0)) t.saved
      (λ j v there same. absurd (no_token_of t checked v.digest i g at (has ∙ sym same) (reference_of t j v (checked.saved j v there)).no_token)))

  saved_alone : (i : ℕ) (v : Saved) → slice_get t.saved i ≡ Some v → HasNoOther (opened t) v.digest kind.Saved v.num.0
  saved_alone i v at =
      alone v.digest kind.Saved v.num.0
      (all_from_each (λ (row : Account). Some row.login ≡ Some v.digest → (kind.Account ≡ kind.Saved) × (row.num.0 ≡ v.num.0)) t.accounts
      (λ j b there same. absurd (no_login_of t checked v.digest j b there (some_is b.login v.digest same) (reference_of t i v (checked.saved i v at)).no_login)))
      (all_from_each (λ (row : Grant). row.digest ≡ Some v.digest → (kind.Grant ≡ kind.Saved) × (row.num.0 ≡ v.num.0)) t.grants
      (λ j h there has. absurd (no_token_of t checked v.digest j h there has (reference_of t i v (checked.saved i v at)).no_token)))
      (all_from_each (λ (row : Saved). Some row.digest ≡ Some v.digest → (kind.Saved ≡ kind.Saved) × (row.num.0 ≡ v.num.0)) t.saved
      (λ j w there same. (refl, same_number (λ (row : Saved). row.num.0) t.saved i j v w saved at there (references_apart t checked i j v w at there (sym (some_is w.digest v.digest same))))))

  token_apart : (i : ℕ) (g : Grant) (o : Option Digest) → slice_get t.grants i ≡ Some g → g.digest ≡ o → IsApart (opened t) kind.Grant g.num.0 o
  token_apart i g None at has = tt
  token_apart i g (Some d) at has = grant_alone i g d at has

  -- each digest is one row's
  opened_apart : AreApart (opened t)
  opened_apart =
      apart_from (opened t)
      (all_from_each (λ (row : Account). IsApart (opened t) kind.Account row.num.0 (Some row.login)) t.accounts account_alone)
      (all_from_each (λ (row : Grant). IsApart (opened t) kind.Grant row.num.0 row.digest) t.grants (λ i g at. token_apart i g g.digest at refl))
      (all_from_each (λ (row : Saved). IsApart (opened t) kind.Saved row.num.0 (Some row.digest)) t.saved saved_alone)
      (All-nil (λ (row : Session). IsApart (opened t) kind.Session row.num.0 (Some row.digest)))
      (All-nil (λ (row : Run). IsApart (opened t) kind.Run row.num.0 (Some row.digest)))

pub opened_formed : (t : Tables) → IsChecked t → IsWithinLimits t → TablesAreNumbered t → IsWellFormed (opened t)
opened_formed t checked limits numbered = record {
  tables = checked;
  limits = limits;
  numbered = record {
    accounts = numbered.accounts;
    apps = numbered.apps;
    grains = numbered.grains;
    grants = numbered.grants;
    saved = numbered.saved;
    sessions = λ i row is. cc is;
    runs = λ i row is. cc is;
    handles = λ i row is. cc is;
  };
  apart = opened_apart t checked numbered.accounts numbered.grants numbered.saved;
  live = λ n i j run other is. cc is;
  rooted = record {
    sessions = All-nil (IsRootedSession t);
    runs = All-nil (λ (run : Run). HasGrain t run.grain);
    handles = All-nil (IsRootedHandle (opened t));
  };
}
