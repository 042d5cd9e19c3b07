-- Tables without a fault, told without their digests: where each digest is one row's, no row has another's.
use Rattle.std.proofs.Common.{◌≡◌, ◌<◌, ◌+◌, ◌⊎◌, ℕ, true, List, Option, Some, None, slice_get, refl, sym, inl, inr, arith}
use Rattle.host_base.specs.declared.digest.Digest.{Digest}
use Rattle.share_graph.specs.declared.fault.Kind.{Kind}
use Rattle.share_graph.specs.declared.fault.Kind.TheVariants as kind
use Rattle.share_graph.specs.declared.grants.Grant.{Grant}
use Rattle.share_graph.specs.declared.rows.Account.{Account}
use Rattle.share_graph.specs.declared.rows.App.{App}
use Rattle.share_graph.specs.declared.rows.Grain.{Grain}
use Rattle.share_graph.specs.declared.rows.Saved.{Saved}
use Rattle.share_graph.specs.declared.state.State.{State}
use Rattle.share_graph.specs.declared.state.Tables.{Tables}
use Rattle.share_graph.specs.Checked.{HandleFits, AccountFault, SavedFault, IsChecked}
use Rattle.share_graph.specs.Coherent.{IsCoherentGrant}
use Rattle.share_graph.specs.Fitting.{IsSoundManifest, IsReference}
use Rattle.share_graph.specs.Fresh.{IsFreshLogin, IsFreshToken, IsFreshReference, IsFreshHandle, is_handle}
use Rattle.share_graph.specs.Kinds.{HasDigest, AreApart}
use Rattle.share_graph.specs.Known.{KnowsOfGrain, KnowsOfSaved}
use Rattle.share_graph.specs.WellFormed.{AreNumbered, IsNumbered}
use Rattle.share_graph.proofs.Apart.{login_known, token_known, reference_known}
use Rattle.share_graph.proofs.Coherence.{coherent}
use Rattle.share_graph.proofs.Contained.{contains_at, row_after}
use Rattle.state_step.proofs.Each.{Each, AreApartBy, none_before, before_none, all_from_each}

-- the grant at a place is sound
abbrev pub SoundGrant : Tables → ℕ → Grant → Type 0
SoundGrant t k grant = IsCoherentGrant t (record { 0 = k + 1 }) grant

-- a saved reference is sound
pub record IsSoundSaved (t : Tables) (saved : Saved) : Type 0 where
  pub knows : KnowsOfSaved t saved
  pub reference : IsReference t saved

-- What tables without a fault are, but for their digests.
pub record IsSound (t : Tables) : Type 0 where
  pub formed : Each (λ k (account : Account). is_handle account.handle ≡ true) t.accounts
  pub handles : AreApartBy (λ (account : Account). account.handle) t.accounts
  pub apps : Each (λ k (app : App). IsSoundManifest app.manifest) t.apps
  pub grains : Each (λ k (grain : Grain). KnowsOfGrain t grain) t.grains
  pub grants : Each (SoundGrant t) t.grants
  pub saved : Each (λ k (saved : Saved). IsSoundSaved t saved) t.saved

handle_fits : (t : Tables) (k : ℕ) (account : Account) → AccountFault t k account None → HandleFits t k account
handle_fits t k account (inl (e, never)) = absurd (cc e)
handle_fits t k account (inr (fresh, inl (e, never))) = absurd (cc e)
handle_fits t k account (inr (fresh, inr (fits, done))) = fits

sound_saved : (t : Tables) (k : ℕ) (saved : Saved) → SavedFault t k saved None → IsSoundSaved t saved
sound_saved t k saved (inl (e, never)) = absurd (cc e)
sound_saved t k saved (inr (knows, inl (e, never))) = absurd (cc e)
sound_saved t k saved (inr (knows, inr (fresh, inl (e, never)))) = absurd (cc e)
sound_saved t k saved (inr (knows, inr (fresh, inr (reference, done)))) = record { knows = knows; reference = reference }

-- no two accounts have one handle
handles_apart : (t : Tables) → IsChecked t → AreApartBy (λ (account : Account). account.handle) t.accounts
handles_apart t checked i j x y at there same =
    let sides : (i ≡ j) ⊎ (i < j) ⊎ (j < i) = grind arith in
    elim sides [
      | inl e ↦ e
      | inr (inl less) ↦ absurd (before_none (λ (other : Account). other.handle ≡ y.handle) t.accounts j (handle_fits t j y (checked.accounts j y there)).fresh i x less at same)
      | inr (inr less) ↦ absurd (before_none (λ (other : Account). other.handle ≡ x.handle) t.accounts i (handle_fits t i x (checked.accounts i x at)).fresh j y less there (sym same))
    ]

-- tables without a fault are sound
pub sound_of : (t : Tables) → IsChecked t → IsSound t
sound_of t checked =
    let fits = coherent t checked in
    record {
      formed = λ k account is. (handle_fits t k account (checked.accounts k account is)).formed;
      handles = handles_apart t checked;
      apps = λ k app is. fits.apps (record { 0 = k + 1 }) app (row_after t.apps k app is);
      grains = λ k grain is. fits.grains (record { 0 = k + 1 }) grain (row_after t.grains k grain is);
      grants = λ k grant is. fits.grants (record { 0 = k + 1 }) grant (row_after t.grants k grant is);
      saved = λ k saved is. sound_saved t k saved (checked.saved k saved is);
    }

module _ (s : State) (apart : AreApart s) (numbered : IsNumbered s) where
  -- rows of other kinds have other digests
  other_kind : (d : Digest) (k m : Kind) (i j : ℕ) → (k ≡ m → ⊥) → HasDigest s d k i → HasDigest s d m j → ⊥
  other_kind d k m i j other a b = other (apart.one d k m i j a b).0

  -- and an earlier row of a kind has another
  earlier_row : {X : Type 0} (num : X → ℕ) (rows : List X) → AreNumbered num rows → (d : Digest) (k : Kind) (i j : ℕ) (x y : X) → i < j → slice_get rows i ≡ Some x → slice_get rows j ≡ Some y
      → HasDigest s d k (num x) → HasDigest s d k (num y) → ⊥
  earlier_row num rows by_place d k i j x y less at there a b =
      let same = (apart.one d k k (num x) (num y) a b).1 in
      let first = by_place i x at in
      let second = by_place j y there in
      omega arith

  -- no earlier account has an account's login
  fresh_login : (k : ℕ) (account : Account) → slice_get s.tables.accounts k ≡ Some account → IsFreshLogin s.tables k account
  fresh_login k account is = none_before (λ (other : Account). other.login ≡ account.login) s.tables.accounts k
      (λ j other less there same. earlier_row (λ (row : Account). row.num.0) s.tables.accounts numbered.accounts account.login kind.Account j k other account less there is
      (rw (← same) (login_known s other (contains_at s.tables.accounts j other there))) (login_known s account (contains_at s.tables.accounts k account is)))

  -- no account and no earlier grant has a grant's token
  fresh_token : (k : ℕ) (grant : Grant) → slice_get s.tables.grants k ≡ Some grant → (digest : Option Digest) → grant.digest ≡ digest → IsFreshToken s.tables k digest
  fresh_token k grant is None has = tt
  fresh_token k grant is (Some d) has =
      let known = token_known s grant d (contains_at s.tables.grants k grant is) has in
      record {
        no_login = all_from_each (λ (other : Account). other.login ≡ d → ⊥) s.tables.accounts
            (λ j other there same. other_kind d kind.Account kind.Grant other.num.0 grant.num.0 (λ e. cc e) (rw (← same) (login_known s other (contains_at s.tables.accounts j other there))) known);
        no_token = none_before (λ (other : Grant). other.digest ≡ Some d) s.tables.grants k
            (λ j other less there same. earlier_row (λ (row : Grant). row.num.0) s.tables.grants numbered.grants d kind.Grant j k other grant less there is
            (token_known s other d (contains_at s.tables.grants j other there) same) known);
      }

  -- no account, no grant and no earlier reference has a reference's token
  fresh_reference : (k : ℕ) (saved : Saved) → slice_get s.tables.saved k ≡ Some saved → IsFreshReference s.tables k saved
  fresh_reference k saved is =
      let known = reference_known s saved (contains_at s.tables.saved k saved is) in
      record {
        no_login = all_from_each (λ (other : Account). other.login ≡ saved.digest → ⊥) s.tables.accounts
            (λ j other there same. other_kind saved.digest kind.Account kind.Saved other.num.0 saved.num.0 (λ e. cc e) (rw (← same) (login_known s other (contains_at s.tables.accounts j other there))) known);
        no_token = all_from_each (λ (other : Grant). other.digest ≡ Some saved.digest → ⊥) s.tables.grants
            (λ j other there same. other_kind saved.digest kind.Grant kind.Saved other.num.0 saved.num.0 (λ e. cc e) (token_known s other saved.digest (contains_at s.tables.grants j other there) same) known);
        no_reference = none_before (λ (other : Saved). other.digest ≡ saved.digest) s.tables.saved k
            (λ j other less there same. earlier_row (λ (row : Saved). row.num.0) s.tables.saved numbered.saved saved.digest kind.Saved j k other saved less there is
            (rw (← same) (reference_known s other (contains_at s.tables.saved j other there))) known);
      }

  -- no earlier account has an account's handle
  fresh_handle : (sound : IsSound s.tables) (k : ℕ) (account : Account) → slice_get s.tables.accounts k ≡ Some account → IsFreshHandle s.tables k account
  fresh_handle sound k account is = none_before (λ (other : Account). other.handle ≡ account.handle) s.tables.accounts k
      (λ j other less there same. (let one = sound.handles j k other account there is same in omega arith))

  -- sound tables have no fault
  pub checked_of : IsSound s.tables → IsChecked s.tables
  checked_of sound = record {
    accounts = λ k account is. inr (fresh_login k account is, inr (record { formed = sound.formed k account is; fresh = fresh_handle sound k account is }, refl));
    apps = λ k app is. inr (sound.apps k app is, refl);
    grains = λ k grain is. inr (sound.grains k grain is, refl);
    grants = λ k grant is. (let fits = sound.grants k grant is in
        inr (fits.knows, inr (fresh_token k grant is grant.digest refl, inr (fits.parent, inr (fits.earlier, inr (fits.sets, inr (fits.shares, refl)))))));
    saved = λ k saved is. (let fits = sound.saved k saved is in inr (fits.knows, inr (fresh_reference k saved is, inr (fits.reference, refl))));
  }
