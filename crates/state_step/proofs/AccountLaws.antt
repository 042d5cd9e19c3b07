-- An account that is added, whose marks are set, or that gets another login, leaves a well-formed state so.
use Rattle.std.proofs.Common.{◌≡◌, ◌≤◌, ℕ, suc, Bool, true, List, [], ◌∷◌, ◌++◌, Contains, Option, Some, None, inl, inr, length, map, refl, ap, sym, ◌∙◌, subst, arith, length-append, add-one}
use Rattle.host_base.specs.declared.digest.Digest.{Digest}
use Rattle.host_base.specs.declared.ids.AccountId.{AccountId}
use Rattle.share_graph.specs.declared.event.Event.TheVariants as event
use Rattle.share_graph.specs.declared.fault.Kind.TheVariants as kind
use Rattle.share_graph.specs.declared.rows.Account.{Account}
use Rattle.share_graph.specs.declared.state.State.{State}
use Rattle.share_graph.specs.declared.state.Tables.{Tables}
use Rattle.share_graph.specs.Changing.{change_row}
use Rattle.share_graph.specs.EventFits.{EventFits}
use Rattle.share_graph.specs.Fresh.{is_handle}
use Rattle.share_graph.specs.Kinds.{KnownDigest, IsUnused}
use Rattle.share_graph.specs.Known.{HasAccount}
use Rattle.share_graph.specs.Setting.{with_admin, with_enabled, with_login}
use Rattle.share_graph.specs.WellFormed.{AreNumbered, IsWellFormed}
use Rattle.share_graph.proofs.Apart.{logins, tokens, references, keys, run_tokens}
use Rattle.share_graph.proofs.Contained.{contains-map, contains_at, place_of}
use Rattle.state_step.specs.NewRows.{IsNewAccount, IsNewLogin}
use Rattle.state_step.proofs.Digests.{Adds, adds_none, adds_pushed, apart_after, one_unused, none_unused}
use Rattle.state_step.proofs.Each.{Each, AreApartBy, push_old_row, each_pushed, numbered_pushed, apart_pushed}
use Rattle.state_step.proofs.Extending.{Extends, fits_same, knows_of_grain}
use Rattle.state_step.proofs.NextTables.{with_tables, still_sound_grant, still_sound_saved, next_tables, tables_numbered}
use Rattle.state_step.proofs.Sound.{sound_of}
use Rattle.state_step.proofs.Touched.{AreTouched, change_row_touches, changed_row_at, mapped_from, touched_row, length_touched, each_touched, numbered_touched, apart_touched, map_touched}

abbrev with_accounts : Tables → List Account → Tables
with_accounts t accounts = record t { accounts = accounts }

-- a login, with its account's number
abbrev login_of : Account → KnownDigest
login_of account = record { kind = kind.Account; num = account.num.0; digest = account.login }

-- The accounts may come next in the state: with one login more, which was unused, or with none.
record AreNextAccounts (s : State) (accounts : List Account) (added : Option KnownDigest) : Type 0 where
  there : (a : AccountId) → HasAccount s.tables a → HasAccount (with_accounts s.tables accounts) a
  few : length accounts ≤ 4096
  numbered : AreNumbered (λ (account : Account). account.num.0) accounts
  formed : Each (λ k (account : Account). is_handle account.handle ≡ true) accounts
  handles : AreApartBy (λ (account : Account). account.handle) accounts
  adds : Adds added (logins s) (logins (with_tables s (with_accounts s.tables accounts)))
  unused : (e : KnownDigest) → added ≡ Some e → IsUnused s e.digest

-- the state with them is well formed
next_accounts : (s : State) → IsWellFormed s → (accounts : List Account) (added : Option KnownDigest) → AreNextAccounts s accounts added → IsWellFormed (with_tables s (with_accounts s.tables accounts))
next_accounts s formed accounts added next =
    let u = with_accounts s.tables accounts in
    let sound = sound_of s.tables formed.tables in
    let numbered = tables_numbered s formed in
    let more : Extends s.tables u = record {
      accounts = next.there;
      apps = λ p x is. (x, is, fits_same x.manifest);
      grains = λ n x is. (x, is, refl);
      grants = λ g x is. (x, is, refl, refl);
    } in
    next_tables s formed u (record {
      more = more;
      sound = record {
        formed = next.formed;
        handles = next.handles;
        apps = sound.apps;
        grains = λ k grain is. knows_of_grain s.tables u more grain (sound.grains k grain is);
        grants = λ k grant is. still_sound_grant s.tables u more k grant (sound.grants k grant is);
        saved = λ k saved is. still_sound_saved s.tables u more saved (sound.saved k saved is);
      };
      limits = record { accounts = next.few; apps = formed.limits.apps; grains = formed.limits.grains; grants = formed.limits.grants; saved = formed.limits.saved };
      numbered = record { accounts = next.numbered; apps = numbered.apps; grains = numbered.grains; grants = numbered.grants; saved = numbered.saved };
      apart = apart_after added s (with_tables s u) formed.apart next.unused (record {
        accounts = next.adds;
        grants = adds_none added (tokens s) (tokens s) refl;
        saved = adds_none added (references s) (references s) refl;
        sessions = adds_none added (keys s) (keys s) refl;
        runs = adds_none added (run_tokens s) (run_tokens s) refl;
      });
    })

-- a new account fits
pub account_added_fits : (s : State) → IsWellFormed s → (account : Account) → IsNewAccount s account → EventFits s (event.AccountAdded account)
account_added_fits s formed account new =
    let sound = sound_of s.tables formed.tables in
    let room = new.room in
    record {
      changed = tt;
      formed = next_accounts s formed (s.tables.accounts ++ account ∷ []) (Some (login_of account)) (record {
        there = λ a (x, is). (x, push_old_row s.tables.accounts (account ∷ []) a.0 x is);
        few = omega (arith, length-append {A = Account});
        numbered = numbered_pushed (λ (x : Account). x.num.0) s.tables.accounts account formed.numbered.accounts new.num;
        formed = each_pushed (λ k (x : Account). is_handle x.handle ≡ true) s.tables.accounts account sound.formed new.formed;
        handles = apart_pushed (λ (x : Account). x.handle) s.tables.accounts account sound.handles (λ x listed same. new.free x listed same);
        adds = adds_pushed login_of s.tables.accounts account;
        unused = one_unused s (login_of account) new.unused;
      });
    }

-- The change keeps an account's number and handle.
record KeepsAccount (f : Account → Account) : Type 0 where
  num : (x : Account) → (f x).num ≡ x.num
  handle : (x : Account) → (f x).handle ≡ x.handle

-- an account that is changed otherwise leaves the state well formed, where its login does
account_changed : (f : Account → Account) → KeepsAccount f → (s : State) → IsWellFormed s → (n : ℕ) (added : Option KnownDigest)
    → Adds added (logins s) (map login_of (change_row f s.tables.accounts n)) → ((e : KnownDigest) → added ≡ Some e → IsUnused s e.digest)
    → IsWellFormed (with_tables s (with_accounts s.tables (change_row f s.tables.accounts n)))
account_changed f keeps s formed n added adds unused =
    let sound = sound_of s.tables formed.tables in
    let xs = s.tables.accounts in
    let ys = change_row f s.tables.accounts n in
    let touched : AreTouched f xs ys = change_row_touches f xs n in
    let same_num = λ (x : Account). ap (λ (a : AccountId). a.0) (keeps.num x) in
    next_accounts s formed ys added (record {
      there = λ a (x, is). (let (y, again, same) = touched_row f xs ys touched a.0 x is in (y, again));
      few = subst (λ (len : ℕ). len ≤ 4096) (length_touched f xs ys touched) formed.limits.accounts;
      numbered = numbered_touched f (λ (x : Account). x.num.0) same_num xs ys touched formed.numbered.accounts;
      formed = each_touched f (λ k (x : Account). is_handle x.handle ≡ true) (λ k x is. rw (keeps.handle x) is) xs ys touched sound.formed;
      handles = apart_touched f (λ (x : Account). x.handle) keeps.handle xs ys touched sound.handles;
      adds = adds;
      unused = unused;
    })

-- a mark that is set adds no login
adds_no_login : (s : State) (f : Account → Account) (n : ℕ) → ((x : Account) → login_of (f x) ≡ login_of x) → Adds None (logins s) (map login_of (change_row f s.tables.accounts n))
adds_no_login s f n same = adds_none None (logins s) _ (map_touched f login_of same s.tables.accounts _ (change_row_touches f s.tables.accounts n))

-- a login that is set is the only one more
adds_login : (s : State) → IsWellFormed s → (a : AccountId) (login : Digest)
    → Adds (Some (record { kind = kind.Account; num = a.0; digest = login })) (logins s) (map login_of (change_row (with_login login) s.tables.accounts a.0))
adds_login s formed a login known listed =
    let (k, at) = place_of (map login_of (change_row (with_login login) s.tables.accounts a.0)) known listed in
    let (y, there, its) = mapped_from login_of (change_row (with_login login) s.tables.accounts a.0) k known at in
    elim (changed_row_at (with_login login) s.tables.accounts a.0 k y there) [
      | inl as_before ↦ inl (subst (λ (e : KnownDigest). Contains (logins s) e) its (contains-map login_of s.tables.accounts y (contains_at s.tables.accounts k y as_before)))
      | inr (here, x, was, changed) ↦
          let number : x.num.0 ≡ a.0 = formed.numbered.accounts k x was ∙ (add-one k ∙ sym here) in
          inr (ap (λ (n : ℕ). Some (record { kind = kind.Account; num = n; digest = login })) (sym number) ∙ ap (λ (z : Account). Some (login_of z)) changed ∙ ap Some its)
    ]

-- an account that is there may be made an admin, or not
pub admin_set_fits : (s : State) → IsWellFormed s → (a : AccountId) (on : Bool) → HasAccount s.tables a → EventFits s (event.AdminSet a on)
admin_set_fits s formed a on there = record {
  changed = there;
  formed = account_changed (with_admin on) (record { num = λ x. refl; handle = λ x. refl }) s formed a.0 None (adds_no_login s (with_admin on) a.0 (λ x. refl)) (none_unused s);
}

-- and it may be enabled or disabled
pub enabled_set_fits : (s : State) → IsWellFormed s → (a : AccountId) (on : Bool) → HasAccount s.tables a → EventFits s (event.EnabledSet a on)
enabled_set_fits s formed a on there = record {
  changed = there;
  formed = account_changed (with_enabled on) (record { num = λ x. refl; handle = λ x. refl }) s formed a.0 None (adds_no_login s (with_enabled on) a.0 (λ x. refl)) (none_unused s);
}

-- and it may get a login that no row has
pub login_set_fits : (s : State) → IsWellFormed s → (a : AccountId) (login : Digest) → IsNewLogin s a login → EventFits s (event.LoginSet a login)
login_set_fits s formed a login new = record {
  changed = new.changed;
  formed = account_changed (with_login login) (record { num = λ x. refl; handle = λ x. refl }) s formed a.0 (Some (record { kind = kind.Account; num = a.0; digest = login }))
      (adds_login s formed a login) (one_unused s _ new.unused);
}
