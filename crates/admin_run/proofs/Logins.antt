-- The accounts keep their logins, unless they are given others.
use Rattle.std.proofs.Common.{◌≡◌, ◌≢◌, ◌∙◌, ℕ, List, [], ◌∷◌, ◌++◌, Some, refl, sym, subst, ap, inl, inr}
use Rattle.std.specs.List.{AllByRecursion}
use Rattle.host_base.specs.declared.digest.Digest.{Digest}
use Rattle.host_base.specs.declared.ids.AccountId.{AccountId}
use Rattle.share_graph.specs.declared.rows.Account.{Account}
use Rattle.share_graph.specs.declared.event.Event.{Event}
use Rattle.share_graph.specs.declared.event.Event.TheVariants as event
use Rattle.share_graph.specs.declared.state.State.{State}
use Rattle.share_graph.specs.Changing.{change_row}
use Rattle.share_graph.specs.History.{after, replay}
use Rattle.share_graph.specs.Rows.{row, IsAccount}
use Rattle.share_graph.specs.Setting.{with_admin, with_enabled, with_login}
use Rattle.share_graph.proofs.Marked.{change_row_other, row_changed, same_number}
use Rattle.state_step.proofs.Each.{push_old_row}
use Rattle.admin_run.specs.Serving.{KeepLogins, LeavesLogin}

-- an account after an event: with its login, unless the event gives it another one
abbrev Stays : State → Event → AccountId → Account → Type 0
Stays s e a account = (now : Account) × IsAccount (after s e).tables a now × (LeavesLogin a e → now.login ≡ account.login)

-- a change of the row of a number that keeps logins
kept : (f : Account → Account) → ((x : Account) → (f x).login ≡ x.login) → (rows : List Account) (n : ℕ) (a : AccountId) (account : Account) → row rows a.0 ≡ Some account
    → (now : Account) × (row (change_row f rows n) a.0 ≡ Some now) × (now.login ≡ account.login)
kept f keeps rows n a account is = elim (same_number a.0 n) [
  | inl same ↦
      let there : row rows n ≡ Some account = subst (λ (k : ℕ). row rows k ≡ Some account) same is in
      (f account, subst (λ (k : ℕ). row (change_row f rows n) k ≡ Some (f account)) (sym same) (row_changed f rows n account there), keeps account)
  | inr apart ↦ (account, change_row_other f rows n a.0 apart ∙ is, refl)
]

same_account : (a b : AccountId) → a.0 ≡ b.0 → b ≡ a
same_account a b same = sym (ap (λ (n : ℕ). let i : AccountId = record { 0 = n } in i) same)

-- a login that is set is that of the account alone
set : (rows : List Account) (b : AccountId) (login : Digest) (a : AccountId) (account : Account) → row rows a.0 ≡ Some account
    → (now : Account) × (row (change_row (with_login login) rows b.0) a.0 ≡ Some now) × (b ≢ a → now.login ≡ account.login)
set rows b login a account is = elim (same_number a.0 b.0) [
  | inl same ↦
      let there : row rows b.0 ≡ Some account = subst (λ (k : ℕ). row rows k ≡ Some account) same is in (
        with_login login account,
        subst (λ (k : ℕ). row (change_row (with_login login) rows b.0) k ≡ Some (with_login login account)) (sym same) (row_changed (with_login login) rows b.0 account there),
        (λ other. absurd (other (same_account a b same))),
      )
  | inr apart ↦ (account, change_row_other (with_login login) rows b.0 a.0 apart ∙ is, (λ other. refl))
]

still : (s : State) (e : Event) (a : AccountId) (account : Account) → IsAccount (after s e).tables a account → Stays s e a account
still s e a account is = (account, is, (λ leaves. refl))

stays_after : (s : State) (e : Event) (a : AccountId) (account : Account) → IsAccount s.tables a account → Stays s e a account
stays_after s (event.AccountAdded new) a account is = still s (event.AccountAdded new) a account (push_old_row s.tables.accounts (new ∷ []) a.0 account is)
stays_after s (event.AdminSet b on) a account is = let (now, there, same) = kept (with_admin on) (λ x. refl) s.tables.accounts b.0 a account is in (now, there, (λ leaves. same))
stays_after s (event.EnabledSet b on) a account is = let (now, there, same) = kept (with_enabled on) (λ x. refl) s.tables.accounts b.0 a account is in (now, there, (λ leaves. same))
stays_after s (event.LoginSet b login) a account is = set s.tables.accounts b login a account is
stays_after s (event.AppAdded app) a account is = still s (event.AppAdded app) a account is
stays_after s (event.AppUpgraded p manifest) a account is = still s (event.AppUpgraded p manifest) a account is
stays_after s (event.GrainAdded grain) a account is = still s (event.GrainAdded grain) a account is
stays_after s (event.GrantAdded grant) a account is = still s (event.GrantAdded grant) a account is
stays_after s (event.SavedAdded saved) a account is = still s (event.SavedAdded saved) a account is
stays_after s (event.TrashedSet n on) a account is = still s (event.TrashedSet n on) a account is
stays_after s (event.GrantRevoked g) a account is = still s (event.GrantRevoked g) a account is
stays_after s (event.SavedDropped v) a account is = still s (event.SavedDropped v) a account is
stays_after s (event.Claimed grant handle) a account is = still s (event.Claimed grant handle) a account is
stays_after s (event.RunStarted run) a account is = still s (event.RunStarted run) a account is
stays_after s (event.RunStopped r) a account is = still s (event.RunStopped r) a account is
stays_after s (event.SessionOpened session) a account is = still s (event.SessionOpened session) a account is
stays_after s (event.SessionClosed n) a account is = still s (event.SessionClosed n) a account is
stays_after s (event.HandleMade handle) a account is = still s (event.HandleMade handle) a account is
stays_after s (event.Ticked m) a account is = still s (event.Ticked m) a account is

pub logins_stay : (s : State) (events : List Event) → KeepLogins s.tables events (replay s events).tables
logins_stay s [] a account is = (account, is, (λ leave. refl))
logins_stay s (e ∷ events) a account is =
    let (between, there, first) = stays_after s e a account is in
    let (now, at_end, rest) = logins_stay (after s e) events a between there in
    (now, at_end, (λ leave. rest leave.1 ∙ first leave.0))
