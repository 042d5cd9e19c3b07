-- The changes of each command fit.
use Rattle.std.proofs.Common.{ℕ, Bool, true, false, Option, Some, None, refl, inl, inr}
use Rattle.desk_base.specs.Terms.{Caller, GrainId, Grant, HasGrain, IsWellFormed, Made, Root, Run, SessionId, State}
use Rattle.share_graph.specs.declared.event.Event.TheVariants.{RunStarted, RunStopped, SessionOpened, SessionClosed}
use Rattle.share_graph.specs.declared.sessions.Root.TheVariants as root
use Rattle.share_graph.specs.WellFormed.{MayRoot}
use Rattle.share_graph.proofs.Coherence.{coherent}
use Rattle.share_graph.proofs.Contained.{listed_row}
use Rattle.state_step.proofs.RunLaws.{run_started_fits, run_stopped_fits}
use Rattle.state_step.proofs.SessionLaws.{session_opened_fits, session_closed_fits}
use Rattle.desk_base.specs.Fitting.{ChangeFits, RowFits}
use Rattle.desk_base.specs.Made.{nothing_made}
use Rattle.desk_base.specs.Steps.{Step, Makes, Change, Drawn}
use Rattle.desk_base.specs.Wording.{by_account, by_bearer}
use Rattle.desk_base.proofs.FitForms.{when_fits, unless_fits, found_fits, some_fits, adds_fits, plain_adds, access_fits, bearer_fits}
use Rattle.desk_base.proofs.Words.{listed_account}
use Rattle.session_desk.specs.declared.callers.Actor.{Actor}
use Rattle.session_desk.specs.Calling.{by_root, with_access, on_grain, account_on, bearer_of}
use Rattle.session_desk.specs.Commands.{StartRun, StopRun, OpenSession, CloseBy, CloseSession}
use Rattle.session_desk.specs.Rows.{new_run, new_session, made_session}

module _ (s : State) (formed : IsWellFormed s) (who : Caller) where
  -- whoever acts may be the root of sessions on the grain, which is there
  grain_fits : {draws : Bool} (n : Option GrainId) {Rest : Actor → Step → Type 0} → ((actor : Actor) → HasGrain s.tables actor.grain → MayRoot s.tables actor.grain actor.root → RowFits s draws (Rest actor))
      → RowFits s draws (on_grain s who n Rest)
  grain_fits {draws} (Some n) {Rest} rest =
      let as_account : RowFits s draws (with_access s who n Rest) =
      (some_fits s tt λ account is.
      unless_fits s tt λ enabled.
      found_fits s tt λ grain there.
      access_fits s (rest (account_on n account.num) (grain, there) (listed_account s formed account is.listed))) in
      record { fits = λ change made is. as_account.fits change made is.1 }
  grain_fits {draws} None {Rest} rest =
      let as_bearer : RowFits s draws (by_bearer s who (λ grant. Rest (bearer_of grant))) =
      (bearer_fits s who λ grant is.
      let row = listed_row (λ (x : Grant). x.num.0) s.tables.grants grant formed.numbered.grants is.listed in
      rest (bearer_of grant) ((coherent s.tables formed.tables).grants grant.num grant row).knows.grain (grant, row, refl, is.is.bearer)) in
      record { fits = λ change made is. as_bearer.fits change made is.1 }

  root_fits : {draws : Bool} (Rest : Root → Step → Type 0) → ((root : Root) → RowFits s draws (Rest root)) → (change : Change) (made : Made) → by_root s who Rest (Makes change made) → ChangeFits s draws change
  root_fits {draws} Rest rest change made (inl (login, is)) =
      let as_account : RowFits s draws (by_account s who (λ account. Rest (root.Account account.num))) =
      (some_fits s tt λ account one. unless_fits s tt λ enabled. rest (root.Account account.num)) in
      as_account.fits change made is
  root_fits Rest rest change made (inr (never, is)) = (bearer_fits s who (λ grant one. rest (root.Grant grant.num))).fits change made is

  -- the commands
  pub start_run_fits : (n : Option GrainId) → RowFits s true (StartRun s who n)
  start_run_fits n =
      grain_fits n λ actor there may_root.
      when_fits s tt λ idle.
      adds_fits s (Drawn λ d. RunStarted (new_run s actor.grain d)) nothing_made λ room d unused.
      run_started_fits s formed (new_run s actor.grain d) (record {
        num = refl;
        grain = there;
        alone = λ run listed live. idle (run, record { listed = listed; is = live });
        unused = unused;
      })

  pub stop_run_fits : (n : GrainId) → RowFits s false (StopRun s who n)
  stop_run_fits n =
      some_fits s tt λ account is.
      unless_fits s tt λ enabled.
      found_fits s tt λ grain there.
      unless_fits s tt λ may.
      some_fits s tt λ run live.
      plain_adds s (RunStopped run.num) tt nothing_made λ room.
      run_stopped_fits s formed run.num (run, listed_row (λ (x : Run). x.num.0) s.runs run formed.numbered.runs live.listed)

  pub open_session_fits : (n : Option GrainId) (tab : Option ℕ) → RowFits s true (OpenSession s who n tab)
  open_session_fits n tab =
      grain_fits n λ actor there may_root.
      adds_fits s (Drawn λ d. SessionOpened (new_session s actor tab d)) (made_session s) λ room d unused.
      session_opened_fits s formed (new_session s actor tab d)
      (record { num = refl; rooted = record { grain = there; root = may_root }; unused = unused })

  close_by_fits : (n : SessionId) (its : Root) → RowFits s false (CloseBy s n its)
  close_by_fits n its =
      found_fits s tt λ session there.
      unless_fits s tt λ its_root.
      when_fits s tt λ open_still.
      plain_adds s (SessionClosed n) tt nothing_made λ room.
      session_closed_fits s formed n (session, there)

  pub close_session_fits : (n : SessionId) → RowFits s false (CloseSession s who n)
  close_session_fits n = record { fits = root_fits (CloseBy s n) (close_by_fits n) }
