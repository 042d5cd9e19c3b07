-- Each command makes one step at the most.
use Rattle.std.proofs.Common.{◌≡◌, ◌+◌, ◌∙◌, ℕ, Option, Some, None, sym, ap, inl, inr}
use Rattle.desk_base.specs.Terms.{Caller, GrainId, IsLiveRun, IsOne, IsOneOf, IsWellFormed, Root, Run, Session}
use Rattle.desk_base.specs.Terms.{SessionId, State}
use Rattle.share_graph.specs.declared.event.Event.TheVariants.{RunStarted, SessionOpened}
use Rattle.share_graph.specs.declared.facts.Node.TheVariants as node
use Rattle.share_graph.specs.declared.sessions.Root.TheVariants as root
use Rattle.share_graph.proofs.Contained.{place_of, single}
use Rattle.share_graph.proofs.MissingOne.{entry_one}
use Rattle.share_graph.proofs.OneAnswer.{when_one, unless_one, some_of_one, found_or_none_one}
use Rattle.desk_base.specs.Made.{nothing_made}
use Rattle.desk_base.specs.Steps.{Step, Makes, Drawn, denies}
use Rattle.desk_base.specs.Wording.{by_bearer}
use Rattle.desk_base.proofs.OneWord.{by_account_one, by_bearer_one, numbered_one, known_grain_one, adds_one}
use Rattle.session_desk.specs.declared.callers.Actor.{Actor}
use Rattle.session_desk.specs.Calling.{by_root, with_access, on_grain, bearer_of}
use Rattle.session_desk.specs.Commands.{StartRun, StopRun, OpenSession, CloseBy, CloseSession}
use Rattle.session_desk.specs.Rows.{new_run, new_session, made_session}

module _ (s : State) (formed : IsWellFormed s) where
  -- a grain has one live run
  live_one : (n : GrainId) → IsOne (λ (run : Run). IsOneOf s.runs (IsLiveRun n) run)
  live_one n = single (λ (x : Run). x.num.0) s.runs (IsLiveRun n) formed.numbered.runs λ x y a b.
      let (i, at) = place_of s.runs x a.listed in
      let (j, there) = place_of s.runs y b.listed in
      let same : i ≡ j = formed.live n i j x y at there a.is b.is in
      formed.numbered.runs i x at ∙ ap (λ (k : ℕ). k + 1) same ∙ sym (formed.numbered.runs j y there)

module _ (s : State) (formed : IsWellFormed s) (who : Caller) where
  -- the words for those who call
  root_cases : (Rest : Root → Step → Type 0) → ((root : Root) → IsOne (Rest root)) → (a b : Step) → by_root s who Rest a → by_root s who Rest b → a ≡ b
  root_cases Rest rest a b (inl (login, x)) (inl (also, y)) = (by_account_one s formed who (λ account. rest (root.Account account.num))).one a b x y
  root_cases Rest rest a b (inl (login, x)) (inr (never, y)) = absurd (never login)
  root_cases Rest rest a b (inr (never, x)) (inl (login, y)) = absurd (never login)
  root_cases Rest rest a b (inr (never, x)) (inr (nor, y)) = (by_bearer_one s formed who (λ grant. rest (root.Grant grant.num))).one a b x y

  grain_one : (n : Option GrainId) {Rest : Actor → Step → Type 0} → ((actor : Actor) → IsOne (Rest actor)) → IsOne (on_grain s who n Rest)
  grain_one (Some n) {Rest} rest =
      let one : IsOne (with_access s who n Rest) =
      (by_account_one s formed who λ account. known_grain_one s n λ grain. entry_one denies s.tables (node.User n account.num) (rest _)) in
      record { one = λ a b x y. one.one a b x.1 y.1 }
  grain_one None {Rest} rest =
      let one : IsOne (by_bearer s who (λ grant. Rest (bearer_of grant))) = by_bearer_one s formed who (λ grant. rest (bearer_of grant)) in
      record { one = λ a b x y. one.one a b x.1 y.1 }

  -- the commands
  pub start_run_one : (n : Option GrainId) → IsOne (StartRun s who n)
  start_run_one n =
      grain_one n λ actor.
      when_one (adds_one s (Makes (Drawn λ d. RunStarted (new_run s actor.grain d)) nothing_made))

  pub stop_run_one : (n : GrainId) → IsOne (StopRun s who n)
  stop_run_one n =
      by_account_one s formed who λ account.
      known_grain_one s n λ grain.
      unless_one (some_of_one (live_one s formed n) λ run. adds_one s _)

  pub open_session_one : (n : Option GrainId) (tab : Option ℕ) → IsOne (OpenSession s who n tab)
  open_session_one n tab =
      grain_one n λ actor.
      adds_one s (Makes (Drawn λ d. SessionOpened (new_session s actor tab d)) (made_session s))

  close_by_one : (n : SessionId) (its : Root) → IsOne (CloseBy s n its)
  close_by_one n its = found_or_none_one (numbered_one _) λ (session : Session). unless_one (when_one (adds_one s _))

  pub close_session_one : (n : SessionId) → IsOne (CloseSession s who n)
  close_session_one n = record { one = root_cases (CloseBy s n) (close_by_one n) }
