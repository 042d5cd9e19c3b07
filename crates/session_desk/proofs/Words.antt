-- From what a test of the caller tells into the row that begins with its word, and from its refusals.
use Rattle.std.proofs.Common.{◌≡◌, Option, Some, None, sym, subst, inl, inr}
use Rattle.desk_base.specs.Terms.{Account, Caller, GrainId, Grant, Refusal, Root, State}
use Rattle.share_graph.specs.declared.sessions.Root.TheVariants as root
use Rattle.desk_base.specs.Steps.{Step, Refuses}
use Rattle.desk_base.proofs.Words.{account_calls, account_refused, on_calls, on_refused, bearer_passes, bearer_fails}
use Rattle.session_desk.specs.declared.callers.Actor.{Actor}
use Rattle.session_desk.specs.Calling.{by_root, account_on, bearer_of, on_grain, NamesGrain, IsActor, IsNoActor, IsRootOf, HasNoRoot}

module _ (s : State) (who : Caller) where
  pub actor_passes : (n : Option GrainId) → NamesGrain who n → (Rest : Actor → Step → Type 0) (actor : Actor) (step : Step) → IsActor s who n actor → Rest actor step → on_grain s who n Rest step
  actor_passes (Some n) named Rest actor step (account, is, same) rest =
      (named, on_calls s who n (λ (x : Account). Rest (account_on n x.num)) account step is (subst (λ (x : Actor). Rest x step) same rest))
  actor_passes None named Rest actor step (grant, is, same) rest =
      (named, bearer_passes s who (λ (x : Grant). Rest (bearer_of x)) grant step is (subst (λ (x : Actor). Rest x step) same rest))

  pub actor_fails : (n : Option GrainId) → NamesGrain who n → (Rest : Actor → Step → Type 0) (r : Refusal) → IsNoActor s who n r → on_grain s who n Rest (Refuses r)
  actor_fails (Some n) named Rest r is = (named, on_refused s who n (λ (x : Account). Rest (account_on n x.num)) r is)
  actor_fails None named Rest r is = (named, bearer_fails s who (λ (x : Grant). Rest (bearer_of x)) r is)

  pub root_passes : (Rest : Root → Step → Type 0) (its : Root) (step : Step) → IsRootOf s who its → Rest its step → by_root s who Rest step
  root_passes Rest its step (inl (account, is, same)) rest =
      inl ((account, is.one), account_calls s who (λ (x : Account). Rest (root.Account x.num)) account step is (subst (λ (x : Root). Rest x step) same rest))
  root_passes Rest its step (inr (never, (grant, is, same))) rest =
      inr (never, bearer_passes s who (λ (x : Grant). Rest (root.Grant x.num)) grant step is (subst (λ (x : Root). Rest x step) same rest))

  pub root_fails : (Rest : Root → Step → Type 0) (r : Refusal) → HasNoRoot s who r → by_root s who Rest (Refuses r)
  root_fails Rest r (inl (login, is)) = inl (login, account_refused s who (λ (x : Account). Rest (root.Account x.num)) r is)
  root_fails Rest r (inr (never, is)) = inr (never, bearer_fails s who (λ (x : Grant). Rest (root.Grant x.num)) r is)
