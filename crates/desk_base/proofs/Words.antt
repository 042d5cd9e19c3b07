-- From what a test establishes into the row that begins with it, and from its refusals.
use Rattle.std.proofs.Common.{◌≡◌, ◌∙◌, ◌↔◌, Bool, Contains, IsTrue, Some, Result, Ok, Err, IsErrAnd, MatchResult, sym, inl, inr, ap, subst}
use Rattle.desk_base.specs.Terms.{Account, Caller, found◌or◌then◌, GrainId, Grant, GrantId, HasAccount, IsGrant}
use Rattle.desk_base.specs.Terms.{IsNoUser, IsWellFormed, LacksEntry, Node, none, Refusal, State, Tables, Target}
use Rattle.share_graph.specs.declared.facts.Node.TheVariants as node
use Rattle.share_graph.specs.declared.grants.Target.TheVariants as target
use Rattle.share_graph.specs.declared.refusal.Refusal.TheVariants.{Denied}
use Rattle.share_graph.specs.Keys.{IsBearer}
use Rattle.share_graph.proofs.Contained.{listed_row}
use Rattle.desk_base.specs.Calling.{IsCaller, IsNoCaller, IsAdminCaller, IsNoAdminCaller, IsCallerOn, IsNoCallerOn}
use Rattle.desk_base.specs.Passing.{Passes, Fails}
use Rattle.desk_base.specs.Steps.{Step, Refuses, denies}
use Rattle.desk_base.specs.Wording.{secret_of, by_account, by_admin, by_bearer, known_grain, access◌of◌then◌}

pub account_calls : (s : State) (who : Caller) (Rest : Account → Step → Type 0) (account : Account) (step : Step) → IsCaller s (secret_of who) account → Rest account step → by_account s who Rest step
account_calls s who Rest account step is rest = inr (account, is.one, inr (is.enabled, rest))

pub account_refused : (s : State) (who : Caller) (Rest : Account → Step → Type 0) (r : Refusal) → IsNoCaller s (secret_of who) r → by_account s who Rest (Refuses r)
account_refused s who Rest r (inl (same, never)) = inl (ap Refuses same, never)
account_refused s who Rest r (inr (account, same, one, disabled)) = inr (account, one, inl (ap Refuses same, disabled))

pub admin_calls : (s : State) (who : Caller) (Rest : Account → Step → Type 0) (account : Account) (step : Step) → IsAdminCaller s (secret_of who) account → Rest account step → by_admin s who Rest step
admin_calls s who Rest account step is rest = inr (account, is.caller.one, inr (is.caller.enabled, inr (is.admin, rest)))

pub admin_refused : (s : State) (who : Caller) (Rest : Account → Step → Type 0) (r : Refusal) → IsNoAdminCaller s (secret_of who) r → by_admin s who Rest (Refuses r)
admin_refused s who Rest r (inl (inl (same, never))) = inl (ap Refuses same, never)
admin_refused s who Rest r (inl (inr (account, same, one, disabled))) = inr (account, one, inl (ap Refuses same, disabled))
admin_refused s who Rest r (inr (account, same, caller, other)) = inr (account, caller.one, inr (caller.enabled, inl (ap Refuses same, other)))

-- the caller's account on a grain
module _ (s : State) (who : Caller) (n : GrainId) (Rest : Account → Step → Type 0) where
  pub on_calls : (account : Account) (step : Step) → IsCallerOn s (secret_of who) n account → Rest account step
      → (by_account s who λ account. known_grain s n λ grain. access (node.User n account.num) of s then Rest account) step
  on_calls account step is rest = inr (account, is.caller.one, inr (is.caller.enabled, inr (is.grain.0, is.grain.1, inr (is.held, rest))))

  pub on_refused : (r : Refusal) → IsNoCallerOn s (secret_of who) n r
      → (by_account s who λ account. known_grain s n λ grain. access (node.User n account.num) of s then Rest account) (Refuses r)
  on_refused r (inl none) = account_refused s who (λ account. known_grain s n λ grain. access (node.User n account.num) of s then Rest account) r none
  on_refused r (inr (inl (account, is, (same, never)))) = inr (account, is.one, inr (is.enabled, inl (ap Refuses same, never)))
  on_refused r (inr (inr (account, is, (grain, there), (reason, same, missing)))) = inr (account, is.one, inr (is.enabled, inr (grain, there, inl (reason, ap Refuses same, missing))))

-- a row of a number
pub found_row : {X : Type 0} (P : X → Type 0) (gone : Refusal) (Rest : X → Step → Type 0) (x : X) (step : Step) → P x → Rest x step → (found P or none P (Refuses gone) then Rest) step
found_row P gone Rest x step is rest = inr (x, is, rest)

pub missing_row : {X : Type 0} (P : X → Type 0) (gone : Refusal) (Rest : X → Step → Type 0) (r : Refusal) → none P gone r → (found P or none P (Refuses gone) then Rest) (Refuses r)
missing_row P gone Rest r (same, never) = inl (ap Refuses same, never)

-- an account of the list is there
pub listed_account : (s : State) → IsWellFormed s → (account : Account) → Contains s.tables.accounts account → HasAccount s.tables account.num
listed_account s formed account listed = (account, listed_row (λ (x : Account). x.num.0) s.tables.accounts account formed.numbered.accounts listed)

-- a bearer is no account
pub bearer_is_no_user : (to : Target) → IsBearer to → IsNoUser to
bearer_is_no_user (target.Bearer for_sharing) is = tt
bearer_is_no_user (target.User a) is = absurd is
bearer_is_no_user (target.Claim h) is = absurd is
bearer_is_no_user (target.Grain h) is = absurd is

-- a refusal that is handed on
pub handed_on : {X : Type 0} (P : X → Type 0) (Q : Refusal → Type 0) (result : Result X Refusal) (r : Refusal) → IsErrAnd result (λ e. e ≡ r) → Q r → MatchResult result P Q
handed_on P Q (Ok x) r odd is = absurd odd
handed_on P Q (Err e) r same is = subst Q (sym same) is

-- the denial of a node without entry
pub lacking : (t : Tables) (at : Node) (r : Refusal) → LacksEntry Denied t at r → LacksEntry denies t at (Refuses r)
lacking t at r (reason, same, missing) = (reason, ap Refuses same, missing)

module _ (s : State) (who : Caller) where
  -- the rest may be more
  pub bearer_more : (Rest More : Grant → Step → Type 0) (step : Step) → ((grant : Grant) → Rest grant step → More grant step) → by_bearer s who Rest step → by_bearer s who More step
  bearer_more Rest More step more (inl none) = inl none
  bearer_more Rest More step more (inr (grant, one, inl lacks)) = inr (grant, one, inl lacks)
  bearer_more Rest More step more (inr (grant, one, inr (held, rest))) = inr (grant, one, inr (held, more grant rest))

module _ (s : State) (who : Caller) where
  -- whoever the test lets through goes on, and whoever it refuses is refused
  pub bearer_passes : (Rest : Grant → Step → Type 0) (grant : Grant) (step : Step) → Passes (by_bearer s who) grant → Rest grant step → by_bearer s who Rest step
  bearer_passes Rest grant step passes rest = bearer_more s who (λ other any. other ≡ grant) Rest step (λ other same. subst (λ (x : Grant). Rest x step) (sym same) rest) (passes step)

  pub bearer_fails : (Rest : Grant → Step → Type 0) (r : Refusal) → Fails (by_bearer s who) r → by_bearer s who Rest (Refuses r)
  bearer_fails Rest r fails = bearer_more s who (λ other any. ⊥) Rest (Refuses r) (λ other never. absurd never) fails

-- what a test tells of a grant's row it tells of the grant
pub for_grant : (t : Tables) (g : GrantId) (P : Grant → Type 0) (row : Grant) (test : Bool) → IsGrant t g row → IsTrue test ↔ P row → IsTrue test ↔ ((grant : Grant) × IsGrant t g grant × P grant)
for_grant t g P row test is tells = (
  λ yes. (row, is, tells.0 yes),
  λ f. (let both : Some f.0 ≡ Some row = sym f.1 ∙ is in let same : f.0 ≡ row = cc in tells.1 (subst P same f.2)),
)
