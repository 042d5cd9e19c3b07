-- The words of the table of commands have one answer at the most, where the rest has.
use Rattle.std.proofs.Common.{◌≡◌, ◌∙◌, Option, Some, None, sym, inl, inr}
use Rattle.desk_base.specs.Terms.{Account, AccountId, App, AppId, Caller, Grain, GrainId, Grant, GrantId, IsOne}
use Rattle.desk_base.specs.Terms.{IsWellFormed, State}
use Rattle.share_graph.specs.declared.facts.Node.TheVariants as node
use Rattle.share_graph.proofs.Apart.{login_one, bearer_one}
use Rattle.share_graph.proofs.MissingOne.{entry_one}
use Rattle.share_graph.proofs.OneAnswer.{unless_one, some_of_one, found_or_none_one}
use Rattle.desk_base.specs.Limits.{adds}
use Rattle.desk_base.specs.Steps.{Step, denies}
use Rattle.desk_base.specs.Wording.{secret_of, by_account, by_admin, by_bearer, known_account, known_app, known_grain, known_grant}

pub by_account_one : (s : State) → IsWellFormed s → (who : Caller) {Rest : Account → Step → Type 0} → ((account : Account) → IsOne (Rest account)) → IsOne (by_account s who Rest)
by_account_one s formed who rest = some_of_one (login_one s formed (secret_of who)) (λ account. unless_one (rest account))

pub by_admin_one : (s : State) → IsWellFormed s → (who : Caller) {Rest : Account → Step → Type 0} → ((account : Account) → IsOne (Rest account)) → IsOne (by_admin s who Rest)
by_admin_one s formed who rest = by_account_one s formed who (λ account. unless_one (rest account))

pub by_bearer_one : (s : State) → IsWellFormed s → (who : Caller) {Rest : Grant → Step → Type 0} → ((grant : Grant) → IsOne (Rest grant)) → IsOne (by_bearer s who Rest)
by_bearer_one s formed who rest = some_of_one (bearer_one s formed (secret_of who)) (λ grant. entry_one denies s.tables (node.Grant grant.num) (rest grant))

-- a row of a number is one
pub numbered_one : {X : Type 0} (o : Option X) → IsOne (λ (x : X). o ≡ Some x)
numbered_one o = record { one = λ a b x y. (let same : Some a ≡ Some b = sym x ∙ y in cc) }

pub known_account_one : (s : State) (a : AccountId) {Rest : Account → Step → Type 0} → ((account : Account) → IsOne (Rest account)) → IsOne (known_account s a Rest)
known_account_one s a rest = found_or_none_one (numbered_one _) rest

pub known_app_one : (s : State) (p : AppId) {Rest : App → Step → Type 0} → ((app : App) → IsOne (Rest app)) → IsOne (known_app s p Rest)
known_app_one s p rest = found_or_none_one (numbered_one _) rest

pub known_grain_one : (s : State) (n : GrainId) {Rest : Grain → Step → Type 0} → ((grain : Grain) → IsOne (Rest grain)) → IsOne (known_grain s n Rest)
known_grain_one s n rest = found_or_none_one (numbered_one _) rest

pub known_grant_one : (s : State) (g : GrantId) {Rest : Grant → Step → Type 0} → ((grant : Grant) → IsOne (Rest grant)) → IsOne (known_grant s g Rest)
known_grant_one s g rest = found_or_none_one (numbered_one _) rest

adds_cases : (s : State) (change : Step) (a b : Step) → adds s change a → adds s change b → a ≡ b
adds_cases s change a b (inl (r, x, is)) (inl (q, y, also)) = let same : Some r ≡ Some q = sym is ∙ also in cc
adds_cases s change a b (inl (r, x, is)) (inr (y, free)) = let odd : Some r ≡ None = sym is ∙ free in cc
adds_cases s change a b (inr (x, free)) (inl (q, y, also)) = let odd : Some q ≡ None = sym also ∙ free in cc
adds_cases s change a b (inr (x, free)) (inr (y, also)) = x ∙ sym y

pub adds_one : (s : State) (change : Step) → IsOne (adds s change)
adds_one s change = record { one = adds_cases s change }
