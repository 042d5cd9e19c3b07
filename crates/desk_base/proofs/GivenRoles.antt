-- An assignment has one first fault at the most, and none where it may be given.
use Rattle.std.proofs.Common.{◌≡◌, ◌∙◌, ◌<◌, ◌↔◌, ℕ, Bool, true, false, IsTrue, List, Option, Some, None, MatchOption, length, slice_get, refl, sym, subst, arith, inl, inr}
use Rattle.std.proofs.lemmas.Bool.{false≢true}
use Rattle.std.proofs.lemmas.Nat.Bits.{bit_at-zero}
use Rattle.std.proofs.lemmas.Option.{slice_get_within}
use Rattle.desk_base.specs.Terms.{App, Assignment, ForApp, GrainId, IsAppOf, IsOne, IsWithin, Manifest, Refusal}
use Rattle.desk_base.specs.Terms.{State, Tables}
use Rattle.perm_roles.specs.PermSet.{Has, no_permissions}
use Rattle.perm_roles.specs.Roles.{IsInRoles}
use Rattle.perm_roles.specs.declared.roles.Base.{Base}
use Rattle.perm_roles.specs.declared.roles.Base.TheVariants as base
use Rattle.perm_roles.specs.declared.roles.Role.{Role}
use Rattle.share_graph.specs.declared.refusal.Refusal.TheVariants.{BadRole, ObsoleteRole}
use Rattle.share_graph.specs.Fitting.{IsAssignmentFor}
use Rattle.share_graph.proofs.Fits.{app_unique}
use Rattle.share_graph.proofs.OneAnswer.{must_one}
use Rattle.desk_base.specs.Steps.{Step, refusing}
use Rattle.desk_base.specs.Roles.{IsBaseOf, HasBaseFault, MayGive, HasRoleFault, MayGiveOn, HasRoleFaultOn}
use Rattle.desk_base.specs.Wording.{role◌on◌of◌then◌}

given_role : (n : ℕ) (r : Refusal) (entry : Option Role) → MatchOption entry ⊥ (λ one. one.obsolete ≡ true → ⊥)
    → MatchOption entry (r ≡ BadRole n) (λ one. (r ≡ ObsoleteRole n) × (one.obsolete ≡ true)) → ⊥
given_role n r None given fault = given
given_role n r (Some x) given (same, obsolete) = given obsolete

given_base : (m : Manifest) (b : Base) (r : Refusal) → IsBaseOf m b → HasBaseFault m b r → ⊥
given_base m (base.Role n) r given fault = given_role n r (slice_get m.roles n) given fault
given_base m base.NoRole r given fault = fault
given_base m base.AllAccess r given fault = fault

given_faultless : (m : Manifest) (a : Assignment) (r : Refusal) → MayGive m a → HasRoleFault m a r → ⊥
unfolding HasRoleFault
given_faultless m a r may (inl fault) = given_base m a.base r may.given fault
given_faultless m a r may (inr (same, given, long)) = long may.sets

role_fault : (n : ℕ) (r q : Refusal) (entry : Option Role) → MatchOption entry (r ≡ BadRole n) (λ one. (r ≡ ObsoleteRole n) × (one.obsolete ≡ true))
    → MatchOption entry (q ≡ BadRole n) (λ one. (q ≡ ObsoleteRole n) × (one.obsolete ≡ true)) → r ≡ q
role_fault n r q None e f = e ∙ sym f
role_fault n r q (Some x) (e, old) (f, again) = e ∙ sym f

base_fault : (m : Manifest) (b : Base) (r q : Refusal) → HasBaseFault m b r → HasBaseFault m b q → r ≡ q
base_fault m (base.Role n) r q e f = role_fault n r q (slice_get m.roles n) e f
base_fault m base.NoRole r q e f = absurd e
base_fault m base.AllAccess r q e f = absurd e

fault_cases : (m : Manifest) (a : Assignment) (r q : Refusal) → HasRoleFault m a r → HasRoleFault m a q → r ≡ q
unfolding HasRoleFault
fault_cases m a r q (inl e) (inl f) = base_fault m a.base r q e f
fault_cases m a r q (inl e) (inr (same, given, long)) = absurd (given_base m a.base r given e)
fault_cases m a r q (inr (same, given, long)) (inl f) = absurd (given_base m a.base q given f)
fault_cases m a r q (inr (e, given, long)) (inr (f, again, longer)) = e ∙ sym f

on_apart : (t : Tables) (n : GrainId) (a : Assignment) (r : Refusal) → MayGiveOn t n a → HasRoleFaultOn t n a r → ⊥
on_apart t n a r (app, its, may) (other, there, fault) = given_faultless app.manifest a r may (subst (λ (x : App). HasRoleFault x.manifest a r) (app_unique t n other app there its) fault)

on_cases : (t : Tables) (n : GrainId) (a : Assignment) (r q : Refusal) → HasRoleFaultOn t n a r → HasRoleFaultOn t n a q → r ≡ q
on_cases t n a r q (app, its, e) (other, there, f) = fault_cases app.manifest a r q e (subst (λ (x : App). HasRoleFault x.manifest a q) (app_unique t n other app there its) f)

-- refusals of one kind are one step
pub refusing_one : (T : Refusal → Type 0) → ((r q : Refusal) → T r → T q → r ≡ q) → IsOne (refusing T)
refusing_one T single = record { one = λ a b (r, x, e) (q, y, f). (let same : r ≡ q = single r q e f in cc) }

pub refusing_apart : (P : Type 0) (T : Refusal → Type 0) → ((r : Refusal) → P → T r → ⊥) → (step : Step) → P → refusing T step → ⊥
refusing_apart P T apart step p (r, same, t) = apart r p t

-- and so the word has one answer at the most
pub role_one : (s : State) (n : GrainId) (a : Assignment) {Rest : Step → Type 0} → IsOne Rest → IsOne (role a on n of s then Rest)
role_one s n a rest =
    must_one (refusing_apart (MayGiveOn s.tables n a) (HasRoleFaultOn s.tables n a) (λ r. on_apart s.tables n a r))
    (refusing_one (HasRoleFaultOn s.tables n a) (on_cases s.tables n a)) rest

-- a role that is given is one of the list
listed_role : (n : ℕ) (roles : List Role) (entry : Option Role) → slice_get roles n ≡ entry → MatchOption entry ⊥ (λ one. one.obsolete ≡ true → ⊥) → n < length roles
listed_role n roles None at given = absurd given
listed_role n roles (Some x) at given = slice_get_within roles n x at

listed : (m : Manifest) (b : Base) → IsBaseOf m b → IsInRoles m.roles b
listed m (base.Role n) given = listed_role n m.roles (slice_get m.roles n) refl given
listed m base.NoRole given = tt
listed m base.AllAccess given = tt

-- an assignment that may be given fits
pub assignment_for : (m : Manifest) (a : Assignment) → MayGive m a → IsAssignmentFor m a
assignment_for m a may = record { add = may.sets.add; remove = may.sets.remove; listed = listed m a.base may.given }

-- no permissions are permissions of any application
pub none_within : (count : ℕ) → IsWithin no_permissions count
unfolding Has no_permissions
none_within count p has = let none = bit_at-zero p in absurd (omega arith)

-- what a test tells of a grain's application it tells of the grain
pub for_app : (t : Tables) (n : GrainId) (P : App → Type 0) (app : App) (test : Bool) → IsAppOf t n app → IsTrue test ↔ P app → IsTrue test ↔ ForApp t n P
for_app t n P app test its tells = (λ yes. (app, its, tells.0 yes), λ f. tells.1 (subst P (app_unique t n f.0 app f.1 its) f.2))

-- and a grain without an application has nothing of it
pub for_no_app : (t : Tables) (n : GrainId) (P : App → Type 0) → ((app : App) → IsAppOf t n app → ⊥) → IsTrue false ↔ ForApp t n P
for_no_app t n P none = (λ no. absurd (false≢true no), λ f. absurd (none f.0 f.1))
