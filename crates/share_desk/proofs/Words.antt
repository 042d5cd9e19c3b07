-- What the tests of this desk tell, and what is added for a gift, by whom it goes to.
use Rattle.std.proofs.Common.{◌≡◌, ℕ, Bool, List, Option, length, refl, subst, inl, inr}
use Rattle.desk_base.specs.Terms.{Assignment, Caller, Giver, GrainId, Grant, HasGrain, IsBearerOf, IsOneOf}
use Rattle.desk_base.specs.Terms.{IsWellFormed, Need, State, Target}
use Rattle.share_graph.specs.declared.fault.Kind.TheVariants as kind
use Rattle.share_graph.specs.declared.grants.Target.TheVariants as target
use Rattle.share_graph.proofs.Coherence.{coherent}
use Rattle.share_graph.proofs.Contained.{listed_row}
use Rattle.desk_base.specs.Granting.{grant_step}
use Rattle.desk_base.specs.Limits.{limit_at, too_many}
use Rattle.desk_base.specs.Made.{nothing_made}
use Rattle.desk_base.specs.Passing.{Passes}
use Rattle.desk_base.specs.Steps.{Keeps}
use Rattle.desk_base.specs.Wording.{secret_of, by_bearer}
use Rattle.share_desk.specs.Commands.{give_step}

-- a bearer that calls has a grant of the state, which is a bearer's
caller_is : (s : State) (who : Caller) (grant : Grant) → by_bearer s who (λ other any. other ≡ grant) (Keeps nothing_made) → IsOneOf s.tables.grants (IsBearerOf (secret_of who)) grant
caller_is s who grant (inl (odd, never)) = cc
caller_is s who grant (inr (other, one, inl (reason, odd, missing))) = cc
caller_is s who grant (inr (other, one, inr (held, same))) = subst (λ (x : Grant). IsOneOf s.tables.grants (IsBearerOf (secret_of who)) x) same one

-- and its grain is there
pub caller_grain : (s : State) → IsWellFormed s → (who : Caller) (grant : Grant) → Passes (by_bearer s who) grant → HasGrain s.tables grant.grain
caller_grain s formed who grant passes =
    let one = caller_is s who grant (passes (Keeps nothing_made)) in
    ((coherent s.tables formed.tables).grants grant.num grant (listed_row (λ (x : Grant). x.num.0) s.tables.grants grant formed.numbered.grants one.listed)).knows.grain

module _ (s : State) (n : GrainId) (from : Giver) (assignment : Assignment) (wanted : List Need) (expires : Option ℕ) where
  -- a gift is one more of the grants
  pub gift_limit : (to : Target) → limit_at s (give_step s.tables n from to assignment wanted expires) ≡ too_many kind.Grant (length s.tables.grants)
  gift_limit (target.Bearer for_sharing) = refl
  gift_limit (target.User a) = refl
  gift_limit (target.Claim h) = refl
  gift_limit (target.Grain h) = refl

  -- only a bearer has a token
  pub others_gift : (to : Target) → ((for_sharing : Bool) → to ≡ target.Bearer for_sharing → ⊥) → give_step s.tables n from to assignment wanted expires ≡ grant_step s.tables n from to assignment wanted expires
  others_gift (target.Bearer for_sharing) other = absurd (other for_sharing refl)
  others_gift (target.User a) other = refl
  others_gift (target.Claim h) other = refl
  others_gift (target.Grain h) other = refl
