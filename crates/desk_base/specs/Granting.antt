-- The grants that commands add.
use Rattle.std.specs.Prelude.{ℕ, List, Option, Some, None, false}
use Rattle.desk_base.specs.Terms.{Assignment, Digest, Giver, GrainId, Grant, Need, Tables, Target}
use Rattle.perm_roles.specs.PermSet.{no_permissions}
use Rattle.perm_roles.specs.declared.roles.Base.TheVariants as base
use Rattle.share_graph.specs.declared.event.Event.TheVariants.{GrantAdded}
use Rattle.desk_base.specs.Made.{next, made_grant}
use Rattle.desk_base.specs.Steps.{Step, Makes, Plain, Drawn}

-- all that a grant's source holds
abbrev pub all_access : Assignment
all_access = record { base = base.AllAccess; add = no_permissions; remove = no_permissions }

-- a new grant isn't revoked, and ends by itself where it has an expiry
abbrev pub new_grant : Tables → GrainId → Giver → Target → Assignment → List Need → Option ℕ → Option Digest → Grant
new_grant t n from to assignment needs expires digest =
    record { num = record { 0 = next t.grants }; grain = n; giver = from; target = to; assignment = assignment; needs = needs; digest = digest; revoked = false; expires = expires }

-- a grant is added, and the reply shows its number; one with a token has the digest of a secret
abbrev pub grant_step : Tables → GrainId → Giver → Target → Assignment → List Need → Option ℕ → Step
grant_step t n from to assignment needs expires = Makes (Plain (GrantAdded (new_grant t n from to assignment needs expires None))) (made_grant t)

abbrev pub token_step : Tables → GrainId → Giver → Target → Assignment → List Need → Option ℕ → Step
token_step t n from to assignment needs expires = Makes (Drawn λ d. GrantAdded (new_grant t n from to assignment needs expires (Some d))) (made_grant t)
