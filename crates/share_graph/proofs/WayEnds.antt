-- Ways in coherent tables.
use Rattle.std.proofs.Common.{◌≡◌, ℕ, zero, suc, ◌<◌, ◌||◌, Bool, [], ◌∷◌, refl, sym, ap, ◌∙◌, subst, arith}
use Rattle.std.proofs.Math.Bool.{or-false, or_assoc}
use Rattle.host_base.specs.declared.ids.AccountId.{AccountId}
use Rattle.host_base.specs.declared.ids.GrantId.{GrantId}
use Rattle.share_graph.specs.declared.grants.Giver.{Giver}
use Rattle.share_graph.specs.declared.grants.Giver.TheVariants as giver
use Rattle.share_graph.specs.declared.grants.Grant.{Grant}
use Rattle.share_graph.specs.declared.state.Tables.{Tables}
use Rattle.share_graph.specs.declared.ways.Origin.{Origin}
use Rattle.share_graph.specs.declared.ways.Origin.TheVariants as origin
use Rattle.share_graph.specs.Clues.{is_for_sharing}
use Rattle.share_graph.specs.Rows.{IsGrant}
use Rattle.share_graph.specs.Known.{HasGrant, KnowsGiver}
use Rattle.share_graph.specs.Parents.{GiverIsEarlier}
use Rattle.share_graph.specs.Coherent.{IsCoherent}
use Rattle.share_graph.specs.Ways.{from_account, from_site, from_grant, IsOrigin, IsWayTo}

-- A parent has a smaller number.
pub parent_is_earlier : (t : Tables) → IsCoherent t → (g p : GrantId) (grant : Grant) → IsGrant t g grant → grant.giver ≡ giver.Grant p → p.0 < g.0
parent_is_earlier t coherent g p grant is given = subst (λ (from : Giver). GiverIsEarlier g.0 from) given (coherent.grants g grant is).earlier.giver

-- A parent is there.
pub parent_is_there : (t : Tables) → IsCoherent t → (g p : GrantId) (grant : Grant) → IsGrant t g grant → grant.giver ≡ giver.Grant p → HasGrant t p
parent_is_there t coherent g p grant is given = subst (λ (from : Giver). KnowsGiver t from) given (coherent.grants g grant is).knows.giver

-- a grant has a way where each earlier one has
way_by_giver : (t : Tables) → IsCoherent t → (g : GrantId) (grant : Grant) → IsGrant t g grant
    → ((p : GrantId) (parent : Grant) → p.0 < g.0 → IsGrant t p parent → (end : Origin) × IsOrigin t p end)
    → (from : Giver) → grant.giver ≡ from → (end : Origin) × IsOrigin t g end
way_by_giver t coherent g grant is earlier (giver.Account a) given = (origin.Account a, (grant ∷ [], from_account is given))
way_by_giver t coherent g grant is earlier (giver.Site by tag item) given = (origin.Site by tag item, (grant ∷ [], from_site is given))
way_by_giver t coherent g grant is earlier (giver.Grant p) given =
    let (parent, there) = parent_is_there t coherent g p grant is given in
    let (end, (way, on)) = earlier p parent (parent_is_earlier t coherent g p grant is given) there in
    (end, (grant ∷ way, from_grant is given on))

-- the same where the number is below a bound
way_below : (t : Tables) → IsCoherent t → (n : ℕ) (g : GrantId) (grant : Grant) → g.0 < n → IsGrant t g grant → (end : Origin) × IsOrigin t g end
way_below t coherent zero g grant below is = absurd (omega arith)
way_below t coherent (suc n) g grant below is =
    way_by_giver t coherent g grant is (λ p parent earlier there. let less : p.0 < n = omega arith in way_below t coherent n p parent less there) grant.giver refl

-- Every grant has a way that ends.
pub has_way : (t : Tables) → IsCoherent t → (g : GrantId) (grant : Grant) → IsGrant t g grant → (end : Origin) × IsOrigin t g end
has_way t coherent g grant is = way_below t coherent (suc g.0) g grant (omega arith) is

-- what a way from a grant on tells of the way from its start
abbrev pub GoesOn : Tables → GrantId → Bool → GrantId → Type 0
GoesOn t g shared at = (end : Origin) (more : Bool) → IsWayTo t at end more → IsWayTo t g end (shared || more)

-- a way that ends here
pub ends_at_account : (t : Tables) (g at : GrantId) (grant : Grant) (a : AccountId) (shared marked : Bool) → IsGrant t at grant → grant.giver ≡ giver.Account a → marked ≡ is_for_sharing grant.target
    → GoesOn t g shared at → IsWayTo t g (origin.Account a) (shared || marked)
ends_at_account t g at grant a shared marked is given marks on =
    on (origin.Account a) marked (record { way = grant ∷ []; is_way = from_account is given; shared_is = or-false (is_for_sharing grant.target) ∙ sym marks })

pub ends_at_site : (t : Tables) (g at : GrantId) (grant : Grant) (by : AccountId) (tag item : ℕ) (shared marked : Bool) → IsGrant t at grant → grant.giver ≡ giver.Site by tag item
    → marked ≡ is_for_sharing grant.target → GoesOn t g shared at → IsWayTo t g (origin.Site by tag item) (shared || marked)
ends_at_site t g at grant by tag item shared marked is given marks on =
    on (origin.Site by tag item) marked (record { way = grant ∷ []; is_way = from_site is given; shared_is = or-false (is_for_sharing grant.target) ∙ sym marks })

-- a way that goes on
pub one_step : (t : Tables) (g at p : GrantId) (grant : Grant) (shared marked : Bool) → IsGrant t at grant → grant.giver ≡ giver.Grant p → marked ≡ is_for_sharing grant.target
    → GoesOn t g shared at → GoesOn t g (shared || marked) p
one_step t g at p grant shared marked is given marks on end more w =
    let longer : IsWayTo t at end (marked || more) =
    record { way = grant ∷ w.way; is_way = from_grant is given w.is_way; shared_is = ap (λ (b : Bool). is_for_sharing grant.target || b) w.shared_is ∙ ap (λ (b : Bool). b || more) (sym marks) } in
    subst (λ (b : Bool). IsWayTo t g end b) (sym (or_assoc shared marked more)) (on end (marked || more) longer)
