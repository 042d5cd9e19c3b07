-- Where the ways of grants lead, as their list knows.
use Rattle.std.proofs.Common.{◌≡◌, ℕ, suc, zero, ◌||◌, Bool, List, [], ◌∷◌, Some, map, slice_get, refl, sym, ap, ◌∙◌, subst}
use Rattle.std.proofs.Math.Bool.{or-false}
use Rattle.host_base.specs.declared.ids.GrantId.{GrantId}
use Rattle.row_index.specs.declared.ways.Link.{Link}
use Rattle.row_index.specs.Ways.{Leads, ends, goes}
use Rattle.share_graph.specs.declared.grants.Giver.{Giver}
use Rattle.share_graph.specs.declared.grants.Giver.TheVariants as giver
use Rattle.share_graph.specs.declared.grants.Grant.{Grant}
use Rattle.share_graph.specs.declared.state.Tables.{Tables}
use Rattle.share_graph.specs.declared.ways.Origin.{Origin}
use Rattle.share_graph.specs.Clues.{grant_link, is_for_sharing, parent_of}
use Rattle.share_graph.specs.Rows.{IsGrant, row}
use Rattle.share_graph.specs.Ways.{IsWay, from_account, from_site, from_grant, EndsAt, IsEndOf, IsRoot, IsWayTo}

-- the grant that a link is of
linked : (grants : List Grant) (place : ℕ) (link : Link) → slice_get (map grant_link grants) place ≡ Some link → (grant : Grant) × (slice_get grants place ≡ Some grant) × (grant_link grant ≡ link)
linked [] place link there = cc
linked (grant ∷ grants) zero link there = (grant, refl, cc)
linked (grant ∷ grants) (suc place) link there = linked grants place link there

pub leads_to_root : (t : Tables) (n root : ℕ) (flagged : Bool) → Leads (map grant_link t.grants) n root flagged → IsRoot t root
leads_to_root t n root flagged (ends {place = place} {link = link} there none) =
    let (grant, is, same) = linked t.grants place link there in
    (grant, is, ap (λ (l : Link). l.parent) same ∙ none)
leads_to_root t n root flagged (goes {parent = parent} {flagged = later} there under earlier on) = leads_to_root t parent root later on

ending : (t : Tables) (g : GrantId) (grant : Grant) (end : Origin) → IsGrant t g grant → (from : Giver) → grant.giver ≡ from → IsEndOf from end → IsWay t g (grant ∷ []) end
ending t g grant end is (giver.Account a) given here = subst (λ (o : Origin). IsWay t g (grant ∷ []) o) (sym here) (from_account is given)
ending t g grant end is (giver.Site by tag item) given here = subst (λ (o : Origin). IsWay t g (grant ∷ []) o) (sym here) (from_site is given)
ending t g grant end is (giver.Grant p) given here = absurd here

-- the grant that gave has the number that the link tells
given_by : (from : Giver) (parent : ℕ) → parent_of from ≡ Some parent → (p : GrantId) × (from ≡ giver.Grant p) × (p.0 ≡ parent)
given_by (giver.Account a) parent is = cc
given_by (giver.Site by tag item) parent is = cc
given_by (giver.Grant p) parent is = (p, refl, cc)

-- a way that is known is one
pub leads_way : (t : Tables) (g : GrantId) (n root : ℕ) (flagged : Bool) (end : Origin) → g.0 ≡ n → Leads (map grant_link t.grants) n root flagged → EndsAt t root end → IsWayTo t g end flagged
leads_way t g n root flagged end num (ends {place = place} {link = link} there none) at =
    let (grant, is, same) = linked t.grants place link there in
    let one : at.grant ≡ grant = (let both : Some at.grant ≡ Some grant = sym at.is_row ∙ is in cc) in
    let row_is : IsGrant t g grant = subst (λ k. row t.grants k ≡ Some grant) (sym num) is in
    record {
      way = grant ∷ [];
      is_way = ending t g grant end row_is grant.giver refl (subst (λ (x : Grant). IsEndOf x.giver end) one at.is_end);
      shared_is = or-false (is_for_sharing grant.target) ∙ ap (λ (l : Link). l.flagged) same;
    }
leads_way t g n root flagged end num (goes {place = place} {parent = parent} {link = link} {flagged = later} there under earlier on) at =
    let (grant, is, same) = linked t.grants place link there in
    let (p, given, number) = given_by grant.giver parent (ap (λ (l : Link). l.parent) same ∙ under) in
    let further = leads_way t p parent root later end number on at in
    record {
      way = grant ∷ further.way;
      is_way = from_grant (subst (λ k. row t.grants k ≡ Some grant) (sym num) is) given further.is_way;
      shared_is = ap (λ b. is_for_sharing grant.target || b) further.shared_is ∙ ap (λ (l : Link). l.flagged || later) same;
    }
