-- A grant has one way at the most, and so one origin, one root maker and one whom its bearer is shown as.
use Rattle.std.proofs.Common.{◌≡◌, List, [], ◌∷◌, Option, Some, None, sym, ◌∙◌, ap, subst}
use Rattle.std.proofs.lemmas.Bool.{false≢true}
use Rattle.host_base.specs.declared.ids.AccountId.{AccountId}
use Rattle.host_base.specs.declared.ids.GrantId.{GrantId}
use Rattle.share_graph.specs.declared.grants.Giver.{Giver}
use Rattle.share_graph.specs.declared.grants.Giver.TheVariants as giver
use Rattle.share_graph.specs.declared.grants.Grant.{Grant}
use Rattle.share_graph.specs.declared.state.Tables.{Tables}
use Rattle.share_graph.specs.declared.ways.Origin.{Origin}
use Rattle.share_graph.specs.declared.ways.Origin.TheVariants as origin
use Rattle.share_graph.specs.Forms.{IsOne}
use Rattle.share_graph.specs.Rows.{IsGrant}
use Rattle.share_graph.specs.Ways.{IsWay, from_account, from_site, from_grant, is_shared_on, IsOrigin, IsRootMaker, IsShownAs, maker_of}

same_row : (t : Tables) (g : GrantId) (x y : Grant) → IsGrant t g x → IsGrant t g y → x ≡ y
same_row t g x y is there = let both : Some x ≡ Some y = sym is ∙ there in cc

same_giver : (t : Tables) (g : GrantId) (x y : Grant) (a b : Giver) → IsGrant t g x → IsGrant t g y → x.giver ≡ a → y.giver ≡ b → a ≡ b
same_giver t g x y a b is there e f = sym e ∙ ap (λ (z : Grant). z.giver) (same_row t g x y is there) ∙ f

pub way_one : (t : Tables) (g : GrantId) (way other : List Grant) (end last : Origin) → IsWay t g way end → IsWay t g other last → (way ≡ other) × (end ≡ last)
way_one t g _ _ _ _ (from_account {grant = x} {a = a} is e) (from_account {grant = y} {a = b} there f) =
    let same : giver.Account a ≡ giver.Account b = same_giver t g x y _ _ is there e f in
    let one : a ≡ b = cc in
    (ap (λ (z : Grant). z ∷ []) (same_row t g x y is there), ap origin.Account one)
way_one t g _ _ _ _ (from_account {grant = x} {a = a} is e) (from_site {grant = y} {by = b} {tag = tag} {item = item} there f) =
    let odd : giver.Account a ≡ giver.Site b tag item = same_giver t g x y _ _ is there e f in absurd (cc)
way_one t g _ _ _ _ (from_account {grant = x} {a = a} is e) (from_grant {p = p} {grant = y} there f on) =
    let odd : giver.Account a ≡ giver.Grant p = same_giver t g x y _ _ is there e f in absurd (cc)
way_one t g _ _ _ _ (from_site {grant = x} {by = a} {tag = m} {item = i} is e) (from_account {grant = y} {a = b} there f) =
    let odd : giver.Site a m i ≡ giver.Account b = same_giver t g x y _ _ is there e f in absurd (cc)
way_one t g _ _ _ _ (from_site {grant = x} {by = a} {tag = m} {item = i} is e) (from_site {grant = y} {by = b} {tag = n} {item = j} there f) =
    let same : giver.Site a m i ≡ giver.Site b n j = same_giver t g x y _ _ is there e f in
    let makers : a ≡ b = cc in let tags : m ≡ n = cc in let items : i ≡ j = cc in
    let ends : origin.Site a m i ≡ origin.Site b n j = cc in
    (ap (λ (z : Grant). z ∷ []) (same_row t g x y is there), ends)
way_one t g _ _ _ _ (from_site {grant = x} {by = a} {tag = m} {item = i} is e) (from_grant {p = p} {grant = y} there f on) =
    let odd : giver.Site a m i ≡ giver.Grant p = same_giver t g x y _ _ is there e f in absurd (cc)
way_one t g _ _ _ _ (from_grant {p = p} {grant = x} is e on) (from_account {grant = y} {a = b} there f) =
    let odd : giver.Grant p ≡ giver.Account b = same_giver t g x y _ _ is there e f in absurd (cc)
way_one t g _ _ _ _ (from_grant {p = p} {grant = x} is e on) (from_site {grant = y} {by = b} {tag = n} {item = j} there f) =
    let odd : giver.Grant p ≡ giver.Site b n j = same_giver t g x y _ _ is there e f in absurd (cc)
way_one t g _ _ end last (from_grant {p = p} {grant = x} {way = way} is e on) (from_grant {p = q} {grant = y} {way = other} there f further) =
    let same : giver.Grant p ≡ giver.Grant q = same_giver t g x y _ _ is there e f in
    let one : p ≡ q = cc in
    let rest = way_one t p way other end last on (subst (λ (h : GrantId). IsWay t h other last) (sym one) further) in
    let rows : x ≡ y = same_row t g x y is there in
    let ways : way ≡ other = rest.0 in
    let whole : x ∷ way ≡ y ∷ other = cc in
    (whole, rest.1)

pub origin_one : (t : Tables) (g : GrantId) → IsOne (IsOrigin t g)
origin_one t g = record { one = λ end last (way, on) (other, along). (way_one t g way other end last on along).1 }

pub maker_one : (t : Tables) (g : GrantId) → IsOne (IsRootMaker t g)
maker_one t g = record { one = λ a b (end, on, e) (last, along, f). e ∙ ap maker_of ((origin_one t g).one end last on along) ∙ sym f }

shown_cases : (t : Tables) (g : GrantId) (a b : Option AccountId) → IsShownAs t g a → IsShownAs t g b → a ≡ b
shown_cases t g None None x y = cc
shown_cases t g None (Some b) x y =
    let ways = (way_one t g x.1.way y.1.way x.0 y.0 x.1.is_way y.1.is_way).0 in
    absurd (false≢true (sym y.1.shared_is ∙ ap (λ (w : List Grant). is_shared_on w) (sym ways) ∙ x.1.shared_is))
shown_cases t g (Some a) None x y =
    let ways = (way_one t g x.1.way y.1.way x.0 y.0 x.1.is_way y.1.is_way).0 in
    absurd (false≢true (sym x.1.shared_is ∙ ap (λ (w : List Grant). is_shared_on w) ways ∙ y.1.shared_is))
shown_cases t g (Some a) (Some b) x y =
    let ends : x.0 ≡ y.0 = (way_one t g x.1.way y.1.way x.0 y.0 x.1.is_way y.1.is_way).1 in
    ap (λ (who : AccountId). Some who) (x.2 ∙ ap maker_of ends ∙ sym y.2)

pub shown_one : (t : Tables) (g : GrantId) → IsOne (IsShownAs t g)
shown_one t g = record { one = shown_cases t g }
