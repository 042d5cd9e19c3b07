-- What may be chosen is one list, where the law of the sites has one answer.
use Rattle.std.proofs.Common.{◌≡◌, ◌∙◌, ℕ, Bool, List, Contains, sym, subst, arith}
use Rattle.std.proofs.lemmas.List.Elements.{All-contains}
use Rattle.desk_base.specs.Terms.{Caller, GrainId, IsOne, IsWellFormed, State}
use Rattle.powerbox_match.specs.Descriptor.{DescriptorData}
use Rattle.site_caps.specs.Law.{Law}
use Rattle.site_caps.specs.Sites.{StandsBefore, IsSites}
use Rattle.site_caps.specs.declared.offer.SiteOffer.{SiteOffer}
use Rattle.saved_refs.proofs.Members.{one_list}
use Rattle.saved_refs.proofs.OneList.{options_one_list}
use Rattle.desk_orders.specs.Sites.{AreListed, HasOneAnswer}

apart : (p q : ℕ × SiteOffer) → StandsBefore p q → StandsBefore q p → ⊥
apart p q before after = grind arith

module _ (law : Law) (one : HasOneAnswer law) (query : List DescriptorData) where
  members : (admin other : Bool) → admin ≡ other → (xs ys : List (ℕ × SiteOffer)) → IsSites law.tags law.may_offer query admin xs → IsSites law.tags law.may_offer query other ys
      → (z : ℕ × SiteOffer) → Contains xs z → Contains ys z
  members admin other same xs ys p q (tag, offer) there =
      let known : Contains law.tags tag = All-contains (λ (z : ℕ × SiteOffer). Contains law.tags z.0) xs (tag, offer) p.no_others there in
      let (offers, may, just) = p.offered tag known in
      let (others, also, has) = q.offered tag known in
      let (among, shown) = (just offer).0 there in
      (has offer).1 (subst (λ (list : List SiteOffer). Contains list offer) ((one tag query).one offers others may also) among, rw (← same) shown)

  pub listed_one : (s : State) → IsWellFormed s → (who : Caller) (n : GrainId) → IsOne (AreListed law s who n query)
  listed_one s formed who n = record {
    one = λ xs ys (choices, told, are, (admin, is, sites), same) (others, heard, also, (other, too, more), again).
        (let options : choices ≡ others = (options_one_list s formed who n query).one choices others are also in
        let (account, caller, among) = are in
        let mark : admin ≡ other = is account caller ∙ sym (too account caller) in
        let offers : told ≡ heard = one_list StandsBefore apart told heard sites.ascends more.ascends (members admin other mark told heard sites more) (members other admin (sym mark) heard told more sites) in
        cc);
  }
