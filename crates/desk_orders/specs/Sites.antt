-- What the sites tell of an order, and what is listed of them.
use Rattle.std.specs.Prelude.{◌≡◌, ◌⊎◌, ◌++◌, ◌∷◌, [], ℕ, Bool, List, Option, Some, None, Contains, IsTrue, option_map, map, filter}
use Rattle.std.specs.List.{filter_map}
use Rattle.desk_orders.specs.Terms.{Acceptable, Account, AreAccessLines, AreLossLines, AreOptions, AreReasons, Caller, Choice, Command, DescriptorData, GrainId, HasNoOffer, HasOffer, IsCaller, IsCallerOn, IsNoCallerOn, IsOne, IsPageOf, IsPlanFor, IsSites, Law, Listed, Listing, match_of, Offer, Preferred, Quality, Refusal, same_quality, secret_of, SiteOffer, State}
use Rattle.share_graph.specs.declared.desk.Offer.TheVariants as offer
use Rattle.desk_orders.specs.declared.order.Command.TheVariants as command
use Rattle.desk_orders.specs.declared.reply.Listing.TheVariants as listing

-- whether the caller's account is an admin
abbrev pub IsAdminBy : State → Caller → Bool → Type 0
IsAdminBy s who admin = (account : Account) → IsCaller s (secret_of who) account → admin ≡ account.admin

-- what the site of a tag has of an item, where the law allows its offers
abbrev pub IsFound : Law → List DescriptorData → Bool → ℕ → ℕ → Option Bool → Type 0
IsFound law query admin tag item None =
    (Contains law.tags tag → ⊥) ⊎ (Contains law.tags tag × HasNoOffer (law.may_offer tag query) admin item)
IsFound law query admin tag item (Some admin_only) =
    Contains law.tags tag × ((one : SiteOffer)
    × HasOffer (law.may_offer tag query) admin item one × (one.admin_only ≡ admin_only))

-- the same of an offer: a grain is no item of a site
abbrev pub IsFoundOf : Law → State → Caller → List DescriptorData → Offer → Option Bool → Type 0
IsFoundOf law s who query (offer.Site tag item) found =
    (admin : Bool) × IsAdminBy s who admin × IsFound law query admin tag item found
IsFoundOf law s who query (offer.Grain n) found = Unit {0}

-- WHAT THE SITES HAVE of the item that a command chooses, where its caller has access to the grain that it chooses for; for
-- anybody else they aren't asked. Of another command it may be anything, which nobody reads.
abbrev pub IsFoundBy : Law → State → Caller → Command → Option Bool → Type 0
IsFoundBy law s who (command.Choose n offer query assignment) found =
    ((account : Account) × IsCallerOn s (secret_of who) n account × IsFoundOf law s who query offer found)
    ⊎ (((r : Refusal) × IsNoCallerOn s (secret_of who) n r) × (found ≡ None))
IsFoundBy law s who _ found = Unit {0}

-- a grain that may be chosen
abbrev pub grain_listed : Choice → Listed
grain_listed choice = record { offer = offer.Grain (record { 0 = choice.num }); quality = choice.quality }

-- an offer of the site of a tag, and how well it matches
abbrev pub site_listed : List DescriptorData → ℕ × SiteOffer → Option Listed
site_listed query (tag, one) =
    option_map (λ q. record { offer = offer.Site tag one.item; quality = q })
    (match_of query (one.descriptor ∷ []))

-- those of a quality
abbrev pub those_of : Quality → List Listed → List Listed
those_of q listed = filter (λ (one : Listed). same_quality one.quality q) listed

-- the offers of sites: preferred ones first, then by tag and item
abbrev pub sites_listed : List DescriptorData → List (ℕ × SiteOffer) → List Listed
sites_listed query told =
    let listed = filter_map (site_listed query) told in
    those_of Preferred listed ++ those_of Acceptable listed

-- WHAT MAY BE CHOSEN for a grain: grains, preferred ones first, then by number; and then the offers of all sites that answer the
-- query, each with the tag of its site: the law allows them, and those for admins alone are among them where the caller is one.
abbrev pub AreListed : Law → State → Caller → GrainId → List DescriptorData → List Listed → Type 0
AreListed law s who n query list =
    (choices : List Choice) × (told : List (ℕ × SiteOffer)) × AreOptions s who n query choices
    × ((admin : Bool) × IsAdminBy s who admin × IsSites law.tags law.may_offer query admin told)
    × (list ≡ map grain_listed choices ++ sites_listed query told)

-- WHAT A QUESTION IS ANSWERED; no other command has a listing
abbrev pub ListsBy : Law → State → Caller → Command → Listing → Type 0
ListsBy law s who (command.Options n query) (listing.Options list) = AreListed law s who n query list
ListsBy law s who (command.Access n) (listing.Access lines) = AreAccessLines s.tables n lines
ListsBy law s who (command.Preview g) (listing.Losses lines) = AreLossLines s.tables g lines
ListsBy law s who (command.Why n a) (listing.Why reasons) = AreReasons s.tables n a reasons
ListsBy law s who (command.Missing c g) (listing.Owed plan) = IsPlanFor s who c g plan
ListsBy law s who (command.List subject) (listing.Page page) = IsPageOf s who subject page
ListsBy law s who _ told = ⊥

-- the law allows one list of offers alone for each query at a tag
abbrev pub HasOneAnswer : Law → Type 0
HasOneAnswer law = (tag : ℕ) (query : List DescriptorData)
    → IsOne (λ (offers : List SiteOffer). IsTrue (law.may_offer tag query offers))
