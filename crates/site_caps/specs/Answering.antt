-- What drivers answer themselves.
use Rattle.std.specs.Prelude.{◌≡◌, ℕ, Bool, List, Some, None, Result, Ok, Err, All, AllPairs, Contains, IsTrue, map}
use Rattle.powerbox_match.specs.Descriptor.{DescriptorData}
use Rattle.site_caps.specs.declared.offer.SiteOffer.{SiteOffer}
use Rattle.site_caps.specs.declared.fault.SiteFault.{SiteFault}
use Rattle.site_caps.specs.declared.fault.SiteFault.TheVariants as fault
use Rattle.site_caps.specs.Law.{Law}
use Rattle.site_caps.specs.Sites.{Listed, StandsBefore, ListsJust}

-- the driver of the tag, among these drivers, gives the answer to the question
pub record ComesFrom {D Q A : Type 0} (drivers : List D) (tag_of : D → ℕ) (gives : D → Q → A → Type 0) (tag : ℕ) (question : Q) (answer : A) : Type 0 where
  pub driver : D
  pub among : Contains drivers driver
  pub tagged : tag_of driver ≡ tag
  pub given : gives driver question answer

module _ {D : Type 0} (drivers : List D) (answers : D → List DescriptorData → List SiteOffer → Type 0) (query : List DescriptorData) where
  -- the list is put together from the offers with which each driver answers the query, without admin-only offers unless for an admin, by
  -- tag and then by item
  pub record AreAnswers (tag_of : D → ℕ) (admin : Bool) (list : List Listed) : Type 0 where
    pub offered : (driver : D) → Contains drivers driver → (offers : List SiteOffer) × answers driver query offers × ListsJust admin (tag_of driver) offers list
    pub no_others : All (λ p. Contains (map tag_of drivers) p.0) list
    pub ascends : AllPairs StandsBefore list

  -- each driver has one answer to the query, at the most
  abbrev pub HaveOneAnswer : Type 0
  HaveOneAnswer = (driver : D) → Contains drivers driver → (offers others : List SiteOffer) → answers driver query offers → answers driver query others → offers ≡ others

-- A text that the law allows for the item; NoDriver where the law has no such tag, and NotOffered where it has, and allows none for the item.
abbrev pub GivesText : Law → ℕ → ℕ → Result (List ℕ) SiteFault → Type 0
GivesText law tag item (Ok text) = Contains law.tags tag × IsTrue (law.may_restore tag item (Some text))
GivesText law tag item (Err (fault.NoDriver t)) = (t ≡ tag) × (Contains law.tags tag → ⊥)
GivesText law tag item (Err (fault.NotOffered t i)) = (t ≡ tag) × (i ≡ item) × Contains law.tags tag × IsTrue (law.may_restore tag item None)
GivesText law tag item (Err (fault.TwoDrivers t)) = ⊥
GivesText law tag item (Err fault.Memory) = Unit {0}
