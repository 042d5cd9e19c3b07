-- The grains that an account may choose for a grain.
use Rattle.std.specs.Prelude.{◌≡◌, ◌⊎◌, ◌↔◌, ◌<◌, List, Some, AllPairs, Contains}
use Rattle.desk_base.specs.Terms.{AccountId, App, GrainId, Holds, IsAppOf, Tables}
use Rattle.powerbox_match.specs.Descriptor.{DescriptorData}
use Rattle.powerbox_match.specs.Matching.{match_of}
use Rattle.powerbox_match.specs.declared.choices.Choice.{Choice}
use Rattle.powerbox_match.specs.declared.value.Quality.TheVariants.{Acceptable, Preferred}
use Rattle.share_graph.specs.declared.facts.Fact.TheVariants.{Open}
use Rattle.share_graph.specs.declared.facts.Node.TheVariants as node

-- the grain of a choice
abbrev pub grain_of : Choice → GrainId
grain_of choice = record { 0 = choice.num }

-- The choice is a grain other than n to which the account has access, and of whose application some offer matches the query, so well.
pub record IsChoice (t : Tables) (a : AccountId) (n : GrainId) (query : List DescriptorData) (choice : Choice) : Type 0 where
  pub another : grain_of choice ≡ n → ⊥
  pub access : Holds t (node.User (grain_of choice) a) Open
  pub app : App
  pub is_app : IsAppOf t (grain_of choice) app
  pub matches : match_of query app.manifest.match_requests ≡ Some choice.quality

-- one choice stands before another: preferred ones do so, then lower numbers
abbrev pub StandsBefore : Choice → Choice → Type 0
StandsBefore c d = ((c.quality ≡ Preferred) × (d.quality ≡ Acceptable)) ⊎ ((c.quality ≡ d.quality) × (c.num < d.num))

-- THE GRAINS TO CHOOSE FROM: all such choices, preferred ones first, then by number.
pub record AreChoices (t : Tables) (a : AccountId) (n : GrainId) (query : List DescriptorData) (list : List Choice) : Type 0 where
  pub in_order : AllPairs StandsBefore list
  pub exact : (choice : Choice) → Contains list choice ↔ IsChoice t a n query choice
