-- An aid for proofs: how the grains that an account enters are looked through.
use Rattle.std.specs.Prelude.{◌≡◌, ◌==◌, List, Option, Some, None, IfSome, if◌then◌else◌}
use Rattle.std.specs.BTreeMap.{BTreeMap, get}
use Rattle.std.specs.Option.{option_flatten, option_map}
use Rattle.desk_base.specs.Terms.{App, Grain, GrainId, row, Tables}
use Rattle.host_base.specs.contracts.ids.AppIdOrd.TheImpl as app_order
use Rattle.host_base.specs.declared.ids.AppId.{AppId}
use Rattle.powerbox_match.specs.Descriptor.{DescriptorData}
use Rattle.powerbox_match.specs.Matching.{match_of, same_quality}
use Rattle.powerbox_match.specs.declared.choices.Choice.{Choice}
use Rattle.powerbox_match.specs.declared.value.Quality.{Quality}

-- the choice if it is of the quality
abbrev pub with_quality : Quality → Choice → Option Choice
with_quality q choice = if same_quality choice.quality q then Some choice else None

module _ (t : Tables) (query : List DescriptorData) where
  -- how well the offers of the application of a number match
  abbrev pub match_at : AppId → Option Quality
  match_at p =
      option_flatten (option_map (λ (app : App). match_of query app.manifest.match_requests) (row t.apps p.0))

  -- how well the offers of a grain's application match
  abbrev pub match_for : GrainId → Option Quality
  match_for m = option_flatten (option_map (λ (grain : Grain). match_at grain.app) (row t.grains m.0))

  -- the choice that a grain other than n is, if its application's offers match
  abbrev pub choice_of : GrainId → GrainId → Option Choice
  choice_of n m =
      if m.0 == n.0 then None else option_map (λ (q : Quality). record { num = m.0; quality = q }) (match_for m)

  -- what was found out of applications is how well their offers match
  abbrev pub AreMatches : BTreeMap AppId (Option Quality) → Type 0
  AreMatches found = (p : AppId) → IfSome (get app_order.ghosts.cmp found p) (λ how. how ≡ match_at p)
