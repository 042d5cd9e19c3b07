-- What a descriptor stands for. A query is the list of its descriptors, as are the offers.
use Rattle.std.specs.Prelude.{ℕ, List}
use Rattle.powerbox_match.specs.declared.value.Quality.{Quality}
use Rattle.powerbox_match.specs.Value.{TagData}

-- a descriptor: its tags, each an id and a value, and its quality
pub record DescriptorData : Type 0 where
  pub tags : List (ℕ × TagData)
  pub quality : Quality
