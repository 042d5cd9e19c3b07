-- The list of choices, and what it becomes when a number is added.
use Rattle.std.specs.Prelude.{ℕ, ◌&&◌, ◌||◌, ◌==◌, nat_lt, Bool, true, List, [], ◌∷◌, Option, Some, None, if◌then◌else◌}
use Rattle.std.specs.List.{list_all}
use Rattle.powerbox_match.specs.declared.value.Quality.{Quality}
use Rattle.powerbox_match.specs.declared.value.Quality.TheVariants.{Acceptable, Preferred, Unacceptable}
use Rattle.powerbox_match.specs.declared.choices.Choice.{Choice}

-- the place of a quality in the order: preferred ones come first
abbrev pub rank_of : Quality → ℕ
rank_of Preferred = 0
rank_of Acceptable = 1
rank_of Unacceptable = 2

-- whether a choice stands before another: by quality, and then by number
abbrev pub stands_before : Choice → Choice → Bool
stands_before c d = nat_lt (rank_of c.quality) (rank_of d.quality) || (rank_of c.quality == rank_of d.quality && nat_lt c.num d.num)

-- whether each choice stands before all those after it
abbrev pub is_in_order : List Choice → Bool
is_in_order [] = true
is_in_order (c ∷ cs) = list_all (stands_before c) cs && is_in_order cs

-- the list with a choice in its place
abbrev pub insertion : Choice → List Choice → List Choice
insertion c [] = c ∷ []
insertion c (d ∷ ds) = if stands_before c d then c ∷ d ∷ ds else d ∷ insertion c ds

-- the list after a number was added whose match has a quality, or that has no match
abbrev pub choices_after : Option Quality → ℕ → List Choice → List Choice
choices_after None num cs = cs
choices_after (Some quality) num cs = insertion (record { num = num; quality = quality }) cs
