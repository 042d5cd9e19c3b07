-- Arrays of what is made of each item.
use Rattle.std.proofs.Common.{◌≡◌, List, [], ◌∷◌, map, refl, ap}
use Rattle.serde_json.specs.View.{items_of as items_seen}
use Rattle.serde_json.specs.Data.{item}
use Rattle.report_texts.specs.Terms.{Data}
use Rattle.report_texts.specs.Answers.{items_of}

-- the items of an array, as a list
pub items_of_map : {X : Type 0} (make : X → Data) (xs : List X) → items_seen (map make xs) ≡ items_of make xs
items_of_map make [] = refl
items_of_map make (x ∷ xs) = ap (item (make x)) (items_of_map make xs)
