-- That none of some rows is so, said of each.
use Rattle.std.proofs.Common.{◌≡◌, ◌<◌, List, All, Contains, length}
use Rattle.std.proofs.lemmas.List.Elements.{All-contains}
use Rattle.std.proofs.lemmas.Option.{slice_get-get_or}
use Rattle.share_graph.specs.Keys.{IsOneOf, IsFirstOf, IsNoneOf}
use Rattle.share_graph.proofs.Contained.{contains_at}
use Rattle.share_graph.proofs.FirstOf.{one_of}

pub all_absent : {X : Type 0} (P : X → Type 0) (rows : List X) → IsNoneOf rows P → All (λ row. P row → ⊥) rows
all_absent P rows none = λ k d less so. none _ (contains_at rows k _ (slice_get-get_or rows k d less)) so

pub one_present : {X : Type 0} (P : X → Type 0) (rows : List X) (row : X) → IsOneOf rows P row → All (λ row. P row → ⊥) rows → ⊥
one_present P rows row one all = All-contains (λ row. P row → ⊥) rows row all one.listed one.is

pub first_present : {X : Type 0} (P : X → Type 0) (rows : List X) (row : X) → IsFirstOf rows P row → All (λ row. P row → ⊥) rows → ⊥
first_present P rows row first = one_present P rows row (one_of rows P row first)
