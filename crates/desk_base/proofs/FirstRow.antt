-- The first row of a list that is so is one.
use Rattle.std.proofs.Common.{◌≡◌, ◌++◌, ◌∷◌, ◌∙◌, zero, List, [], refl, sym, subst, inl, inr}
use Rattle.std.proofs.lemmas.List.Elements.{Contains-append_right}
use Rattle.desk_base.specs.Terms.{IsNoneOf, IsOne, Made}
use Rattle.share_graph.specs.Keys.{IsFirstOf}
use Rattle.share_graph.proofs.Contained.{contains_at}
use Rattle.share_graph.proofs.FirstOf.{one_of}
use Rattle.desk_base.specs.Steps.{Step}
use Rattle.desk_base.specs.Wording.{keeps◌of◌showing◌else◌}

-- a list that is split before a row, where none before it is so, is split there alone
split_one : {X : Type 0} (P : X → Type 0) (u v w z : List X) (x y : X) → u ++ x ∷ w ≡ v ++ y ∷ z → P x → P y → IsNoneOf u P → IsNoneOf v P → x ≡ y
split_one P [] [] w z x y same p q none never = cc
split_one P [] (c ∷ v) w z x y same p q none never = let one : x ≡ c = cc in absurd (never c (contains_at (c ∷ v) zero c refl) (subst P one p))
split_one P (c ∷ u) [] w z x y same p q none never = let one : c ≡ y = cc in absurd (none c (contains_at (c ∷ u) zero c refl) (subst P (sym one) q))
split_one P (c ∷ u) (d ∷ v) w z x y same p q none never =
    let rest : u ++ x ∷ w ≡ v ++ y ∷ z = cc in
    split_one P u v w z x y rest p q (λ row listed. none row (Contains-append_right (c ∷ []) u row listed)) (λ row listed. never row (Contains-append_right (d ∷ []) v row listed))

first_same : {X : Type 0} (P : X → Type 0) (rows : List X) (x y : X) → IsFirstOf rows P x → IsFirstOf rows P y → x ≡ y
first_same P rows x y a b = split_one P a.before b.before a.after b.after x y (sym a.listed ∙ b.listed) a.is b.is a.earlier b.earlier

keeps_cases : {X : Type 0} (P : X → Type 0) (rows : List X) (shown : X → Made) (Rest : Step → Type 0) → IsOne Rest → (a b : Step) → (keeps P of rows showing shown else Rest) a
    → (keeps P of rows showing shown else Rest) b → a ≡ b
keeps_cases P rows shown Rest rest a b (inl (x, e, first)) (inl (y, f, other)) = let one = first_same P rows x y first other in cc
keeps_cases P rows shown Rest rest a b (inl (x, e, first)) (inr (none, is)) = let one = one_of rows P x first in absurd (none x one.listed one.is)
keeps_cases P rows shown Rest rest a b (inr (none, is)) (inl (y, f, first)) = let one = one_of rows P y first in absurd (none y one.listed one.is)
keeps_cases P rows shown Rest rest a b (inr (none, is)) (inr (never, also)) = rest.one a b is also

-- the word has one answer at the most
pub keeps_one : {X : Type 0} {P : X → Type 0} {rows : List X} {shown : X → Made} {Rest : Step → Type 0} → IsOne Rest → IsOne (keeps P of rows showing shown else Rest)
keeps_one {X} {P} {rows} {shown} {Rest} rest = record { one = keeps_cases P rows shown Rest rest }
