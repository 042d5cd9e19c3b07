-- Tables have one first fault at the most.
use Rattle.std.proofs.Common.{◌≡◌, ◌<◌, ◌⊎◌, ℕ, List, Option, Some, None, Result, Ok, Err, MatchResult, slice_get, refl, ap, inl, inr, arith, subst}
use Rattle.share_graph.specs.declared.fault.GraphFault.{GraphFault}
use Rattle.share_graph.specs.declared.state.Tables.{Tables}
use Rattle.share_graph.specs.Checked.{AccountFault, AppFault, GrainFault, GrantFault, SavedFault, HaveNoFault, IsFirstFault, RowsFault, TablesFault, IsChecked}
use Rattle.share_graph.specs.Forms.{IsOne}
use Rattle.share_graph.proofs.OneAnswer.{answers_one, unless_one, first_one}

earlier_clash : {X : Type 0} (Fault : ℕ → X → Option GraphFault → Type 0) → ((k : ℕ) (row : X) → IsOne (Fault k row)) → (k : ℕ) (row : X) (fault : GraphFault)
    → Fault k row None → Fault k row (Some fault) → ⊥
earlier_clash Fault one k row fault sound has = let odd : None ≡ Some fault = (one k row).one None (Some fault) sound has in cc

same_fault : {X : Type 0} (rows : List X) (Fault : ℕ → X → Option GraphFault → Type 0) → ((k : ℕ) (row : X) → IsOne (Fault k row)) → (a b : GraphFault)
    → IsFirstFault rows Fault a → IsFirstFault rows Fault b → a ≡ b
same_fault {X} rows Fault one a b x y = by_places (grind arith)
  where
    at_one : (i : ℕ) (row other : X) → slice_get rows i ≡ Some row → slice_get rows i ≡ Some other → Fault i row (Some a) → Fault i other (Some b) → a ≡ b
    at_one i row other here there here_has there_has =
        let same : other ≡ row = cc in
        let both : Some a ≡ Some b = (one i row).one (Some a) (Some b) here_has (subst (λ (z : X). Fault i z (Some b)) same there_has) in
        cc

    by_places : (x.place < y.place) ⊎ (x.place ≡ y.place) ⊎ (y.place < x.place) → a ≡ b
    by_places (inl less) = absurd (earlier_clash Fault one x.place x.row a (y.earlier x.place x.row less x.there) x.has)
    by_places (inr (inl same)) = at_one y.place x.row y.row (rw (← same) x.there) y.there (rw (← same) x.has) y.has
    by_places (inr (inr less)) = absurd (earlier_clash Fault one y.place y.row b (x.earlier y.place y.row less y.there) y.has)

rows_cases : {X : Type 0} (rows : List X) (Fault : ℕ → X → Option GraphFault → Type 0) → ((k : ℕ) (row : X) → IsOne (Fault k row)) → (a b : Option GraphFault)
    → RowsFault rows Fault a → RowsFault rows Fault b → a ≡ b
rows_cases rows Fault one None None x y = refl
rows_cases rows Fault one None (Some b) x y = absurd (earlier_clash Fault one y.place y.row b (x y.place y.row y.there) y.has)
rows_cases rows Fault one (Some a) None x y = absurd (earlier_clash Fault one x.place x.row a (y x.place x.row x.there) x.has)
rows_cases rows Fault one (Some a) (Some b) x y = ap (λ (fault : GraphFault). Some fault) (same_fault rows Fault one a b x y)

rows_one : {X : Type 0} (rows : List X) (Fault : ℕ → X → Option GraphFault → Type 0) → ((k : ℕ) (row : X) → IsOne (Fault k row)) → IsOne (RowsFault rows Fault)
rows_one rows Fault one = record { one = rows_cases rows Fault one }

-- the checks of a row decide one answer, and so those of tables do
pub tables_one : (t : Tables) → IsOne (TablesFault t)
tables_one t =
    first_one (rows_one t.accounts (AccountFault t) (λ k row. unless_one (unless_one (answers_one None)))) (
    first_one (rows_one t.apps (AppFault t) (λ k row. unless_one (answers_one None))) (
    first_one (rows_one t.grains (GrainFault t) (λ k row. unless_one (answers_one None))) (
    first_one (rows_one t.grants (GrantFault t) (λ k row. unless_one (unless_one (unless_one (unless_one (unless_one (unless_one (answers_one None)))))))) (
    rows_one t.saved (SavedFault t) (λ k row. unless_one (unless_one (unless_one (answers_one None))))))))

-- where each list of rows stands in the first fault
pub of_accounts : (t : Tables) (fault : GraphFault) → IsFirstFault t.accounts (AccountFault t) fault → TablesFault t (Some fault)
of_accounts t fault is = inl (fault, refl, is)

pub of_apps : (t : Tables) (fault : GraphFault) → HaveNoFault t.accounts (AccountFault t) → IsFirstFault t.apps (AppFault t) fault → TablesFault t (Some fault)
of_apps t fault accounts is = inr (accounts, inl (fault, refl, is))

pub of_grains : (t : Tables) (fault : GraphFault) → HaveNoFault t.accounts (AccountFault t) → HaveNoFault t.apps (AppFault t) → IsFirstFault t.grains (GrainFault t) fault → TablesFault t (Some fault)
of_grains t fault accounts apps is = inr (accounts, inr (apps, inl (fault, refl, is)))

pub of_grants : (t : Tables) (fault : GraphFault) → HaveNoFault t.accounts (AccountFault t) → HaveNoFault t.apps (AppFault t) → HaveNoFault t.grains (GrainFault t)
    → IsFirstFault t.grants (GrantFault t) fault → TablesFault t (Some fault)
of_grants t fault accounts apps grains is = inr (accounts, inr (apps, inr (grains, inl (fault, refl, is))))

pub of_saved : (t : Tables) (fault : GraphFault) → HaveNoFault t.accounts (AccountFault t) → HaveNoFault t.apps (AppFault t) → HaveNoFault t.grains (GrainFault t)
    → HaveNoFault t.grants (GrantFault t) → IsFirstFault t.saved (SavedFault t) fault → TablesFault t (Some fault)
of_saved t fault accounts apps grains grants is = inr (accounts, inr (apps, inr (grains, inr (grants, is))))

-- the same of a list of the rows that was passed on
pub no_fault_of : {X : Type 0} (items rows : List X) (Fault : ℕ → X → Option GraphFault → Type 0) → items ≡ rows → HaveNoFault items Fault → HaveNoFault rows Fault
no_fault_of items rows Fault same none = subst (λ (xs : List _). HaveNoFault xs Fault) same none

pub first_fault_of : {X : Type 0} (items rows : List X) (Fault : ℕ → X → Option GraphFault → Type 0) (fault : GraphFault) → items ≡ rows → IsFirstFault items Fault fault → IsFirstFault rows Fault fault
first_fault_of items rows Fault fault same is = subst (λ (xs : List _). IsFirstFault xs Fault fault) same is

-- what the last list of rows tells, where the others have no fault
pub last_tells : (t : Tables) (r : Result (Unit {0}) GraphFault) → HaveNoFault t.accounts (AccountFault t) → HaveNoFault t.apps (AppFault t) → HaveNoFault t.grains (GrainFault t)
    → HaveNoFault t.grants (GrantFault t) → MatchResult r (λ _. HaveNoFault t.saved (SavedFault t)) (IsFirstFault t.saved (SavedFault t)) → MatchResult r (λ _. IsChecked t) (λ fault. TablesFault t (Some fault))
last_tells t (Ok u) accounts apps grains grants saved = record { accounts = accounts; apps = apps; grains = grains; grants = grants; saved = saved }
last_tells t (Err fault) accounts apps grains grants saved = of_saved t fault accounts apps grains grants saved

-- tables with a first fault aren't checked
pub fault_refutes : (t : Tables) (fault : GraphFault) → TablesFault t (Some fault) → IsChecked t → ⊥
fault_refutes t fault has checked =
    let none : TablesFault t None = inr (checked.accounts, inr (checked.apps, inr (checked.grains, inr (checked.grants, checked.saved)))) in
    let odd : Some fault ≡ None = (tables_one t).one (Some fault) None has none in
    cc
