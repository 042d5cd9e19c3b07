-- A grain has one live run at the most where each live run is the first of its grain.
use Rattle.std.proofs.Common.{◌≡◌, ◌<◌, ◌⊎◌, ◌↔◌, ℕ, List, Some, All, Contains, Bool, true, false, take, length, slice_get, refl, sym, ◌∙◌, arith, inl, inr}
use Rattle.std.proofs.lemmas.List.{get_or-take, length-take}
use Rattle.std.proofs.lemmas.List.Elements.{All-contains, All-weaker, All-contains_itself}
use Rattle.std.proofs.lemmas.Option.{slice_get_within, get_or_from_slice_get, slice_get_read}
use Rattle.host_base.specs.declared.ids.GrainId.{GrainId}
use Rattle.share_graph.specs.declared.sessions.Run.{Run}
use Rattle.share_graph.specs.Keys.{IsLiveRun}
use Rattle.share_graph.specs.WellFormed.{HaveOneLiveRun}
use Rattle.table_check.specs.Live.{IsFirstLive}
use Rattle.table_check.proofs.Walks.{AtEach}

-- a row before a place is among the rows up to there
taken : {X : Type 0} (rows : List X) (i j : ℕ) (x : X) → i < j → slice_get rows i ≡ Some x → Contains (take j rows) x
taken {X} rows i j x less is =
    let inside : i < length rows = slice_get_within rows i x is in
    (i, omega (arith, length-take {A = X}), get_or-take j rows i x less ∙ get_or_from_slice_get rows i x x is)

-- and what is among them stands before it
placed : {X : Type 0} (rows : List X) (j : ℕ) (x : X) → Contains (take j rows) x → (i : ℕ) × (i < j) × (slice_get rows i ≡ Some x)
placed {X} rows j x (i, inside, is) =
    let less : i < j = omega (arith, length-take {A = X}) in
    let within : i < length rows = omega (arith, length-take {A = X}) in
    (i, less, slice_get_read rows (length rows) i x refl within (sym (sym (get_or-take j rows i x less) ∙ is)))

abbrev pub AreFirstLive : List Run → Type 0
AreFirstLive runs = AtEach runs (λ k run. IsFirstLive (take k runs) run.grain run.stopped)

-- the grain of a live run has no live run before it
none_before : (earlier : List Run) (n : GrainId) (stopped : Bool) → stopped ≡ false → IsFirstLive earlier n stopped → All (λ run. IsLiveRun n run → ⊥) earlier
none_before earlier n true live first = cc live
none_before earlier n false live first = first

two_live : (runs : List Run) → AreFirstLive runs → (n : GrainId) (i j : ℕ) (run other : Run) → i < j → slice_get runs i ≡ Some run → slice_get runs j ≡ Some other → IsLiveRun n run → IsLiveRun n other → ⊥
two_live runs first n i j run other less here there one two =
    let none = none_before (take j runs) other.grain other.stopped two.1 (first j other there) in
    All-contains (λ (x : Run). IsLiveRun other.grain x → ⊥) (take j runs) run none (taken runs i j run less here) (one.0 ∙ sym two.0, one.1)

one_live : (runs : List Run) → AreFirstLive runs → HaveOneLiveRun runs
one_live runs first n i j run other here there one two =
    let sides : (i < j) ⊎ (i ≡ j) ⊎ (j < i) = grind arith in
    elim sides [
      | inl less ↦ absurd (two_live runs first n i j run other less here there one two)
      | inr (inl same) ↦ same
      | inr (inr less) ↦ absurd (two_live runs first n j i other run less there here two one)
    ]

first_by : (earlier : List Run) (n : GrainId) (stopped : Bool) → (stopped ≡ false → All (λ run. IsLiveRun n run → ⊥) earlier) → IsFirstLive earlier n stopped
first_by earlier n true none = tt
first_by earlier n false none = none refl

first_live : (runs : List Run) → HaveOneLiveRun runs → AreFirstLive runs
first_live runs one k run here =
    first_by (take k runs) run.grain run.stopped (λ live.
    All-weaker (Contains (take k runs)) (λ (x : Run). IsLiveRun run.grain x → ⊥)
    (λ x listed its. (let (i, less, there) = placed runs k x listed in let same : i ≡ k = one run.grain i k x run there here its (refl, live) in absurd (omega arith)))
    (take k runs) (All-contains_itself (take k runs)))

pub one_where_first : (runs : List Run) → AreFirstLive runs ↔ HaveOneLiveRun runs
one_where_first runs = (one_live runs, first_live runs)
