-- For proofs alone, beside what a reader must believe: what stands between private functions.
use Rattle.std.specs.Prelude.{◌≡◌, ◌<◌, ℕ, List, length, map, slice_index_or}
use Rattle.host_base.specs.declared.verdict.Verdict.{Verdict}
use Rattle.share_graph.specs.declared.event.Event.{Event}
use Rattle.share_graph.specs.declared.state.State.{State}
use Rattle.site_caps.specs.Law.{Law}
use Rattle.epoch_gate.specs.Passes.{Passing}
use Rattle.hub_core.specs.Book.{Book}
use Rattle.hub_jobs.specs.Jobs.{AreDone, Shift}

-- Two lists are as long, and what stands at one place of both is so related.
abbrev pub Each : {X : Type 0} → (X → X → Type 0) → List X → List X → Type 0
Each {X = X} related xs ys =
    (length ys ≡ length xs) × ((i : ℕ) (d : X) → i < length xs → related (slice_index_or xs i d) (slice_index_or ys i d))

-- They were done by passes that are these now.
abbrev pub DoneBy : {J : Type 0} → (Book → Book → J → J → Type 0) → Law → State → List (Passing Event Verdict) → List J → List J → Type 0
DoneBy does law start passes old new =
    (shifts : List Shift) × (map (λ shift. shift.to) shifts ≡ passes) × AreDone does law start shifts old new
