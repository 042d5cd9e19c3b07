-- Jobs that threads do at once on one history, each by a desk of its own.
use Rattle.std.specs.Prelude.{◌≡◌, ◌≤◌, ℕ, All, List, [], ◌∷◌, length, sum_by}
use mathlib.Core.List.{IsPrefix}
use Rattle.host_base.specs.declared.verdict.Verdict.{Verdict}
use Rattle.share_graph.specs.declared.event.Event.{Event}
use Rattle.share_graph.specs.declared.state.State.{State}
use Rattle.site_caps.specs.Law.{Law}
use Rattle.epoch_gate.specs.Passes.{Passing}
use Rattle.hub_core.specs.Book.{Book}
use Rattle.shared_hub.specs.Passing.{book_by}
use Rattle.tick_desk.specs.Clocked.{ticks_in, without}

-- What a pass was when its desk was lent to a job, what it is since, and how many of the desk's own ticks were accepted since.
pub record Shift : Type 0 where
  pub from : Passing Event Verdict
  pub to : Passing Event Verdict
  pub ticks : ℕ

-- A job was done by the desk of a pass that had given no order. The desk has a clock, and had not ticked; as many ticks as are its
-- own are among the entries that the pass has seen since.
pub record IsDone {J : Type 0} (does : Book → Book → J → J → Type 0) (law : Law) (start : State) (shift : Shift) (old new : J) : Type 0 where
  pub unused : shift.from.orders ≡ 0
  pub ticked : shift.ticks ≤ ticks_in shift.to.seen
  pub did : does (without 0 (book_by law start shift.from)) (without shift.ticks (book_by law start shift.to)) old new

-- Each job was done, by a pass of its own.
abbrev pub AreDone : {J : Type 0} → (Book → Book → J → J → Type 0) → Law → State → List Shift → List J → List J → Type 0
AreDone does law start [] [] [] = Unit {0}
AreDone does law start (shift ∷ shifts) (x ∷ xs) (y ∷ ys) =
    IsDone does law start shift x y × AreDone does law start shifts xs ys
AreDone does law start _ _ _ = ⊥

-- JOBS WERE DONE AT ONCE on one history: what each pass has seen begins it, and its entries are as many as the orders that
-- were accepted on all passes together; the desks' own ticks are among them.
pub record DoneAtOnce {J : Type 0} (does : Book → Book → J → J → Type 0) (law : Law) (start : State) (history : List Event) (old new : List J) : Type 0 where
  pub shifts : List Shift
  pub done : AreDone does law start shifts old new
  pub begins : All (λ shift. IsPrefix shift.to.seen history) shifts
  pub entries : length history ≡ sum_by (λ shift. shift.to.orders) shifts
