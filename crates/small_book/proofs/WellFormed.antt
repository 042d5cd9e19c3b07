-- The small book is well-formed.
use Rattle.std.proofs.Common.{◌≡◌, ◌+◌, ℕ, Some, slice_get, refl, ap, codes, arith}
use Rattle.std.proofs.lemmas.List.Elements.{All-nil, All-from_recursion}
use Rattle.share_graph.specs.declared.rows.Account.{Account}
use Rattle.share_graph.specs.declared.rows.App.{App}
use Rattle.share_graph.specs.declared.rows.Grain.{Grain}
use Rattle.share_graph.specs.declared.grants.Grant.{Grant}
use Rattle.share_graph.specs.declared.sessions.Run.{Run}
use Rattle.share_graph.specs.declared.sessions.Session.{Session}
use Rattle.share_graph.specs.declared.state.Tables.{Tables}
use Rattle.share_graph.specs.Known.{HasGrain}
use Rattle.share_graph.specs.WellFormed.{IsWellFormed, IsRooted, IsRootedSession, IsRootedHandle, IsNumbered, IsWithinLimits, HaveOneLiveRun}
use Rattle.small_book.specs.SmallBook.{small_book, ada, zoe, ben, grain_row, small_accounts, small_apps, small_grains, small_grants, small_sessions, small_runs}
use Rattle.small_book.proofs.Checked.{checked}
use Rattle.small_book.proofs.Digests.{apart}
use Rattle.small_book.proofs.Places.{at_each}

abbrev rows : Tables
rows = small_book.tables

limits : IsWithinLimits rows
limits = record { accounts = omega arith; apps = omega arith; grains = omega arith; grants = omega arith; saved = omega arith }

numbered : IsNumbered small_book
numbered = record {
  accounts = at_each (λ i (account : Account). account.num.0 ≡ i + 1) small_accounts (refl, (refl, (refl, (refl, tt))));
  apps = at_each (λ i (app : App). app.num.0 ≡ i + 1) small_apps (refl, (refl, tt));
  grains = at_each (λ i (grain : Grain). grain.num.0 ≡ i + 1) small_grains (refl, (refl, tt));
  grants = at_each (λ i (grant : Grant). grant.num.0 ≡ i + 1) small_grants (refl, (refl, tt));
  saved = λ i row is. cc is;
  sessions = at_each (λ i (session : Session). session.num.0 ≡ i + 1) small_sessions (refl, (refl, (refl, (refl, tt))));
  runs = at_each (λ i (run : Run). run.num.0 ≡ i + 1) small_runs (refl, (refl, tt));
  handles = λ i handle is. cc is;
}

-- the run at a place is of the grain of the number after it
run_at : (i : ℕ) (run : Run) → slice_get small_runs i ≡ Some run → run.grain.0 ≡ i + 1
run_at = at_each (λ i (run : Run). run.grain.0 ≡ i + 1) small_runs (refl, (refl, tt))

one_live : HaveOneLiveRun small_runs
one_live n i j run other is again live too =
    let first : run.grain.0 ≡ n.0 = ap (λ g. g.0) live.0 in
    let second : other.grain.0 ≡ n.0 = ap (λ g. g.0) too.0 in
    omega (arith, run_at i run is, run_at j other again)

abbrev HasItsGrain : Run → Type 0
HasItsGrain run = HasGrain rows run.grain

rooted : IsRooted small_book
rooted = record {
  sessions = All-from_recursion (IsRootedSession rows) small_sessions (
    record { grain = (grain_row 1 1 1 (codes "Minutes"), refl); root = (ada, refl) },
    (
      record { grain = (grain_row 1 1 1 (codes "Minutes"), refl); root = (zoe, refl) },
      (
        record { grain = (grain_row 1 1 1 (codes "Minutes"), refl); root = (ben, refl) },
        (record { grain = (grain_row 2 2 1 (codes "Vote"), refl); root = (ben, refl) }, tt),
      ),
    ),
  );
  runs = All-from_recursion HasItsGrain small_runs ((grain_row 1 1 1 (codes "Minutes"), refl), ((grain_row 2 2 1 (codes "Vote"), refl), tt));
  handles = All-nil (IsRootedHandle small_book);
}

pub well_formed : IsWellFormed small_book
well_formed = record { tables = checked; limits = limits; numbered = numbered; apart = apart; live = one_live; rooted = rooted }
