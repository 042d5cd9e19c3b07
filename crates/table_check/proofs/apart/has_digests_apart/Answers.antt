use Rattle.std.proofs.Common.{refl}
use Rattle.table_check.proofs.Digests.{apart_from, accounts_apart, grants_apart, saved_apart, sessions_apart, runs_apart}
use Rattle.table_check.proofs.Tells.{refuted, matched}
use Rattle.table_check.proofs.apart.has_digests_apart.Goals as goal

pub returns-then-not-are_apart : goal.returns-then-not-are_apart
returns-then-not-are_apart c = refuted (accounts_apart c.args.state.now) (rw c.as_slice.ensures at c.if-not-are_apart.ensures)

pub returns-then-not-are_apart-2 : goal.returns-then-not-are_apart-2
returns-then-not-are_apart-2 c = refuted (grants_apart c.args.state.now) (rw c.as_slice-2.ensures at c.if-not-are_apart-2.ensures)

pub returns-then-not-are_apart-3 : goal.returns-then-not-are_apart-3
returns-then-not-are_apart-3 c = refuted (saved_apart c.args.state.now) (rw c.as_slice-3.ensures at c.if-not-are_apart-3.ensures)

pub returns-then-not-are_apart-4 : goal.returns-then-not-are_apart-4
returns-then-not-are_apart-4 c = refuted (sessions_apart c.args.state.now) (rw c.as_slice-4.ensures at c.if-not-are_apart-4.ensures)

pub returns : goal.returns
returns c =
    matched (runs_apart c.args.state.now)
    (apart_from c.args.state.now
    (rw c.as_slice.ensures at (c.if-not-are_apart.ensures.0 refl))
    (rw c.as_slice-2.ensures at (c.if-not-are_apart-2.ensures.0 refl))
    (rw c.as_slice-3.ensures at (c.if-not-are_apart-3.ensures.0 refl))
    (rw c.as_slice-4.ensures at (c.if-not-are_apart-4.ensures.0 refl)))
    (rw c.as_slice-5.ensures at c.are_apart-5.ensures)
