use Rattle.std.proofs.Common.{refl}
use Rattle.table_check.proofs.Digests.{no_other, among_accounts, among_grants, among_saved, among_sessions, among_runs}
use Rattle.table_check.proofs.Tells.{refuted, matched}
use Rattle.table_check.specs.Apart.{IsNoOther}
use Rattle.table_check.proofs.apart.has_no_other.Goals as goal

pub returns-then-not-have_no_other : goal.returns-then-not-have_no_other
unfolding IsNoOther
returns-then-not-have_no_other c =
    refuted (among_accounts c.args.state.now c.args.digest.now c.args.kind c.args.num) (rw c.as_slice.ensures at c.if-not-have_no_other.ensures)

pub returns-then-not-have_no_other-2 : goal.returns-then-not-have_no_other-2
unfolding IsNoOther
returns-then-not-have_no_other-2 c =
    refuted (among_grants c.args.state.now c.args.digest.now c.args.kind c.args.num) (rw c.as_slice-2.ensures at c.if-not-have_no_other-2.ensures)

pub returns-then-not-have_no_other-3 : goal.returns-then-not-have_no_other-3
unfolding IsNoOther
returns-then-not-have_no_other-3 c =
    refuted (among_saved c.args.state.now c.args.digest.now c.args.kind c.args.num) (rw c.as_slice-3.ensures at c.if-not-have_no_other-3.ensures)

pub returns-then-not-have_no_other-4 : goal.returns-then-not-have_no_other-4
unfolding IsNoOther
returns-then-not-have_no_other-4 c =
    refuted (among_sessions c.args.state.now c.args.digest.now c.args.kind c.args.num) (rw c.as_slice-4.ensures at c.if-not-have_no_other-4.ensures)

pub returns : goal.returns
unfolding IsNoOther
returns c =
    matched (among_runs c.args.state.now c.args.digest.now c.args.kind c.args.num)
    (no_other c.args.state.now c.args.digest.now c.args.kind c.args.num
    (rw c.as_slice.ensures at (c.if-not-have_no_other.ensures.0 refl))
    (rw c.as_slice-2.ensures at (c.if-not-have_no_other-2.ensures.0 refl))
    (rw c.as_slice-3.ensures at (c.if-not-have_no_other-3.ensures.0 refl))
    (rw c.as_slice-4.ensures at (c.if-not-have_no_other-4.ensures.0 refl)))
    (rw c.as_slice-5.ensures at c.have_no_other-5.ensures)
