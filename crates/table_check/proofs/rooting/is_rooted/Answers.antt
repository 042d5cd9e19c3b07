use Rattle.std.proofs.Common.{refl}
use Rattle.share_graph.specs.WellFormed.{IsRooted}
use Rattle.table_check.proofs.Tells.{refuted, matched}
use Rattle.table_check.proofs.rooting.is_rooted.Goals as goal

pub returns-then-not-are_rooted_in : goal.returns-then-not-are_rooted_in
returns-then-not-are_rooted_in c = refuted (λ (all : IsRooted c.args.state.now). all.sessions) (rw c.as_slice.ensures at c.if-not-are_rooted_in.ensures)

pub returns-then-not-are_rooted_in-2 : goal.returns-then-not-are_rooted_in-2
returns-then-not-are_rooted_in-2 c = refuted (λ (all : IsRooted c.args.state.now). all.runs) (rw c.as_slice-2.ensures at c.if-not-are_rooted_in-2.ensures)

pub returns : goal.returns
returns c =
    matched (λ (all : IsRooted c.args.state.now). all.handles)
    (λ handles. record {
      sessions = rw c.as_slice.ensures at (c.if-not-are_rooted_in.ensures.0 refl);
      runs = rw c.as_slice-2.ensures at (c.if-not-are_rooted_in-2.ensures.0 refl);
      handles = handles;
    })
    (rw c.as_slice-3.ensures at c.are_rooted_in-3.ensures)
