use Rattle.std.proofs.Common.{◌≡◌, ◌↔◌, ◌+◌, List, Contains, length, sym, ap, subst, arith}
use Rattle.share_graph.proofs.Walks.{at_place}
use Rattle.least_access.proofs.Turns.{grant_id}
use Rattle.region_access.specs.declared.tie.Tie.{Tie}
use Rattle.region_access.specs.Ties.{IsTied, tied_in}
use Rattle.region_access.proofs.Indexed.{rows_fresh, rows_more, rows_all}
use Rattle.region_access.proofs.TakenOut.{added_all}
use Rattle.region_access.proofs.Tied.{Hangs}
use Rattle.region_access.proofs.tying.ties_of.Goals as goal

pub add_edges-requires : goal.add_edges-requires
add_edges-requires c = rows_fresh Hangs c.args.tables.now c.loop-place.place (tied_in c.loop-place.ties.entries) c.loop-place.invariant

pub loop-place-preserved : goal.loop-place-preserved
loop-place-preserved c =
    let t = c.args.tables.now in
    let i = c.loop-place.place in
    let old = tied_in c.loop-place.ties.entries in
    let new = tied_in c.add_edges.new.edges.entries in
    let ties : List Tie = c.as_slice.result.now in
    let there = at_place t.grants c.as_slice-grant-items.result.now i c.grant-item.result c.as_slice-grant-items.ensures c.loop-place-test.true c.grant-item.is in
    let each = subst (λ (xs : List Tie). (on : Tie) → Contains xs on ↔ IsTied on c.grant-item.result) (sym c.as_slice.ensures.value) c.in_ok-hangs_on.ensures in
    let fresh = rows_fresh Hangs t i old c.loop-place.invariant in
    rows_more Hangs t i c.grant-item.result there (Contains ties) each old new c.loop-place.invariant
    (added_all (Contains ties) (grant_id (i + 1)) old new fresh c.add_edges.ensures.may c.in_ok-add_edges.ensures.all)

pub returns : goal.returns
returns c =
    rows_all Hangs c.args.tables.now c.loop-place.place (tied_in c.loop-place.ties.entries)
    (let same : length c.as_slice-grant-items.result.now ≡ length c.args.tables.now.grants = ap length c.as_slice-grant-items.ensures in omega arith) c.loop-place.invariant
