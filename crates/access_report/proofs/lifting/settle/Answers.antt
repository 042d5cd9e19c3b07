use Rattle.std.proofs.Common.{List, Contains, refl, sym, subst, inl, inr}
use Rattle.host_base.specs.declared.ids.GrantId.{GrantId}
use Rattle.region_work.proofs.Sums.{contains_cons, contains_none}
use Rattle.access_report.specs.Turns.{IsClosedBut}
use Rattle.access_report.proofs.Spread.{closed_first, closed_last}
use Rattle.access_report.proofs.Joined.{has_same, has_then}
use Rattle.access_report.proofs.lifting.settle.Goals as goal

pub feeds_of-requires : goal.feeds_of-requires
feeds_of-requires c num listed = let (grant, is, place) = c.requires.rows num listed in (grant, is)

pub turns-init : goal.turns-init
turns-init c = record {
  more = has_same c.args.table.now.entries;
  closed = closed_first c.args.tables.now c.args.grants.now c.add_all.new.self c.args.table.now.entries c.in_ok-add_all.ensures.there;
  listed = λ g waits.
      elim (c.in_ok-add_all.ensures.only g waits) [
        | inl before ↦ absurd (contains_none g (subst (λ (gs : List GrantId). Contains gs g) c.new-queue.ensures before))
        | inr listed ↦ listed
      ];
  without = λ g not all. all;
}

pub lift_next-requires-clause-row : goal.lift_next-requires-clause-row
lift_next-requires-clause-row c =
    let num = c.in-Some.num in
    let waits : Contains c.turns.queue num = subst (λ (gs : List GrantId). Contains gs num) (sym c.in-Some.ensures) ((contains_cons num c.take.new.self num).1 (inl refl)) in
    let (grant, is, place) = c.requires.rows num (c.turns.invariant.listed num waits) in
    (grant, is, c.turns.invariant.more.places _ place)

pub turns-preserved : goal.turns-preserved
turns-preserved c =
    let t = c.args.tables.now in
    let grants = c.args.grants.now in
    let num = c.in-Some.num in
    let spread = c.in_ok-lift_next.ensures.spread in
    let split = c.in-Some.ensures in
    let waits : Contains c.turns.queue num = subst (λ (gs : List GrantId). Contains gs num) (sym split) ((contains_cons num c.take.new.self num).1 (inl refl)) in
    record {
      more = has_then c.args.table.now.entries c.turns.table.entries c.lift_next.new.table.entries c.turns.invariant.more spread.more;
      closed = spread.closed grants c.in_ok-fed.ensures (subst (λ (gs : List GrantId). IsClosedBut t grants gs c.turns.table.entries) split c.turns.invariant.closed);
      listed = λ g later.
          elim (spread.only g later) [
            | inl rest ↦ c.turns.invariant.listed g (subst (λ (gs : List GrantId). Contains gs g) (sym split) ((contains_cons num c.take.new.self g).1 (inr rest)))
            | inr (at, fed) ↦ c.in_ok-fed.ensures.only at g fed
          ];
      without = λ g not all.
          c.in_ok-lift_next.ensures.without g (λ same. not (subst (λ (h : GrantId). Contains grants h) same (c.turns.invariant.listed num waits))) (c.turns.invariant.without g not all);
    }

pub returns-clause-closed : goal.returns-clause-closed
returns-clause-closed c = closed_last c.args.tables.now c.args.grants.now c.turns.queue c.turns.table.entries c.in_default.ensures c.turns.invariant.closed
