use Rattle.std.proofs.Common.{List, Contains, refl, sym, subst, inl, inr}
use Rattle.host_base.specs.declared.ids.GrantId.{GrantId}
use Rattle.region_work.proofs.Sums.{contains_cons}
use Rattle.access_report.specs.Turns.{IsClosedBut}
use Rattle.access_report.proofs.Joined.{has_then}
use Rattle.access_report.proofs.Spread.{closed_last}
use Rattle.access_report.proofs.spreading.tell_until.Goals as goal

pub returns-in_default-clause-closed : goal.returns-in_default-clause-closed
returns-in_default-clause-closed c not grants index closed =
    closed_last c.args.tables.now grants c.turns.work.queue c.turns.work.table.entries c.in_default.ensures (c.turns.invariant.closed grants index closed)

pub tell_next-requires-clause-row : goal.tell_next-requires-clause-row
tell_next-requires-clause-row c =
    let num = c.in-Some.num in
    let waits : Contains c.turns.work.queue num = subst (λ (gs : List GrantId). Contains gs num) (sym c.in-Some.ensures) ((contains_cons num c.take.new.self num).1 (inl refl)) in
    let (grant, is, place) = c.turns.invariant.waits num waits in
    (grant, is, c.turns.invariant.more.places _ place)

pub turns-preserved : goal.turns-preserved
turns-preserved c =
    let spread = c.in_ok-tell_next.ensures.spread in
    let split = c.in-Some.ensures in
    record {
      told = c.in_ok-tell_next.ensures.told;
      more = has_then c.args.work.now.table.entries c.turns.work.table.entries c.tell_next.new.work.table.entries c.turns.invariant.more spread.more;
      waits = λ g later.
          elim (spread.only g later) [
            | inl rest ↦ c.turns.invariant.waits g (subst (λ (gs : List GrantId). Contains gs g) (sym split) ((contains_cons c.in-Some.num c.take.new.self g).1 (inr rest)))
            | inr (at, fed) ↦ c.requires.fed at g fed
          ];
      closed = λ grants index closed.
          spread.closed grants index
          (subst (λ (gs : List GrantId). IsClosedBut c.args.tables.now grants gs c.turns.work.table.entries) split (c.turns.invariant.closed grants index closed));
    }
