use Rattle.std.proofs.Common.{◌∙◌, ◌-◌, List, Some, Contains, sym, ap, subst, inr, arith}
use Rattle.std.specs.Prelude.{sum_by}
use Rattle.host_base.specs.declared.ids.GrantId.{GrantId}
use Rattle.least_access.specs.declared.held.Held.{Held}
use Rattle.least_access.specs.Held.{IsIn}
use Rattle.least_access.specs.Solved.{held_at}
use Rattle.least_access.proofs.Raising.{value_of}
use Rattle.region_work.specs.declared.gain.Gain.{Gain}
use Rattle.region_work.specs.Fed.{fed_in}
use Rattle.region_work.specs.Moves.{Moves}
use Rattle.region_work.specs.Owed.{owed}
use Rattle.region_work.proofs.Finding.{less_room, other_held, same_held}
use Rattle.region_work.proofs.StepWorks.{step_none, last_waits, fed_rows, step_working, step_owed}
use Rattle.region_work.proofs.stepping.step.Goals as goal

pub returns-then-eq-clause-working : goal.returns-then-eq-clause-working
returns-then-eq-clause-working g c =
    step_none (g.V.Probe.tables c.args.probe.now) c.args.table.now.entries c.args.waiting.now.found c.args.waiting.now.queue c.args.claim c.requires.working
    (λ fact has. (c.holding-before.ensures.facts fact).0 (subst (λ (h : Held). IsIn h fact) (same_held c.union-after.result c.holding-before.result (sym c.eq.ensures ∙ c.if-eq.true)) ((c.union-after.ensures.members fact).1 (inr has))))

pub put-requires : goal.put-requires
put-requires g c =
    c.requires.working.places c.args.claim.node
    (last_waits (g.V.Probe.tables c.args.probe.now) c.args.table.now.entries c.args.waiting.now.found c.args.waiting.now.queue c.args.claim c.requires.working).place

pub pass_on-requires-clause-rows : goal.pass_on-requires-clause-rows
pass_on-requires-clause-rows g c num has =
    fed_rows (g.V.Probe.tables c.args.probe.now) (fed_in c.args.edges.now.entries) c.args.table.now.entries c.args.waiting.now.found c.args.waiting.now.queue c.args.claim
    c.requires.index c.requires.working num (subst (λ (gs : List GrantId). Contains gs num) c.fed_by.ensures has)

pub returns-clause-working : goal.returns-clause-working
returns-clause-working g c =
    let t = g.V.Probe.tables c.args.probe.now in
    let there = c.requires.working.places c.args.claim.node (last_waits t c.args.table.now.entries c.args.waiting.now.found c.args.waiting.now.queue c.args.claim c.requires.working).place in
    let (held, is) = value_of (held_at c.args.table.now.entries c.args.claim.node) there in
    let gain : Gain = record { node = c.args.claim.node; gained = c.args.claim.held; before = c.holding-before.result; after = c.union-after.result } in
    let moves : Moves gain c.args.table.now.entries c.put.new.table.entries = record {
      had = is ∙ ap (λ (h : Held). Some h) (sym (c.holding-before.ensures.there held is));
      has = c.put.ensures.same;
      others = c.put.ensures.others;
      members = c.union-after.ensures.members;
      less = less_room c.holding-before.result c.union-after.result c.union-after.ensures.room c.union-after.ensures.same (other_held c.union-after.result c.holding-before.result (sym c.eq.ensures ∙ c.if-eq.false));
    } in
    step_working t (fed_in c.args.edges.now.entries) c.args.table.now.entries c.put.new.table.entries c.args.waiting.now.found c.args.waiting.now.queue c.pass_on.new.waiting gain
    c.requires.index c.requires.working moves c.pass_on.ensures.finds c.pass_on.ensures.sound
    (λ num grant fact has row f. c.pass_on.ensures.closed c.args.table.now.entries moves num grant fact (subst (λ (gs : List GrantId). Contains gs num) (sym c.fed_by.ensures) has) row f)

pub returns-clause-counted : goal.returns-clause-counted
returns-clause-counted g c gs all =
    let t = g.V.Probe.tables c.args.probe.now in
    let there = c.requires.working.places c.args.claim.node (last_waits t c.args.table.now.entries c.args.waiting.now.found c.args.waiting.now.queue c.args.claim c.requires.working).place in
    let (held, is) = value_of (held_at c.args.table.now.entries c.args.claim.node) there in
    let gain : Gain = record { node = c.args.claim.node; gained = c.args.claim.held; before = c.holding-before.result; after = c.union-after.result } in
    let moves : Moves gain c.args.table.now.entries c.put.new.table.entries = record {
      had = is ∙ ap (λ (h : Held). Some h) (sym (c.holding-before.ensures.there held is));
      has = c.put.ensures.same;
      others = c.put.ensures.others;
      members = c.union-after.ensures.members;
      less = less_room c.holding-before.result c.union-after.result c.union-after.ensures.room c.union-after.ensures.same (other_held c.union-after.result c.holding-before.result (sym c.eq.ensures ∙ c.if-eq.false));
    } in
    let owes = step_owed t (fed_in c.args.edges.now.entries) c.args.table.now.entries c.put.new.table.entries c.args.waiting.now.found c.args.waiting.now.queue c.pass_on.new.waiting gain
    c.requires.index c.requires.working moves c.pass_on.ensures.finds c.pass_on.ensures.sound
    (λ num grant fact has row f. c.pass_on.ensures.closed c.args.table.now.entries moves num grant fact (subst (λ (gs : List GrantId). Contains gs num) (sym c.fed_by.ensures) has) row f) gs all in
    let counted = c.pass_on.ensures.counted c.args.table.now.entries moves in
    let same = ap (λ (gs : List GrantId). sum_by (λ (n : GrantId). owed t c.args.table.now.entries n - owed t c.put.new.table.entries n) gs) c.fed_by.ensures in
    omega arith
