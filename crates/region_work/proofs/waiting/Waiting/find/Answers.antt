use Rattle.std.proofs.Common.{◌∙◌, inr, subst, sym}
use Rattle.least_access.specs.declared.held.Held.{Held}
use Rattle.least_access.specs.Held.{IsIn}
use Rattle.region_work.proofs.Finding.{found_new, less_room, other_held, same_held}
use Rattle.region_work.proofs.waiting.Waiting.find.Goals as goal

pub returns-clause-finds : goal.returns-clause-finds
returns-clause-finds c =
    rw (← c.self.view_is, c.push_reserved.ensures.items)
    (found_new c.self.inside.found.entries c.put.new.table.entries c.self.inside.queue.items c.args.node c.args.held.now c.holding-before.result c.union-after.result
    (rw (← c.self.view_is) at c.requires) c.holding-before.ensures.facts c.holding-before.ensures.there c.union-after.ensures.members
    (less_room c.holding-before.result c.union-after.result c.union-after.ensures.room c.union-after.ensures.same
    (other_held c.union-after.result c.holding-before.result (sym c.eq.ensures ∙ c.if-eq.false)))
    c.put.ensures.same c.put.ensures.others c.put.ensures.room)

pub returns-then-eq-clause-there : goal.returns-then-eq-clause-there
returns-then-eq-clause-there c = rw (← c.self.view_is) (λ fact has.
    (c.holding-before.ensures.facts fact).0
    (subst (λ (h : Held). IsIn h fact) (same_held c.union-after.result c.holding-before.result (sym c.eq.ensures ∙ c.if-eq.true)) ((c.union-after.ensures.members fact).1 (inr has))))
