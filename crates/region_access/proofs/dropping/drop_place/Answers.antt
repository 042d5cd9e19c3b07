use Rattle.std.proofs.Common.{◌≡◌, ◌≢◌, ◌∙◌, rules, sym, subst}
use Rattle.share_graph.specs.declared.facts.Node.{Node}
use Rattle.least_access.specs.declared.held.Held.{Held}
use Rattle.least_access.specs.Held.{IsIn}
use Rattle.least_access.specs.Solved.{held_at}
use Rattle.region_work.proofs.Finding.{other_held, same_held}
use Rattle.region_access.proofs.Dropped.{dropped_facts, gone_place, nothing_same}
use Rattle.region_access.proofs.dropping.drop_place.Goals as goal

pub returns-then-eq-clause-own : goal.returns-then-eq-clause-own
returns-then-eq-clause-own c = gone_place c.remove.new.self.entries c.args.node c.remove.ensures.updates.1

pub returns-then-eq-clause-facts : goal.returns-then-eq-clause-facts
returns-then-eq-clause-facts c =
    let others : (at : Node) → at ≢ c.args.node → held_at c.remove.new.self.entries at ≡ held_at c.args.table.now.entries at = search rules in
    let same = same_held c.holding.result c.none.result (sym c.eq.ensures ∙ c.if-eq.true) in
    dropped_facts c.args.table.now.entries c.remove.new.self.entries c.args.node
    (λ fact h. c.none.ensures fact (subst (λ (held : Held). IsIn held fact) same ((c.holding.ensures.facts fact).1 h)))
    c.remove.ensures.updates.1 others

pub returns-else-eq-clause-own : goal.returns-else-eq-clause-own
returns-else-eq-clause-own c (held, is, none) =
    other_held c.holding.result c.none.result (sym c.eq.ensures ∙ c.if-eq.false)
    (nothing_same c.holding.result c.none.result (λ fact has. none fact (subst (λ (h : Held). IsIn h fact) (c.holding.ensures.there held is) has)) c.none.ensures)
