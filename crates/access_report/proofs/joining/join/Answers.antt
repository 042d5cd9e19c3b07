use Rattle.std.proofs.Common.{sym, ◌∙◌}
use Rattle.region_work.proofs.Finding.{other_held, same_held}
use Rattle.access_report.proofs.Joined.{joined_none, joined_some}
use Rattle.access_report.proofs.joining.join.Goals as goal

pub returns-then-eq : goal.returns-then-eq
returns-then-eq c =
    joined_none c.args.table.now.entries c.args.table.now.entries c.args.node c.holding-before.result c.args.held.now c.union-after.result c.requires c.holding-before.ensures.facts c.holding-before.ensures.there
    c.union-after.ensures.members c.union-after.ensures.room c.union-after.ensures.same (same_held c.union-after.result c.holding-before.result (sym c.eq.ensures ∙ c.if-eq.true))

pub returns : goal.returns
returns c =
    joined_some c.args.table.now.entries c.put.new.table.entries c.args.node c.holding-before.result c.args.held.now c.union-after.result c.requires c.holding-before.ensures.facts c.holding-before.ensures.there
    c.union-after.ensures.members c.union-after.ensures.room c.union-after.ensures.same (other_held c.union-after.result c.holding-before.result (sym c.eq.ensures ∙ c.if-eq.false)) c.put.ensures.same
    c.put.ensures.others c.put.ensures.room
