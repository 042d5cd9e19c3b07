use Rattle.std.proofs.Common.{length, refl}
use Rattle.std.proofs.lemmas.List.Elements.{All-contains, All-from_all_within, AllWithin-more, AllWithin-upto, at_read}
use Rattle.share_graph.proofs.Contained.{contains_at}
use Rattle.share_graph.proofs.Walks.{at_place}
use Rattle.share_graph.specs.Derivation.{IsMetBy}
use Rattle.least_access.proofs.Lacking.{not_so}
use Rattle.access_report.specs.Steps.{Cites}
use Rattle.access_report.proofs.needs.are_met.Goals as goal

pub returns-then-not-is_met : goal.returns-then-not-is_met
returns-then-not-is_met c =
    let Met = IsMetBy c.args.tables.now (Cites c.args.steps.now c.args.before c.args.from.now) in
    let need = c.need-item.result in
    let there = at_place c.args.needs.now c.args.needs.now c.loop-need.need-index need refl c.loop-need-test.true c.need-item.is in (
      λ h. cc,
      λ all. absurd (not_so (Met need) c.is_met.result c.is_met.ensures c.if-not-is_met.true (All-contains Met c.args.needs.now need all (contains_at c.args.needs.now c.loop-need.need-index need there))),
    )

pub loop-need-preserved : goal.loop-need-preserved
loop-need-preserved c =
    let Met = IsMetBy c.args.tables.now (Cites c.args.steps.now c.args.before c.args.from.now) in
    AllWithin-more Met c.args.needs.now 0 c.loop-need.need-index c.loop-need.invariant
    (at_read c.args.needs.now Met c.loop-need.need-index c.need-item.result c.loop-need-test.true c.need-item.is (c.is_met.ensures.0 c.if-not-is_met.false))

pub returns : goal.returns
returns c =
    let Met = IsMetBy c.args.tables.now (Cites c.args.steps.now c.args.before c.args.from.now) in (
      λ h. All-from_all_within Met c.args.needs.now (AllWithin-upto Met c.args.needs.now 0 c.loop-need.need-index (length c.args.needs.now) c.loop-need-test.false c.loop-need.invariant),
      λ all. cc,
    )
