use Rattle.std.proofs.Common.{get_or, sym}
use Rattle.std.proofs.lemmas.List.{get_or_default}
use Rattle.share_graph.specs.declared.facts.Fact.{Fact}
use Rattle.share_graph.specs.declared.facts.Fact.TheVariants.{Open}
use Rattle.report_desk.specs.Reasons.{IsReason}
use Rattle.report_desk.proofs.Zipped.{zip_more}
use Rattle.report_desk.proofs.reasons.reasons_for.Goals as goal

pub loop-fact-preserved : goal.loop-fact-preserved
loop-fact-preserved c =
    let fact : Fact = get_or c.args.facts.now c.loop-fact.fact-index Open in
    zip_more (IsReason c.args.tables.now c.args.grain c.args.account) c.args.facts.now c.loop-fact.reasons.items c.push.new.self.items c.loop-fact.fact-index fact c.in_ok-reason_of.field-0
    c.loop-fact-test.true (sym (get_or_default c.args.facts.now c.loop-fact.fact-index fact Open c.loop-fact-test.true)) c.loop-fact.invariant c.in_ok-reason_of.ensures c.in_ok-push.ensures.items
