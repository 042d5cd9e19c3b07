use Rattle.std.proofs.Common.{◌↔◌, List, Contains, subst}
use Rattle.std.proofs.lemmas.Result.{IfOk-weaker}
use Rattle.share_graph.specs.declared.facts.Node.{Node}
use Rattle.access_report.specs.Resting.{AreFedBy}
use Rattle.access_report.proofs.resting.widened.Goals as goal

pub returns : goal.returns
returns c =
    let all = c.push_all_feeders.new.nodes.items in
    let fed : AreFedBy c.args.tables.now c.args.nodes.now c.args.grants.now all =
    subst (λ (ns : List Node). AreFedBy c.args.tables.now ns c.args.grants.now all) c.in_ok-all.ensures.items c.in_ok-push_all_feeders.ensures in
    IfOk-weaker c.distinct.result _ _
    (λ wider same at.
    (let both = subst (λ (xs : List Node). Contains wider.items at ↔ Contains xs at) c.as_slice.ensures.value (same at) in
    (λ listed. (fed at).0 (both.0 listed), λ f. both.1 ((fed at).1 f)))) c.distinct.ensures.same
