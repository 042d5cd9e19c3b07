use Rattle.std.proofs.Common.{List, Contains, subst}
use Rattle.std.specs.List.{AllZip}
use Rattle.share_graph.proofs.Coherence.{coherent}
use Rattle.share_graph.specs.declared.facts.Fact.{Fact}
use Rattle.share_graph.specs.declared.facts.Node.TheVariants as node
use Rattle.report_desk.specs.Reasons.{IsReason}
use Rattle.report_desk.proofs.reasons.reasons_of.Goals as goal

pub reasons_for-requires-clause-coherent : goal.reasons_for-requires-clause-coherent
reasons_for-requires-clause-coherent c = coherent c.args.tables.now c.requires.checked

pub reasons_for-requires-clause-held : goal.reasons_for-requires-clause-held
reasons_for-requires-clause-held c fact listed =
    let is = (c.in_ok-facts.ensures.exact fact).0 (subst (λ (xs : List Fact). Contains xs fact) c.as_slice.ensures.value listed) in
    (c.requires.solved.solution (node.User c.args.grain c.args.account) fact).0 ((c.held_on-held.ensures fact).0 is)

pub returns : goal.returns
returns c =
    let t = c.args.tables.now in
    let facts = c.in_ok-facts.facts.items in
    let same = c.requires.solved.solution (node.User c.args.grain c.args.account) in
    let each : AllZip (IsReason t c.args.grain c.args.account) facts c.in_ok-reasons.reasons.items =
    subst (λ (xs : List Fact). AllZip (IsReason t c.args.grain c.args.account) xs c.in_ok-reasons.reasons.items) c.as_slice.ensures.value c.in_ok-reasons.ensures in
    record {
      facts = facts;
      exact = λ fact. (
        λ listed. (same fact).0 ((c.held_on-held.ensures fact).0 ((c.in_ok-facts.ensures.exact fact).0 listed)),
        λ holds. (c.in_ok-facts.ensures.exact fact).1 ((c.held_on-held.ensures fact).1 ((same fact).1 holds)),
      );
      ascend = c.in_ok-facts.ensures.ascend;
      each = rw c.new.ensures each;
    }
