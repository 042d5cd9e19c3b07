use Rattle.std.proofs.Common.{◌+◌, refl, sym, add-one, arith}
use Rattle.std.proofs.lemmas.Bool.{false≢true}
use Rattle.share_graph.specs.declared.facts.Fact.TheVariants.{Perm}
use Rattle.report_desk.proofs.Facts.{all_before, one_less, one_more}
use Rattle.report_desk.proofs.reasons.facts_of.Goals as goal
use Rattle.report_desk.proofs.reasons.facts_of.Goals.{then-has+in_ok-push-2, else-has}

pub loop-pos-preserved : goal.loop-pos-preserved
loop-pos-preserved c =
    let pos = c.loop-pos.pos in
    elim c.if-has.branch [
      | then-has+in_ok-push-2 w ↦
          one_more c.args.held.now c.loop-pos.facts.items c.if-has.facts.items (pos + 1) (Perm pos) c.loop-pos.invariant (sym (add-one pos)) (w.if-has.ensures.0 refl) (cc w.in_ok-push-2.ensures.items)
      | else-has w ↦
          one_less c.args.held.now c.loop-pos.facts.items c.if-has.facts.items (pos + 1) (Perm pos) c.loop-pos.invariant (sym (add-one pos)) (λ has. false≢true (w.if-has.ensures.1 has)) (cc)
    ]

pub returns : goal.returns
returns c = all_before c.args.held.now c.loop-pos.facts.items _ c.loop-pos.invariant (omega arith)
