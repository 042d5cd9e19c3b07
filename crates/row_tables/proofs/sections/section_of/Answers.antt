use Rattle.std.proofs.Common.{arith}
use Rattle.std.proofs.lemmas.Result.{err_from_is_err_and}
use Rattle.row_tables.specs.Sections.{body_of}
use Rattle.row_tables.proofs.SectionLoop.{reads_on, stops, is_done, passes, one_more}
use Rattle.row_tables.proofs.sections.section_of.Goals as goal
use Rattle.row_tables.proofs.sections.section_of.Goals.{then-loop-at-test+else-rows-at, else-loop-at-test}

pub returns-in_err-value-clause-exact : goal.returns-in_err-value-clause-exact
returns-in_err-value-clause-exact g c =
    let p = err_from_is_err_and c.from_residual.result c.from_residual.ensures.1 in
    rw (p.1, p.2) (stops c.in_err-value.field-0.0 c.args.kind c.args.limit (body_of g.T.Stored.format) c.loop-at.values c.loop-at.next c.loop-at.at c.args.rows.now c.index-rows-at.result c.index-rows-at-in-loop-at.result _ c.loop-at-test.true c.index-rows-at-in-loop-at.is c.if-rows-at.true c.in_err-value.ensures.exact c.loop-at.invariant.so_far)

pub loop-at-preserved : goal.loop-at-preserved
loop-at-preserved g c = record {
  within = omega arith;
  numbers = omega (arith, c.in_ok-value.ensures.limited);
  bytes = λ h. one_more c.args.rows.now c.loop-at.at c.index-rows-at-in-loop-at.result c.loop-at-test.true c.index-rows-at-in-loop-at.is (c.loop-at.invariant.bytes h) c.in_ok-value.ensures.bytes;
  so_far = rw c.in_ok-push.ensures.ok (reads_on c.args.kind c.args.limit (body_of g.T.Stored.format) c.loop-at.values c.loop-at.next c.loop-at.at c.args.rows.now c.index-rows-at.result c.index-rows-at-in-loop-at.result c.in_ok-value.value _ c.loop-at-test.true c.index-rows-at-in-loop-at.is c.if-rows-at.true c.in_ok-value.ensures.exact c.loop-at.invariant.so_far);
}

pub returns-clause-exact : goal.returns-clause-exact
returns-clause-exact g c =
    elim c.loop-at-test.branch [
      | then-loop-at-test+else-rows-at w ↦ passes c.args.kind c.args.limit (body_of g.T.Stored.format) c.loop-at.values c.loop-at.next c.loop-at.at c.args.rows.now w.index-rows-at.result _ w.loop-at-test.true w.if-rows-at.false c.loop-at.invariant.so_far
      | else-loop-at-test w ↦ is_done c.args.kind c.args.limit (body_of g.T.Stored.format) c.loop-at.values c.loop-at.next c.loop-at.at c.args.rows.now _ w.loop-at-test.false c.loop-at.invariant.so_far
    ]
