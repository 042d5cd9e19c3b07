use Rattle.std.proofs.Common.{◌≡◌, true, sym, ◌∙◌, arith}
use Rattle.powerbox_match.specs.Matching.{matches_with}
use Rattle.powerbox_match.specs.Steps.{is_unacceptable}
use Rattle.powerbox_match.proofs.Counted.{query_more}
use Rattle.powerbox_match.proofs.Strongest.{strongest_more, unacceptable_stays}
use Rattle.powerbox_match.proofs.matching.strongest_of.Goals as goal

pub returns-then-is_unacceptable-clause-answer : goal.returns-then-is_unacceptable-clause-answer
returns-then-is_unacceptable-clause-answer g c =
    let last : is_unacceptable c.loop-wanted.found ≡ true = sym c.is_unacceptable.ensures ∙ c.if-is_unacceptable.true in
    unacceptable_stays (λ q wanted. matches_with q wanted c.args.offers.now) c.args.query.now c.loop-wanted.wanted-index c.loop-wanted.found c.loop-wanted.invariant.found last

pub loop-wanted-preserved : goal.loop-wanted-preserved
loop-wanted-preserved g c =
    let offers = c.args.offers.now in
    let more = strongest_more offers c.args.query.now c.loop-wanted.wanted-index c.wanted-item.result (omega arith) c.wanted-item.is in
    let step = query_more c.args.query.now offers c.loop-wanted.wanted-index c.wanted-item.result (omega arith) c.wanted-item.is in
    let compared = c.strongest_match.ensures.counted in
    let so_far = c.loop-wanted.invariant.counted in
    record {
      found = c.stronger-found.ensures ∙ rw (c.loop-wanted.invariant.found, c.strongest_match.ensures.answer) (sym more);
      counted = omega arith;
    }
