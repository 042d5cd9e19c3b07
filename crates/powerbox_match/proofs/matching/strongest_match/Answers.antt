use Rattle.std.proofs.Common.{◌≡◌, ◌&&◌, true, sym, ◌∙◌, arith}
use Rattle.std.proofs.lemmas.Grind.{common_steps}
use Rattle.powerbox_match.specs.Matching.{descriptor_matches, pair_quality, same_quality}
use Rattle.powerbox_match.specs.Steps.{is_unacceptable}
use Rattle.powerbox_match.specs.Comparisons.{tags_weight, tags_lists}
use Rattle.powerbox_match.proofs.Counted.{offer_more}
use Rattle.powerbox_match.proofs.Strongest.{unacceptable_stays}
use Rattle.powerbox_match.proofs.matching.strongest_match.Goals as goal

pub returns-then-is_unacceptable-clause-answer : goal.returns-then-is_unacceptable-clause-answer
returns-then-is_unacceptable-clause-answer g c =
    let wanted = c.args.wanted.now in
    let last : is_unacceptable c.loop-offer.found ≡ true = sym c.is_unacceptable.ensures ∙ c.if-is_unacceptable.true in
    unacceptable_stays (λ q offer. descriptor_matches wanted offer && same_quality (pair_quality wanted.quality offer.quality) q) c.args.offers.now c.loop-offer.offer-index c.loop-offer.found c.loop-offer.invariant.found last

pub loop-offer-preserved : goal.loop-offer-preserved
loop-offer-preserved g c =
    let wanted = c.args.wanted.now in
    let step = offer_more (tags_weight wanted.tags) (tags_lists wanted.tags) c.args.offers.now c.loop-offer.offer-index c.offer-item.result (omega arith) c.offer-item.is in
    let compared = c.descriptor_matches.ensures.counted in
    let so_far = c.loop-offer.invariant.counted in
    let ticked = c.tick.ensures in
    record {
      found = grind (arith, common_steps);
      counted = omega arith;
    }
