use Rattle.std.proofs.Common.{◌+◌, ◌≤◌, suc, arith}
use Rattle.std.proofs.lemmas.Grind.{common_steps}
use Rattle.powerbox_match.specs.Comparisons.{weight, lists, tags_weight, tags_lists}
use Rattle.powerbox_match.specs.Steps.{most_by}
use Rattle.powerbox_match.proofs.Counted.{descriptor_more}
use Rattle.powerbox_match.proofs.matching.descriptor_matches.Goals as goal

pub loop-tag-preserved : goal.loop-tag-preserved
loop-tag-preserved g c =
    let ws = c.tags-tag-items.result.now in
    let offer = c.args.given.now.tags in
    let more = descriptor_more ws (tags_weight offer) (tags_lists offer) c.loop-tag.tag-index c.tag-item.result (omega arith) c.tag-item.is in
    let compared : c.tag_matches.new.steps ≤ c.loop-tag.steps + most_by (suc (weight c.tag-item.result.1)) (suc (lists c.tag-item.result.1)) (tags_weight offer) (tags_lists offer) = rw (← c.tags.ensures.tags) c.tag_matches.ensures.counted in
    let so_far = c.loop-tag.invariant.counted in
    record {
      same = grind (arith, common_steps);
      counted = omega arith;
    }
