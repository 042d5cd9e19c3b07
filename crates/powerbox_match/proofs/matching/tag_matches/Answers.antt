use Rattle.std.proofs.Common.{arith}
use Rattle.std.proofs.lemmas.Grind.{common_steps}
use Rattle.powerbox_match.specs.Value.{tag_data}
use Rattle.powerbox_match.proofs.Counted.{one_within, most_for_as, tags_more}
use Rattle.powerbox_match.proofs.matching.tag_matches.Goals as goal
use Rattle.powerbox_match.proofs.matching.tag_matches.Goals.{else-id-via-then-id+else-value_matches, else-id-via-else-id}

pub returns-then-value_matches-clause-counted : goal.returns-then-value_matches-clause-counted
returns-then-value_matches-clause-counted g c =
    let x = c.tag-item.result in
    let more = tags_more c.args.wanted.now.1 c.args.given.now c.loop-tag.tag-index x (omega arith) c.tag-item.is in
    let alike = most_for_as (tag_data c.sorted.result.now) (tag_data c.sorted-then-id.result.now) c.args.wanted.now.1 x.1 c.sorted.ensures.weight c.sorted.ensures.lists c.sorted-then-id.ensures.weight c.sorted-then-id.ensures.lists in
    let compared = c.value_matches.ensures.counted in
    let so_far = c.loop-tag.invariant.counted in
    omega arith

pub loop-tag-preserved : goal.loop-tag-preserved
loop-tag-preserved g c =
    let v = c.args.wanted.now.1 in
    let gs = c.args.given.now in
    let i = c.loop-tag.tag-index in
    let x = c.tag-item.result in
    let more = tags_more v gs i x (omega arith) c.tag-item.is in
    let so_far = c.loop-tag.invariant.counted in
    let ticked = c.tick.ensures in
    record {
      same = grind (arith, common_steps);
      counted = elim c.else-id.branch [
        | else-id-via-then-id+else-value_matches w ↦
            let alike = most_for_as (tag_data w.sorted.result.now) (tag_data w.sorted-then-id.result.now) v x.1 w.sorted.ensures.weight w.sorted.ensures.lists w.sorted-then-id.ensures.weight w.sorted-then-id.ensures.lists in
            let compared = w.value_matches.ensures.counted in
            omega arith
        | else-id-via-else-id w ↦ let one = one_within v x.1 in omega arith
      ];
    }
