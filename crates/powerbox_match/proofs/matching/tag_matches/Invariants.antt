use Rattle.std.proofs.Common.{◌≡◌, ◌+◌, ◌≤◌, suc, drop}
use Rattle.powerbox_match.specs.Comparisons.{weight, lists, tags_weight, tags_lists}
use Rattle.powerbox_match.specs.Matching.{tag_matches}
use Rattle.powerbox_match.specs.Steps.{most_by}
use Rattle.powerbox_match.proofs.matching.tag_matches.Given as goal

abbrev pub invariant-loop-tag : goal.invariant-loop-tag
invariant-loop-tag g l =
    record {
      same : tag_matches l.wanted (drop l.tag-index l.given) ≡ tag_matches l.wanted l.given;
      counted : l.steps + most_by (suc (weight l.wanted.1)) (suc (lists l.wanted.1)) (tags_weight (drop l.tag-index l.given)) (tags_lists (drop l.tag-index l.given))
          ≤ l.initial.steps + most_by (suc (weight l.wanted.1)) (suc (lists l.wanted.1)) (tags_weight l.given) (tags_lists l.given);
    }
