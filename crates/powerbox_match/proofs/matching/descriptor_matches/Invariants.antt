use Rattle.std.proofs.Common.{◌≡◌, ◌+◌, ◌≤◌, drop}
use Rattle.std.specs.List.{list_all}
use Rattle.powerbox_match.specs.Comparisons.{tags_weight, tags_lists}
use Rattle.powerbox_match.specs.Matching.{tag_matches}
use Rattle.powerbox_match.specs.Steps.{most_by}
use Rattle.powerbox_match.proofs.matching.descriptor_matches.Given as goal

abbrev pub invariant-loop-tag : goal.invariant-loop-tag
invariant-loop-tag g l =
    record {
      same : list_all (λ t. tag_matches t l.given.tags) (drop l.tag-index l.tag-items) ≡ list_all (λ t. tag_matches t l.given.tags) l.tag-items;
      counted : l.steps + most_by (tags_weight (drop l.tag-index l.tag-items)) (tags_lists (drop l.tag-index l.tag-items)) (tags_weight l.given.tags) (tags_lists l.given.tags)
          ≤ l.initial.steps + most_by (tags_weight l.tag-items) (tags_lists l.tag-items) (tags_weight l.given.tags) (tags_lists l.given.tags);
    }
