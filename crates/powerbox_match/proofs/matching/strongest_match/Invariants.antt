use Rattle.std.proofs.Common.{◌≡◌, ◌+◌, ◌≤◌, suc, drop, take}
use Rattle.powerbox_match.specs.Comparisons.{tags_weight, tags_lists, weight_of, lists_of}
use Rattle.powerbox_match.specs.Matching.{matches_with}
use Rattle.powerbox_match.specs.Steps.{most_by, strongest}
use Rattle.powerbox_match.proofs.matching.strongest_match.Given as goal

abbrev pub invariant-loop-offer : goal.invariant-loop-offer
invariant-loop-offer g l =
    record {
      found : l.found ≡ strongest (λ q. matches_with q l.wanted (take l.offer-index l.offers));
      counted : l.steps + most_by (suc (tags_weight l.wanted.tags)) (suc (tags_lists l.wanted.tags)) (weight_of (drop l.offer-index l.offers)) (lists_of (drop l.offer-index l.offers))
          ≤ l.initial.steps + most_by (suc (tags_weight l.wanted.tags)) (suc (tags_lists l.wanted.tags)) (weight_of l.offers) (lists_of l.offers);
    }
