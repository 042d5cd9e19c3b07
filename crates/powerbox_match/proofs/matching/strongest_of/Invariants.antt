use Rattle.std.proofs.Common.{◌≡◌, ◌+◌, ◌≤◌, drop, take}
use Rattle.powerbox_match.specs.Comparisons.{most_comparisons}
use Rattle.powerbox_match.specs.Matching.{some_match}
use Rattle.powerbox_match.specs.Steps.{strongest}
use Rattle.powerbox_match.proofs.matching.strongest_of.Given as goal

abbrev pub invariant-loop-wanted : goal.invariant-loop-wanted
invariant-loop-wanted g l =
    record {
      found : l.found ≡ strongest (λ q. some_match q (take l.wanted-index l.query) l.offers);
      counted : l.steps + most_comparisons (drop l.wanted-index l.query) l.offers ≤ l.initial.steps + most_comparisons l.query l.offers;
    }
