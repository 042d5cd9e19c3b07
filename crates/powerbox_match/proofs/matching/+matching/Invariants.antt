use Rattle.std.proofs.Common.{◌≡◌, ◌+◌, ◌*◌, ◌≤◌, IsTrue, length, drop}
use Rattle.powerbox_match.specs.Value.{nesting, fields_nesting, items_nesting, is_ascending, tag_data, fields_data, items_data}
use Rattle.powerbox_match.specs.Matching.{value_matches, fields_match, items_match, any_item}
use Rattle.powerbox_match.specs.Comparisons.{weight, lists, fields_weight, fields_lists, items_weight, items_lists}
use Rattle.powerbox_match.specs.Steps.{most_by, most_for_fields, most_for_items}
use Rattle.powerbox_match.specs.Sorted.{is_in_order, are_fields_sorted, are_items_sorted}
use Rattle.powerbox_match.proofs.Walk.{are_definite}
use Rattle.powerbox_match.proofs.matching.+matching.Given as goal

abbrev pub invariant-fields_match-loop-field : goal.invariant-fields_match-loop-field
invariant-fields_match-loop-field g l =
    record {
      ascending : IsTrue (is_ascending (fields_data l.rest));
      sorted : IsTrue (are_fields_sorted (fields_data l.rest));
      same : fields_match (fields_data (drop l.field-index l.wanted)) (fields_data l.rest) ≡ fields_match (fields_data l.wanted) (fields_data l.given);
      light : fields_weight (fields_data l.rest) ≤ fields_weight (fields_data l.given);
      few : fields_lists (fields_data l.rest) ≤ fields_lists (fields_data l.given);
      counted : l.steps + length l.rest + (2 * length (drop l.field-index l.wanted) + most_for_fields (fields_data (drop l.field-index l.wanted)) (fields_data l.given))
          ≤ l.initial.steps + 2 * length l.wanted + length l.given + most_for_fields (fields_data l.wanted) (fields_data l.given);
    }

abbrev pub invariant-items_match-loop-item : goal.invariant-items_match-loop-item
invariant-items_match-loop-item g l =
    record {
      in_order : IsTrue (is_in_order (items_data l.rest));
      sorted : IsTrue (are_items_sorted (items_data l.rest));
      definite : IsTrue (are_definite (items_data l.rest));
      same : items_match (items_data (drop l.item-index l.wanted)) (items_data l.rest) ≡ items_match (items_data l.wanted) (items_data l.given);
      light : items_weight (items_data l.rest) ≤ items_weight (items_data l.given);
      few : items_lists (items_data l.rest) ≤ items_lists (items_data l.given);
      counted : l.steps + length l.rest + (2 * length (drop l.item-index l.wanted) + most_for_items (items_data (drop l.item-index l.wanted)) (items_data l.given))
          ≤ l.initial.steps + 2 * length l.wanted + length l.given + most_for_items (items_data l.wanted) (items_data l.given);
    }

abbrev pub invariant-matches_one_of-loop-item : goal.invariant-matches_one_of-loop-item
invariant-matches_one_of-loop-item g l =
    record {
      same : any_item (λ v. value_matches (tag_data l.wanted) v) (items_data (drop l.item-index l.given)) ≡ any_item (λ v. value_matches (tag_data l.wanted) v) (items_data l.given);
      start : lists (tag_data l.wanted) ≡ 0 → l.item-index ≡ 0;
      counted : l.steps + most_by (weight (tag_data l.wanted)) (lists (tag_data l.wanted)) (items_weight (items_data (drop l.item-index l.given))) (items_lists (items_data (drop l.item-index l.given)))
          ≤ l.initial.steps + most_by (weight (tag_data l.wanted)) (lists (tag_data l.wanted)) (items_weight (items_data l.given)) (items_lists (items_data l.given));
    }

-- a value comes after the lists that it stands in, which nest as deep at least
abbrev pub decreases-value_matches : goal.decreases-value_matches
decreases-value_matches g l = 4 * nesting (tag_data l.wanted.now)

abbrev pub decreases-matches_one_of : goal.decreases-matches_one_of
decreases-matches_one_of g l = 4 * nesting (tag_data l.wanted.now) + 1

abbrev pub decreases-some_item_matches : goal.decreases-some_item_matches
decreases-some_item_matches g l = 4 * nesting (tag_data l.wanted.now) + 2

abbrev pub decreases-items_match : goal.decreases-items_match
decreases-items_match g l = 4 * items_nesting (items_data l.wanted.now) + 3

abbrev pub decreases-fields_match : goal.decreases-fields_match
decreases-fields_match g l = 4 * fields_nesting (fields_data l.wanted.now) + 3
