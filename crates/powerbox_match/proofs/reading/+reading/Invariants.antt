use Rattle.std.proofs.Common.{◌≡◌, ◌+◌, ◌*◌, ◌++◌, List, Some, true, take}
use Rattle.serde_json.specs.View.{view, items_view, members_view}
use Rattle.serde_json.proofs.Views.{Entry}
use Rattle.powerbox_match.specs.Value.{are_items_tidy, are_fields_tidy, items_data, fields_data}
use Rattle.powerbox_match.specs.Shape.{json_nesting, json_items_nesting, json_members_nesting, stated_items, stated_fields}
use Rattle.powerbox_match.proofs.reading.+reading.Given as goal

abbrev pub invariant-items_from-loop-item : goal.invariant-items_from-loop-item
invariant-items_from-loop-item l =
    record {
      stated : stated_items (items_view (take l.item-index l.items)) ≡ Some (items_data l.values.items);
      tidy : are_items_tidy (items_data l.values.items) ≡ true;
    }

abbrev pub invariant-fields_from-loop-name : goal.invariant-fields_from-loop-name
invariant-fields_from-loop-name l =
    record {
      done : List Entry;
      all : l.members.entries ≡ done ++ l.name-iterator;
      stated : stated_fields (members_view done) ≡ Some (fields_data l.fields.items);
      tidy : are_fields_tidy (fields_data l.fields.items) ≡ true;
    }

-- a value is read after the list that it stands in, which nests as deep at most
abbrev pub decreases-value_from : goal.decreases-value_from
decreases-value_from l = 2 * json_nesting (view l.value.now)

abbrev pub decreases-items_from : goal.decreases-items_from
decreases-items_from l = 2 * json_items_nesting (items_view l.items.now) + 1

abbrev pub decreases-fields_from : goal.decreases-fields_from
decreases-fields_from l = 2 * json_members_nesting (members_view l.members.now.entries) + 1
