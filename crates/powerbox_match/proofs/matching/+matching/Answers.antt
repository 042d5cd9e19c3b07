use Rattle.std.proofs.Common.{rules, ◌≡◌, true, false, None, ◌+◌, ◌*◌, ◌≤◌, length, drop, refl, sym, ◌∙◌, arith}
use Rattle.powerbox_match.specs.declared.value.TagValue.TheViews.{the_lemmas}
use Rattle.powerbox_match.proofs.Views.{tag_data-Number, tag_data-Fields, tag_data-Items}
use Rattle.powerbox_match.specs.Value.{number, fields, items, nesting, fields_nesting, items_nesting, tag_data, fields_data, items_data}
use Rattle.powerbox_match.specs.Sorted.{is_in_order, is_sorted, are_fields_sorted, are_items_sorted}
use Rattle.powerbox_match.specs.Matching.{get_field, value_matches, any_item}
use Rattle.powerbox_match.specs.Steps.{fields_not_below, items_not_before, most_for_values, most_for_fields}
use Rattle.powerbox_match.proofs.Tidy.{items_sorted_at, fields_sorted_at, items_nesting_at, fields_nesting_at}
use Rattle.powerbox_match.proofs.Merge.{is_met, fields_match_more, get_field_sorted, fields_not_below_again, is_ascending-fields_not_below, are_fields_sorted-fields_not_below}
use Rattle.powerbox_match.proofs.Order.{is_before}
use Rattle.powerbox_match.proofs.Walk.{begins_with_number-any_item, items_not_before_again, are_definite-in_order, all_match_any, is_in_order-not_before, are_items_sorted-not_before, are_definite-not_before, items_match_more, none_from, unmet_first, goes_on}
use Rattle.powerbox_match.proofs.Counted.{fields_within, items_within, fields_light, items_light, other_within, field_spent, field_passed, item_spent, among_more}
use Rattle.powerbox_match.proofs.matching.+matching.Goals as goal
use Rattle.powerbox_match.proofs.matching.+matching.Goals.{fields_match-in_default-via-in-None-1, fields_match-in_default-via-in-Some+else-not-value_matches}

pub fields_match-first_named-requires : goal.fields_match-first_named-requires
fields_match-first_named-requires g t c =
    let rest = c.loop-field.rest.now in
    record {
      ascending = rw c.fields_not_below-rest.ensures.rest (is_ascending-fields_not_below c.field-item.result.0 rest c.loop-field.invariant.ascending);
      from_there = rw c.fields_not_below-rest.ensures.rest (fields_not_below_again c.field-item.result.0 rest);
    }

pub fields_match-value_matches-requires : goal.fields_match-value_matches-requires
fields_match-value_matches-requires g t c =
    let ws = c.args.wanted.now in
    let i = c.loop-field.field-index in
    let x = c.field-item.result in
    let here : nesting (tag_data x.1) ≤ fields_nesting (fields_data ws) = rw c.field-item.is (fields_nesting_at ws i x (omega arith)) in
    let sorted : are_fields_sorted (fields_data c.fields_not_below-rest.result.now) ≡ true = rw c.fields_not_below-rest.ensures.rest (are_fields_sorted-fields_not_below x.0 c.loop-field.rest.now c.loop-field.invariant.sorted) in
    λ κs h. (omega arith, (h, (rw c.field-item.is (fields_sorted_at ws i x (omega arith) c.requires.wanted_sorted), get_field_sorted x.0 (fields_data c.fields_not_below-rest.result.now) _ c.in-Some.ensures sorted)))

pub fields_match-returns-in-loop-field : goal.fields_match-returns-in-loop-field
fields_match-returns-in-loop-field g t c =
    let x = c.field-item.result in
    let rest = c.loop-field.rest.now in
    let met : is_met (tag_data x.1) (get_field x.0 (fields_data c.fields_not_below-rest.result.now)) ≡ false = rw (← c.in-Some.ensures) (sym c.value_matches.ensures.answer ∙ c.if-not-value_matches.true) in
    let unmet : is_met (tag_data x.1) (get_field x.0 (fields_data (fields_not_below x.0 rest))) ≡ false = rw (← c.fields_not_below-rest.ensures.rest) met in
    let more = fields_match_more c.args.wanted.now c.loop-field.field-index x rest false (omega arith) c.field-item.is c.requires.wanted_ascending unmet in
    let gs = fields_data c.args.given.now in
    let left = c.fields_not_below-rest.result.now in
    let light = fields_light c.args.given.now rest left x.0 c.fields_not_below-rest.ensures.rest c.loop-field.invariant.light c.loop-field.invariant.few in
    let there = other_within x.0 left c.in-Some.other.now c.in-Some.ensures in
    let spent = field_spent c.args.wanted.now gs c.loop-field.field-index x (tag_data c.in-Some.other.now) (omega arith) c.field-item.is (omega arith) (omega arith) in
    let walked = c.fields_not_below-rest.ensures.counted in
    let compared = c.value_matches.ensures.counted in
    let before = c.loop-field.invariant.counted in
    record {
      answer = sym more ∙ c.loop-field.invariant.same;
      counted = omega arith;
    }

pub fields_match-loop-field-preserved : goal.fields_match-loop-field-preserved
fields_match-loop-field-preserved g t c =
    let x = c.field-item.result in
    let rest = c.loop-field.rest.now in
    let left = c.fields_not_below-rest.result.now in
    let is : left ≡ fields_not_below x.0 rest = c.fields_not_below-rest.ensures.rest in
    let met : is_met (tag_data x.1) (get_field x.0 (fields_data left)) ≡ true = elim c.in_default.branch [
      | fields_match-in_default-via-in-None-1 w ↦ let none : None ≡ get_field x.0 (fields_data left) = search rules in rw (← none)
      | fields_match-in_default-via-in-Some+else-not-value_matches w ↦ rw (← w.in-Some.ensures) (sym w.value_matches.ensures.answer ∙ w.if-not-value_matches.false)
    ] in
    let met_there : is_met (tag_data x.1) (get_field x.0 (fields_data (fields_not_below x.0 rest))) ≡ true = rw (← is) met in
    let more = fields_match_more c.args.wanted.now c.loop-field.field-index x rest true (omega arith) c.field-item.is c.requires.wanted_ascending met_there in
    let ws = c.args.wanted.now in
    let gs = fields_data c.args.given.now in
    let i = c.loop-field.field-index in
    let light = fields_light c.args.given.now rest left x.0 is c.loop-field.invariant.light c.loop-field.invariant.few in
    let walked = c.fields_not_below-rest.ensures.counted in
    let before = c.loop-field.invariant.counted in
    let counted : c.in_default.steps + length left + (2 * length (drop (i + 1) ws) + most_for_fields (fields_data (drop (i + 1) ws)) gs) ≤ c.args.steps.now + 2 * length ws + length c.args.given.now + most_for_fields (fields_data ws) gs = elim c.in_default.branch [
      | fields_match-in_default-via-in-None-1 w ↦ let passed = field_passed ws gs i x (omega arith) c.field-item.is in omega arith
      | fields_match-in_default-via-in-Some+else-not-value_matches w ↦
          let there = other_within x.0 left w.in-Some.other.now w.in-Some.ensures in
          let spent = field_spent ws gs i x (tag_data w.in-Some.other.now) (omega arith) c.field-item.is (omega arith) (omega arith) in
          let compared = w.value_matches.ensures.counted in
          omega arith
    ] in
    record {
      ascending = rw is (is_ascending-fields_not_below x.0 rest c.loop-field.invariant.ascending);
      sorted = rw is (are_fields_sorted-fields_not_below x.0 rest c.loop-field.invariant.sorted);
      same = rw is (sym more ∙ c.loop-field.invariant.same);
      light = light.0;
      few = light.1;
      counted = counted;
    }

pub value_matches-returns-in-Fields-Fields : goal.value_matches-returns-in-Fields-Fields
value_matches-returns-in-Fields-Fields g t c =
    let fs = c.deref.result.now in
    let gs = c.deref-in-Fields-Fields.result.now in
    let wanted : tag_data c.args.wanted.now ≡ fields (fields_data fs) = rw c.deref.ensures.value (search (rules, the_lemmas, tag_data-Fields)) in
    let given : tag_data c.args.given.now ≡ fields (fields_data gs) = rw c.deref-in-Fields-Fields.ensures.value (search (rules, the_lemmas, tag_data-Fields)) in
    let answer : c.fields_match.result ≡ value_matches (fields (fields_data fs)) (fields (fields_data gs)) = c.fields_match.ensures.answer in
    let most = fields_within fs gs in
    let compared = c.fields_match.ensures.counted in
    let counted : c.fields_match.new.steps ≤ c.args.steps.now + most_for_values (fields (fields_data fs)) (fields (fields_data gs)) = omega arith in
    rw (wanted, given) (record { answer = answer; counted = counted })

pub value_matches-returns-in-Items-Items-clause-counted : goal.value_matches-returns-in-Items-Items-clause-counted
value_matches-returns-in-Items-Items-clause-counted g t c =
    let vs = c.deref-in-Items-Items.result.now in
    let ws = c.deref-in-Items-Items-2.result.now in
    let wanted : tag_data c.args.wanted.now ≡ items (items_data vs) = rw c.deref-in-Items-Items.ensures.value (search (rules, the_lemmas, tag_data-Items)) in
    let given : tag_data c.args.given.now ≡ items (items_data ws) = rw c.deref-in-Items-Items-2.ensures.value (search (rules, the_lemmas, tag_data-Items)) in
    let most = items_within vs ws in
    let compared = c.items_match.ensures.counted in
    let counted : c.items_match.new.steps ≤ c.args.steps.now + most_for_values (items (items_data vs)) (items (items_data ws)) = omega arith in
    rw (wanted, given) counted

pub items_match-returns-then-begins_with_any : goal.items_match-returns-then-begins_with_any
items_match-returns-then-begins_with_any g t c =
    record {
      answer = sym (all_match_any (items_data c.args.wanted.now) (items_data c.args.given.now) (sym c.begins_with_any.ensures ∙ c.if-begins_with_any.true));
      counted = omega arith;
    }

pub items_match-loop-item-init : goal.items_match-loop-item-init
items_match-loop-item-init g t c =
    record {
      in_order = c.requires.given_in_order;
      sorted = c.requires.given_sorted;
      definite = are_definite-in_order (items_data c.args.given.now) c.requires.given_in_order (sym c.begins_with_any.ensures ∙ c.if-begins_with_any.false);
      same = refl;
      light = omega arith;
      few = omega arith;
      counted = omega arith;
    }

pub items_match-some_item_matches-requires : goal.items_match-some_item_matches-requires
items_match-some_item_matches-requires g t c =
    let ws = c.args.wanted.now in
    let i = c.loop-item.item-index in
    let x = c.item-item.result in
    let rest = c.loop-item.rest.now in
    let here : nesting (tag_data x) ≤ items_nesting (items_data ws) = rw c.item-item.is (items_nesting_at ws i x (omega arith)) in
    let sorted : is_sorted (tag_data x) ≡ true = rw c.item-item.is (items_sorted_at ws i x (omega arith) c.requires.wanted_sorted) in
    let in_order : is_in_order (items_data c.items_not_before-rest.result.now) ≡ true = rw c.items_not_before-rest.ensures.rest (is_in_order-not_before (tag_data x) rest c.loop-item.invariant.in_order) in
    let inside : are_items_sorted (items_data c.items_not_before-rest.result.now) ≡ true = rw c.items_not_before-rest.ensures.rest (are_items_sorted-not_before (tag_data x) rest c.loop-item.invariant.sorted) in
    λ κs h. (omega arith, (h, (sorted, (in_order, (inside, rw c.items_not_before-rest.ensures.rest (items_not_before_again (tag_data x) rest))))))

pub items_match-returns-then-not-some_item_matches :
    goal.items_match-returns-then-not-some_item_matches
items_match-returns-then-not-some_item_matches g t c =
    let x = c.item-item.result in
    let rest = c.loop-item.rest.now in
    let met : any_item (λ w. value_matches (tag_data x) w) (items_data (items_not_before (tag_data x) rest)) ≡ false = rw (← c.items_not_before-rest.ensures.rest) (sym c.some_item_matches.ensures.answer ∙ c.if-not-some_item_matches.true) in
    let more = items_match_more c.args.wanted.now c.loop-item.item-index x rest false (omega arith) c.item-item.is c.requires.wanted_in_order c.loop-item.invariant.definite met in
    let left = c.items_not_before-rest.result.now in
    let light = items_light c.args.given.now rest left (tag_data x) c.items_not_before-rest.ensures.rest c.loop-item.invariant.light c.loop-item.invariant.few in
    let spent = item_spent c.args.wanted.now (items_data c.args.given.now) (items_data left) c.loop-item.item-index x (omega arith) c.item-item.is light.0 light.1 in
    let walked = c.items_not_before-rest.ensures.counted in
    let compared = c.some_item_matches.ensures.counted in
    let before = c.loop-item.invariant.counted in
    record {
      answer = sym more ∙ c.loop-item.invariant.same;
      counted = omega arith;
    }

pub items_match-loop-item-preserved : goal.items_match-loop-item-preserved
items_match-loop-item-preserved g t c =
    let x = c.item-item.result in
    let rest = c.loop-item.rest.now in
    let is : c.items_not_before-rest.result.now ≡ items_not_before (tag_data x) rest = c.items_not_before-rest.ensures.rest in
    let met : any_item (λ w. value_matches (tag_data x) w) (items_data (items_not_before (tag_data x) rest)) ≡ true = rw (← is) (sym c.some_item_matches.ensures.answer ∙ c.if-not-some_item_matches.false) in
    let more = items_match_more c.args.wanted.now c.loop-item.item-index x rest true (omega arith) c.item-item.is c.requires.wanted_in_order c.loop-item.invariant.definite met in
    let left = c.items_not_before-rest.result.now in
    let light = items_light c.args.given.now rest left (tag_data x) is c.loop-item.invariant.light c.loop-item.invariant.few in
    let spent = item_spent c.args.wanted.now (items_data c.args.given.now) (items_data left) c.loop-item.item-index x (omega arith) c.item-item.is light.0 light.1 in
    let walked = c.items_not_before-rest.ensures.counted in
    let compared = c.some_item_matches.ensures.counted in
    let before = c.loop-item.invariant.counted in
    record {
      in_order = rw is (is_in_order-not_before (tag_data x) rest c.loop-item.invariant.in_order);
      sorted = rw is (are_items_sorted-not_before (tag_data x) rest c.loop-item.invariant.sorted);
      definite = rw is (are_definite-not_before (tag_data x) rest c.loop-item.invariant.definite);
      same = rw is (sym more ∙ c.loop-item.invariant.same);
      light = light.0;
      few = light.1;
      counted = omega arith;
    }

pub matches_one_of-value_matches-requires : goal.matches_one_of-value_matches-requires
matches_one_of-value_matches-requires g t c =
    let ws = c.args.given.now in
    let x = c.item-item.result in
    let sorted : is_sorted (tag_data x) ≡ true = rw c.item-item.is (items_sorted_at ws c.loop-item.item-index x (omega arith) c.requires.given_sorted) in
    λ κs h. (omega arith, (h, (c.requires.wanted_sorted, sorted)))

pub matches_one_of-returns-then-is_lt : goal.matches_one_of-returns-then-is_lt
matches_one_of-returns-then-is_lt g t c =
    let v = tag_data c.args.wanted.now in
    let x = c.item-item.result in
    let other : value_matches v (tag_data x) ≡ false = sym c.value_matches.ensures.answer ∙ c.if-value_matches.false in
    let before : is_before v (tag_data x) ≡ true = rw (← c.item_order.ensures) (sym c.is_lt.ensures ∙ c.if-is_lt.true) in
    let more = among_more v c.args.given.now c.loop-item.item-index x (omega arith) c.item-item.is in
    let compared = c.value_matches.ensures.counted in
    let so_far = c.loop-item.invariant.counted in
    record {
      answer = sym (none_from v c.args.given.now c.loop-item.item-index x (omega arith) c.item-item.is c.requires.given_in_order other before) ∙ c.loop-item.invariant.same;
      counted = omega arith;
    }

pub matches_one_of-returns-then-value_matches-clause-counted : goal.matches_one_of-returns-then-value_matches-clause-counted
matches_one_of-returns-then-value_matches-clause-counted g t c =
    let v = tag_data c.args.wanted.now in
    let more = among_more v c.args.given.now c.loop-item.item-index c.item-item.result (omega arith) c.item-item.is in
    let compared = c.value_matches.ensures.counted in
    let so_far = c.loop-item.invariant.counted in
    omega arith

pub matches_one_of-loop-item-preserved : goal.matches_one_of-loop-item-preserved
matches_one_of-loop-item-preserved g t c =
    let v = tag_data c.args.wanted.now in
    let ws = c.args.given.now in
    let i = c.loop-item.item-index in
    let x = c.item-item.result in
    let other : value_matches v (tag_data x) ≡ false = sym c.value_matches.ensures.answer ∙ c.if-value_matches.false in
    let after : is_before v (tag_data x) ≡ false = rw (← c.item_order.ensures) (sym c.is_lt.ensures ∙ c.if-is_lt.false) in
    let list = goes_on v ws i x (omega arith) c.item-item.is c.requires.from_there c.loop-item.invariant.start other after in
    let more = among_more v ws i x (omega arith) c.item-item.is in
    let compared = c.value_matches.ensures.counted in
    let so_far = c.loop-item.invariant.counted in
    record {
      same = sym (unmet_first v ws i x (omega arith) c.item-item.is other) ∙ c.loop-item.invariant.same;
      start = λ e. absurd (omega arith);
      counted = omega arith;
    }

pub some_item_matches-returns-in-Number : goal.some_item_matches-returns-in-Number
some_item_matches-returns-in-Number g t c =
    let n = c.in-Number.number in
    let is : tag_data c.args.wanted.now ≡ number n = search (rules, the_lemmas, tag_data-Number) in
    let from : items_not_before (number n) c.args.given.now ≡ c.args.given.now = rw (← is) c.requires.from_there in
    record {
      answer = c.begins_with_number.ensures.answer ∙ rw is (begins_with_number-any_item n c.args.given.now from c.requires.given_in_order);
      counted = let one = c.begins_with_number.ensures.counted in rw is (omega arith);
    }
