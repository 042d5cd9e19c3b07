use Rattle.std.proofs.Common.{◌≡◌, ◌≤◌, [], ◌∷◌, ◌++◌, false, Some, length, take, string_bytes, refl, sym, ap, ◌∙◌, append_assoc, append-nil, arith, rules}
use Rattle.std.proofs.lemmas.List.{take_all}
use Rattle.std.proofs.lemmas.Result.{err_from_is_err_and}
use Rattle.serde_json.specs.View.{view, items_view, members_view}
use Rattle.serde_json.proofs.Views.{Entry}
use Rattle.plain_data.specs.Name.{is_plain}
use Rattle.powerbox_match.specs.Value.{items_data, fields_data}
use Rattle.powerbox_match.specs.Shape.{json_nesting, json_items_nesting, json_members_nesting, text_of, stated_items, stated_fields}
use Rattle.powerbox_match.proofs.Nesting.{item_nests_at_most, member_nests_at_most}
use Rattle.powerbox_match.proofs.Tidy.{Entry as Field}
use Rattle.powerbox_match.proofs.Stated.{stated_items_more, are_items_tidy-push, stated_items_none, stated_fields-push, are_fields_tidy-push, stated_fields_none, no_field_by_name, no_field_by_value}
use Rattle.powerbox_match.proofs.Ends.{array_stated, array_tidy, array_too_long, array_none, object_stated, object_tidy, object_too_long, object_none, no_text, a_text}
use Rattle.powerbox_match.proofs.reading.+reading.Goals as goal

pub items_from-value_from-requires : goal.items_from-value_from-requires
items_from-value_from-requires t c =
    let here : json_nesting (view c.item-item.result) ≤ json_items_nesting (items_view c.args.items.now) = rw c.item-item.is (item_nests_at_most c.args.items.now c.loop-item.item-index c.item-item.result (omega arith)) in
    (omega arith, omega arith)

pub fields_from-value_from-requires : goal.fields_from-value_from-requires
fields_from-value_from-requires t c =
    let e : Entry = (c.in-Some.name.now, c.in-Some.member.now) in
    let all : c.args.members.now.entries ≡ c.loop-name.invariant.done ++ e ∷ c.next.new.self = c.loop-name.invariant.all ∙ ap (λ es. c.loop-name.invariant.done ++ es) c.in-Some.ensures.steps in
    let here : json_nesting (view c.in-Some.member.now) ≤ json_members_nesting (members_view c.args.members.now.entries) = rw all (member_nests_at_most c.loop-name.invariant.done e c.next.new.self) in
    (omega arith, omega arith)

pub items_from-returns-then-items-gt-ENTRY_LIMIT-clause-fault : goal.items_from-returns-then-items-gt-ENTRY_LIMIT-clause-fault
items_from-returns-then-items-gt-ENTRY_LIMIT-clause-fault t c = λ other. (refl, array_too_long c.args.items.now (omega arith))

pub items_from-returns-in_err-value_from-clause-fault : goal.items_from-returns-in_err-value_from-clause-fault
items_from-returns-in_err-value_from-clause-fault t c =
    let p = err_from_is_err_and c.from_residual.result c.from_residual.ensures.1 in
    rw (p.1, p.2) (λ other.
    let q = c.in_err-value_from.ensures.fault other in
    (q.0, array_none (items_view c.args.items.now) (stated_items_none c.args.items.now c.loop-item.item-index c.item-item.result (omega arith) c.item-item.is q.1)))

pub items_from-loop-item-preserved : goal.items_from-loop-item-preserved
items_from-loop-item-preserved t c =
    let value = c.in_ok-value_from.field-0 in
    let old = c.loop-item.values.items in
    record {
      stated = rw c.in_ok-push.ensures.items (stated_items_more c.args.items.now c.loop-item.item-index c.item-item.result old value (omega arith) c.item-item.is c.loop-item.invariant.stated c.in_ok-value_from.ensures.ok);
      tidy = rw c.in_ok-push.ensures.items (are_items_tidy-push old value c.loop-item.invariant.tidy c.in_ok-value_from.ensures.tidy);
    }

pub items_from-returns-clause-ok : goal.items_from-returns-clause-ok
items_from-returns-clause-ok t c =
    let ds = c.args.items.now in
    let vs = c.loop-item.values.items in
    let all : take c.loop-item.item-index ds ≡ ds = take_all c.loop-item.item-index ds (omega arith) in
    let stated : stated_items (items_view ds) ≡ Some (items_data vs) = rw all at c.loop-item.invariant.stated in
    array_stated ds vs (omega arith) stated

pub items_from-returns-clause-tidy : goal.items_from-returns-clause-tidy
items_from-returns-clause-tidy t c =
    let ds = c.args.items.now in
    let vs = c.loop-item.values.items in
    let all : take c.loop-item.item-index ds ≡ ds = take_all c.loop-item.item-index ds (omega arith) in
    let stated : stated_items (items_view ds) ≡ Some (items_data vs) = rw all at c.loop-item.invariant.stated in
    array_tidy ds vs (omega arith) stated c.loop-item.invariant.tidy

pub fields_from-returns-then-len-gt-ENTRY_LIMIT-clause-fault : goal.fields_from-returns-then-len-gt-ENTRY_LIMIT-clause-fault
fields_from-returns-then-len-gt-ENTRY_LIMIT-clause-fault t c =
    let len : c.len.result ≡ length c.args.members.now.entries = search rules in
    λ other. (refl, object_too_long c.args.members.now.entries (omega arith))

pub fields_from-returns-in_default-clause-fault : goal.fields_from-returns-in_default-clause-fault
fields_from-returns-in_default-clause-fault t c =
    let e : Entry = (c.in-Some.name.now, c.in-Some.member.now) in
    let more = c.next.new.self in
    let all : c.args.members.now.entries ≡ c.loop-name.invariant.done ++ e ∷ more = c.loop-name.invariant.all ∙ ap (λ es. c.loop-name.invariant.done ++ es) c.in-Some.ensures.steps in
    let bad : is_plain (string_bytes e.0) ≡ false = no_text (string_bytes e.0) (ap text_of (sym c.as_str.ensures.value) ∙ sym c.in_ok-name.ensures ∙ c.in_default.is) in
    λ other. (refl, object_none (members_view c.args.members.now.entries) (rw all (stated_fields_none c.loop-name.invariant.done e more (no_field_by_name e more bad))))

pub fields_from-returns-in_err-value_from-clause-fault : goal.fields_from-returns-in_err-value_from-clause-fault
fields_from-returns-in_err-value_from-clause-fault t c =
    let e : Entry = (c.in-Some.name.now, c.in-Some.member.now) in
    let more = c.next.new.self in
    let all : c.args.members.now.entries ≡ c.loop-name.invariant.done ++ e ∷ more = c.loop-name.invariant.all ∙ ap (λ es. c.loop-name.invariant.done ++ es) c.in-Some.ensures.steps in
    let p = err_from_is_err_and c.from_residual-in_err-value_from.result c.from_residual-in_err-value_from.ensures.1 in
    rw (p.1, p.2) (λ other.
    let q = c.in_err-value_from.ensures.fault other in
    (q.0, object_none (members_view c.args.members.now.entries) (rw all (stated_fields_none c.loop-name.invariant.done e more (no_field_by_value e more q.1)))))

pub fields_from-loop-name-preserved : goal.fields_from-loop-name-preserved
fields_from-loop-name-preserved t c =
    let e : Entry = (c.in-Some.name.now, c.in-Some.member.now) in
    let done = c.loop-name.invariant.done in
    let old = c.loop-name.fields.items in
    let f : Field = (c.in-Some-2.name, c.in_ok-value_from.field-0) in
    let all : c.args.members.now.entries ≡ done ++ e ∷ c.next.new.self = c.loop-name.invariant.all ∙ ap (λ es. done ++ es) c.in-Some.ensures.steps in
    let good = a_text (string_bytes e.0) f.0 (ap text_of (sym c.as_str.ensures.value) ∙ sym c.in_ok-name.ensures ∙ c.in-Some-2.is) in
    record {
      done = done ++ e ∷ [];
      all = all ∙ sym (append_assoc done (e ∷ []) c.next.new.self);
      stated = rw c.in_ok-push.ensures.items (stated_fields-push done old e f c.loop-name.invariant.stated good.1 good.0 c.in_ok-value_from.ensures.ok);
      tidy = rw c.in_ok-push.ensures.items (are_fields_tidy-push old f c.loop-name.invariant.tidy c.in_ok-value_from.ensures.tidy);
    }

pub fields_from-returns-clause-ok : goal.fields_from-returns-clause-ok
fields_from-returns-clause-ok t c =
    let es = c.args.members.now.entries in
    let fs = c.loop-name.fields.items in
    let len : c.len.result ≡ length es = search rules in
    let all : es ≡ c.loop-name.invariant.done = c.loop-name.invariant.all ∙ ap (λ rest. c.loop-name.invariant.done ++ rest) c.in-None.ensures.steps.0 ∙ append-nil c.loop-name.invariant.done in
    let stated : stated_fields (members_view es) ≡ Some (fields_data fs) = rw all c.loop-name.invariant.stated in
    object_stated es fs (omega arith) stated

pub fields_from-returns-clause-tidy : goal.fields_from-returns-clause-tidy
fields_from-returns-clause-tidy t c =
    let es = c.args.members.now.entries in
    let fs = c.loop-name.fields.items in
    let len : c.len.result ≡ length es = search rules in
    let all : es ≡ c.loop-name.invariant.done = c.loop-name.invariant.all ∙ ap (λ rest. c.loop-name.invariant.done ++ rest) c.in-None.ensures.steps.0 ∙ append-nil c.loop-name.invariant.done in
    let stated : stated_fields (members_view es) ≡ Some (fields_data fs) = rw all c.loop-name.invariant.stated in
    object_tidy es fs (omega arith) c.iter-name-items.ensures.ordered stated c.loop-name.invariant.tidy
