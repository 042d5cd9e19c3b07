use Rattle.std.proofs.Common.{◌≡◌, ◌++◌, ◌∷◌, [], ℕ, ◌≤◌, true, List, None, map, ap, sym, subst, ◌∙◌, arith}
use Rattle.powerbox_match.specs.declared.value.TagValue.{TagValue}
use Rattle.powerbox_match.specs.Value.{TagData, tag_data, field_data, fields_data, items_data, nesting, fields_nesting, items_nesting, is_tidy}
use Rattle.powerbox_match.proofs.Tidy.{fields_nesting_at, items_nesting_at, fields_tidy_at, items_tidy_at}
use Rattle.row_formats.proofs.Puts.{puts_on_seen}
use Rattle.row_formats.proofs.Fits.{fits_more_seen, all_fit_seen}
use Rattle.row_codec.specs.ValueFormat.{value, entry}
use Rattle.row_codec.proofs.Joined.{then_put}
use Rattle.row_codec.proofs.Written.{deep, write_any, write_number, write_text, write_fields, write_items_of}
use Rattle.row_codec.proofs.Fitting.{fit_any, fit_number, fit_text, fit_fields, fit_items, fields_fit, items_fit, tidy_fields, tidy_items}
use Rattle.row_codec.proofs.Views.{seen_any, seen_number, seen_text, seen_fields, seen_items}
use Rattle.row_codec.proofs.values.+put_value.Goals as goal

pub put_fields-put_field-requires : goal.put_fields-put_field-requires
put_fields-put_field-requires t c =
    let at : nesting (tag_data c.field-item.result.1) ≤ fields_nesting (fields_data c.args.fields.now) = rw c.field-item.is (fields_nesting_at c.args.fields.now c.loop-field.field-index c.field-item.result c.loop-field-test.true) in
    (omega arith, omega (arith, at, c.requires))

pub put_fields-loop-field-preserved : goal.put_fields-loop-field-preserved
put_fields-loop-field-preserved t c =
    let now = subst (λ (x : List ℕ × TagValue). c.put_field.new.writer ≡ c.loop-field.writer ++ (entry (value c.args.depth) None).write (field_data x)) c.field-item.is c.in_ok-put_field.ensures.written in
    let fit = subst (λ (x : List ℕ × TagValue). is_tidy (tag_data x.1) ≡ true → (entry (value c.args.depth) None).fits (field_data x)) c.field-item.is c.in_ok-put_field.ensures.fits in
    record {
      written = puts_on_seen field_data (λ last. (entry (value c.args.depth) last).write) c.args.fields.now c.loop-field.field-index c.field-item.result _ _ _ c.loop-field-test.true c.loop-field.invariant.written now;
      fit = λ tidy.
          fits_more_seen field_data (entry (value c.args.depth) None).fits c.args.fields.now c.loop-field.field-index c.field-item.result c.loop-field-test.true (c.loop-field.invariant.fit tidy)
          (fit (fields_tidy_at c.args.fields.now c.loop-field.field-index c.field-item.result c.loop-field-test.true tidy));
    }

pub put_fields-returns-clause-fits : goal.put_fields-returns-clause-fits
put_fields-returns-clause-fits t c tidy =
    let parts = tidy_fields (map field_data c.args.fields.now) tidy in
    fields_fit (value c.args.depth) (map field_data c.args.fields.now) tidy (all_fit_seen field_data (entry (value c.args.depth) None).fits c.args.fields.now c.loop-field.field-index c.loop-field-test.false (c.loop-field.invariant.fit parts))

pub put_items-put_value-requires : goal.put_items-put_value-requires
put_items-put_value-requires t c =
    let at : nesting (tag_data c.item-item.result) ≤ items_nesting (items_data c.args.items.now) = rw c.item-item.is (items_nesting_at c.args.items.now c.loop-item.item-index c.item-item.result c.loop-item-test.true) in
    (omega arith, omega (arith, at, c.requires))

pub put_items-loop-item-preserved : goal.put_items-loop-item-preserved
put_items-loop-item-preserved t c =
    let now = subst (λ (x : TagValue). c.put_value.new.writer ≡ c.loop-item.writer ++ (value c.args.depth).write (tag_data x)) c.item-item.is c.in_ok-put_value.ensures.written in
    let fit = subst (λ (x : TagValue). is_tidy (tag_data x) ≡ true → (value c.args.depth).fits (tag_data x)) c.item-item.is c.in_ok-put_value.ensures.fits in
    record {
      written = puts_on_seen tag_data (λ last. (value c.args.depth).write) c.args.items.now c.loop-item.item-index c.item-item.result _ _ _ c.loop-item-test.true c.loop-item.invariant.written now;
      fit = λ tidy.
          fits_more_seen tag_data (value c.args.depth).fits c.args.items.now c.loop-item.item-index c.item-item.result c.loop-item-test.true (c.loop-item.invariant.fit tidy)
          (fit (items_tidy_at c.args.items.now c.loop-item.item-index c.item-item.result c.loop-item-test.true tidy));
    }

pub put_items-returns-clause-fits : goal.put_items-returns-clause-fits
put_items-returns-clause-fits t c tidy =
    let parts = tidy_items (map tag_data c.args.items.now) tidy in
    items_fit (value c.args.depth) (map tag_data c.args.items.now) tidy (all_fit_seen tag_data (value c.args.depth).fits c.args.items.now c.loop-item.item-index c.loop-item-test.false (c.loop-item.invariant.fit parts))

pub put_value-returns-in_ok-u8-in-Any-clause-written : goal.put_value-returns-in_ok-u8-in-Any-clause-written
put_value-returns-in_ok-u8-in-Any-clause-written t c =
    c.in_ok-u8-in-Any.ensures ∙ ap (λ (bs : List ℕ). c.args.writer.now ++ bs) (sym (write_any c.args.depth (tag_data c.args.written.now) (seen_any c.args.written.now c.in-Any.is) (deep c.args.depth (tag_data c.args.written.now) c.requires)))

pub put_value-returns-in_ok-u8-in-Any-clause-fits : goal.put_value-returns-in_ok-u8-in-Any-clause-fits
put_value-returns-in_ok-u8-in-Any-clause-fits t c tidy =
    fit_any c.args.depth (tag_data c.args.written.now) (seen_any c.args.written.now c.in-Any.is) (deep c.args.depth (tag_data c.args.written.now) c.requires)

pub put_value-returns-in_ok-put_number-in-Number-clause-written : goal.put_value-returns-in_ok-put_number-in-Number-clause-written
put_value-returns-in_ok-put_number-in-Number-clause-written t c =
    then_put _ (1 ∷ []) _ c.u8-in-Number.new.self _ _ c.in_ok-u8-in-Number.ensures c.in_ok-put_number-in-Number.ensures.written
    (write_number c.args.depth (tag_data c.args.written.now) c.in-Number.number (seen_number c.args.written.now c.in-Number.number c.in-Number.is) (deep c.args.depth (tag_data c.args.written.now) c.requires))

pub put_value-returns-in_ok-put_number-in-Number-clause-fits : goal.put_value-returns-in_ok-put_number-in-Number-clause-fits
put_value-returns-in_ok-put_number-in-Number-clause-fits t c tidy =
    fit_number c.args.depth (tag_data c.args.written.now) c.in-Number.number (seen_number c.args.written.now c.in-Number.number c.in-Number.is) (deep c.args.depth (tag_data c.args.written.now) c.requires) c.in_ok-put_number-in-Number.ensures.fits

pub put_value-returns-in_ok-name-in-Text-clause-written : goal.put_value-returns-in_ok-name-in-Text-clause-written
put_value-returns-in_ok-name-in-Text-clause-written t c =
    then_put _ (2 ∷ []) _ c.u8-in-Text.new.self _ _ c.in_ok-u8-in-Text.ensures c.in_ok-name-in-Text.ensures.written
    (write_text c.args.depth (tag_data c.args.written.now) c.in-Text.text (seen_text c.args.written.now c.in-Text.text c.in-Text.is) (deep c.args.depth (tag_data c.args.written.now) c.requires))

pub put_value-returns-in_ok-name-in-Text-clause-fits : goal.put_value-returns-in_ok-name-in-Text-clause-fits
put_value-returns-in_ok-name-in-Text-clause-fits t c tidy =
    fit_text c.args.depth (tag_data c.args.written.now) c.in-Text.text (seen_text c.args.written.now c.in-Text.text c.in-Text.is) (deep c.args.depth (tag_data c.args.written.now) c.requires) c.in_ok-name-in-Text.ensures.fits

pub put_value-returns-in_ok-put_fields-in-Fields-clause-written : goal.put_value-returns-in_ok-put_fields-in-Fields-clause-written
put_value-returns-in_ok-put_fields-in-Fields-clause-written t c =
    let now = rw c.deref.ensures.value at c.in_ok-put_fields-in-Fields.ensures.written in
    then_put _ (3 ∷ []) _ c.u8-in-Fields.new.self _ _ c.in_ok-u8-in-Fields.ensures now
    (write_fields c.args.depth (tag_data c.args.written.now) (map field_data c.in-Fields.fields.items) (seen_fields c.args.written.now c.in-Fields.fields c.in-Fields.is) (deep c.args.depth (tag_data c.args.written.now) c.requires))

pub put_value-returns-in_ok-put_fields-in-Fields-clause-fits : goal.put_value-returns-in_ok-put_fields-in-Fields-clause-fits
put_value-returns-in_ok-put_fields-in-Fields-clause-fits t c tidy =
    let fit = rw c.deref.ensures.value at c.in_ok-put_fields-in-Fields.ensures.fits in
    let seen = seen_fields c.args.written.now c.in-Fields.fields c.in-Fields.is in
    fit_fields c.args.depth (tag_data c.args.written.now) (map field_data c.in-Fields.fields.items) seen (deep c.args.depth (tag_data c.args.written.now) c.requires) (fit (subst (λ (d : TagData). is_tidy d ≡ true) seen tidy))

pub put_value-returns-in_ok-put_items-in-Items-clause-written : goal.put_value-returns-in_ok-put_items-in-Items-clause-written
put_value-returns-in_ok-put_items-in-Items-clause-written t c =
    let now = rw c.deref-in-Items.ensures.value at c.in_ok-put_items-in-Items.ensures.written in
    then_put _ (4 ∷ []) _ c.u8-in-Items.new.self _ _ c.in_ok-u8-in-Items.ensures now
    (write_items_of c.args.depth (tag_data c.args.written.now) (map tag_data c.in-Items.items.items) (seen_items c.args.written.now c.in-Items.items c.in-Items.is) (deep c.args.depth (tag_data c.args.written.now) c.requires))

pub put_value-returns-in_ok-put_items-in-Items-clause-fits : goal.put_value-returns-in_ok-put_items-in-Items-clause-fits
put_value-returns-in_ok-put_items-in-Items-clause-fits t c tidy =
    let fit = rw c.deref-in-Items.ensures.value at c.in_ok-put_items-in-Items.ensures.fits in
    let seen = seen_items c.args.written.now c.in-Items.items c.in-Items.is in
    fit_items c.args.depth (tag_data c.args.written.now) (map tag_data c.in-Items.items.items) seen (deep c.args.depth (tag_data c.args.written.now) c.requires) (fit (subst (λ (d : TagData). is_tidy d ≡ true) seen tidy))
