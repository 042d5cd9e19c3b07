use Rattle.std.proofs.Common.{◌≡◌, List, ℕ, None, Some, take, ap, sym, ◌∙◌}
use Rattle.grain_program.specs.Stated.{text_length}
use Rattle.grain_program.proofs.Texts.{refused_text, cut_text, whole_text}
use Rattle.grain_program.proofs.reading.read_text.Goals as goal

pub returns-in-Ok-None-clause-text : goal.returns-in-Ok-None-clause-text
returns-in-Ok-None-clause-text g c = λ bytes told. sym (rw c.in-Ok-None.field-0-is at (c.in-Ok-None.ensures.given bytes told))

pub returns-in-Ok-None-text_length-clause-text : goal.returns-in-Ok-None-text_length-clause-text
returns-in-Ok-None-text_length-clause-text g c = λ bytes told.
    let has = rw c.in-Ok-Some.field-0-is at (c.in-Ok-Some.ensures.given bytes told) in
    let held : List ℕ = c.read_head.new.held.items in
    let n : ℕ = c.in-Ok-Some.head in
    let length_is : text_length (take n held) ≡ None = ap (λ (xs : List ℕ). text_length (take n xs)) (sym c.deref.ensures.value) ∙ sym c.in-Ok-None-text_length.ensures ∙ c.in-Ok-None-text_length.field-0-is in
    sym (refused_text held has.1.rest bytes n has.0 has.1.same length_is)

pub returns-in-Ok-true-clause-text : goal.returns-in-Ok-true-clause-text
returns-in-Ok-true-clause-text g c = λ bytes told.
    let has = rw c.in-Ok-Some.field-0-is at (c.in-Ok-Some.ensures.given bytes told) in
    let held : List ℕ = c.read_head.new.held.items in
    let n : ℕ = c.in-Ok-Some.head in
    let m : ℕ = c.in-Ok-Some-text_length.length in
    let length_is : text_length (take n held) ≡ Some m = ap (λ (xs : List ℕ). text_length (take n xs)) (sym c.deref.ensures.value) ∙ sym c.in-Ok-Some-text_length.ensures ∙ c.in-Ok-Some-text_length.field-0-is in
    let full = rw c.in-Ok-true.field-0-test at (c.in-Ok-true.ensures.given has.1.rest has.1.told_is) in
    ap Some c.truncate.ensures.items ∙ sym (whole_text held has.1.rest bytes c.read_on.new.held.items full.1.rest n m has.0 has.1.same length_is full.0 full.1.same)

pub returns-in-Ok-false-clause-text : goal.returns-in-Ok-false-clause-text
returns-in-Ok-false-clause-text g c = λ bytes told.
    let has = rw c.in-Ok-Some.field-0-is at (c.in-Ok-Some.ensures.given bytes told) in
    let held : List ℕ = c.read_head.new.held.items in
    let n : ℕ = c.in-Ok-Some.head in
    let m : ℕ = c.in-Ok-Some-text_length.length in
    let length_is : text_length (take n held) ≡ Some m = ap (λ (xs : List ℕ). text_length (take n xs)) (sym c.deref.ensures.value) ∙ sym c.in-Ok-Some-text_length.ensures ∙ c.in-Ok-Some-text_length.field-0-is in
    let few = rw c.in-Ok-false.field-0-test at (c.in-Ok-false.ensures.given has.1.rest has.1.told_is) in
    sym (cut_text held has.1.rest bytes n m has.0 has.1.same length_is few)
