use Rattle.std.proofs.Common.{◌≡◌, [], None, Some, ap, sym, subst, ◌∙◌, arith}
use Rattle.front_http.specs.Stream.{head_length}
use Rattle.front_http.proofs.HeadEnds.{ends_at}
use Rattle.grain_program.specs.Stated.{text_of}
use Rattle.grain_program.proofs.Texts.{searched_more, no_text, no_head, held_all}
use Rattle.grain_program.proofs.reading.read_head.Goals as goal

pub returns-in-Some-clause-within : goal.returns-in-Some-clause-within
returns-in-Some-clause-within g c =
    let is : head_length c.pieces.held.items ≡ Some c.in-Some.length = ap head_length (sym c.as_slice.ensures.value) ∙ sym c.in-Some.ensures in
    (ends_at c.pieces.held.items [] c.in-Some.length is).within

pub returns-then-len-gt-TEXT_LIMIT-clause-given : goal.returns-then-len-gt-TEXT_LIMIT-clause-given
returns-then-len-gt-TEXT_LIMIT-clause-given g c = λ bytes told.
    let none : head_length c.pieces.held.items ≡ None = cc (c.as_slice.ensures.value, c.in_default.ensures) in
    let held = c.pieces.invariant.same bytes told in
    no_text c.pieces.held.items held.rest bytes none (omega arith) held.same

pub pieces-preserved : goal.pieces-preserved
pieces-preserved g c =
    let none : head_length c.pieces.held.items ≡ None = cc (c.as_slice.ensures.value, c.in_default.ensures) in
    record {
      counts = omega arith;
      searched = searched_more c.pieces.held.items c.in-Ok-true.ensures.keeps.0 c.take_piece.new.held.items c.saturating_sub-from.result none (omega arith) c.in-Ok-true.ensures.keeps.1;
      same = λ bytes told.
          let held = c.pieces.invariant.same bytes told in
          let more = c.in-Ok-true.ensures.given held.rest held.told_is in
          record { rest = more.rest; told_is = more.told_is; same = more.same ∙ held.same };
    }

pub returns-in-Ok-false-clause-given : goal.returns-in-Ok-false-clause-given
returns-in-Ok-false-clause-given g c = λ bytes told.
    let none : head_length c.pieces.held.items ≡ None = cc (c.as_slice.ensures.value, c.in_default.ensures) in
    let held = c.pieces.invariant.same bytes told in
    let more = c.in-Ok-false.ensures.given held.rest held.told_is in
    let all : c.pieces.held.items ≡ bytes = held_all bytes c.pieces.held.items held.rest held.same (more.end c.in-Ok-false.field-0-test).1 in
    subst (λ xs. text_of xs ≡ None) all (no_head c.pieces.held.items none)
