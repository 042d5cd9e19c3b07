use Rattle.std.proofs.Common.{◌≡◌, ◌++◌, length, ap, ◌∙◌, arith}
use Rattle.grain_program.proofs.Texts.{held_all}
use Rattle.grain_program.proofs.reading.read_on.Goals as goal

pub pieces-preserved : goal.pieces-preserved
pieces-preserved g c = record {
  counts = omega arith;
  same = λ left told.
      let held = c.pieces.invariant.same left told in
      let more = c.in-Ok-true.ensures.given held.rest held.told_is in
      record { rest = more.rest; told_is = more.told_is; same = more.same ∙ held.same };
}

pub returns-in-Ok-false-clause-given : goal.returns-in-Ok-false-clause-given
returns-in-Ok-false-clause-given g c = λ left told.
    let held = c.pieces.invariant.same left told in
    let more = c.in-Ok-false.ensures.given held.rest held.told_is in
    let all : c.pieces.held.items ≡ c.args.held.now.items ++ left = held_all (c.args.held.now.items ++ left) c.pieces.held.items held.rest held.same (more.end c.in-Ok-false.field-0-test).1 in
    omega (arith, ap length all)
