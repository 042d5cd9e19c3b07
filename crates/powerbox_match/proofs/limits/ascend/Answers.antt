use Rattle.std.proofs.Common.{◌≡◌, ◌+◌, ◌-◌, true, take, drop, length, length-drop, sym, ap, ◌∙◌, arith}
use Rattle.std.proofs.lemmas.List.{take_all}
use Rattle.powerbox_match.specs.Steps.{is_below_next}
use Rattle.powerbox_match.proofs.Within.{ascending_more}
use Rattle.powerbox_match.proofs.limits.ascend.Goals as goal

pub loop-place-preserved : goal.loop-place-preserved
loop-place-preserved c =
    let fs = c.args.fields.now in
    let i = c.loop-place.place in
    let f = c.index-fields-place.result in
    let rest : take (length fs - (i + 1)) (drop (i + 1) fs) ≡ drop (i + 1) fs = take_all (length fs - (i + 1)) (drop (i + 1) fs) (omega (arith, length-drop (i + 1) fs)) in
    let next : is_below_next f.0 (drop (i + 1) fs) ≡ true = ap (is_below_next f.0) (sym rest) ∙ sym c.is_below_next.ensures ∙ c.if-not-is_below_next.false in
    sym (ascending_more fs i f true c.loop-place-test.true c.index-fields-place.is next) ∙ c.loop-place.invariant
