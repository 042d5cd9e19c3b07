use Rattle.std.proofs.Common.{◌≡◌, ◌<◌, ◌+◌, ◌++◌, ◌∷◌, [], ℕ, Bool, false, List, length, get_or, vec_len, refl, sym, ◌∙◌, ap, subst, arith}
use Rattle.share_graph.proofs.Walks.{at_place}
use Rattle.access_report.specs.Pruning.{IsKeptIf}
use Rattle.access_report.proofs.KeptSteps.{KeptBelow, kept_next, kept_all}
use Rattle.access_report.proofs.pruning.kept_by.Goals as goal

pub loop-place-preserved : goal.loop-place-preserved
loop-place-preserved c =
    let steps = c.args.steps.now in
    let old = c.loop-place.kept.items in
    let new = c.keep_if.new.kept.items in
    let places : List ℕ = c.loop-place.places.items in
    let n : ℕ = c.loop-place.place in
    let step = c.index-steps-place.result in
    let long = c.requires.marks.long in
    let within = c.requires.within in
    let less = c.loop-place-test.true in
    let below : n < length steps = omega arith in
    let there = at_place steps steps n step refl below c.index-steps-place.is in
    let mark : Bool = get_or c.args.marks.now n false in
    let does = subst (λ (ps : List ℕ). IsKeptIf mark ps step old new) c.as_slice.ensures.value c.in_ok-keep_if.ensures in
    let next = kept_next steps c.args.marks.now c.requires.marks.closed old places n c.loop-place.invariant step there mark new refl does in
    let len : vec_len c.loop-place.kept ≡ length old = omega (arith, c.loop-place.kept.ok.0) in
    let same : c.push.new.self.items ≡ places ++ length old ∷ [] = c.in_ok-push.ensures.items ∙ ap (λ (k : ℕ). places ++ k ∷ []) (c.len-next.ensures ∙ len) in
    subst (λ (ps : List ℕ). KeptBelow steps c.args.marks.now new ps (n + 1)) (sym same) next

pub returns : goal.returns
returns c =
    kept_all c.args.steps.now c.args.last c.args.marks.now c.loop-place.kept.items c.loop-place.places.items c.loop-place.place c.requires.marks c.loop-place-test.false c.loop-place.auto.place-end
    c.loop-place.invariant
