use Rattle.std.proofs.Common.{◌≡◌, ◌≤◌, ◌⊎◌, ◌++◌, ℕ, Bool, List, length, take, drop, sym, ◌∙◌, ap, subst, arith}
use Rattle.std.proofs.lemmas.List.{take_all, take-append-le}
use Rattle.access_report.specs.Pruning.{AreMarks, IsMarked, IsNamed}
use Rattle.access_report.proofs.Marked.{marks_all}
use Rattle.access_report.proofs.pruning.marks_for.Goals as goal

pub returns : goal.returns
returns c =
    let old : List Bool = c.in_ok-marks.marks.items in
    let new : List Bool = c.mark_back.new.marks in
    let n : ℕ = c.in_ok-marks.marks.len in
    let slice : List Bool = c.as_mut_slice.result.now in
    let is : slice ≡ old = c.as_mut_slice.ensures.value in
    let size : length new ≡ length old = c.mark_back.auto.marks ∙ ap length is in
    let count : n ≡ length old = omega (arith, c.in_ok-marks.marks.ok.0) in
    let within : n ≤ length new = omega arith in
    let all : length new ≤ n = omega arith in
    let same : take n (new ++ drop (length new) old) ≡ new = take-append-le n new (drop (length new) old) within ∙ take_all n new all in
    subst (λ (xs : List Bool). AreMarks c.args.steps.now c.args.last xs) (sym same)
    (marks_all c.args.steps.now c.args.last old new (size ∙ c.in_ok-marks.ensures.long) c.in_ok-marks.ensures.marked c.in_ok-marks.ensures.only
    (subst (λ (xs : List Bool). (k : ℕ) → IsMarked xs k → IsMarked new k) is c.mark_back.ensures.keeps) c.mark_back.ensures.closed
    (subst (λ (xs : List Bool). (k : ℕ) → IsMarked new k → IsMarked xs k ⊎ IsNamed c.args.steps.now new k) is c.mark_back.ensures.only))
