use Rattle.std.proofs.Common.{◌≡◌, ◌++◌, ◌∷◌, [], ℕ, List, Option, Some, length, sym, ◌∙◌, ap, subst, arith}
use Rattle.std.specs.BTreeMap.{Updates}
use Rattle.access_report.specs.declared.step.Step.{Step}
use Rattle.access_report.specs.Placing.{ArePlaced, key_cmp}
use Rattle.access_report.proofs.Traced.{placed_push}
use Rattle.access_report.proofs.trace.Trace.add.Goals as goal

pub invariant_of-self-2 : goal.invariant_of-self-2
invariant_of-self-2 c =
    let steps = c.self.inside.steps.items in
    let s = c.args.step in
    let place = c.in-Ok.place in
    let here : place ≡ length steps = omega (arith, c.self.inside.steps.ok.0, c.in-Ok.ensures) in
    let updates = subst (λ (o : Option ℕ). Updates key_cmp c.self.inside.places c.insert.new.self (s.node, o) (Some place)) c.position.ensures c.in_ok-insert.ensures.updates in
    subst (λ (xs : List Step). ArePlaced xs c.insert.new.self.entries) (sym (c.push_reserved.ensures.items ∙ ap (λ (xs : List Step). xs ++ s ∷ []) c.in_ok-reserve.ensures.items))
    (placed_push steps s place c.self.inside.places c.insert.new.self c.self.invariant here updates)
