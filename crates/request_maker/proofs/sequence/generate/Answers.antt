use Rattle.std.proofs.Common.{◌≡◌, ◌+◌, ◌++◌, ◌∙◌, refl, sym, ap, List, ℕ}
use Rattle.request_maker.specs.Generated.{generated, number_at, request_from, successor}
use Rattle.request_maker.proofs.Steps.{generated-next, number_at-next}
use Rattle.request_maker.proofs.sequence.generate.Goals as goal

pub loop-made-init : goal.loop-made-init
unfolding generated number_at
loop-made-init c = (c.empty-text.ensures, refl)

pub loop-made-preserved : goal.loop-made-preserved
loop-made-preserved c =
    let made = c.loop-made.made in
    let drawn : c.successor-number.result ≡ number_at c.args.seed (made + 1)
    = c.successor-number.ensures ∙ ap successor c.loop-made.invariant.1 ∙ sym (number_at-next c.args.seed made) in
    let text : c.put_from.new.text ≡ generated (made + 1) c.args.seed
    = c.in_ok-put_from.ensures ∙ ap (λ (xs : List ℕ). xs ++ request_from (made + 1) c.successor-number.result) c.loop-made.invariant.0
    ∙ ap (λ (x : ℕ). generated made c.args.seed ++ request_from (made + 1) x) drawn ∙ sym (generated-next made c.args.seed) in
    (text, drawn)
