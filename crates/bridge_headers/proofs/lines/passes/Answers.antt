use Rattle.std.proofs.Common.{ℕ, ◌≡◌, ◌||◌, Bool, List, take, length, min, codes, ap, sym, ◌∙◌}
use Rattle.std.proofs.lemmas.List.{take_min}
use Rattle.bridge_headers.specs.Lines.{same_name, is_passed}
use Rattle.bridge_headers.proofs.lines.passes.Goals as goal

pub returns-else-is_among : goal.returns-else-is_among
unfolding is_passed
returns-else-is_among c =
    let name = c.args.name.now in
    let cut : c.min.result ≡ min 16 (length name) = cc in
    let front : take c.min.result name ≡ take 16 name = ap (λ (n : ℕ). take n name) cut ∙ take_min 16 name in
    c.is_same_name.ensures ∙ ap (λ (xs : List ℕ). same_name xs (codes "x-sandstorm-app-")) front
    ∙ ap (λ (b : Bool). b || same_name (take 16 name) (codes "x-sandstorm-app-")) (sym (sym c.is_among.ensures ∙ c.if-is_among.false))
