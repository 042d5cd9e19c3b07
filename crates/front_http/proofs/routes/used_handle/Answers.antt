use Rattle.std.proofs.Common.{List, ℕ, Some, ap, sym, subst}
use Rattle.front_http.specs.Routes.{IsUse}
use Rattle.front_http.proofs.routes.used_handle.Goals as goal

pub returns-in-Some-clause-whole : goal.returns-in-Some-clause-whole
returns-in-Some-clause-whole c = λ n used.
    let target : IsUse n c.as_str-2.result.now used.rest = subst (λ (t : List ℕ). IsUse n t used.rest) (sym c.as_str-2.ensures.text) used.target in
    ap Some (c.in-Some.ensures.whole n used.rest target).0

pub returns-in-None-clause-whole : goal.returns-in-None-clause-whole
returns-in-None-clause-whole c = λ n used.
    let target : IsUse n c.as_str-2.result.now used.rest = subst (λ (t : List ℕ). IsUse n t used.rest) (sym c.as_str-2.ensures.text) used.target in
    absurd (c.in-None.ensures.whole n used.rest target)
