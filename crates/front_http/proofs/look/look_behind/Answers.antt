use Rattle.std.proofs.Common.{List, ℕ, ◌<◌, ◌≤◌, length, take, ap, subst, ◌∙◌}
use Rattle.front_http.proofs.Looking.{known_part, known_whole}
use Rattle.front_http.proofs.look.look_behind.Goals as goal

pub returns-then-head-rest : goal.returns-then-head-rest
returns-then-head-rest c =
    known_part c.args.held.now c.args.head c.requires (subst (λ (rest : List ℕ). length rest < c.args.head.body) c.behind-rest.ensures c.if-head-rest.true)

pub returns : goal.returns
returns c =
    known_whole c.args.held.now c.args.head c.in_ok-body.body c.requires (subst (λ (rest : List ℕ). c.args.head.body ≤ length rest) c.behind-rest.ensures c.if-head-rest.false)
    (c.in_ok-body.ensures ∙ ap (take c.args.head.body) c.behind-rest.ensures)
