use Rattle.std.proofs.Common.{◌∙◌, ℕ, ap}
use Rattle.std.specs.Prelude.{◌==◌}
use Rattle.hub_core.proofs.Ticking.{ends_where_seeds}
use Rattle.hub_core.proofs.history.ends_some.Goals as goal

pub returns : goal.returns
returns c =
    ends_where_seeds c.args.state.now.tables c.args.moment c.in_ok-seeds.seeds.items c.in_ok-seeds.ensures c.is_empty.result
    (c.is_empty.ensures ∙ ap (λ (n : ℕ). n == 0) c.in_ok-seeds.seeds.ok.0)
