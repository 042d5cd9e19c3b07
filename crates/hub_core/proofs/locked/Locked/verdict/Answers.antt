use Rattle.std.proofs.Common.{subst}
use Rattle.desk_base.specs.Terms.{IsWellFormed}
use Rattle.hub_core.proofs.Revoking.{spares}
use Rattle.hub_core.proofs.locked.Locked.verdict.Goals as goal

pub returns-clause-formed : goal.returns-clause-formed
returns-clause-formed g c = rw (← c.self.view_is) (subst IsWellFormed c.state.ensures.value c.state.ensures.formed)

pub returns-clause-spared : goal.returns-clause-spared
returns-clause-spared g c =
    let past = c.self.inside.history in
    rw (← c.self.view_is) (spares past.start past.entries c.state.result.now c.state.ensures.value c.state.ensures.formed c.args.key.now c.verdict.result c.verdict.ensures.verdict)
