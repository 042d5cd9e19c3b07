use Rattle.std.proofs.Common.{sym, subst}
use Rattle.hub_core.specs.Sharing.{Past, state_of}
use Rattle.row_tables.specs.Kept.{IsStored}
use Rattle.hub_core.proofs.locked.Locked.from_state.Goals as goal

pub invariant_of-result : goal.invariant_of-result
invariant_of-result g c =
    (subst (λ (past : Past). IsStored c.args.held.tell.keeping (state_of past).tables) (sym c.in-Ok.ensures) c.requires.stored, c.requires.outlive)
