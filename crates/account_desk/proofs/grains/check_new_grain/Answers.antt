use Rattle.std.proofs.Common.{inl, inr, refl}
use Rattle.desk_base.proofs.Stopped.{stopped}
use Rattle.account_desk.specs.Commands.{NewGrain, grain_step}
use Rattle.account_desk.proofs.grains.check_new_grain.Goals as goal

pub returns-in_err-has_room : goal.returns-in_err-has_room
returns-in_err-has_room c =
    let owner = c.in_ok-owner.ensures in
    stopped (NewGrain c.args.state.now c.args.caller.now c.args.app c.args.title.now) (grain_step c.args.state.now.tables c.args.app c.args.title.now) c.from_residual-in_err-has_room.result
    c.in_err-has_room.field-0.0 c.from_residual-in_err-has_room.ensures.1
    (inr (_, owner.one, inr (owner.enabled, inr (_, c.in_ok-known_app.ensures, inl (_, refl, rw c.as_slice.ensures at c.in_err-has_room.ensures)))))
