use Rattle.std.proofs.Common.{refl, sym, ◌∙◌}
use Rattle.app_manifest.proofs.FirstPlace.{none_more, first_here}
use Rattle.app_manifest.proofs.checks.second_default.Goals as goal
use Rattle.app_manifest.proofs.checks.second_default.Goals.{else-role-via-then-role+else-has_default, else-role-via-else-role}

pub returns-then-has_default : goal.returns-then-has_default
returns-then-has_default c =
    sym (first_here _ c.args.roles.now c.loop-place.place c.index-roles-place.result c.loop-place-test.true c.index-roles-place.is c.loop-place.invariant (rw c.if-role.true (sym c.has_default.ensures ∙ c.if-has_default.true)))

pub loop-place-preserved : goal.loop-place-preserved
loop-place-preserved c =
    let more = none_more _ c.args.roles.now c.loop-place.place c.index-roles-place.result c.loop-place-test.true c.index-roles-place.is c.loop-place.invariant in
    elim c.else-role.branch [
      | else-role-via-then-role+else-has_default w ↦ more (rw w.if-role.true (sym w.has_default.ensures ∙ w.if-has_default.false))
      | else-role-via-else-role w ↦ more (rw w.if-role.false refl)
    ]
