use Rattle.std.proofs.Common.{inl, inr, refl}
use Rattle.least_access.proofs.Lacking.{not_so}
use Rattle.desk_base.specs.Roles.{HasRoleFault, SetsAreShort}
use Rattle.desk_base.proofs.Words.{handed_on}
use Rattle.desk_base.proofs.roles.given_by.Goals as goal

pub returns-in_err-given_base : goal.returns-in_err-given_base
unfolding HasRoleFault
returns-in_err-given_base c =
    handed_on _ (HasRoleFault c.args.manifest.now c.args.assignment.now) c.from_residual.result c.in_err-given_base.field-0.0 c.from_residual.ensures.1 (inl c.in_err-given_base.ensures)

pub returns-then-not-sets_are_short : goal.returns-then-not-sets_are_short
unfolding HasRoleFault
returns-then-not-sets_are_short c =
    inr (refl, c.in_ok-given_base.ensures, not_so (SetsAreShort c.args.manifest.now c.args.assignment.now) c.sets_are_short.result c.sets_are_short.ensures c.if-not-sets_are_short.true)

pub returns : goal.returns
returns c = record { given = c.in_ok-given_base.ensures; sets = c.sets_are_short.ensures.0 c.if-not-sets_are_short.false }
