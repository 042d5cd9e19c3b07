use Rattle.std.proofs.Common.{ap, subst, sym}
use Rattle.perm_roles.specs.declared.roles.Base.{Base}
use Rattle.report_desk.specs.declared.passing.GivenAs.TheVariants as shown_as
use Rattle.report_desk.specs.Reasons.{IsGivenAs}
use Rattle.report_desk.proofs.passing.given_as.Goals as goal

pub returns-in_ok-title_of-in-Role : goal.returns-in_ok-title_of-in-Role
returns-in_ok-title_of-in-Role c =
    let (app, is, (role, there, same)) = c.in_ok-title_of-in-Role.ensures in
    subst (λ (b : Base). IsGivenAs c.args.tables.now c.args.grain b (shown_as.Role c.in_ok-title_of-in-Role.field-0)) (sym c.in-Role.is) (app, is, (role, there, ap shown_as.Role same))
