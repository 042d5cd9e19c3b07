use Rattle.std.proofs.Common.{◌≡◌, ℕ, List, Some, length, slice_get, refl, subst}
use Rattle.std.proofs.lemmas.Option.{slice_get_read}
use Rattle.perm_roles.specs.declared.roles.Role.{Role}
use Rattle.report_desk.proofs.passing.title_of.Goals as goal

pub returns : goal.returns
returns c =
    let role = c.in-Some-get.role.now in
    let found = c.in-Some-get.ensures.lookup in
    let at : slice_get c.as_slice.result.now c.from.result ≡ Some role = slice_get_read c.as_slice.result.now (length c.as_slice.result.now) c.from.result role refl found.3.0 found.1 in
    let there = subst (λ (k : ℕ). slice_get c.in-Some.app.now.manifest.roles k ≡ Some role) c.from.ensures (subst (λ (roles : List Role). slice_get roles c.from.result ≡ Some role) c.as_slice.ensures at) in
    (c.in-Some.app.now, c.in-Some.ensures, (role, there, c.in_ok-title.ensures.cases))
