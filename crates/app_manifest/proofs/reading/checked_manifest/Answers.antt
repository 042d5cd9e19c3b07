use Rattle.std.proofs.Common.{◌≡◌, None, Some, length, sym, ap, ◌∙◌, rules, arith}
use Rattle.app_manifest.specs.Checks.{too_many, double_name, long_set, second_that}
use Rattle.app_manifest.specs.ReadParts.{manifest_draft}
use Rattle.app_manifest.proofs.Sets.{second_default_is, last_fault}
use Rattle.app_manifest.proofs.reading.checked_manifest.Goals as goal

pub returns-in-Some-second_default-clause-fault : goal.returns-in-Some-second_default-clause-fault
returns-in-Some-second_default-clause-fault c =
    let draft = manifest_draft c.args.read in
    let few : too_many draft ≡ None = search rules in
    let names : double_name draft.permissions ≡ None = search rules in
    let count : length draft.permissions ≡ c.len-count.result = omega arith in
    let short : long_set (length draft.permissions) draft.roles ≡ None = ap (λ n. long_set n draft.roles) count ∙ c.in_ok-roles.ensures.ok in
    let here : second_that (λ role. role.default) c.in_ok-roles.roles.items ≡ Some c.in-Some-second_default.place = search rules in
    last_fault draft (Some c.in-Some-second_default.place) few names short (second_default_is draft.roles ∙ ap (second_that (λ role. role.default)) (sym c.in_ok-roles.ensures.roles) ∙ here)

pub returns-clause-ok : goal.returns-clause-ok
returns-clause-ok c =
    let draft = manifest_draft c.args.read in
    let few : too_many draft ≡ None = search rules in
    let names : double_name draft.permissions ≡ None = search rules in
    let count : length draft.permissions ≡ c.len-count.result = omega arith in
    let short : long_set (length draft.permissions) draft.roles ≡ None = ap (λ n. long_set n draft.roles) count ∙ c.in_ok-roles.ensures.ok in
    let here : second_that (λ role. role.default) c.in_ok-roles.roles.items ≡ None = search rules in
    last_fault draft None few names short (second_default_is draft.roles ∙ ap (second_that (λ role. role.default)) (sym c.in_ok-roles.ensures.roles) ∙ here)
