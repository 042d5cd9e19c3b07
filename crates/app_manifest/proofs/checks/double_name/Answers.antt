use Rattle.std.proofs.Common.{◌≡◌, true, false, take, sym, ◌∙◌}
use Rattle.std.specs.List.{list_any}
use Rattle.std.specs.Str.{bytes_eq}
use Rattle.app_manifest.proofs.FirstPlace.{none_more, first_here}
use Rattle.app_manifest.proofs.checks.double_name.Goals as goal

pub returns-then-is_named_in : goal.returns-then-is_named_in
returns-then-is_named_in c =
    let permission = c.index-permissions-place.result in
    let named : list_any (λ earlier. bytes_eq permission.name earlier.name) (take c.loop-place.place c.args.permissions.now) ≡ true = rw (← c.as_str.ensures.text) (sym c.is_named_in.ensures ∙ c.if-is_named_in.true) in
    sym (first_here _ c.args.permissions.now c.loop-place.place permission c.loop-place-test.true c.index-permissions-place.is c.loop-place.invariant named)

pub loop-place-preserved : goal.loop-place-preserved
loop-place-preserved c =
    let permission = c.index-permissions-place.result in
    let named : list_any (λ earlier. bytes_eq permission.name earlier.name) (take c.loop-place.place c.args.permissions.now) ≡ false = rw (← c.as_str.ensures.text) (sym c.is_named_in.ensures ∙ c.if-is_named_in.false) in
    none_more _ c.args.permissions.now c.loop-place.place permission c.loop-place-test.true c.index-permissions-place.is c.loop-place.invariant named
