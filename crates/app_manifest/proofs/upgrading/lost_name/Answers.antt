use Rattle.std.proofs.Common.{◌≡◌, true, false, not, sym, ap, ◌∙◌}
use Rattle.app_manifest.specs.Upgrade.{has_name_at}
use Rattle.app_manifest.proofs.FirstPlace.{none_more, first_here}
use Rattle.app_manifest.proofs.upgrading.lost_name.Goals as goal

pub returns-then-not-has_name_at : goal.returns-then-not-has_name_at
returns-then-not-has_name_at c =
    let permission = c.index-old-place.result in
    let named : has_name_at c.args.new.now c.loop-place.place permission.name ≡ false = rw (← c.as_str.ensures.text) (sym c.has_name_at.ensures ∙ c.if-not-has_name_at.true) in
    sym (first_here _ c.args.old.now c.loop-place.place permission c.loop-place-test.true c.index-old-place.is c.loop-place.invariant (ap not named))

pub loop-place-preserved : goal.loop-place-preserved
loop-place-preserved c =
    let permission = c.index-old-place.result in
    let named : has_name_at c.args.new.now c.loop-place.place permission.name ≡ true = rw (← c.as_str.ensures.text) (sym c.has_name_at.ensures ∙ c.if-not-has_name_at.false) in
    none_more _ c.args.old.now c.loop-place.place permission c.loop-place-test.true c.index-old-place.is c.loop-place.invariant (ap not named)
