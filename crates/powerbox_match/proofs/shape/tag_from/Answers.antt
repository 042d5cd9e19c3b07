use Rattle.std.proofs.Common.{◌≡◌, Some, sym, ap, ◌∙◌}
use Rattle.std.specs.Prelude.{codes}
use Rattle.serde_json.specs.Find.{get}
use Rattle.serde_json.specs.View.{view}
use Rattle.powerbox_match.specs.Value.{tag_data}
use Rattle.powerbox_match.specs.Shape.{value_or_any}
use Rattle.powerbox_match.proofs.Nesting.{nesting-value_or_any}
use Rattle.powerbox_match.proofs.Tidy.{within_from}
use Rattle.powerbox_match.proofs.shape.tag_from.Goals as goal

pub new-requires : goal.new-requires
new-requires c =
    let found = get (codes "value") (view c.args.item.now) in
    let stated : value_or_any found ≡ Some (tag_data c.in_ok-value.value) = ap value_or_any (sym c.get-2.ensures) ∙ c.in_ok-value.ensures.ok in
    within_from (tag_data c.in_ok-value.value) (nesting-value_or_any found (tag_data c.in_ok-value.value) c.requires stated) c.in_ok-value.ensures.tidy
