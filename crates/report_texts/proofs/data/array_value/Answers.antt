use Rattle.std.proofs.Common.{List, map, ap, ◌∙◌}
use Rattle.std.proofs.lemmas.List.{take_all}
use Rattle.serde_json.specs.Data.{array}
use Rattle.serde_json.specs.View.{items_of}
use Rattle.serde_json.proofs.Views.{view-Array}
use Rattle.report_texts.specs.Terms.{Data}
use Rattle.report_texts.proofs.Arrays.{items_of_map}
use Rattle.report_texts.proofs.data.array_value.Goals as goal

pub returns : goal.returns
returns g c =
    let shown = g.T.AsJson.shown in
    let items = c.args.items.now in
    view-Array c.loop-item.values
    ∙ ap (λ (shapes : List Data). array (items_of shapes)) (c.loop-item.invariant ∙ ap (map shown) (take_all c.loop-item.item-index items c.loop-item-test.false))
    ∙ ap array (items_of_map shown items)
