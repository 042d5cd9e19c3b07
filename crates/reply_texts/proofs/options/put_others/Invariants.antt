use Rattle.std.proofs.Common.{◌≡◌, ◌∷◌, ◌++◌, take}
use Rattle.std.specs.Prelude.{flat_map}
use Rattle.reply_texts.specs.Options.{item_text}
use Rattle.reply_texts.proofs.options.put_others.Given as goal

abbrev pub invariant-loop-other : goal.invariant-loop-other
invariant-loop-other l =
    l.text ≡ l.initial.text ++ flat_map (λ other. 44 ∷ item_text other) (take l.other-index l.listed)
