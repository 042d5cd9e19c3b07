-- The numbers of an answer, at most two.
use Rattle.std.specs.Prelude.{ℕ, List, [], ◌∷◌}
use Rattle.reply_texts.specs.declared.own.Numbers.{Numbers}
use Rattle.reply_texts.specs.declared.own.Numbers.TheVariants.{Zero, One, Two}

-- as a list
abbrev pub list_of : Numbers → List ℕ
list_of Zero = []
list_of (One n) = n ∷ []
list_of (Two n m) = n ∷ m ∷ []
