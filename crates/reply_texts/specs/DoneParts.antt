-- An aid for proofs: the members of an answer as they are written, each with a comma before it.
use Rattle.std.specs.Prelude.{ℕ, List, [], ◌∷◌, Option, Some, None, option_map}
use Rattle.reply_texts.specs.Done.{number_member, text_member}

-- a member with a comma before it, where it is there
abbrev pub with_comma : Option (List ℕ) → List ℕ
with_comma None = []
with_comma (Some text) = 44 ∷ text

-- such a member with a number, and with a text
abbrev pub number_part : List ℕ → Option ℕ → List ℕ
number_part key number = with_comma (option_map (number_member key) number)

abbrev pub text_part : List ℕ → Option (List ℕ) → List ℕ
text_part key text = with_comma (option_map (text_member key) text)
