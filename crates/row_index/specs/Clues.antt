-- Numbers that are worked out from keys.
use Rattle.std.specs.Prelude.{◌+◌, ◌*◌, ◌%◌, ◌^◌, ℕ, List, fold}

-- a clue with one number more in it
abbrev pub mixed : ℕ → ℕ → ℕ
mixed clue number = (clue * 1099511628211 % 2 ^ 64 + number) % 2 ^ 64

abbrev pub text_clue : List ℕ → ℕ
text_clue text = fold mixed 0 text

abbrev pub number_clue : ℕ → ℕ → ℕ → ℕ
number_clue kind first second = mixed (mixed kind first) second
