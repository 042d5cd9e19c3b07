-- THE QUESTIONS of the lists. Each definition reads like its row of the table of commands; nothing is changed.
use Rattle.listings.specs.Terms.{answers, by_account, Caller, GrainId, Keeps, known_grain, nothing_made, State, Step}

-- accounts, applications, and the grains that the caller enters: to each account
abbrev pub Asks : State → Caller → Step → Type 0
Asks s who = by_account s who λ account. answers (Keeps nothing_made)

-- the grants on a grain: Unknown(3, n)
abbrev pub AsksOf : State → Caller → GrainId → Step → Type 0
AsksOf s who n =
    by_account s who λ account.
    known_grain s n λ grain.
    answers (Keeps nothing_made)
