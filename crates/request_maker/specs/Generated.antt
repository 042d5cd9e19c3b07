-- The requests that a seed gives.
use Rattle.std.specs.Prelude.{ℕ, zero, suc, ◌+◌, ◌*◌, ◌/◌, ◌%◌, ◌^◌, ◌++◌, List, []}
use Rattle.request_maker.specs.Requests.{request}

-- the number that follows a number
abbrev pub successor : ℕ → ℕ
successor x = (x * 6364136223846793005 + 1442695040888963407) % 2 ^ 64

-- the numbers that follow the seed, by their place; the seed is at place 0
unfoldable pub number_at : ℕ → ℕ → ℕ
number_at seed zero = seed
number_at seed (suc place) = successor (number_at seed place)

-- The request at a place with this number: of the number's upper 31 bits, the lowest three choose the kind, and the others are
-- what is drawn for it.
abbrev pub request_from : ℕ → ℕ → List ℕ
request_from place x = let upper = x / 2 ^ 33 in request place (upper % 8) (upper / 8)

-- so many requests of a seed, one behind the other
unfoldable pub generated : ℕ → ℕ → List ℕ
generated zero seed = []
generated (suc count) seed = generated count seed ++ request_from (suc count) (number_at seed (suc count))
