-- One more number of a sequence, and one more request.
use Rattle.std.proofs.Common.{◌≡◌, ◌+◌, ◌++◌, ℕ, refl, add-one}
use Rattle.request_maker.specs.Generated.{generated, number_at, request_from, successor}

pub number_at-next : (seed place : ℕ) → number_at seed (place + 1) ≡ successor (number_at seed place)
unfolding number_at
number_at-next seed place = rw add-one refl

pub generated-next : (count seed : ℕ) → generated (count + 1) seed ≡ generated count seed ++ request_from (count + 1) (number_at seed (count + 1))
unfolding generated
generated-next count seed = rw add-one refl
