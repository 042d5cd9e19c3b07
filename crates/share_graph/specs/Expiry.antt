-- Grants that end by themselves, at a moment in seconds.
use Rattle.std.specs.Prelude.{◌<◌, ℕ, Option, Some, None}

-- at the moment the expiry hasn't come; without one it never comes
abbrev pub Lasts : ℕ → Option ℕ → Type 0
Lasts now None = Unit {0}
Lasts now (Some end) = now < end

-- an expiry is a moment from 1 on
abbrev pub IsExpiry : Option ℕ → Type 0
IsExpiry None = Unit {0}
IsExpiry (Some end) = 0 < end
