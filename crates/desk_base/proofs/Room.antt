-- Where a limit isn't reached there is room.
use Rattle.std.proofs.Common.{◌≡◌, ◌<◌, ℕ, Bool, true, false, Some, None, nat_le, if◌then◌else◌, refl, arith}
use Rattle.std.proofs.lemmas.Bool.Decides.{nat_tests}
use Rattle.desk_base.specs.Terms.{Kind}
use Rattle.share_graph.specs.declared.refusal.Refusal.TheVariants.{TooMany}
use Rattle.desk_base.specs.Limits.{over}

room_by : (k : Kind) (limit : ℕ) (test : Bool) → (if test then Some (TooMany k limit) else None) ≡ None → test ≡ false
room_by k limit false free = refl
room_by k limit true free = cc

pub room_of : (k : Kind) (limit count : ℕ) → over k (Some limit) count ≡ None → count < limit
room_of k limit count free = let test : nat_le limit count ≡ false = room_by k limit (nat_le limit count) free in grind (arith, nat_tests)
