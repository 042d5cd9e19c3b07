use Rattle.std.proofs.Common.{arith}
use Rattle.region_work.proofs.Emptied.{total_room_le}
use Rattle.region_work.proofs.waiting.Waiting.new.Goals as goal

pub invariant_of-result : goal.invariant_of-result
invariant_of-result c =
    let room = total_room_le c.in_ok-found.found.entries in
    let len = c.len.ensures.len in
    let len-2 = c.len-2.ensures.len in
    let exact = c.in-Ok.ensures.exact in
    let none = c.in-Ok.ensures.len in
    omega arith
