-- What contracts see of messages in memory.
use Rattle.std.specs.Prelude.{ℕ, Bool, true, false, List, [], ◌∷◌, Some}
use Rattle.host_base.specs.CallCounts.{CallCounts}
use Rattle.ws_tunnel.specs.declared.message.Message.{Message}
use Rattle.ws_tunnel.specs.Hall.{Hall}

-- All messages from the start, those that are left, those that were put, and the calls.
pub record MemHall : Type 0 where
  pub whole : List Message
  pub left : List Message
  pub put : List Message
  pub count : CallCounts

-- whether no message is left
abbrev pub is_at_end : List Message → Bool
is_at_end [] = true
is_at_end (message ∷ messages) = false

-- what they tell
abbrev pub hall_of : MemHall → Hall
hall_of s = record { faults = s.count.faults; ended = is_at_end s.left; whole = Some s.whole; left = Some s.left; put = Some s.put }
