-- What is known of the messages of a tunnel.
use Rattle.std.specs.Prelude.{◌≡◌, ℕ, Bool, true, false, List, Option, Some, drop, slice_get}
use Rattle.ws_tunnel.specs.declared.message.Message.{Message}
use Rattle.ws_tunnel.specs.declared.message.Message.TheVariants.{Text, Binary}

-- the bytes of a message
abbrev pub bytes_of : Message → List ℕ
bytes_of (Text bytes) = bytes
bytes_of (Binary bytes) = bytes

abbrev pub is_text : Message → Bool
is_text (Text bytes) = true
is_text (Binary bytes) = false

-- What a tunnel tells of its messages: how many faults there were, whether the end was reached, all that come from the start,
-- those that are left, and those that were put.
pub record Hall : Type 0 where
  pub faults : ℕ
  pub ended : Bool
  pub whole : Option (List Message)
  pub left : Option (List Message)
  pub put : Option (List Message)

-- the first of those that were left came, or none where none was left
pub record GivesNext (left : List Message) (next : Option Message) (new : Hall) : Type 0 where
  pub next_is : next ≡ slice_get left 0
  pub left_is : new.left ≡ Some (drop 1 left)
