-- Words of a line that doesn't begin with the small book, or has no connections served at a door.
use Rattle.std.proofs.Common.{List, String, subst}
use Rattle.std.specs.declared.alloc.Global.{Global}
use Rattle.command_line.specs.declared.line.Line.{Line}
use Rattle.command_line.specs.Words.{IsLine, IsOneOfLines}
use Rattle.admin_run.specs.Program.{AtDoor, BeginWithBook, FromBook, ServeAtDoor}

-- the words are a line of which this holds
abbrev AreLine : (Line → Type 0) → List (String Global) → Type 0
AreLine which words = (l : Line) × IsLine words l × which l

are_otherwise : (which : Line → Type 0) (words : List (String Global)) (own : Line) → IsOneOfLines words → IsLine words own → (which own → ⊥) → AreLine which words → ⊥
are_otherwise which words own one is not (l, here, from) = not (subst which (one l own here is) from)

pub begins_otherwise : (words : List (String Global)) (own : Line) → IsOneOfLines words → IsLine words own → (FromBook own → ⊥) → BeginWithBook words → ⊥
begins_otherwise words own one is not = are_otherwise FromBook words own one is not

pub serves_otherwise : (words : List (String Global)) (own : Line) → IsOneOfLines words → IsLine words own → (AtDoor own → ⊥) → ServeAtDoor words → ⊥
serves_otherwise words own one is not = are_otherwise AtDoor words own one is not
