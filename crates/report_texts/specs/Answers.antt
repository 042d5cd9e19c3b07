-- THE ANSWERS to the questions of the report, as JSON. The keys of an object stand in the order of their bytes.
use Rattle.std.specs.Prelude.{ℕ, Bool, false, List, [], ◌∷◌, Option, Some, None, codes}
use Rattle.report_desk.specs.declared.holder.Holder.TheVariants as holder
use Rattle.serde_json.specs.Data.{array, boolean, item, member, no_items, no_members, null, number, object, string, unsigned}
use Rattle.report_texts.specs.Terms.{AccountId, compact_text, Data, Holder, Items, Members, Passing, ReasonStep, ReportLine, reply_text}
use Rattle.report_texts.specs.Words.{step_words}

-- an array of what is made of each item
abbrev pub items_of : {X : Type 0} → (X → Data) → List X → Items
items_of make [] = no_items
items_of make (x ∷ xs) = item (make x) (items_of make xs)

abbrev pub array_of : {X : Type 0} → (X → Data) → List X → Data
array_of make xs = array (items_of make xs)

abbrev pub number_of : ℕ → Data
number_of n = number (unsigned n)

-- a line: an account on a grain, or a grant on it, with entry, and the names of permissions
abbrev pub line_members : Holder → Bool → List (List ℕ) → Members
line_members (holder.User a handle n) entry names =
    member (codes "account") (number_of a.0) (
    member (codes "entry") (boolean entry) (
    member (codes "grain") (number_of n.0) (
    member (codes "handle") (string handle) (
    member (codes "permissions") (array_of string names) no_members))))
line_members (holder.Grant g n) entry names =
    member (codes "entry") (boolean entry) (
    member (codes "grain") (number_of n.0) (
    member (codes "grant") (number_of g.0) (
    member (codes "permissions") (array_of string names) no_members)))

unfoldable pub line_data : ReportLine → Data
line_data line = object (line_members line.holder line.entry line.permissions)

-- the number of a step's grant, or null where the holder is the owner
abbrev pub grant_data : Option Passing → Data
grant_data None = null
grant_data (Some passing) = number_of passing.grant.0

-- a step: the places of those that it rests on, its grant, its line, and all of it in words
unfoldable pub step_data : ReasonStep → Data
step_data step =
    object (
    member (codes "from") (array_of number_of step.from) (
    member (codes "grant") (grant_data step.passing) (
    member (codes "holds") (line_data step.line) (
    member (codes "text") (string (step_words step)) no_members))))

-- an object with one member
abbrev pub single : List ℕ → Data → Data
single key value = object (member key value no_members)

unfoldable pub access_data : List ReportLine → Data
access_data lines = single (codes "access") (array_of line_data lines)

unfoldable pub preview_data : List ReportLine → Data
preview_data lines = single (codes "losses") (array_of line_data lines)

unfoldable pub why_data : List (List ReasonStep) → Data
why_data reasons = single (codes "why") (array_of (array_of step_data) reasons)

unfoldable pub missing_data : List AccountId → Data
missing_data members = single (codes "missing") (array_of (λ (u : AccountId). number_of u.0) members)

-- how many members got a share
unfoldable pub shared_data : ℕ → Data
shared_data made = single (codes "shared") (number_of made)

-- the answer with a value
abbrev pub data_text : Data → Bool → List ℕ
data_text value head_only = reply_text 200 false (compact_text value) head_only
