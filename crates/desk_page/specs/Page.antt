-- The desk's page, and the answer that has it.
use Rattle.std.specs.Prelude.{ℕ, ◌++◌, Bool, List}
use Rattle.front_http.specs.Texts.{lined_text}
use Rattle.desk_page.specs.declared.markup.TheConstants.{FRONT, END}
use Rattle.desk_page.specs.declared.reply.TheConstants.{LINES}
use Rattle.desk_page.specs.declared.script.TheConstants.{SCRIPT}

-- its parts, and the header lines that it is answered with: constants of the crate
unfoldable pub front : List ℕ
front = FRONT.now

unfoldable pub script : List ℕ
script = SCRIPT.now

unfoldable pub end : List ℕ
end = END.now

unfoldable pub lines : List ℕ
lines = LINES.now

-- its markup, with the script in it
unfoldable pub page : List ℕ
page = (front ++ script) ++ end

-- the page with its header lines, or these alone
unfoldable pub desk_page_text : Bool → List ℕ
desk_page_text head_only = lined_text 200 lines page head_only
