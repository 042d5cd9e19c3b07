-- The words of a report.
use Rattle.std.specs.Prelude.{ℕ, ◌++◌, Bool, List, [], ◌∷◌, Option, Some, None, codes, decimal, if◌then◌else◌}
use Rattle.std.specs.List.{join_with_byte}
use Rattle.report_desk.specs.declared.holder.Holder.TheVariants as holder
use Rattle.report_desk.specs.declared.passing.GivenAs.TheVariants as shown_as
use Rattle.report_desk.specs.declared.passing.GivenBy.TheVariants as shown_by
use Rattle.share_graph.specs.declared.grants.Target.TheVariants as target
use Rattle.report_texts.specs.Terms.{GivenAs, GivenBy, Holder, Passing, ReasonStep, ReportLine, Target}

-- names joined by commas, or `-` where there are none
unfoldable pub joined : List (List ℕ) → List ℕ
joined [] = codes "-"
joined (name ∷ names) = join_with_byte 44 (name ∷ names)

-- what a line has: `entry`, where it has it, and then the names of permissions
abbrev pub facts_of : ReportLine → List (List ℕ)
facts_of line = if line.entry then (codes "entry" ∷ line.permissions) else line.permissions

-- what a holder is called: an account by its handle
unfoldable pub holder_name : Holder → List ℕ
holder_name (holder.User a handle n) = handle
holder_name (holder.Grant g n) = codes "grant " ++ decimal g.0

-- whose a grant is
unfoldable pub giver_words : GivenBy → List ℕ
giver_words (shown_by.Account handle) = handle
giver_words (shown_by.Grant g) = codes "grant " ++ decimal g.0
giver_words shown_by.Site = codes "the site"

-- what a grant is called, by whom it goes to
unfoldable pub kind_words : Target → List ℕ
kind_words (target.User a) = codes "share"
kind_words (target.Bearer for_sharing) = if for_sharing then codes "link" else codes "token"
kind_words (target.Claim n) = codes "choice"
kind_words (target.Grain n) = codes "choice"

-- as what something is given: a role by its title
unfoldable pub base_words : GivenAs → List ℕ
base_words shown_as.NoRole = codes "no role"
base_words shown_as.AllAccess = codes "all access"
base_words (shown_as.Role title) = title

unfoldable pub changed_words : Bool → List ℕ
changed_words changed = if changed then codes " with changes" else []

-- by what a step follows: `as the owner`, or `from ada's share 1 as writer`
unfoldable pub passing_words : Option Passing → List ℕ
passing_words None = codes "as the owner"
passing_words (Some passing) =
    codes "from " ++ giver_words passing.by ++ codes "'s " ++ kind_words passing.target ++ codes " " ++ decimal passing.grant.0
    ++ codes " as " ++ base_words passing.base ++ changed_words passing.changed

-- a step: `zoe holds view: from ada's share 1 as writer`
unfoldable pub step_words : ReasonStep → List ℕ
step_words step =
    holder_name step.line.holder ++ codes " holds " ++ joined (facts_of step.line) ++ codes ": " ++ passing_words step.passing
