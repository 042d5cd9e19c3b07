-- THE LINES that the program prints of a report, one for each item, each ended by a line feed.
use Rattle.std.specs.Prelude.{ℕ, ◌++◌, List, codes, decimal, flat_map}
use Rattle.host_base.specs.declared.ids.GrainId.{GrainId}
use Rattle.report_desk.specs.declared.holder.Holder.TheVariants as holder
use Rattle.report_texts.specs.Terms.{Holder, ReportLine}
use Rattle.report_texts.specs.Words.{facts_of, joined}

-- how a line begins: `user A HANDLE`, or `grant G`
unfoldable pub holder_text : Holder → List ℕ
holder_text (holder.User a handle n) = codes "user " ++ decimal a.0 ++ codes " " ++ handle
holder_text (holder.Grant g n) = codes "grant " ++ decimal g.0

-- the grain that a holder is on
abbrev pub grain_of : Holder → GrainId
grain_of (holder.User a handle n) = n
grain_of (holder.Grant g n) = n

-- who has access: `user A HANDLE PERMS` and `grant G PERMS`
unfoldable pub access_line : ReportLine → List ℕ
access_line line = holder_text line.holder ++ codes " " ++ joined line.permissions ++ codes "\n"

unfoldable pub access_text : List ReportLine → List ℕ
access_text lines = flat_map access_line lines

-- what a revocation would take: `user A HANDLE grain N loses FACTS` and `grant G grain N loses FACTS`
unfoldable pub loss_line : ReportLine → List ℕ
loss_line line =
    holder_text line.holder ++ codes " grain " ++ decimal (grain_of line.holder).0 ++ codes " loses " ++ joined (facts_of line)
    ++ codes "\n"

unfoldable pub preview_text : List ReportLine → List ℕ
preview_text lines = flat_map loss_line lines

-- how many members got a share: `shared N`
unfoldable pub shared_text : ℕ → List ℕ
shared_text made = codes "shared " ++ decimal made ++ codes "\n"
