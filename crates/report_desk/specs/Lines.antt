-- Who has access, and what a revocation would take, in the words that people know.
use Rattle.std.specs.Prelude.{◌≡◌, ℕ, true, List}
use Rattle.std.specs.List.{AllZip}
use Rattle.share_graph.specs.Rows.{IsAccount}
use Rattle.share_graph.specs.declared.facts.Node.TheVariants as node
use Rattle.report_desk.specs.declared.holder.Holder.TheVariants as holder
use Rattle.report_desk.specs.Terms.{Account, App, AreLosses, AreNamesOf, Entry, GrainId, Grant, GrantId, HaveAccess, Held, Holder, IsAppOf, IsGrant, IsOn, Loss, Node, PermSet, ReportLine, Tables}

-- the node, as people know it
abbrev pub IsHolder : Tables → Node → Holder → Type 0
IsHolder t (node.User n a) shown = (account : Account) × IsAccount t a account × (shown ≡ holder.User a account.handle n)
IsHolder t (node.Grant g) shown = (grant : Grant) × IsGrant t g grant × (shown ≡ holder.Grant g grant.grain)

-- the names of the permissions of a set, by the application of the node's grain, in its order
abbrev pub AreNamesAt : Tables → Node → PermSet → List (List ℕ) → Type 0
AreNamesAt t at perms names = (n : GrainId) × IsOn t n at × ((app : App) × IsAppOf t n app × AreNamesOf app perms names)

-- The line has what is held at the node, or lost.
pub record IsLine (t : Tables) (at : Node) (held : Held) (line : ReportLine) : Type 0 where
  pub holder : IsHolder t at line.holder
  pub entry : line.entry ≡ held.entry
  pub names : AreNamesAt t at held.perms line.permissions

-- a line of whoever has access, and of what a revocation would take
abbrev pub IsEntryLine : Tables → Entry → ReportLine → Type 0
IsEntryLine t one line = IsLine t one.node (record { entry = true; perms = one.perms }) line

abbrev pub IsLossLine : Tables → Loss → ReportLine → Type 0
IsLossLine t one line = IsLine t one.node (record { entry = one.entry; perms = one.perms }) line

-- WHO HAS ACCESS to the grain: a line of each
abbrev pub AreAccessLines : Tables → GrainId → List ReportLine → Type 0
AreAccessLines t n lines = (entries : List Entry) × HaveAccess t n entries × AllZip (IsEntryLine t) entries lines

-- WHAT A REVOCATION WOULD TAKE: a line of each loss
abbrev pub AreLossLines : Tables → GrantId → List ReportLine → Type 0
AreLossLines t g lines = (losses : List Loss) × AreLosses t g losses × AllZip (IsLossLine t) losses lines
