-- THE ROWS of the question which members of a collection have no share yet, and of the command that gives one of them its share. They read
-- like the rows of the table of commands.
use Rattle.std.specs.Prelude.{◌≡◌, None}
use Rattle.share_graph.specs.declared.facts.Node.TheVariants as node
use Rattle.share_graph.specs.declared.grants.Giver.TheVariants as giver
use Rattle.share_graph.specs.declared.refusal.Refusal.TheVariants.{BadParent, NotGiver}
use Rattle.collections.specs.Members.{IsBearers, IsOwed, member_needs}
use Rattle.collections.specs.Terms.{access◌of◌then◌, Account, AccountId, answers, by_account, Caller, GrainId, Grant, GrantId, Keeps, known_account, known_grain, known_grant, nothing_made, Refuses, Share, State, Step, unless◌then◌else◌}

-- the curator and its link: Unknown(3, c); access(c); Unknown(4, g); BadParent(g) where g doesn't go to whoever bears its token; NotGiver(g)
-- where the caller didn't give it
abbrev pub by_curator : State → Caller → GrainId → GrantId → (Account → Grant → Step → Type 0) → Step → Type 0
by_curator s who c g Rest =
    by_account s who λ account.
    known_grain s c λ grain.
    access (node.User c account.num) of s then
    known_grant s g λ link.
    unless IsBearers link then (Refuses (BadParent g)) else
    unless link.giver ≡ giver.Account account.num then (Refuses (NotGiver g)) else
    Rest account link

-- missing: nothing is changed
abbrev pub Missing : State → Caller → GrainId → GrantId → Step → Type 0
Missing s who c g = by_curator s who c g λ curator link. answers (Keeps nothing_made)

-- collect: Unknown(1, u); same where the account is owed no share; else as `share` of the listed grain with the account, by what the link
-- gives, under the needs of a member and without an expiry
abbrev pub Collect : State → Caller → GrainId → GrantId → AccountId → Step → Type 0
Collect s who c g u =
    by_curator s who c g λ curator link.
    known_account s u λ member.
    unless IsOwed s.tables c g link curator.num u then (Keeps nothing_made) else
    Share s who link.grain u link.assignment (member_needs c g u) None
