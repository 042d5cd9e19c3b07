-- THE QUESTIONS of the report. Each definition reads like its row of the table of commands; nothing is changed.
use Rattle.std.specs.Prelude.{◌≡◌, ◌⊎◌}
use Rattle.share_graph.specs.declared.refusal.Refusal.TheVariants.{NotGiver, NotOwner}
use Rattle.report_desk.specs.Terms.{Account, AccountId, answers, by_account, Caller, Grain, GrainId, GrantId, Keeps, known_account, known_grain, known_grant, MayRevoke, nothing_made, Refuses, State, Step, unless◌then◌else◌}

-- access: Unknown(3, n); NotOwner(n) where the caller isn't the owner
abbrev pub Access : State → Caller → GrainId → Step → Type 0
Access s who n =
    by_account s who λ account.
    known_grain s n λ grain.
    unless grain.owner ≡ account.num then (Refuses (NotOwner n)) else
    answers (Keeps nothing_made)

-- preview: Unknown(4, g); NotGiver(g) where the caller may not revoke the grant
abbrev pub Preview : State → Caller → GrantId → Step → Type 0
Preview s who g =
    by_account s who λ account.
    known_grant s g λ grant.
    unless MayRevoke s.tables account.num g grant then (Refuses (NotGiver g)) else
    answers (Keeps nothing_made)

-- the account may ask why another one has access to the grain: it owns it, or is that one
abbrev pub MayAskWhy : Account → Grain → AccountId → Type 0
MayAskWhy account grain a = (grain.owner ≡ account.num) ⊎ (a ≡ account.num)

-- why: Unknown(3, n); Unknown(1, a); NotOwner(n) where the caller is neither the owner nor that account
abbrev pub Why : State → Caller → GrainId → AccountId → Step → Type 0
Why s who n a =
    by_account s who λ account.
    known_grain s n λ grain.
    known_account s a λ asked.
    unless MayAskWhy account grain a then (Refuses (NotOwner n)) else
    answers (Keeps nothing_made)
