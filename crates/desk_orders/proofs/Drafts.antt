-- What becomes of an outcome: a draft fits with each digest that no row has, and it is a change where the history is full.
use Rattle.std.proofs.Common.{◌≡◌, ◌≤◌, ℕ, Bool, true, false, Some, None, nat_le, if◌then◌else◌, refl, arith}
use Rattle.std.proofs.lemmas.Bool.Decides.{nat_tests}
use Rattle.desk_base.specs.Terms.{Digest, EventFits, IsUnused, Refusal, State}
use Rattle.share_graph.specs.declared.fault.Kind.TheVariants as kind
use Rattle.desk_base.specs.Accepting.{full, Changes}
use Rattle.desk_base.specs.Fitting.{RowFits}
use Rattle.desk_base.specs.Limits.{most_entries, too_many}
use Rattle.desk_base.specs.Outcomes.{with_digest, draft_step, step_of}
use Rattle.desk_base.specs.Steps.{Step, Plain, Drawn}
use Rattle.desk_base.specs.declared.outcome.Draft.{Draft}
use Rattle.desk_base.specs.declared.outcome.Outcome.{Outcome}
use Rattle.desk_base.specs.declared.outcome.Outcome.TheVariants as outcome

-- a draft is of a command that draws a secret, and fits with each digest that no row has
pub draft_fits : (s : State) (draws : Bool) (Row : Step → Type 0) → RowFits s draws Row → (draft : Draft) → Row (draft_step draft)
    → (draws ≡ true) × ((d : Digest) → IsUnused s d → EventFits s (with_digest draft.event d))
draft_fits s true Row fit draft is = (refl, fit.fits (Drawn (with_digest draft.event)) draft.made is)
draft_fits s false Row fit draft is = absurd (fit.fits (Drawn (with_digest draft.event)) draft.made is)

-- an outcome is a change
pub changes_of : (Row : Step → Type 0) (out : Outcome) → Row (step_of out) → Changes Row
changes_of Row (outcome.Change e made) is = (Plain e, (made, is))
changes_of Row (outcome.Draft draft) is = (Drawn (with_digest draft.event), (draft.made, is))

-- where one entry would be too many, the history is full
full_by : (test : Bool) (r : Refusal) (n : ℕ) → nat_le most_entries n ≡ test → (if test then Some full else None) ≡ Some r → (r ≡ full) × (most_entries ≤ n)
full_by true r n over same = (cc, grind (arith, nat_tests))
full_by false r n over same = cc

pub when_full : (n : ℕ) (r : Refusal) → too_many kind.Entry n ≡ Some r → (r ≡ full) × (most_entries ≤ n)
when_full n r over = full_by (nat_le most_entries n) r n refl over
