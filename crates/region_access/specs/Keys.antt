-- The order of what grants hang on tells them apart.
use Rattle.std.proofs.Common.{◌≡◌, ℕ, true, sym, ◌∙◌, ap}
use Rattle.std.proofs.lemmas.Bool.{eqb-true, false≢true}
use Rattle.std.specs.Cmp.{unsigned_tied}
use Rattle.std.specs.Ordering.{is_eq, nat_cmp}
use Rattle.host_base.specs.declared.ids.AccountId.{AccountId}
use Rattle.host_base.specs.declared.ids.GrainId.{GrainId}
use Rattle.region_access.specs.contracts.tie.TieOrd.TheImpl.{ghosts}
use Rattle.region_access.specs.declared.tie.Tie.{Tie}
use Rattle.region_access.specs.declared.tie.Tie.TheVariants as tie

abbrev grain_id : ℕ → GrainId
grain_id n = record { 0 = n }

abbrev account_id : ℕ → AccountId
account_id n = record { 0 = n }

one_number : (a b : ℕ) → is_eq (nat_cmp a b) ≡ true → a ≡ b
one_number a b h = eqb-true a b (sym (unsigned_tied a b) ∙ h)

-- ties that the order can't tell apart are one
pub same_tie : (a b : Tie) → is_eq (ghosts.cmp a b) ≡ true → a ≡ b
same_tie (tie.Grain n) (tie.Grain m) h = ap (λ k. tie.Grain (grain_id k)) (one_number n.0 m.0 h)
same_tie (tie.Grain n) (tie.Admin a) h = absurd (false≢true h)
same_tie (tie.Grain n) (tie.End end) h = absurd (false≢true h)
same_tie (tie.Admin a) (tie.Grain n) h = absurd (false≢true h)
same_tie (tie.Admin a) (tie.Admin b) h = ap (λ k. tie.Admin (account_id k)) (one_number a.0 b.0 h)
same_tie (tie.Admin a) (tie.End end) h = absurd (false≢true h)
same_tie (tie.End end) (tie.Grain n) h = absurd (false≢true h)
same_tie (tie.End end) (tie.Admin a) h = absurd (false≢true h)
same_tie (tie.End end) (tie.End other) h = ap (λ k. tie.End k) (one_number end other h)
