-- Tables without a fault have none with the moment of a start.
use Rattle.std.proofs.Common.{ℕ, Option, Some, None, refl, inl, inr}
use Rattle.host_base.specs.declared.digest.Digest.{Digest}
use Rattle.share_graph.specs.declared.grants.Grant.{Grant}
use Rattle.share_graph.specs.declared.rows.Account.{Account}
use Rattle.share_graph.specs.declared.rows.Grain.{Grain}
use Rattle.share_graph.specs.declared.rows.Saved.{Saved}
use Rattle.share_graph.specs.declared.state.Tables.{Tables}
use Rattle.share_graph.specs.Checked.{AccountFault, GrainFault, GrantFault, SavedFault, IsChecked}
use Rattle.share_graph.specs.Fresh.{IsFreshToken}
use Rattle.state_step.proofs.Extending.{Extends, fits_same, knows_of_grain}
use Rattle.state_step.proofs.NextTables.{still_sound_grant, still_sound_saved}
use Rattle.row_tables.specs.TablesRows.{at_start}

stays : (t : Tables) → Extends t (at_start t)
stays t = record {
  accounts = λ a (x, is). (x, is);
  apps = λ p x is. (x, is, fits_same x.manifest);
  grains = λ n x is. (x, is, refl);
  grants = λ g x is. (x, is, refl, refl);
}

account_stays : (t : Tables) (k : ℕ) (a : Account) → AccountFault t k a None → AccountFault (at_start t) k a None
account_stays t k a (inl (e, never)) = absurd (cc e)
account_stays t k a (inr (fresh, inl (e, never))) = absurd (cc e)
account_stays t k a (inr (fresh, inr (fits, done))) = inr (fresh, inr (record { formed = fits.formed; fresh = fits.fresh }, done))

grain_stays : (t : Tables) (k : ℕ) (n : Grain) → GrainFault t k n None → GrainFault (at_start t) k n None
grain_stays t k n (inl (e, never)) = absurd (cc e)
grain_stays t k n (inr (knows, done)) = inr (knows_of_grain t (at_start t) (stays t) n knows, done)

token_stays : (t : Tables) (k : ℕ) (digest : Option Digest) → IsFreshToken t k digest → IsFreshToken (at_start t) k digest
token_stays t k None h = tt
token_stays t k (Some d) h = record { no_login = h.no_login; no_token = h.no_token }

grant_stays : (t : Tables) (k : ℕ) (g : Grant) → GrantFault t k g None → GrantFault (at_start t) k g None
grant_stays t k g (inl (e, never)) = absurd (cc e)
grant_stays t k g (inr (knows, inl (e, never))) = absurd (cc e)
grant_stays t k g (inr (knows, inr (fresh, inl (e, never)))) = absurd (cc e)
grant_stays t k g (inr (knows, inr (fresh, inr (parent, inl (e, never))))) = absurd (cc e)
grant_stays t k g (inr (knows, inr (fresh, inr (parent, inr (earlier, inl (e, never)))))) = absurd (cc e)
grant_stays t k g (inr (knows, inr (fresh, inr (parent, inr (earlier, inr (sets, inl (e, never))))))) = absurd (cc e)
grant_stays t k g (inr (knows, inr (fresh, inr (parent, inr (earlier, inr (sets, inr (shares, done))))))) =
    let now = still_sound_grant t (at_start t) (stays t) k g (record { knows = knows; parent = parent; earlier = earlier; sets = sets; shares = shares }) in
    inr (now.knows, inr (token_stays t k g.digest fresh, inr (now.parent, inr (now.earlier, inr (now.sets, inr (now.shares, done))))))

saved_stays : (t : Tables) (k : ℕ) (s : Saved) → SavedFault t k s None → SavedFault (at_start t) k s None
saved_stays t k s (inl (e, never)) = absurd (cc e)
saved_stays t k s (inr (knows, inl (e, never))) = absurd (cc e)
saved_stays t k s (inr (knows, inr (fresh, inl (e, never)))) = absurd (cc e)
saved_stays t k s (inr (knows, inr (fresh, inr (reference, done)))) =
    let now = still_sound_saved t (at_start t) (stays t) s (record { knows = knows; reference = reference }) in
    inr (now.knows, inr (record { no_login = fresh.no_login; no_token = fresh.no_token; no_reference = fresh.no_reference }, inr (now.reference, done)))

pub checked_at_start : (t : Tables) → IsChecked t → IsChecked (at_start t)
checked_at_start t h = record {
  accounts = λ k a e. account_stays t k a (h.accounts k a e);
  apps = h.apps;
  grains = λ k n e. grain_stays t k n (h.grains k n e);
  grants = λ k g e. grant_stays t k g (h.grants k g e);
  saved = λ k s e. saved_stays t k s (h.saved k s e);
}
