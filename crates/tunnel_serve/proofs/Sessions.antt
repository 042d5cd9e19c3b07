-- What the verdict on a session's key can't be.
use Rattle.std.proofs.Common.{ℕ, inl, inr}
use Rattle.host_base.specs.declared.digest.Digest.{Digest}
use Rattle.host_base.specs.declared.key.Key.TheVariants as key
use Rattle.host_base.specs.declared.verdict.Verdict.TheVariants as verdict
use Rattle.share_graph.specs.declared.state.State.{State}
use Rattle.session_table.specs.Verdict.{IsVerdict}
use Rattle.hub_core.specs.Book.{Book, Judged}

-- it is no item of a site
no_item : (s : State) (who : Digest) (tag item : ℕ) → IsVerdict s (key.Session who) (verdict.Site tag item) → ⊥
no_item s who tag item (inl (is, none)) = cc
no_item s who tag item (inr (session, one, inl (is, closed))) = cc
no_item s who tag item (inr (session, one, inr (not_closed, inl (reason, is, missing)))) = cc
no_item s who tag item (inr (session, one, inr (not_closed, inr (holds, inl (is, none))))) = cc
no_item s who tag item (inr (session, one, inr (not_closed, inr (holds, inr (run, live, (permit, is, has)))))) = cc

pub no_site : (book : Book) (low place : ℕ) (who : Digest) (tag item : ℕ) → Judged low book (key.Session who) place (verdict.Site tag item) → ⊥
no_site book low place who tag item j = no_item _ who tag item j.verdict_is
