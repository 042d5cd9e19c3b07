-- What a revocation takes away: from nodes, and from the keys that stand for them.
use Rattle.std.proofs.Common.{◌≡◌, ◌++◌, ◌∷◌, [], List, Result, Ok, Err, IfOk, ap, sym, subst, refl, ◌∙◌, inl, inr}
use Rattle.desk_base.specs.Terms.{after, App, Event, GrainId, Grant, GrantId, Handle, Holds, IsAppOf}
use Rattle.desk_base.specs.Terms.{IsHandleOf, IsOneOf, IsWellFormed, Key, LacksEntry, Node, replay, Run}
use Rattle.desk_base.specs.Terms.{Session, State, Tables, Verdict}
use Rattle.host_base.specs.declared.key.Key.TheVariants as key
use Rattle.host_base.specs.declared.permit.Permit.{Permit}
use Rattle.host_base.specs.declared.verdict.Denial.TheVariants as denial
use Rattle.host_base.specs.declared.verdict.Verdict.TheVariants as verdict
use Rattle.share_graph.specs.declared.event.Event.TheVariants as event
use Rattle.share_graph.specs.declared.facts.Fact.TheVariants.{Open, Perm}
use Rattle.share_graph.specs.declared.facts.Node.TheVariants as node
use Rattle.share_graph.specs.declared.ways.Origin.{Origin}
use Rattle.share_graph.specs.declared.ways.Origin.TheVariants as origin
use Rattle.share_graph.specs.Derivation.{Derivation, Uses}
use Rattle.share_graph.specs.Revoking.{TakesExactly}
use Rattle.share_graph.proofs.Apart.{bearer_one, key_one, run_token_one}
use Rattle.share_graph.proofs.MissingOne.{lacks_none}
use Rattle.share_graph.proofs.RevokingLaw.{revoking_law}
use Rattle.session_table.specs.Standing.{Standing, behind_session, behind_grant, node_behind}
use Rattle.session_table.specs.Verdict.{IsPermit, Stands, VerdictAtEnd, IsVerdict}
use Rattle.session_table.proofs.VerdictOne.{handle_one}
use Rattle.state_step.specs.Losing.{RevokesExactly, ShutsOut, LeavesTheRest}
use Rattle.state_step.proofs.AfterAll.{replay_appended, revokes_exactly, shuts_out, leaves_the_rest}
use Rattle.hub_core.specs.Revoking.{TakesAway, StandsFor, IsOfServing, IsLeft, IsSpared, Spares}

-- the state after a history that grew by an entry
next : (start : State) (old new : List Event) (e : Event) → new ≡ old ++ e ∷ [] → after (replay start old) e ≡ replay start new
next start old new e grew = sym (ap (replay start) grew ∙ replay_appended start old e)

pub takes_away : (start : State) (old new : List Event) → TakesAway start old new
takes_away start old new = record {
  revoked = λ e grew. subst (λ (s : State). RevokesExactly (replay start old).tables e s.tables) (next start old new e grew) (revokes_exactly (replay start old) e);
  shut_out = λ e grew. subst (λ (s : State). ShutsOut (replay start old).tables e s.tables) (next start old new e grew) (shuts_out (replay start old) e);
  left = λ e grew. subst (λ (s : State). LeavesTheRest (replay start old).tables e s.tables) (next start old new e grew) (leaves_the_rest (replay start old) e);
}

-- A verdict on who stands at a node: with entry, a denial is of what doesn't serve alone; without entry, nothing goes on; and a permit is as
-- access is there.
abbrev Stood : State → Node → Verdict → Type 0
Stood u at (verdict.Deny why) = Holds u.tables at Open → IsOfServing why
Stood u at (verdict.Site tag item) = Holds u.tables at Open
Stood u at (verdict.Forward permit) = Holds u.tables at Open × ((standing : Standing) × (run : Run) × (node_behind standing ≡ at) × IsPermit u standing run permit)

-- a step is missing
lacking : (u : State) (at : Node) (v : Verdict) → LacksEntry verdict.Deny u.tables at v → Stood u at v
lacking u at v (reason, is, missing) = rw is (λ held. absurd (lacks_none u.tables at reason missing held))

stood : (u : State) (standing : Standing) (v : Verdict) → Stands u standing v → Stood u (node_behind standing) v
stood u standing v (inl lacks) = lacking u (node_behind standing) v lacks
stood u standing v (inr (held, inl (is, none))) = rw is (λ holds. (standing.grain, inr refl))
stood u standing v (inr (held, inr (run, one, (permit, is, fits)))) = rw is (held, (standing, run, refl, fits))

ended : (u : State) (g : GrantId) (grant : Grant) (end : Origin) (v : Verdict) → VerdictAtEnd u g grant end v → Stood u (node.Grant g) v
ended u g grant (origin.Account a) v stands = stood u (behind_grant g grant) v stands
ended u g grant (origin.Site by tag item) v (inl lacks) = lacking u (node.Grant g) v lacks
ended u g grant (origin.Site by tag item) v (inr (held, is)) = rw is held

-- the verdict on a key is one on who stands at its node
judged : (u : State) → IsWellFormed u → (k : Key) (v : Verdict) → IsVerdict u k v → (at : Node) → StandsFor u k at → Stood u at v
judged u formed (key.Session d) v (inl (is, none)) at (session, own, unclosed, on) = absurd (none session own.listed own.is)
judged u formed (key.Session d) v (inr (other, one, inl (is, closed))) at (session, own, unclosed, on) =
    let same : other ≡ session = (key_one u formed d).one other session one own in
    cc
judged u formed (key.Session d) v (inr (other, one, inr (live, stands))) at (session, own, unclosed, on) =
    let same : other ≡ session = (key_one u formed d).one other session one own in
    subst (λ (n : Node). Stood u n v) (ap (λ (row : Session). node_behind (behind_session row)) same ∙ sym on) (stood u (behind_session other) v stands)
judged u formed (key.Bearer d) v (inl (is, none)) at (grant, own, on) = absurd (none grant own.listed own.is)
judged u formed (key.Bearer d) v (inr (other, one, stands)) at (grant, own, on) =
    let same : other ≡ grant = (bearer_one u formed d).one other grant one own in
    subst (λ (n : Node). Stood u n v) (ap (λ (row : Grant). node.Grant row.num) same ∙ sym on) (stood u (behind_grant other.num other) v stands)
judged u formed (key.Handle d n) v (inl (is, none)) at (run, handle, own, of, on) = absurd (none run own.listed own.is)
judged u formed (key.Handle d n) v (inr (other, one, inl (is, never))) at (run, handle, own, of, on) =
    rw is (λ holds. (other.grain, inl refl))
judged u formed (key.Handle d n) v (inr (other, one, inr (kept, inl (is, stopped)))) at (run, handle, own, of, on) =
    rw is (λ holds. (other.grain, inr refl))
judged u formed (key.Handle d n) v (inr (other, one, inr (kept, inr (going, inl (is, none))))) at (run, handle, own, of, on) =
    let same : run ≡ other = (run_token_one u formed d).one run other own one in
    absurd (none handle of.listed (subst (λ (row : Run). IsHandleOf row.num n handle) same of.is))
judged u formed (key.Handle d n) v (inr (other, one, inr (kept, inr (going, inr (second, its, (grant, end, known, way, ends)))))) at (run, handle, own, of, on) =
    let same : run ≡ other = (run_token_one u formed d).one run other own one in
    let both : second ≡ handle = (handle_one u formed other.num n).one second handle its (subst (λ (row : Run). IsOneOf u.handles (IsHandleOf row.num n) handle) same of) in
    subst (λ (x : Node). Stood u x v) (ap (λ (row : Handle). node.Grant row.grant) both ∙ sym on) (ended u second.grant grant end v ends)

-- from the state before the revocation
module _ (t : Tables) (u : State) (g : GrantId) (law : TakesExactly t g u.tables) (at : Node)
    (same_apps : (n : GrainId) (app : App) → IsAppOf u.tables n app → IsAppOf t n app) where
  left_by : (permit : Permit) (standing : Standing) (run : Run) → node_behind standing ≡ at → IsPermit u standing run permit → IsLeft t g at permit
  left_by permit standing run on fits = record {
    entry = (law at Open).0 (subst (λ (x : Node). Holds u.tables x Open) on fits.access.entry);
    held = fits.held;
    app = fits.app;
    is_app = rw fits.grain_is (same_apps standing.grain fits.app fits.is_app);
    names_are = fits.names_are;
    exact = λ p. (
      λ c. (law at (Perm p)).0 (subst (λ (x : Node). Holds u.tables x (Perm p)) on ((fits.access.exact p).0 c)),
      λ w. (fits.access.exact p).1 (subst (λ (x : Node). Holds u.tables x (Perm p)) (sym on) ((law at (Perm p)).1 w)),
    );
  }

  shut : Holds u.tables at Open → ((d : Derivation t at Open) → Uses d g) → ⊥
  shut holds all = let (d, fresh) = (law at Open).0 holds in fresh (all d)

  spared : (v : Verdict) → Stood u at v → IsSpared t g at v
  spared (verdict.Deny reason) serving = record {
    shut_out = λ all. (reason, refl);
    goes_on = λ without why same. subst IsOfServing (cc same) (serving ((law at Open).1 without));
    left = λ permit same. cc same;
  }
  spared (verdict.Site tag item) holds = record {
    shut_out = λ all. absurd (shut holds all);
    goes_on = λ without why same. cc same;
    left = λ permit same. cc same;
  }
  spared (verdict.Forward permit) (holds, (standing, run, on, fits)) = record {
    shut_out = λ all. absurd (shut holds all);
    goes_on = λ without why same. cc same;
    left = λ other same. subst (IsLeft t g at) (cc same) (left_by permit standing run on fits);
  }

-- THE LAW OF REVOKING for a key, of the verdict at the place that the revocation made: of an answer that may fail, at a state that is the
-- replay
pub spares : {E : Type 0} (start : State) (seen : List Event) (s : State) → s ≡ replay start seen → IsWellFormed s → (k : Key) (r : Result Verdict E) → IfOk r (IsVerdict s k)
    → IfOk r (Spares start seen k)
spares start seen s same formed k (Ok v) is = λ before g at grew first stands.
    (let t = (replay start before).tables in
    let grown : s ≡ after (replay start before) (event.GrantRevoked g) = same ∙ sym (next start before seen (event.GrantRevoked g) grew) in
    spared t s g (rw grown (revoking_law t g first)) at (λ n app own. rw grown at own) v (judged s formed k v is at (rw same stands)))
spares start seen s same formed k (Err e) is = tt
