-- What a revocation takes away: from nodes, and from the keys that stand for them.
use Rattle.std.specs.Prelude.{◌≡◌, ◌⊎◌, ◌++◌, ◌∷◌, [], ◌<◌, ◌↔◌, ℕ, List, Contains, false}
use Rattle.hub_core.specs.Terms.{App, behind_session, Denial, Derivation, Event, GrainId, Grant, GrantId, Handle, HasKey, HasRunToken, HoldsWithout, IsAppOf, IsBearerOf, IsHandleOf, IsOneOf, Key, LeavesTheRest, names_at, Node, node_behind, Open, Perm, Permit, replay, RevokesExactly, Run, Session, ShutsOut, State, Tables, Uses, Verdict}
use Rattle.host_base.specs.declared.key.Key.TheVariants as key
use Rattle.host_base.specs.declared.verdict.Denial.TheVariants as denial
use Rattle.host_base.specs.declared.verdict.Verdict.TheVariants as verdict
use Rattle.share_graph.specs.declared.event.Event.TheVariants as event
use Rattle.share_graph.specs.declared.facts.Node.TheVariants as node

-- the tables at the end of a history
abbrev pub behind : State → List Event → Tables
behind start entries = (replay start entries).tables

-- THE LAW OF REVOKING for a history that grew by an entry: where the entry revokes a grant, a fact is held from there on
-- exactly where it had a derivation before that doesn't use the grant.
pub record TakesAway (start : State) (old new : List Event) : Type 0 where
  pub revoked : (e : Event) → new ≡ old ++ e ∷ [] → RevokesExactly (behind start old) e (behind start new)
  pub shut_out : (e : Event) → new ≡ old ++ e ∷ [] → ShutsOut (behind start old) e (behind start new)
  pub left : (e : Event) → new ≡ old ++ e ∷ [] → LeavesTheRest (behind start old) e (behind start new)

-- the node that a key stands for: of a session that isn't closed, of the grant whose bearer shows its token, or of the
-- grant of a run's handle
abbrev pub StandsFor : State → Key → Node → Type 0
StandsFor s (key.Session d) at =
    (session : Session) × IsOneOf s.sessions (HasKey d) session × (session.closed ≡ false)
    × (at ≡ node_behind (behind_session session))
StandsFor s (key.Bearer d) at =
    (grant : Grant) × IsOneOf s.tables.grants (IsBearerOf d) grant × (at ≡ node.Grant grant.num)
StandsFor s (key.Handle d n) at =
    (run : Run) × (handle : Handle) × IsOneOf s.runs (HasRunToken d) run
    × IsOneOf s.handles (IsHandleOf run.num n) handle
    × (at ≡ node.Grant handle.grant)

-- the denial says that a grain is in the trash, or has no live run
abbrev pub IsOfServing : Denial → Type 0
IsOfServing why = (n : GrainId) × ((why ≡ denial.GrainTrashed n) ⊎ (why ≡ denial.GrainStopped n))

-- The permit has the names of exactly the permissions that the node held by derivations without the grant.
pub record IsLeft (t : Tables) (g : GrantId) (at : Node) (permit : Permit) : Type 0 where
  pub entry : HoldsWithout t g at Open
  pub held : List ℕ
  pub app : App
  pub is_app : IsAppOf t permit.grain app
  pub names_are : permit.names ≡ names_at app held
  pub exact : (p : ℕ) → Contains held p ↔ HoldsWithout t g at (Perm p)

-- THE LAW OF REVOKING for a key, from the tables before: where every derivation of entry used the grant, the key is denied;
-- where another leads there, it isn't denied but for a grain that doesn't serve, and requests go on with exactly what the
-- others give.
pub record IsSpared (t : Tables) (g : GrantId) (at : Node) (judged : Verdict) : Type 0 where
  pub shut_out : ((d : Derivation t at Open) → Uses d g) → (why : Denial) × (judged ≡ verdict.Deny why)
  pub goes_on : HoldsWithout t g at Open → (why : Denial) → judged ≡ verdict.Deny why → IsOfServing why
  pub left : (permit : Permit) → judged ≡ verdict.Forward permit → IsLeft t g at permit

-- the same of the verdict at the place that a revocation made
abbrev pub Spares : State → List Event → Key → Verdict → Type 0
Spares start seen k judged =
    (before : List Event) (g : GrantId) (at : Node) → seen ≡ before ++ event.GrantRevoked g ∷ [] → 0 < g.0
    → StandsFor (replay start seen) k at → IsSpared (replay start before).tables g at judged
