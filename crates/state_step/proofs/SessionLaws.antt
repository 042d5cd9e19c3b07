-- A session that is opened or closed leaves a well-formed state so.
use Rattle.std.proofs.Common.{◌≡◌, Bool, true, false, List, [], ◌∷◌, ◌++◌, All, Option, Some, None, count_by, nat_lt, if◌then◌else◌, refl, subst}
use Rattle.std.proofs.lemmas.List.Elements.{All-push}
use Rattle.host_base.specs.declared.ids.SessionId.{SessionId}
use Rattle.share_graph.specs.declared.event.Event.TheVariants as event
use Rattle.share_graph.specs.declared.fault.Kind.TheVariants as kind
use Rattle.share_graph.specs.declared.sessions.Root.{Root}
use Rattle.share_graph.specs.declared.sessions.Session.{Session}
use Rattle.share_graph.specs.declared.state.State.{State}
use Rattle.share_graph.specs.Changing.{change_row}
use Rattle.share_graph.specs.EventFits.{EventFits}
use Rattle.share_graph.specs.History.{is_open_of, close_first}
use Rattle.share_graph.specs.Kinds.{KnownDigest, IsUnused}
use Rattle.share_graph.specs.Rows.{IsSession}
use Rattle.share_graph.specs.Setting.{closed}
use Rattle.share_graph.specs.WellFormed.{IsRootedSession, AreNumbered, IsWellFormed}
use Rattle.share_graph.proofs.Apart.{logins, tokens, references, keys, run_tokens}
use Rattle.state_step.specs.NewRows.{IsNewSession}
use Rattle.state_step.proofs.Digests.{Adds, adds_none, adds_pushed, apart_after, one_unused, none_unused}
use Rattle.state_step.proofs.Each.{all_from_each, each_from_all, numbered_pushed}
use Rattle.state_step.proofs.Touched.{AreTouched, change_row_touches, first_touches, each_touched, numbered_touched, map_touched}

abbrev with_sessions : State → List Session → State
with_sessions s sessions = record s { sessions = sessions }

-- the digest of a session's key, with its number
abbrev key_of : Session → KnownDigest
key_of session = record { kind = kind.Session; num = session.num.0; digest = session.digest }

-- The sessions may come next in the state: with one key more, which was unused, or with none.
record AreNextSessions (s : State) (sessions : List Session) (added : Option KnownDigest) : Type 0 where
  numbered : AreNumbered (λ (session : Session). session.num.0) sessions
  rooted : All (IsRootedSession s.tables) sessions
  adds : Adds added (keys s) (keys (with_sessions s sessions))
  unused : (e : KnownDigest) → added ≡ Some e → IsUnused s e.digest

-- the state with them is well formed
next_sessions : (s : State) → IsWellFormed s → (sessions : List Session) (added : Option KnownDigest) → AreNextSessions s sessions added → IsWellFormed (with_sessions s sessions)
next_sessions s formed sessions added next = record {
  tables = formed.tables;
  limits = formed.limits;
  numbered = record {
    accounts = formed.numbered.accounts;
    apps = formed.numbered.apps;
    grains = formed.numbered.grains;
    grants = formed.numbered.grants;
    saved = formed.numbered.saved;
    sessions = next.numbered;
    runs = formed.numbered.runs;
    handles = formed.numbered.handles;
  };
  apart = apart_after added s (with_sessions s sessions) formed.apart next.unused (record {
    accounts = adds_none added (logins s) (logins s) refl;
    grants = adds_none added (tokens s) (tokens s) refl;
    saved = adds_none added (references s) (references s) refl;
    sessions = next.adds;
    runs = adds_none added (run_tokens s) (run_tokens s) refl;
  });
  live = formed.live;
  rooted = record {
    sessions = next.rooted;
    runs = formed.rooted.runs;
    handles = λ k d less. (let is = formed.rooted.handles k d less in record { run = is.run; grant = is.grant; is_run = is.is_run; is_grant = is.is_grant; claimed = is.claimed });
  };
}

-- sessions of which some are closed may come next too
closed_next : (s : State) (sessions more : List Session) (added : Option KnownDigest) → AreTouched closed sessions more → AreNextSessions s sessions added → AreNextSessions s more added
closed_next s sessions more added touched next = record {
  numbered = numbered_touched closed (λ (x : Session). x.num.0) (λ x. refl) sessions more touched next.numbered;
  rooted = all_from_each (IsRootedSession s.tables) more
      (each_touched closed (λ k (x : Session). IsRootedSession s.tables x) (λ k x is. record { grain = is.grain; root = is.root }) sessions more touched
      (each_from_all (IsRootedSession s.tables) sessions next.rooted));
  adds = subst (λ (known : List KnownDigest). Adds added (keys s) known) (rw (map_touched closed key_of (λ x. refl) sessions more touched) refl) next.adds;
  unused = next.unused;
}

-- where the first open session of a root is closed, each other stays
close_first_touches : (root : Root) (sessions : List Session) → AreTouched closed sessions (close_first root sessions)
close_first_touches root [] = tt
close_first_touches root (x ∷ sessions) = first_touches closed (is_open_of root x) x sessions (close_first root sessions) (close_first_touches root sessions)

module _ (s : State) (formed : IsWellFormed s) (session : Session) (new : IsNewSession s session) where
  abbrev grown : List Session
  grown = s.sessions ++ session ∷ []

  -- the sessions with a new one may come next
  next_grown : AreNextSessions s grown (Some (key_of session))
  next_grown = record {
    numbered = numbered_pushed (λ (x : Session). x.num.0) s.sessions session formed.numbered.sessions new.num;
    rooted = All-push (IsRootedSession s.tables) s.sessions session formed.rooted.sessions new.rooted;
    adds = adds_pushed key_of s.sessions session;
    unused = one_unused s (key_of session) new.unused;
  }

  -- whether or not the first one is then closed
  opened_by : (test : Bool) → IsWellFormed (with_sessions s (if test then close_first session.root grown else grown))
  opened_by true =
      next_sessions s formed (close_first session.root grown) (Some (key_of session))
      (closed_next s grown (close_first session.root grown) (Some (key_of session)) (close_first_touches session.root grown) next_grown)
  opened_by false = next_sessions s formed grown (Some (key_of session)) next_grown

  -- a new session fits
  pub session_opened_fits : EventFits s (event.SessionOpened session)
  session_opened_fits = record { changed = tt; formed = opened_by (nat_lt 32 (count_by (is_open_of session.root) grown)) }

-- a session that is there may be closed
pub session_closed_fits : (s : State) → IsWellFormed s → (n : SessionId) → (session : Session) × IsSession s n session → EventFits s (event.SessionClosed n)
session_closed_fits s formed n there = record {
  changed = there;
  formed = next_sessions s formed (change_row closed s.sessions n.0) None (closed_next s s.sessions (change_row closed s.sessions n.0) None (change_row_touches closed s.sessions n.0) (record {
    numbered = formed.numbered.sessions;
    rooted = formed.rooted.sessions;
    adds = adds_none None (keys s) (keys s) refl;
    unused = none_unused s;
  }));
}
