-- The first open session of a root.
use Rattle.std.specs.Prelude.{◌≡◌, ◌<◌, ℕ, true, false, List, Some, slice_get}
use Rattle.share_graph.specs.declared.sessions.Root.{Root}
use Rattle.share_graph.specs.declared.sessions.Session.{Session}
use Rattle.share_graph.specs.History.{is_open_of}

-- none before a place is open
abbrev pub NoneIsOpenBefore : Root → List Session → ℕ → Type 0
NoneIsOpenBefore root sessions i = (k : ℕ) (session : Session) → k < i → slice_get sessions k ≡ Some session → is_open_of root session ≡ false

abbrev pub NoneIsOpen : Root → List Session → Type 0
NoneIsOpen root sessions = (k : ℕ) (session : Session) → slice_get sessions k ≡ Some session → is_open_of root session ≡ false

pub record IsFirstOpen (root : Root) (sessions : List Session) (place : ℕ) : Type 0 where
  pub session : Session
  pub there : slice_get sessions place ≡ Some session
  pub is_open : is_open_of root session ≡ true
  pub before : NoneIsOpenBefore root sessions place
