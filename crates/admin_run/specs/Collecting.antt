-- What `collect` does.
use Rattle.std.specs.Prelude.{◌≡◌, ◌≢◌, ◌⊎◌, ◌++◌, ◌≤◌, ℕ, List, [], ◌∷◌, Some, Result, Ok, Err, All, codes, length}
use Rattle.desk_orders.specs.declared.reply.OrderFault.TheVariants as fault
use Rattle.desk_orders.specs.declared.reply.Reply.TheVariants as reply
use Rattle.admin_run.specs.Terms.{added_by, AreLoaded, Backing, BadRow, book_at, Came, Collecting, command_body, EndsWith, Event, HasBadRow, Inlet, IsStored, Keeping, Law, opened, OrderFault, Outlet, OutliveStops, Refusal, replay, Reply, Rose, Row, RowsFollow, sha256, shared_text, Tables, Ticks}
use Rattle.admin_run.specs.Outside.{Outside, Tells}

-- THE LOGIN that an input begins with: its bytes before the first line feed among the first 200, or without one all of these.
pub record IsLogin (bytes login : List ℕ) : Type 0 where
  pub rest : List ℕ
  pub bytes_are : bytes ≡ login ++ rest
  pub one_line : All (λ byte. byte ≢ 10) login
  pub few : length login ≤ 200
  pub ends : (rest ≡ []) ⊎ (((more : List ℕ) × (rest ≡ 10 ∷ more)) ⊎ (length login ≡ 200))

-- it was read
abbrev pub ReadsLogin : Inlet → List ℕ → Type 0
ReadsLogin inlet login = (bytes : List ℕ) → inlet.left ≡ Some bytes → IsLogin bytes login

-- a collection, and the link by which a curator lists a grain there, by their numbers: collected by whom this login is
abbrev pub collecting_by : List ℕ → ℕ → ℕ → Collecting
collecting_by login grain grant =
    record { curator = record { 0 = sha256 login }; collection = record { 0 = grain }; link = record { 0 = grant } }

-- a refusal as a line
abbrev pub refusal_line : Refusal → List ℕ
refusal_line why = command_body why ++ codes "\n"

-- What is printed of what collecting came to, and the status: how many shares were given, or why the next order was refused; and nothing where
-- it failed.
abbrev pub TellsOutcome : Result ℕ (Result Reply OrderFault) → Outlet → Outlet → ℕ → Type 0
TellsOutcome (Ok made) old new status = Tells old new (shared_text made) 0 status
TellsOutcome (Err (Ok (reply.Refused why))) old new status = Tells old new (refusal_line why) 11 status
TellsOutcome (Err (Err fault.Store)) old new status = (status ≡ 9) × (new ≡ old)
TellsOutcome (Err _) old new status = (status ≡ 7) × (new ≡ old)

-- IT WAS COLLECTED on tables, by a desk that nobody else gave orders: its history is what these orders added, and nothing else, and the keeper
-- has the tables at its end. What that came to was printed, or memory ran out.
pub record CollectsOn (law : Law) (asks : Collecting) (t : Tables) (old new : Backing) (out out' : Outlet) (status : ℕ)
    : Type 0 where
  pub history : List Event
  pub place : ℕ
  pub outcome : Result ℕ (Result Reply OrderFault)
  pub came : Came asks 0 (book_at law (record { start = opened t; entries = [] }) old)
      (book_at law (record { start = opened t; entries = history }) new) place
      (λ acts. EndsWith asks acts outcome)
  pub written : history ≡ added_by came.acts
  pub stored : IsStored new.keeping (replay (opened t) history).tables
  pub told : TellsOutcome outcome out out' status ⊎ ((status ≡ 7) × (out' ≡ out))

-- The login was read, and it was collected on the tables that the keeper's rows state, at the clock's moment. What a stop may leave at the end
-- is the rows of the tables then, or those after one event more.
pub record Collects (law : Law) (grain grant : ℕ) (may_leave : List Row → Type 0) (old new : Outside) (status : ℕ)
    : Type 0 where
  pub login : List ℕ
  pub read : ReadsLogin old.inlet login
  pub moment : ℕ
  pub ticks : Ticks old.moments new.moments moment
  pub tables : Tables
  pub begun : Keeping
  pub loaded : AreLoaded old.holds.keeping begun tables
  pub stored : IsStored begun tables
  pub counts : old.holds.keeping.faults ≤ begun.faults
  pub collected : CollectsOn law (collecting_by login grain grant) (record tables { moment = moment })
      (record old.holds { keeping = begun }) new.holds old.outlet new.outlet status
  pub outlive : OutliveStops new.holds.keeping may_leave
  pub others : new
      ≡ record old { inlet = new.inlet; outlet = new.outlet; holds = new.holds; moments = new.moments }

-- why there are no tables: the keeper failed, which it counted, a row is bad, or memory ran out
abbrev pub HasNoTables : Keeping → Keeping → ℕ → Type 0
HasNoTables keeping keeping' status =
    ((status ≡ 9) × Rose keeping.faults keeping'.faults)
    ⊎ (((status ≡ 10) × ((bad : BadRow) × HasBadRow keeping keeping' bad)) ⊎ (status ≡ 7))

-- NOTHING WAS COLLECTED OR PRINTED: the login couldn't be read, or there are no tables. The keeper's rows stay as they were.
pub record CollectsNone (old new : Outside) (status : ℕ) : Type 0 where
  pub cause : ((status ≡ 4) × Rose old.inlet.faults new.inlet.faults)
      ⊎ HasNoTables old.holds.keeping new.holds.keeping status
  pub kept : RowsFollow old.holds.keeping new.holds.keeping (λ rows. rows)
  pub others : new ≡ record old {
    inlet = new.inlet;
    holds = record old.holds { keeping = new.holds.keeping };
    moments = new.moments;
  }
