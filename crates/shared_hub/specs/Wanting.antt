-- What is wanted of a history that many threads share, and what is told of it.
use Rattle.std.specs.Prelude.{◌≡◌, Bool, true, false, ℕ, List, [], Option, None, Result, Err, length}
use Rattle.desk_base.specs.Terms.{AppId, Event, IsWellFormed, Key, replay, State, Verdict}
use Rattle.host_base.specs.declared.bytes.Memory.{Memory}
use Rattle.session_table.specs.Verdict.{IsVerdict}
use Rattle.site_caps.specs.Answering.{GivesText}
use Rattle.site_caps.specs.Law.{Law}
use Rattle.desk_orders.specs.Answers.{IsAnswer}
use Rattle.desk_orders.specs.Commands.{Asked}
use Rattle.desk_orders.specs.declared.reply.OrderFault.{OrderFault}
use Rattle.desk_orders.specs.declared.reply.OrderFault.TheVariants as fault
use Rattle.desk_orders.specs.declared.reply.Reply.{Reply}
use Rattle.epoch_gate.specs.declared.book.Faults.{Faults}
use Rattle.hub_core.specs.Book.{IsFoundFor}
use Rattle.hub_core.specs.Spawning.{AreOfApp, HaveToken, token_of}
use Rattle.hub_core.specs.Ticking.{IsTick, NeverBack, added_by}
use Rattle.shared_hub.specs.Since.{Begun}
use Rattle.shared_hub.specs.declared.history.Told.{Told}
use Rattle.shared_hub.specs.declared.history.Told.TheVariants as told
use Rattle.shared_hub.specs.declared.history.Wanted.{Wanted}
use Rattle.shared_hub.specs.declared.history.Wanted.TheVariants as wanted

-- a state without rows, beside objects that tell nothing
abbrev pub blank : Begun
blank = record {
  start = record { tables = record { accounts = []; apps = []; grains = []; grants = []; saved = []; moment = 0 }; sessions = []; runs = []; handles = [] };
  holds = record {
    keeping = record { faults = 0; clean = false; rows = None };
    drawer = record { faults = 0; coming = None };
    spawns = record { faults = 0; starts = None; stops = None };
  };
}

abbrev pub no_faults : Faults
no_faults = record { store = false; secrets = false; starts = false }

-- the fault that an answer tells
abbrev pub faults_of : Result Reply OrderFault → Faults
faults_of (Err fault.Store) = record { store = true; secrets = false; starts = false }
faults_of (Err fault.Secrets) = record { store = false; secrets = true; starts = false }
faults_of (Err fault.Start) = record { store = false; secrets = false; starts = true }
faults_of _ = no_faults

-- the verdict on a key at the end of a history, whose state is well formed, and along which the clock never went back
abbrev pub ShowsVerdict : State → List Event → Key → Verdict → Type 0
ShowsVerdict start history key verdict =
    IsWellFormed (replay start history) × IsVerdict (replay start history) key verdict × NeverBack start history

-- An order is answered lawfully at a state with n entries, with what the sites have of what it chooses and with secrets
-- that were drawn for it; it adds these entries, and met the fault that its answer
-- tells. The state is well formed. A run that is started is of a grain of this application, and has the digest of the
-- secret's text.
pub record AnswersOrder (law : Law) (s : State) (n : ℕ) (order : Asked) (answer : Result Reply OrderFault)
    (added : List Event) (faults : Faults) : Type 0 where
  pub formed : IsWellFormed s
  pub found : Option Bool
  pub drawn : List (List ℕ)
  pub found_is : IsFoundFor law s order answer found
  pub lawful : IsAnswer law s n found order answer drawn added
  pub faults_are : faults ≡ faults_of answer
  pub app : AppId
  pub apps : AreOfApp s app added
  pub tokens : HaveToken (token_of order drawn) added

-- A tick to a moment is answered by whether some grant ends by it at the state, which is well formed. It adds itself where
-- it was answered by yes, and met no fault.
pub record AnswersTick (s : State) (m : ℕ) (answer : Result Bool Memory) (added : List Event) (faults : Faults) : Type 0 where
  pub formed : IsWellFormed s
  pub answered : IsTick s m answer
  pub added_is : added ≡ added_by m answer
  pub unfaulted : faults ≡ no_faults

-- WHAT IS TOLD of what is wanted, by what a history began with and its entries before: an order's answer, or a tick's, each
-- after entries along which the clock never went back; or what a site gives, which adds nothing.
abbrev pub AnswersWanted : Law → State → List Event → Wanted → Told → List Event → Faults → Type 0
AnswersWanted law start before (wanted.Order order) (told.Reply answer) added faults =
    AnswersOrder law (replay start before) (length before) order answer added faults × NeverBack start before
AnswersWanted law start before (wanted.Tick moment) (told.Ticked answer) added faults =
    AnswersTick (replay start before) moment answer added faults × NeverBack start before
AnswersWanted law start before (wanted.Site tag item) (told.Site answer) added faults =
    (added ≡ []) × (faults ≡ no_faults) × GivesText law tag item answer
AnswersWanted law start before _ _ added faults = ⊥
