-- THE LAWFUL ANSWERS of an order, once for all commands.
use Rattle.std.specs.Prelude.{◌≡◌, ◌⊎◌, ℕ, Bool, false, List, [], ◌∷◌, Option, Some, None, Result, Ok, Err}
use Rattle.desk_orders.specs.Terms.{Accepts, Command, Event, IsOfRuns, IsOfTables, IsRefusal, Keeps, Law, Made, nothing_made, OrderFault, Ready, Refusal, Reply, State, WantsSecret}
use Rattle.desk_orders.specs.Commands.{Asked, lists, secret_use}
use Rattle.desk_orders.specs.declared.reply.OrderFault.TheVariants as fault
use Rattle.desk_orders.specs.declared.reply.Reply.TheVariants as reply
use Rattle.desk_orders.specs.Orders.{RowOf}
use Rattle.desk_orders.specs.Sites.{ListsBy}
use Rattle.desk_orders.specs.Secrets.{secret_text, shown_by, text_digest}

-- The change is accepted, with the secrets that were drawn for the order: none, or the one whose text has its digest.
abbrev pub AcceptsWith : State → ℕ → Option Bool → Asked → List (List ℕ) → Event → Made → Type 0
AcceptsWith s n found order [] e made = Accepts s n None (RowOf s found order) e made
AcceptsWith s n found order (secret ∷ []) e made =
    Accepts s n (Some (text_digest (secret_text order.command secret))) (RowOf s found order) e made
AcceptsWith s n found order (secret ∷ more ∷ rest) e made = ⊥

-- The order is refused: by what is ready, or because a row has the digest of the secret that was drawn.
abbrev pub RefusesWith : State → ℕ → Option Bool → Asked → List (List ℕ) → Refusal → Type 0
RefusesWith s n found order [] r = IsRefusal s n None (RowOf s found order) r
RefusesWith s n found order (secret ∷ []) r =
    IsRefusal s n (Some (text_digest (secret_text order.command secret))) (RowOf s found order) r
RefusesWith s n found order (secret ∷ more ∷ rest) r = ⊥

-- the text of the secret that was drawn, if one was and the reply shows it
abbrev pub shown_text : Command → List (List ℕ) → Option (List ℕ)
shown_text c [] = None
shown_text c (secret ∷ rest) = shown_by (secret_use c) (secret_text c secret)

-- a command that is carried out: things are as it asks, or its change is accepted
abbrev pub IsDone : State → ℕ → Option Bool → Asked → Made → Option (List ℕ) → List (List ℕ) → List Event
    → Type 0
IsDone s n found order made text drawn added =
    ((added ≡ []) × (drawn ≡ []) × (text ≡ None) × Ready n (RowOf s found order) (Keeps made))
    ⊎ ((e : Event) × (added ≡ e ∷ []) × (text ≡ shown_text order.command drawn)
    × AcceptsWith s n found order drawn e made)

-- what want of memory may have drawn: nothing, or the one secret that the change wants
abbrev pub MayHaveDrawn : State → ℕ → Option Bool → Asked → List (List ℕ) → Type 0
MayHaveDrawn s n found order [] = Unit {0}
MayHaveDrawn s n found order (secret ∷ []) = WantsSecret n (RowOf s found order)
MayHaveDrawn s n found order (secret ∷ more ∷ rest) = ⊥

-- THE ANSWER to an order at a state with n entries: with what the sites have of its choice, what is drawn, and what it adds.
abbrev pub IsAnswer : Law → State → ℕ → Option Bool → Asked → Result Reply OrderFault → List (List ℕ)
    → List Event → Type 0
IsAnswer law s n found order (Ok (reply.Refused r)) drawn added =
    (added ≡ []) × RefusesWith s n found order drawn r
IsAnswer law s n found order (Ok (reply.Made made text)) drawn added =
    (lists order.command ≡ false) × IsDone s n found order made text drawn added
IsAnswer law s n found order (Ok (reply.Listed list)) drawn added =
    (added ≡ []) × (drawn ≡ []) × Ready n (RowOf s found order) (Keeps nothing_made)
    × ListsBy law s order.caller order.command list
IsAnswer law s n found order (Err fault.Secrets) drawn added =
    (added ≡ []) × (drawn ≡ []) × WantsSecret n (RowOf s found order)
IsAnswer law s n found order (Err fault.Start) drawn added =
    (added ≡ []) × ((e : Event) × (made : Made) × IsOfRuns e × AcceptsWith s n found order drawn e made)
IsAnswer law s n found order (Err fault.Store) drawn added =
    (added ≡ []) × ((e : Event) × (made : Made) × IsOfTables e × AcceptsWith s n found order drawn e made)
IsAnswer law s n found order (Err fault.Memory) drawn added =
    (added ≡ []) × MayHaveDrawn s n found order drawn
