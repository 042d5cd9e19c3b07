-- THE ORDERS OF A CURATOR that collects for all members of a collection, and what they come to.
use Rattle.std.specs.Prelude.{◌≡◌, ◌⊎◌, ◌≤◌, ◌++◌, ℕ, Bool, false, List, [], ◌∷◌, Option, Some, None, Result, Ok, Err, All, count_by, is_some, map}
use Rattle.cloud_serve.specs.Terms.{AccountId, Asked, Book, Collecting, OrderFault, Reply}
use Rattle.share_graph.specs.declared.desk.Caller.TheVariants as caller
use Rattle.desk_orders.specs.declared.order.Command.TheVariants as command
use Rattle.desk_orders.specs.declared.reply.Listing.TheVariants as listing
use Rattle.desk_orders.specs.declared.reply.Reply.TheVariants as reply
use Rattle.cloud_serve.specs.Acts.{Act, is_done, IsMade, past}

-- orders one after another, each lawful, and not before what the one before it added
abbrev pub AreMade : Book → ℕ → List Act → Type 0
AreMade book low [] = Unit {0}
AreMade book low (act ∷ acts) = IsMade book low act.order act × AreMade book (past act) acts

-- the place of the last of them, and how far the history is counted behind it; what is given, where there are none
abbrev pub place_after : ℕ → List Act → ℕ
place_after place [] = place
place_after place (act ∷ acts) = place_after act.place acts

abbrev pub past_all : ℕ → List Act → ℕ
past_all low [] = low
past_all low (act ∷ acts) = past_all (past act) acts

-- the members that an answer lists as owed a share
abbrev pub listed_by : Result Reply OrderFault → Option (List AccountId)
listed_by (Ok (reply.Listed (listing.Owed members))) = Some members
listed_by _ = None

-- whether an answer shows a share
abbrev pub shows_share : Result Reply OrderFault → Bool
shows_share (Ok (reply.Made made text)) = is_some made.grant
shows_share _ = false

-- how many of the answers do
abbrev pub shares : List Act → ℕ
shares acts = count_by (λ act. shows_share act.answer) acts

module _ (asks : Collecting) where
  -- the question which members are owed a share, and the order that gives a member the one that it is owed
  abbrev pub question : Asked
  question = record { caller = caller.Login asks.curator; command = command.Missing asks.collection asks.link }

  abbrev pub giving : AccountId → Asked
  giving member = record { caller = caller.Login asks.curator; command = command.Collect asks.collection asks.link member }

  abbrev pub IsOfCurator : Act → Type 0
  IsOfCurator act = (act.order ≡ question) ⊎ ((member : AccountId) × (act.order ≡ giving member))

  -- such orders, one after another
  pub record AreCollecting (book : Book) (low : ℕ) (acts : List Act) : Type 0 where
    pub made : AreMade book low acts
    pub orders : All IsOfCurator acts

  -- A ROUND: the question, and behind it an order for each member that it listed, in their order.
  pub record IsRound (acts : List Act) : Type 0 where
    pub first : Act
    pub rest : List Act
    pub members : List AccountId
    pub acts_are : acts ≡ first ∷ rest
    pub asked : first.order ≡ question
    pub listed : listed_by first.answer ≡ Some members
    pub each : map (λ act. act.order) rest ≡ map giving members

  -- Nothing is left: the last round gave no share, or more were given than there can be members.
  abbrev pub IsOver : List Act → Type 0
  IsOver acts =
      ((earlier last : List Act) × (acts ≡ earlier ++ last) × IsRound last × (shares last ≡ 0))
      ⊎ (4096 ≤ shares acts)

  -- the order wasn't carried out
  abbrev pub Fails : Act → Type 0
  Fails act =
      ((act.order ≡ question) × (listed_by act.answer ≡ None))
      ⊎ ((member : AccountId) × (act.order ≡ giving member) × (is_done act.answer ≡ false))

  -- the last of the orders wasn't carried out, and this is its answer
  pub record StopsWith (acts : List Act) (answer : Result Reply OrderFault) : Type 0 where
    pub earlier : List Act
    pub last : Act
    pub acts_are : acts ≡ earlier ++ last ∷ []
    pub fails : Fails last
    pub answer_is : answer ≡ last.answer

  -- What collecting comes to: that nothing is left, with the number of shares that were given; or the answer to the first order that wasn't
  -- carried out. The shares before it stand.
  abbrev pub EndsWith : List Act → Result ℕ (Result Reply OrderFault) → Type 0
  EndsWith acts (Ok made) = (made ≡ shares acts) × IsOver acts
  EndsWith acts (Err answer) = StopsWith acts answer
