-- What is made of an answer to a question answers it too.
use Rattle.std.proofs.Common.{◌≡◌, ◌∙◌, Result, Ok, Err, None, ap, sym, subst}
use Rattle.std.specs.Prelude.{IsOkAnd}
use Rattle.std.specs.Result.{MatchResult}
use Rattle.desk_base.specs.Outcomes.{IsAnswered}
use Rattle.desk_base.specs.Steps.{Step}
use Rattle.desk_base.specs.Terms.{Caller, DeskFault, State}
use Rattle.share_graph.specs.declared.desk.DeskFault.TheVariants as fault
use Rattle.site_caps.specs.Law.{Law}
use Rattle.desk_orders.specs.declared.order.Command.{Command}
use Rattle.desk_orders.specs.declared.reply.Listing.{Listing}
use Rattle.desk_orders.specs.Commands.{Asked}
use Rattle.desk_orders.specs.Listing.{IsListed}
use Rattle.desk_orders.specs.Orders.{RowBy, RowOf}
use Rattle.desk_orders.specs.Sites.{ListsBy}

module _ {X : Type 0} (law : Law) (s : State) (who : Caller) (c : Command) (Told : X → Type 0) (make : X → Listing) where
  -- the answer of the row, and what was made of it
  abbrev Row : Step → Type 0
  Row = RowBy s None who c

  abbrev Says : Listing → Type 0
  Says = ListsBy law s who c

  not_told : (why : DeskFault) → IsAnswered Row Told (Err why) → IsAnswered Row Says (Err why)
  not_told (fault.Refused r) is = is
  not_told fault.Memory is = tt

  listed : ((x : X) → Told x → Says (make x)) → (answer : Result X DeskFault) (made : Result Listing DeskFault)
      → MatchResult answer (λ x. IsOkAnd made (λ told. told ≡ make x)) (λ why. made ≡ Err why) → IsAnswered Row Told answer → IsAnswered Row Says made
  listed says (Ok x) (Ok told) is answered = (answered.0, subst Says (sym is) (says x answered.1))
  listed says (Ok x) (Err why) is answered = absurd is
  listed says (Err why) made is answered = subst (IsAnswered Row Says) (sym is) (not_told why answered)

  abbrev asked_by : Command → Asked
  asked_by command = record { caller = who; command = command }

  pub answered_by : ((x : X) → Told x → Says (make x)) → (inside : Command) → inside ≡ c → (order : Asked) → asked_by inside ≡ order
      → (answer : Result X DeskFault) (made : Result Listing DeskFault)
      → MatchResult answer (λ x. IsOkAnd made (λ told. told ≡ make x)) (λ why. made ≡ Err why) → IsAnswered Row Told answer → IsListed law s order made
  unfolding RowOf
  answered_by says inside is order view answer made cases answered =
      subst (λ (one : Asked). IsListed law s one made) (sym (ap asked_by is) ∙ view) (listed says answer made cases answered)
