-- What answering an order at the end of a history comes to, as its book tells it.
use Rattle.std.proofs.Common.{◌≡◌, ℕ, ◌≤◌, ◌++◌, Bool, false, List, [], ◌∷◌, Option, Result, Ok, Err, length, refl, sym, ◌∙◌, ap, subst, arith, append-nil, length-append, inr}
use Rattle.std.specs.Prelude.{⊤, IfErr}
use Rattle.host_base.specs.Drawing.{Drawer}
use Rattle.desk_base.specs.Accepting.{Ready}
use Rattle.desk_base.specs.Fitting.{StartsNoRun}
use Rattle.desk_base.specs.Outcomes.{Completes, HasClash, draft_step, with_digest}
use Rattle.desk_base.specs.Steps.{Makes, Drawn}
use Rattle.desk_base.specs.Terms.{AppId, Digest, Event, HasDigest, IsUnused, Made, Refusal, replay}
use Rattle.desk_base.specs.Terms.{State}
use Rattle.desk_base.specs.declared.outcome.Draft.{Draft}
use Rattle.share_graph.specs.declared.event.Event.TheVariants as event
use Rattle.desk_orders.specs.Answers.{AcceptsWith, RefusesWith, MayHaveDrawn, shown_text, IsAnswer}
use Rattle.desk_orders.specs.Commands.{Asked, lists}
use Rattle.desk_orders.specs.Orders.{RowOf}
use Rattle.desk_orders.specs.Secrets.{DrawsAll, secret_text, text_digest}
use Rattle.desk_orders.specs.Sites.{IsFoundBy}
use Rattle.desk_orders.specs.declared.reply.OrderFault.{OrderFault}
use Rattle.desk_orders.specs.declared.reply.OrderFault.TheVariants as fault
use Rattle.desk_orders.specs.declared.reply.Reply.{Reply}
use Rattle.row_tables.specs.Kept.{IsStored}
use Rattle.site_caps.specs.Law.{Law}
use Rattle.hub_core.specs.Book.{Backing, CountsOn, IsCounted, IsFoundFor}
use Rattle.hub_core.specs.Inner.{CanMeet, OrderedBy, Told, entry_of, replied}
use Rattle.hub_core.specs.Sharing.{Sharing}
use Rattle.hub_core.specs.Spawning.{IsOfApp, HasToken, AreOfApp, HaveToken, Spawned, token_of}
use Rattle.hub_core.proofs.Adding.{told_nothing}

-- the entry that an event is has its token
entry_token : (token : List ℕ) (e : Event) → HasToken token e → (result : Result ⊤ OrderFault) → HaveToken token (entry_of e result)
entry_token token e has (Ok done) = (has, tt)
entry_token token e has (Err why) = tt

-- and its application
entry_app : (s : State) (app : AppId) (e : Event) → IsOfApp s app e → (result : Result ⊤ OrderFault) → AreOfApp s app (entry_of e result)
entry_app s app e has (Ok done) = (has, tt)
entry_app s app e has (Err why) = tt

-- an event that starts no run has any token
pub no_start : (token : List ℕ) (e : Event) → StartsNoRun e → HasToken token e
no_start token (event.RunStarted run) none = absurd none
no_start token e none = tt

-- and one that got the digest of a token has that one
pub drafted : (token : List ℕ) (e : Event) (d : Digest) → d ≡ text_digest token → HasToken token (with_digest e d)
drafted token (event.RunStarted run) d is = is
drafted token e d is = tt

-- a draft that the digest of a secret completes is accepted
pub completed : (s : State) (n : ℕ) (found : Option Bool) (order : Asked) (secret : List ℕ) (draft : Draft) (d : Digest)
    (e : Event) (made : Made) → d ≡ text_digest (secret_text order.command secret)
    → Ready n (RowOf s found order) (draft_step draft) → Completes s d draft (e, made)
    → AcceptsWith s n found order (secret ∷ []) e made
completed s n found order secret draft d e made same ready (e_is, made_is, unused) = (
  with_digest draft.event,
  subst (λ (m : Made). Ready n (RowOf s found order) (Makes (Drawn (with_digest draft.event)) m)) (sym made_is) ready,
  e_is ∙ ap (with_digest draft.event) same,
  subst (λ (x : Digest). IsUnused s x) same unused,
)

-- and one that a row has refuses it
pub clashed : (s : State) (n : ℕ) (found : Option Bool) (order : Asked) (secret : List ℕ) (draft : Draft) (d : Digest)
    (r : Refusal) → d ≡ text_digest (secret_text order.command secret) → Ready n (RowOf s found order) (draft_step draft)
    → HasClash s d r → RefusesWith s n found order (secret ∷ []) r
clashed s n found order secret draft d r same ready (k, (i, is, has)) =
    (k, (i, is, subst (λ (x : Digest). HasDigest s x k i) same has, (with_digest draft.event, (draft.made, ready))))

-- where a change is accepted, a secret that was drawn was wanted
may_have_drawn : (s : State) (n : ℕ) (found : Option Bool) (order : Asked) (drawn : List (List ℕ)) (e : Event) (made : Made)
    → AcceptsWith s n found order drawn e made → MayHaveDrawn s n found order drawn
may_have_drawn s n found order [] e made is = tt
may_have_drawn s n found order (secret ∷ []) e made (f, ready, unused, same) = (f, (made, ready))
may_have_drawn s n found order (secret ∷ more ∷ rest) e made is = absurd is

-- it is a lawful one
carried : (law : Law) (s : State) (n : ℕ) (found : Option Bool) (order : Asked) (drawn : List (List ℕ)) (e : Event)
    (made : Made) → lists order.command ≡ false → AcceptsWith s n found order drawn e made
    → (result : Result ⊤ OrderFault) → IfErr result (CanMeet e)
    → IsAnswer law s n found order (replied made (shown_text order.command drawn) result) drawn (entry_of e result)
carried law s n found order drawn e made asks is (Ok done) can = (asks, inr (e, refl, refl, is))
carried law s n found order drawn e made asks is (Err fault.Secrets) can = absurd can
carried law s n found order drawn e made asks is (Err fault.Memory) can = (refl, may_have_drawn s n found order drawn e made is)
carried law s n found order drawn e made asks is (Err why) can = (refl, (e, made, can, is))

-- and the fault was counted, by whoever had drawn
counted_so : (old new : Backing) (drawer : Drawer) (e : Event) (made : Made) (text : Option (List ℕ))
    (result : Result ⊤ OrderFault) → IfErr result (CanMeet e)
    → IfErr result (λ why. IsCounted (record old { drawer = drawer }) new (Err why))
    → IsCounted old new (replied made text result)
counted_so old new drawer e made text (Ok done) can counted = tt
counted_so old new drawer e made text (Err fault.Secrets) can counted = absurd can
counted_so old new drawer e made text (Err why) can counted = counted

module _ {K : Type 0} (law : Law) (found : Option Bool) (old : Sharing K) (order : Asked) where
  abbrev Lawful : Result Reply OrderFault → List (List ℕ) → List Event → Type 0
  Lawful = IsAnswer law (replay old.start old.history) (length old.history) found order

  -- from rows of the tables before, a keeper has come to those of the tables after
  abbrev Stores : Backing → Sharing K → Type 0
  Stores holds new = IsStored holds.keeping (replay old.start old.history).tables
      → IsStored new.holds.keeping (replay new.start new.history).tables

  -- these secrets were drawn, and nothing else was done
  abbrev Drew : Backing → List (List ℕ) → Type 0
  Drew holds drawn = (holds ≡ record old.holds { drawer = holds.drawer })
      × (old.holds.drawer.faults ≤ holds.drawer.faults)
      × DrawsAll old.holds.drawer.coming holds.drawer.coming drawn

  -- the order's place is the end of the history
  ordered : (new : Sharing K) (answer : Result Reply OrderFault) (drawn : List (List ℕ)) (added : List Event) (app : AppId)
      → new.start ≡ old.start → new.history ≡ old.history ++ added → Stores old.holds new
      → CountsOn old.holds new.holds → DrawsAll old.holds.drawer.coming new.holds.drawer.coming drawn
      → Spawned old.holds.spawns new.holds.spawns app (token_of order drawn) added → HaveToken (token_of order drawn) added
      → AreOfApp (replay old.start old.history) app added
      → Lawful answer drawn added → IsCounted old.holds new.holds answer → OrderedBy law found old new order answer
  ordered new answer drawn added app start entries stored counts draws spawned tokens apps lawful counted formed found_is = record {
    drawn = drawn;
    added = added;
    app = app;
    later = record { law = refl; start = start; more = added; seen = entries; counts = counts; stored = stored };
    placed = record {
      before = old.history;
      rest = [];
      seen = entries ∙ sym (append-nil (old.history ++ added));
      place_is = refl;
      low_is = omega arith;
      formed = rw start formed;
      found = found;
      found_is = rw start found_is;
      lawful = rw start lawful;
      apps = rw start apps;
    };
    accepted = ap length entries ∙ length-append old.history added;
    draws = draws;
    spawned = spawned;
    tokens = tokens;
    counted = counted;
  }

  -- nothing was added
  pub unchanged : (holds : Backing) (drawn : List (List ℕ)) → Drew holds drawn → (answer : Result Reply OrderFault)
      → Lawful answer drawn [] → IsCounted old.holds holds answer
      → OrderedBy law found old (record old { holds = holds }) order answer
  unchanged holds drawn (others, counts, draws) answer lawful counted =
      ordered (record old { holds = holds }) answer drawn [] (record { 0 = 0 }) refl (sym (append-nil old.history)) (λ has. rw others has)
      (record { store = rw others (omega arith); secrets = counts; starts = rw others (omega arith); clean = λ is. rw others at is }) draws
      (told_nothing old.holds.spawns holds.spawns (record { 0 = 0 }) (token_of order drawn) (rw others refl) (rw others refl)) tt tt lawful counted

  -- nothing was drawn either
  pub unmoved : (answer : Result Reply OrderFault) → Lawful answer [] [] → IsCounted old.holds old.holds answer
      → OrderedBy law found old old order answer
  unmoved = unchanged old.holds [] (refl, omega arith, refl)

  -- a change was carried out, or a fault kept it from being
  pub changed : (holds : Backing) (drawn : List (List ℕ)) → Drew holds drawn → lists order.command ≡ false
      → (new : Sharing K) (e : Event) (made : Made) (result : Result ⊤ OrderFault) → new.start ≡ old.start
      → new.history ≡ old.history ++ entry_of e result → (app : AppId) → IsOfApp (replay old.start old.history) app e
      → Told holds new.holds e app (token_of order drawn) result → HasToken (token_of order drawn) e → Stores holds new → AcceptsWith (replay old.start old.history) (length old.history) found order drawn e made
      → OrderedBy law found old new order (replied made (shown_text order.command drawn) result)
  changed holds drawn (others, counts, draws) asks new e made result start entries app has told token stored is =
      let tells : Told (record old.holds { drawer = holds.drawer }) new.holds e app (token_of order drawn) result = rw others at told in
      let text = shown_text order.command drawn in
      ordered new (replied made text result) drawn (entry_of e result) app start entries
      (subst (λ (h : Backing). Stores h new) others stored)
      (record { store = tells.counts.store; secrets = omega arith; starts = tells.counts.starts; clean = tells.counts.clean })
      (rw tells.undrawn draws) tells.spawned (entry_token (token_of order drawn) e token result)
      (entry_app (replay old.start old.history) app e has result)
      (carried law (replay old.start old.history) (length old.history) found order drawn e made asks is result tells.meets)
      (counted_so old.holds new.holds holds.drawer e made text result tells.meets tells.counted)

-- what the sites have counts for every answer
pub found_for : (law : Law) (s : State) (order : Asked) (answer : Result Reply OrderFault) (found : Option Bool)
    → IsFoundBy law s order.caller order.command found → IsFoundFor law s order answer found
found_for law s order (Err fault.Memory) found is = tt
found_for law s order answer found is = is
