use Rattle.std.proofs.Common.{◌≡◌, ◌∷◌, ◌++◌, [], Bool, Result, Ok, Err, sym, ◌∙◌, ap, subst}
use Rattle.std.specs.Prelude.{IfOk, IsTrue}
use Rattle.share_graph.specs.declared.event.Event.{Event}
use Rattle.share_graph.specs.declared.grants.Grant.{Grant}
use Rattle.share_graph.specs.declared.state.State.{State}
use Rattle.share_graph.specs.declared.state.Tables.{Tables}
use Rattle.share_graph.specs.Coherent.{IsCoherent}
use Rattle.share_graph.specs.EventFits.{HasChanged}
use Rattle.share_graph.specs.History.{after}
use Rattle.share_graph.specs.Rows.{IsGrant}
use Rattle.share_graph.proofs.Coherence.{coherent}
use Rattle.least_access.specs.Solved.{Table, IsSolutionOf}
use Rattle.live_access.specs.contracts.solution.Solution.{the_view}
use Rattle.live_access.specs.Kept.{Kept, IsSolvedFor}
use Rattle.live_access.specs.Ready.{IsBefore}
use Rattle.live_access.specs.Staying.{AddsNothing, TakesNothing}
use Rattle.live_access.proofs.Stays.{new_assigned, new_stays, revoked_stays}
use Rattle.live_access.proofs.solution.Solution.stays.Goals as goal

pub adds_nothing-requires-clause-coherent : goal.adds_nothing-requires-clause-coherent
adds_nothing-requires-clause-coherent g c =
    let (s, before) = c.requires.before in subst (λ (t : Tables). IsCoherent t) before.tables (coherent s.tables before.formed.tables)

pub adds_nothing-requires-clause-fits : goal.adds_nothing-requires-clause-fits
adds_nothing-requires-clause-fits g c =
    let (s, before) = c.requires.before in
    rw (← before.tables) (new_assigned s c.args.event.now c.in-GrantAdded.grant before.fits (ap (λ (e : Event). (after s e).tables) c.in-GrantAdded.is))

pub adds_nothing-requires-in-Claimed-clause-coherent : goal.adds_nothing-requires-in-Claimed-clause-coherent
adds_nothing-requires-in-Claimed-clause-coherent g c =
    let (s, before) = c.requires.before in subst (λ (t : Tables). IsCoherent t) before.tables (coherent s.tables before.formed.tables)

pub adds_nothing-requires-in-Claimed-clause-fits : goal.adds_nothing-requires-in-Claimed-clause-fits
adds_nothing-requires-in-Claimed-clause-fits g c =
    let (s, before) = c.requires.before in
    rw (← before.tables) (new_assigned s c.args.event.now c.in-Claimed.grant before.fits (ap (λ (e : Event). (after s e).tables) c.in-Claimed.is))

pub loses_nothing-requires-clause-coherent : goal.loses_nothing-requires-clause-coherent
loses_nothing-requires-clause-coherent g c =
    let (s, before) = c.requires.before in subst (λ (t : Tables). IsCoherent t) before.tables (coherent s.tables before.formed.tables)

pub loses_nothing-requires-clause-row : goal.loses_nothing-requires-clause-row
loses_nothing-requires-clause-row g c =
    let (s, before) = c.requires.before in
    rw (← before.tables) (subst (λ (e : Event). HasChanged s e) c.in-GrantRevoked.is before.fits.changed)

-- a new grant that adds nothing
module _ (s : State) (e : Event) (grant : Grant) (t : Tables) (table : Table) (before : IsBefore s e t) where
  pub stays_by_new : (after s e).tables ≡ record s.tables { grants = s.tables.grants ++ grant ∷ [] } → IsSolutionOf t table → AddsNothing t table grant → IsSolutionOf (after s e).tables table
  stays_by_new is solution nothing =
      new_stays s e grant before.fits is table (subst (λ (u : Tables). IsSolutionOf u table) (sym before.tables) solution) (subst (λ (u : Tables). AddsNothing u table grant) (sym before.tables) nothing)

pub returns-in-GrantAdded-clause-stays : goal.returns-in-GrantAdded-clause-stays
returns-in-GrantAdded-clause-stays g c holds s before =
    let t = g.V.Probe.tables c.args.probe.now in
    let same = ap the_view c.self-inside.view_is ∙ c.self.view_is in
    let solution = (subst (λ (kept : Kept). IsSolvedFor t kept) (sym same) c.requires.solved).solution in
    subst (λ (kept : Kept). IsSolutionOf (after s c.args.event.now).tables kept.table) same
    (stays_by_new s c.args.event.now c.in-GrantAdded.grant t _ before (ap (λ (e : Event). (after s e).tables) c.in-GrantAdded.is) solution (c.adds_nothing.ensures.nothing holds))

pub returns-in-Claimed-clause-stays : goal.returns-in-Claimed-clause-stays
returns-in-Claimed-clause-stays g c holds s before =
    let t = g.V.Probe.tables c.args.probe.now in
    let same = ap the_view c.self-inside.view_is ∙ c.self.view_is in
    let solution = (subst (λ (kept : Kept). IsSolvedFor t kept) (sym same) c.requires.solved).solution in
    subst (λ (kept : Kept). IsSolutionOf (after s c.args.event.now).tables kept.table) same
    (stays_by_new s c.args.event.now c.in-Claimed.grant t _ before (ap (λ (e : Event). (after s e).tables) c.in-Claimed.is) solution (c.adds_nothing-in-Claimed.ensures.nothing holds))

if_ok : {X E : Type 0} {P Q : X → Type 0} (r : Result X E) → ((x : X) → P x → Q x) → IfOk r P → IfOk r Q
if_ok (Ok x) f p = f x p
if_ok (Err e) f p = tt

pub returns-in-GrantRevoked-clause-stays : goal.returns-in-GrantRevoked-clause-stays
returns-in-GrantRevoked-clause-stays g c =
    let t = g.V.Probe.tables c.args.probe.now in
    let table : Table = c.args.self.now.table in
    let gone : (nothing : Bool) → (IsTrue nothing → TakesNothing t table c.in-GrantRevoked.num)
    → IsTrue nothing → (s : State) → IsBefore s c.args.event.now t → IsSolutionOf (after s c.args.event.now).tables table =
    λ nothing takes holds s before.
    revoked_stays s c.args.event.now c.in-GrantRevoked.num table c.in-GrantRevoked.is
    (subst (λ (u : Tables). IsSolutionOf u table) (sym before.tables) c.requires.solved.solution)
    (subst (λ (u : Tables). TakesNothing u table c.in-GrantRevoked.num) (sym before.tables) (takes holds))
    in
    if_ok c.loses_nothing.result gone c.loses_nothing.ensures.nothing
