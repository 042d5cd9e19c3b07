use Rattle.std.proofs.Common.{◌≡◌, ◌↔◌, Result, Ok, Err, List, Contains, inl, sym, subst}
use Rattle.std.specs.Prelude.{IfOk}
use Rattle.std.specs.Global.{Vec}
use Rattle.share_graph.specs.declared.facts.Node.{Node}
use Rattle.share_graph.specs.declared.state.State.{State}
use Rattle.share_graph.specs.declared.state.Tables.{Tables}
use Rattle.region_access.specs.Seeds.{IsSeedOf}
use Rattle.live_access.specs.Ready.{AreSeedsFor, IsBefore}
use Rattle.live_access.proofs.solution.Solution.starts.Goals as goal

if_ok : {X E : Type 0} {P Q : X → Type 0} (r : Result X E) → ((x : X) → P x → Q x) → IfOk r P → IfOk r Q
if_ok (Ok x) f p = f x p
if_ok (Err e) f p = tt

pub returns-clause-exact : goal.returns-clause-exact
returns-clause-exact g c =
    let t = g.V.Probe.tables c.args.probe.now in
    let e = c.args.event.now in
    let seeds : (found : Vec Node) → ((at : Node) → Contains found.items at ↔ Contains c.args.seeds.now at)
    → (s : State) → IsBefore s e t → AreSeedsFor s e c.args.self.now.table found.items =
    λ found same s before.
    inl (λ at.
    let exact = subst (λ (u : Tables). Contains c.args.seeds.now at ↔ IsSeedOf u e at) (sym before.tables) (c.requires.seeds at) in
    (λ has. exact.0 ((same at).0 has), λ is. (same at).1 (exact.1 is)))
    in
    if_ok c.distinct.result seeds c.distinct.ensures.same
