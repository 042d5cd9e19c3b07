use Rattle.std.proofs.Common.{refl}
use Rattle.share_graph.proofs.Coherence.{coherent}
use Rattle.session_table.specs.Standing.{node_on}
use Rattle.session_table.proofs.Accessed.{is_access}
use Rattle.session_table.proofs.permits.permit_of.Goals as goal

pub unreachable-requires-in_default-app_of : goal.unreachable-requires-in_default-app_of
unreachable-requires-in_default-app_of c =
    let (grain, is) = c.requires.there.grain in
    let (app, of_app) = ((coherent c.args.state.now.tables c.requires.checked).grains c.args.num grain is).app in
    c.in_default-app_of.ensures app (grain, is, of_app)

pub returns : goal.returns
returns c =
    let app = c.in-Some-app_of.app.now in
    let named = c.in_ok-names.ensures in record {
      held = named.held;
      app = app;
      access = is_access c.args.state.now.tables c.args.solved.now c.requires.solution (node_on c.args.num c.args.root) app c.in-Some.set c.in_ok-names.names c.requires.entry
          (rw c.node_on.ensures at c.in-Some.ensures.1) named;
      is_app = c.in-Some-app_of.ensures;
      run_is = refl;
      grain_is = refl;
      names_are = named.are;
      shown_is = c.in_ok-shown.ensures;
      tab_is = refl;
    }
