use Rattle.std.proofs.Common.{refl, sym}
use Rattle.share_graph.specs.declared.facts.Fact.TheVariants.{Perm}
use Rattle.share_graph.specs.declared.facts.Node.TheVariants as node
use Rattle.report_desk.proofs.Holding.{app_of_grain, holds_there}
use Rattle.listings.proofs.Running.{running_by}
use Rattle.listings.proofs.entering.line_of.Goals as goal

pub unreachable-requires : goal.unreachable-requires
unreachable-requires c =
    let ((grain, is), there) = (holds_there c.args.state.now.tables c.requires.coherent c.requires.enters).0 in
    cc (is, c.in_default.ensures)

pub unreachable-requires-in_default-app_of : goal.unreachable-requires-in_default-app_of
unreachable-requires-in_default-app_of c =
    let (app, is) = app_of_grain c.args.state.now.tables c.requires.coherent c.args.num (c.in-Some.grain.now, sym c.in-Some.ensures) in
    c.in_default-app_of.ensures app is

pub returns : goal.returns
returns c =
    let held = c.in-Some-access.ensures in
    record {
      grain = c.in-Some.grain.now;
      is_row = sym c.in-Some.ensures;
      num = refl;
      app = refl;
      title = c.in_ok-title.ensures.cases;
      owner = (c.in-Some-find_account.owner.now, sym c.in-Some-find_account.ensures, c.in_ok-owner.ensures.cases);
      held = c.in-Some-access.held;
      exact = λ p.
          let solved = c.requires.solution (node.User c.args.num c.args.account) (Perm p) in
          (λ has. solved.0 ((held.1 p).0 has), λ holds. (held.1 p).1 (solved.1 holds));
      names = (c.in-Some-app_of.app.now, c.in-Some-app_of.ensures, c.in_ok-permissions.ensures);
      running = running_by c.args.state.now.runs c.args.num c.live_run.result c.is_some.result c.is_some.ensures c.live_run.ensures;
    }
