use Rattle.std.proofs.Common.{◌≡◌, List, [], sym, subst, arith}
use Rattle.desk_base.specs.Terms.{Event}
use Rattle.hub_core.specs.Sharing.{KeepsPast}
use Rattle.hub_core.proofs.Ticking.{never_back_none}
use Rattle.hub_core.proofs.history.History.new.Goals as goal

pub invariant_of-result : goal.invariant_of-result
invariant_of-result c =
    let begun : KeepsPast c.in_ok-start.start c.args.state [] c.in_ok-start.solution = record {
      replayed = sym c.in_ok-start.ensures.0;
      formed = c.requires.formed;
      solved = c.in_ok-start.ensures.1;
      few = omega arith;
      sessions = omega (arith, c.requires.few);
      onward = never_back_none c.in_ok-start.start;
    } in
    subst (λ (es : List Event). KeepsPast c.in_ok-start.start c.args.state es c.in_ok-start.solution) (sym c.new.ensures.items) begun
