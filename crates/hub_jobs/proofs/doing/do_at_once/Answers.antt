use Rattle.std.proofs.Common.{List, subst, sym}
use Rattle.share_graph.specs.declared.event.Event.{Event}
use Rattle.shared_hub.specs.Since.{HasKept}
use Rattle.shared_hub.proofs.Since.{kept_none}
use Rattle.hub_jobs.proofs.doing.do_at_once.Goals as goal

pub returns-in_default-clause-kept : goal.returns-in_default-clause-kept
returns-in_default-clause-kept g c =
    let locked = c.args.locked in
    subst (λ (h : List Event). HasKept locked.start locked.holds locked.holds h) (sym c.requires.empty) (kept_none locked.start locked.holds)
