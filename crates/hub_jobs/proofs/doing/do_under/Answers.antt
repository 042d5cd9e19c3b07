use Rattle.std.proofs.Common.{◌∙◌, List, ap, subst, sym}
use Rattle.std.proofs.lemmas.List.{nil_from_length}
use Rattle.std.proofs.lemmas.Result.{IfOk-weaker, on_err_weaker}
use Rattle.share_graph.specs.declared.event.Event.{Event}
use Rattle.share_graph.specs.declared.state.State.{State}
use Rattle.shared_hub.specs.Since.{Begun, HasKept}
use Rattle.hub_jobs.specs.Jobs.{DoneAtOnce}
use Rattle.hub_jobs.proofs.Shifts.{at_once, none_accepted}
use Rattle.hub_jobs.proofs.doing.do_under.Goals as goal

pub returns-clause-kept : goal.returns-clause-kept
returns-clause-kept g c =
    subst (λ (b : Begun). HasKept b.start b.holds c.into_locked.result.holds c.into_locked.result.history) (c.in-Ok.ensures.start ∙ sym c.requires.start) c.into_locked.ensures.kept

pub returns-clause-done : goal.returns-clause-done
returns-clause-done g c =
    let law = g.C.Law.SiteLaw.law in
    let olds = c.args.jobs.items in
    let news = c.do_by-passes.result.jobs.items in
    IfOk-weaker c.do_by-passes.result.outcome _ _ (λ done by.
    subst (λ (h : List Event). DoneAtOnce g.J.Job.does law c.args.locked.start h olds news) (sym c.into_locked.ensures.history)
    (subst (λ (s : State). DoneAtOnce g.J.Job.does law s c.in-Ok.history.history olds news) (ap (λ (b : Begun). b.start) (sym c.requires.start))
    (at_once g.J.Job.does law _ c.in-Ok.history.history c.do_by-passes.result.passes.items olds news by c.in-Ok.ensures.counted c.in-Ok.ensures.seen)))
    c.do_by-passes.ensures.done

pub returns-clause-none : goal.returns-clause-none
returns-clause-none g c =
    on_err_weaker c.do_by-passes.result.outcome (λ none. (
      none.0,
      c.into_locked.ensures.history
          ∙ nil_from_length c.in-Ok.history.history (sym c.in-Ok.ensures.counted ∙ none_accepted c.do_by-passes.result.passes.items none.1),
    )) c.do_by-passes.ensures.none
