use Rattle.std.proofs.Common.{ℕ, List, ap, ◌∙◌}
use Rattle.sha2.specs.Sha256.{sha256}
use Rattle.cloud_serve.specs.declared.sharing.Collecting.{Collecting}
use Rattle.host_base.specs.declared.digest.Digest.{Digest}
use Rattle.hub_core.specs.Opening.{opened}
use Rattle.state_step.proofs.TickLaws.{ticked_formed}
use Rattle.admin_run.proofs.Collected.{cause_by, collects_by}
use Rattle.admin_run.proofs.collecting.collect.Goals as goal

pub collect_on-requires-clause-formed : goal.collect_on-requires-clause-formed
collect_on-requires-clause-formed g c = ticked_formed (opened c.in-Ok-load.tables) c.in-Ok-load.ensures.loaded.2 c.now-moment.result

pub returns-clause-collects : goal.returns-clause-collects
returns-clause-collects g c = rw (← c.world.view_is, ← c.world-inside.view_is)
    (collects_by g.C.Law.SiteLaw.law c.args.collection.0 c.args.link.0 _ _ c.collect_on.result.world.tells _ _ _ c.now-moment.result c.collect_on.result.status c.in-Ok.login.items c.in-Ok-load.tables _
    (ap (λ (d : Digest). let asks : Collecting = record { curator = d; collection = c.args.collection; link = c.args.link } in asks) (c.digest_of.ensures ∙ ap (λ (xs : List ℕ). let digest : Digest = record { 0 = sha256 xs } in digest) c.as_slice.ensures.value))
    c.in-Ok.ensures.login c.now-moment.ensures c.in-Ok-load.ensures.loaded c.load.ensures.counts c.load.ensures.kept c.collect_on.ensures.collected c.collect_on.ensures.outlive c.collect_on.ensures.others)

pub returns-clause-cause : goal.returns-clause-cause
returns-clause-cause g c = rw (← c.world.view_is, ← c.world-inside.view_is)
    (cause_by g.C.Law.SiteLaw.law c.args.collection.0 c.args.link.0 (g.W.Keeper.Keeper.may_leave c.collect_on.result.world.keeper) _ c.collect_on.result.world.tells _ _ _ c.now-moment.result c.collect_on.result.status c.in-Ok.login.items _ _
    c.read_login.ensures.counts c.load.ensures.counts c.collect_on.ensures.collected c.collect_on.ensures.others c.collect_on.ensures.cause)
