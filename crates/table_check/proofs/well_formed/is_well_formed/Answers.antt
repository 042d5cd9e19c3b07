use Rattle.std.proofs.Common.{refl}
use Rattle.share_graph.specs.WellFormed.{IsWellFormed}
use Rattle.table_check.proofs.Tells.{refuted, matched}
use Rattle.table_check.proofs.well_formed.is_well_formed.Goals as goal

pub returns-then-not-have_one_live_run : goal.returns-then-not-have_one_live_run
returns-then-not-have_one_live_run c = refuted (λ (all : IsWellFormed c.args.state.now). all.live) (rw c.as_slice.ensures at c.if-not-have_one_live_run.ensures)

pub returns : goal.returns
returns c =
    matched (λ (all : IsWellFormed c.args.state.now). all.rooted)
    (λ rooted. record {
      tables = c.if-not-has_no_fault.ensures.0 refl;
      limits = c.if-not-is_within_limits.ensures.0 refl;
      numbered = c.if-not-is_numbered.ensures.0 refl;
      apart = c.if-not-has_digests_apart.ensures.0 refl;
      live = rw c.as_slice.ensures at (c.if-not-have_one_live_run.ensures.0 refl);
      rooted = rooted;
    })
    c.is_rooted.ensures
