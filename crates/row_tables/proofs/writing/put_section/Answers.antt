use Rattle.std.proofs.Common.{ℕ, ◌+◌, ap, subst, ◌∙◌}
use Rattle.std.specs.Prelude.{All}
use Rattle.std.proofs.lemmas.List.{take_all}
use Rattle.std.proofs.lemmas.List.Elements.{All-more}
use Rattle.row_tables.specs.Sections.{stored, FitsOwn}
use Rattle.row_tables.proofs.Listing.{puts_on, all_put}
use Rattle.row_tables.proofs.writing.put_section.Goals as goal

pub loop-value-preserved : goal.loop-value-preserved
loop-value-preserved g c = record {
  counted = c.in_ok-num.ensures ∙ ap (λ (m : ℕ). m + 1) c.loop-value.invariant.counted;
  so_far =
      puts_on c.args.kind g.T.Stored.format c.args.values.now c.loop-value.value-index c.loop-value.num c.value-item.result c.in_ok-row.row c.args.rows.now.items c.loop-value.rows.items c.put_row.new.rows.items c.loop-value-test.true c.loop-value.invariant.counted
      (c.in_ok-row.ensures.written ∙ ap (λ x. stored c.args.kind g.T.Stored.format c.loop-value.num x) c.value-item.is) c.loop-value.invariant.so_far c.in_ok-put_row.ensures;
  fit =
      All-more (FitsOwn g.T.Stored.format g.T.Stored.carried g.T.Stored.is_countable) c.args.values.now c.loop-value.value-index c.value-item.result c.loop-value-test.true c.loop-value.invariant.fit
      (subst (FitsOwn g.T.Stored.format g.T.Stored.carried g.T.Stored.is_countable) c.value-item.is c.in_ok-row.ensures.fits);
}

pub returns-clause-written : goal.returns-clause-written
returns-clause-written g c = all_put c.args.kind g.T.Stored.format c.args.values.now c.loop-value.value-index c.args.rows.now.items c.loop-value.rows.items c.loop-value-test.false c.loop-value.invariant.so_far

pub returns-clause-fits : goal.returns-clause-fits
returns-clause-fits g c =
    subst (λ values. All (FitsOwn g.T.Stored.format g.T.Stored.carried g.T.Stored.is_countable) values) (take_all c.loop-value.value-index c.args.values.now c.loop-value-test.false) c.loop-value.invariant.fit
