use Rattle.std.proofs.Common.{◌≡◌, ◌<◌, length, refl, arith}
use Rattle.std.proofs.lemmas.Option.{slice_get_read}
use Rattle.least_access.proofs.Lacking.{not_so}
use Rattle.desk_base.specs.Needs.{CanBeHad}
use Rattle.desk_base.proofs.GoodNeeds.{good_further, good_to_the_end, bad_at}
use Rattle.desk_base.proofs.needs.first_bad.Goals as goal

pub returns-then-index-ge-NEEDS : goal.returns-then-index-ge-NEEDS
returns-then-index-ge-NEEDS c =
    let last : c.loop-index.index ≡ 8 = omega arith in
    let here = c.index-needs-index.result in
    bad_at c.args.tables.now c.args.needs.now c.loop-index.index 8 last here
    (slice_get_read c.args.needs.now (length c.args.needs.now) c.loop-index.index here refl c.loop-index-test.true c.index-needs-index.is) (λ good. let less : 8 < 8 = good.0 in omega arith)
    c.loop-index.invariant.good

pub returns-then-not-can_be_had : goal.returns-then-not-can_be_had
returns-then-not-can_be_had c =
    let here = c.index-needs-index.result in record {
      need = here;
      there = slice_get_read c.args.needs.now (length c.args.needs.now) c.loop-index.index here refl c.loop-index-test.true c.index-needs-index.is;
      bad = λ good. not_so (CanBeHad c.args.tables.now here) c.can_be_had.result c.can_be_had.ensures c.if-not-can_be_had.true good.1;
      earlier = c.loop-index.invariant.good;
    }

pub loop-index-preserved : goal.loop-index-preserved
loop-index-preserved c =
    let here = c.index-needs-index.result in record {
      good = good_further c.args.tables.now c.args.needs.now c.loop-index.index here
          (slice_get_read c.args.needs.now (length c.args.needs.now) c.loop-index.index here refl c.loop-index-test.true c.index-needs-index.is) (omega arith)
          (c.can_be_had.ensures.0 c.if-not-can_be_had.false) c.loop-index.invariant.good;
      small = omega arith;
    }

pub returns : goal.returns
returns c = good_to_the_end c.args.tables.now c.args.needs.now c.loop-index.index c.loop-index-test.false c.loop-index.invariant.good
