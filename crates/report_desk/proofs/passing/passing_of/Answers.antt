use Rattle.std.proofs.Common.{refl, sym}
use Rattle.report_desk.proofs.passing.passing_of.Goals as goal

pub given_by-requires : goal.given_by-requires
given_by-requires c = (c.requires.coherent.grants c.args.num c.in-Some.grant.now (sym c.in-Some.ensures)).knows.giver

pub given_as-requires : goal.given_as-requires
given_as-requires c =
    let (app, is, fits) = (c.requires.coherent.grants c.args.num c.in-Some.grant.now (sym c.in-Some.ensures)).sets.assignment in
    (app, is, fits.listed)

pub returns : goal.returns
returns c = record {
  grant = c.in-Some.grant.now;
  is_row = sym c.in-Some.ensures;
  num = refl;
  by = c.in_ok-by.ensures;
  target = refl;
  base = c.in_ok-base.ensures;
  changed = c.changes_base.ensures;
}
