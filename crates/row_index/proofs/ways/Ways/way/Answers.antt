use Rattle.std.proofs.Common.{◌-◌, is_some, ap, sym, ◌∙◌, arith}
use Rattle.std.proofs.lemmas.Bool.{ltb-true}
use Rattle.row_index.proofs.Leading.{link_there, ends_at, is_known}
use Rattle.row_index.proofs.ways.Ways.way.Goals as goal

pub returns-in-None-clause-leads : goal.returns-in-None-clause-leads
returns-in-None-clause-leads g c =
    ends_at _ c.args.num (c.args.num - 1) c.link-link.result (omega (arith, c.if-num-eq0.false))
    (link_there g.T.Keyed.link_of c.args.rows.now (c.args.num - 1) c.in_ok-get.field-0.now c.link-link.result (ltb-true _ _ (sym c.in_ok-get.ensures.lookup.0)) c.in_ok-get.ensures.lookup.1 c.link-link.ensures) c.in-None.is

pub returns-in-Some-clause-known : goal.returns-in-Some-clause-known
returns-in-Some-clause-known g c root flagged covered leads =
    let there = link_there g.T.Keyed.link_of c.args.rows.now (c.args.num - 1) c.in_ok-get.field-0.now c.link-link.result (ltb-true _ _ (sym c.in_ok-get.ensures.lookup.0)) c.in_ok-get.ensures.lookup.1 c.link-link.ensures in
    ap is_some (c.copied.ensures ∙ c.get-in-Some.ensures.value)
    ∙ is_known _ c.args.self.now c.requires c.args.num (c.args.num - 1) c.in-Some.field-0 root c.link-link.result flagged (omega (arith, c.if-num-eq0.false)) there c.in-Some.is covered leads
