use Rattle.std.proofs.Common.{◌||◌, sym, ap, arith}
use Rattle.row_index.proofs.Leading.{link_there, goes_on}
use Rattle.row_index.proofs.ways.Ways.next.Goals as goal

pub returns-then-link : goal.returns-then-link
returns-then-link g c =
    goes_on _ c.args.self.now.covered c.in_ok-parent.parent c.in_ok-way.way.root c.link-link.result c.in_ok-way.way.flagged _
    (link_there g.T.Keyed.link_of c.args.rows.now c.args.self.now.covered c.index-rows-place.result c.link-link.result c.requires.more c.index-rows-place.is c.link-link.ensures)
    (c.in_ok-parent.was) (omega (arith, c.if-parent-place.false)) c.in_ok-way.ensures.leads (cc)

pub returns-else-link : goal.returns-else-link
returns-else-link g c =
    goes_on _ c.args.self.now.covered c.in_ok-parent.parent c.in_ok-way.way.root c.link-link.result c.in_ok-way.way.flagged _
    (link_there g.T.Keyed.link_of c.args.rows.now c.args.self.now.covered c.index-rows-place.result c.link-link.result c.requires.more c.index-rows-place.is c.link-link.ensures)
    (c.in_ok-parent.was) (omega (arith, c.if-parent-place.false)) c.in_ok-way.ensures.leads (sym (ap (λ b. b || c.in_ok-way.way.flagged) c.if-link.false))
