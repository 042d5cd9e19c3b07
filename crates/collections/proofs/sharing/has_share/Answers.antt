use Rattle.std.proofs.Common.{List, Contains, sym, ◌∙◌, ap, subst}
use Rattle.host_base.specs.declared.ids.GrainId.{GrainId}
use Rattle.host_base.specs.declared.ids.GrantId.{GrantId}
use Rattle.share_graph.specs.declared.facts.Node.TheVariants as node
use Rattle.share_graph.specs.declared.grants.Target.{Target}
use Rattle.share_graph.specs.Nodes.{node_at}
use Rattle.collections.proofs.sharing.has_share.Goals as goal

pub returns : goal.returns
returns c =
    let at = node.User c.args.link.now.grain c.args.member in (
      λ yes. (let (num, listed, it) = c.has_share_among.ensures.0 yes in (num, (it.share, it.is_row, it.is, it.live))),
      λ (num, (share, row, is, live)).
          (let goes = ap (λ (to : Target). node_at num share.grain to) is.target ∙ ap (λ (n : GrainId). node.User n c.args.member) is.grain in
          c.has_share_among.ensures.1 (num, subst (λ (gs : List GrantId). Contains gs num) (sym c.fed_by-grants.ensures) ((c.requires.exact at num).1 (share, row, goes)), record { share = share; is_row = row; is = is; live = live })),
    )
