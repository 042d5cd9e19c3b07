use Rattle.std.proofs.Common.{◌≡◌, Some, sym, ◌∙◌, ap, subst, false}
use Rattle.std.specs.Option.{option_copied}
use Rattle.share_graph.specs.declared.grants.Grant.{Grant}
use Rattle.share_graph.specs.Rows.{IsGrant}
use Rattle.collections.specs.Members.{IsMemberShare}
use Rattle.collections.proofs.sharing.is_share_at.Goals as goal

pub returns-in-Some : goal.returns-in-Some
returns-in-Some c =
    let link = c.args.link.now in
    let share = c.in-Some.share.now in
    let there : IsGrant c.args.tables.now c.args.num share = sym c.grant.ensures ∙ ap (λ o. option_copied o) c.in-Some.is in (
      λ yes. (let so = c.is_share.ensures.0 yes in record { share = share; is_row = there; is = so.0; live = so.1 }),
      λ it.
          (let both : Some it.share ≡ Some share = sym it.is_row ∙ there in
          let one : it.share ≡ share = cc both in
          c.is_share.ensures.1 (subst (λ (x : Grant). IsMemberShare c.args.collection link.num link c.args.member x × (x.revoked ≡ false)) one (it.is, it.live))),
    )
