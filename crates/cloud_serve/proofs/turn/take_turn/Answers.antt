use Rattle.std.proofs.Common.{subst}
use Rattle.cloud_serve.specs.declared.showing.Showing.{Showing}
use Rattle.cloud_serve.specs.declared.showing.Showing.TheVariants as showing
use Rattle.cloud_serve.specs.Routes.{Shows}
use Rattle.cloud_serve.proofs.Taking.{breaks_at_once, answers_no_route, answers_page, answers_no_credential, answers_bad_body, answers_bad_manifest, placed_at}
use Rattle.cloud_serve.proofs.turn.take_turn.Goals as goal

pub returns-in-Err-clause-takes : goal.returns-in-Err-clause-takes
returns-in-Err-clause-takes g c low less = breaks_at_once _ _ _ low c.args.request.now _ _

pub returns-in-NoRoute-clause-takes : goal.returns-in-NoRoute-clause-takes
returns-in-NoRoute-clause-takes g c low less =
    let shown : Shows c.args.request.now showing.NoRoute = subst (λ (s : Showing). Shows c.args.request.now s) c.in-NoRoute.is c.in-Ok.ensures in
    rw (placed_at _ _ _ c.placed.ensures) (answers_no_route _ _ _ low c.args.last c.args.request.now c.own_reply.result shown (rw c.wants_head-head_only.ensures at c.own_reply.ensures))

pub returns-in-Page-clause-takes : goal.returns-in-Page-clause-takes
returns-in-Page-clause-takes g c low less =
    let shown : Shows c.args.request.now showing.Page = subst (λ (s : Showing). Shows c.args.request.now s) c.in-Page.is c.in-Ok.ensures in
    rw (placed_at _ _ _ c.placed-in-Page.ensures) (answers_page _ _ _ low c.args.last c.args.request.now c.desk_page_reply.result shown (rw c.wants_head-head_only.ensures at c.desk_page_reply.ensures))

pub returns-in-NoCredential-clause-takes : goal.returns-in-NoCredential-clause-takes
returns-in-NoCredential-clause-takes g c low less =
    let shown : Shows c.args.request.now showing.NoCredential = subst (λ (s : Showing). Shows c.args.request.now s) c.in-NoCredential.is c.in-Ok.ensures in
    rw (placed_at _ _ _ c.placed-in-NoCredential.ensures) (answers_no_credential _ _ _ low c.args.last c.args.request.now c.denial_reply.result shown (rw c.wants_head-head_only.ensures at c.denial_reply.ensures))

pub returns-in-BadBody-clause-takes : goal.returns-in-BadBody-clause-takes
returns-in-BadBody-clause-takes g c low less =
    let shown : Shows c.args.request.now (showing.BadBody c.in-BadBody.field) = subst (λ (s : Showing). Shows c.args.request.now s) c.in-BadBody.is c.in-Ok.ensures in
    rw (placed_at _ _ _ c.placed-in-BadBody.ensures) (answers_bad_body _ _ _ low c.args.last c.args.request.now c.in-BadBody.field c.fault_reply.result shown (rw c.wants_head-head_only.ensures at c.fault_reply.ensures))

pub returns-in-BadManifest-clause-takes : goal.returns-in-BadManifest-clause-takes
returns-in-BadManifest-clause-takes g c low less =
    let shown : Shows c.args.request.now (showing.BadManifest c.in-BadManifest.bad) = subst (λ (s : Showing). Shows c.args.request.now s) c.in-BadManifest.is c.in-Ok.ensures in
    rw (placed_at _ _ _ c.placed-in-BadManifest.ensures) (answers_bad_manifest _ _ _ low c.args.last c.args.request.now c.in-BadManifest.bad c.command_reply.result shown (rw c.wants_head-head_only.ensures at c.command_reply.ensures))

pub returns-in_default-clause-takes : goal.returns-in_default-clause-takes
returns-in_default-clause-takes g c low less = breaks_at_once _ _ _ low c.args.request.now _ _
