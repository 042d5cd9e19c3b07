use Rattle.std.proofs.Common.{refl}
use Rattle.front_http.specs.declared.route.Route.TheVariants as route
use Rattle.cloud_serve.proofs.Stated.{states}
use Rattle.cloud_serve.proofs.asking.stated.Goals as goal

pub returns-in-Accounts : goal.returns-in-Accounts
returns-in-Accounts c = states c.args.route route.Accounts c.args.who c.args.body.now _ c.new_account.result c.in-Accounts.is refl c.new_account.ensures

pub returns-in-AccountAdmin : goal.returns-in-AccountAdmin
returns-in-AccountAdmin c = states c.args.route (route.AccountAdmin c.in-AccountAdmin.num) c.args.who c.args.body.now _ c.admin_mark.result c.in-AccountAdmin.is refl c.admin_mark.ensures

pub returns-in-AccountEnabled : goal.returns-in-AccountEnabled
returns-in-AccountEnabled c = states c.args.route (route.AccountEnabled c.in-AccountEnabled.num) c.args.who c.args.body.now _ c.enabled_mark.result c.in-AccountEnabled.is refl c.enabled_mark.ensures

pub returns-in-AccountLogin : goal.returns-in-AccountLogin
returns-in-AccountLogin c = states c.args.route (route.AccountLogin c.in-AccountLogin.num) c.args.who c.args.body.now _ c.plain.result c.in-AccountLogin.is refl c.plain.ensures

pub returns-in-Login : goal.returns-in-Login
returns-in-Login c = states c.args.route route.Login c.args.who c.args.body.now _ c.plain-in-Login.result c.in-Login.is refl c.plain-in-Login.ensures

pub returns-in-Apps : goal.returns-in-Apps
returns-in-Apps c = states c.args.route route.Apps c.args.who c.args.body.now _ c.new_app.result c.in-Apps.is refl c.new_app.ensures

pub returns-in-AppUpgrade : goal.returns-in-AppUpgrade
returns-in-AppUpgrade c = states c.args.route (route.AppUpgrade c.in-AppUpgrade.num) c.args.who c.args.body.now _ c.new_manifest.result c.in-AppUpgrade.is refl c.new_manifest.ensures

pub returns-in-Grains : goal.returns-in-Grains
returns-in-Grains c = states c.args.route route.Grains c.args.who c.args.body.now _ c.new_grain.result c.in-Grains.is refl c.new_grain.ensures

pub returns-in-GrainTrash : goal.returns-in-GrainTrash
returns-in-GrainTrash c = states c.args.route (route.GrainTrash c.in-GrainTrash.num) c.args.who c.args.body.now _ c.plain-in-GrainTrash.result c.in-GrainTrash.is refl c.plain-in-GrainTrash.ensures

pub returns-in-GrainUntrash : goal.returns-in-GrainUntrash
returns-in-GrainUntrash c = states c.args.route (route.GrainUntrash c.in-GrainUntrash.num) c.args.who c.args.body.now _ c.plain-in-GrainUntrash.result c.in-GrainUntrash.is refl c.plain-in-GrainUntrash.ensures

pub returns-in-GrainShare : goal.returns-in-GrainShare
returns-in-GrainShare c = states c.args.route (route.GrainShare c.in-GrainShare.num) c.args.who c.args.body.now _ c.new_share.result c.in-GrainShare.is refl c.new_share.ensures

pub returns-in-GrainLink : goal.returns-in-GrainLink
returns-in-GrainLink c = states c.args.route (route.GrainLink c.in-GrainLink.num) c.args.who c.args.body.now _ c.new_token.result c.in-GrainLink.is refl c.new_token.ensures

pub returns-in-GrainToken : goal.returns-in-GrainToken
returns-in-GrainToken c = states c.args.route (route.GrainToken c.in-GrainToken.num) c.args.who c.args.body.now _ c.new_token-in-GrainToken.result c.in-GrainToken.is refl c.new_token-in-GrainToken.ensures

pub returns-in-GrainOpen : goal.returns-in-GrainOpen
returns-in-GrainOpen c = states c.args.route (route.GrainOpen c.in-GrainOpen.num) c.args.who c.args.body.now _ c.opening.result c.in-GrainOpen.is refl c.opening.ensures

pub returns-in-GrainWake : goal.returns-in-GrainWake
returns-in-GrainWake c = states c.args.route (route.GrainWake c.in-GrainWake.num) c.args.who c.args.body.now _ c.plain-in-GrainWake.result c.in-GrainWake.is refl c.plain-in-GrainWake.ensures

pub returns-in-GrainStop : goal.returns-in-GrainStop
returns-in-GrainStop c = states c.args.route (route.GrainStop c.in-GrainStop.num) c.args.who c.args.body.now _ c.plain-in-GrainStop.result c.in-GrainStop.is refl c.plain-in-GrainStop.ensures

pub returns-in-Redeem : goal.returns-in-Redeem
returns-in-Redeem c = states c.args.route route.Redeem c.args.who c.args.body.now _ c.redemption.result c.in-Redeem.is refl c.redemption.ensures

pub returns-in-GrantRevoke : goal.returns-in-GrantRevoke
returns-in-GrantRevoke c = states c.args.route (route.GrantRevoke c.in-GrantRevoke.num) c.args.who c.args.body.now _ c.plain-in-GrantRevoke.result c.in-GrantRevoke.is refl c.plain-in-GrantRevoke.ensures

pub returns-in-SessionClose : goal.returns-in-SessionClose
returns-in-SessionClose c = states c.args.route (route.SessionClose c.in-SessionClose.num) c.args.who c.args.body.now _ c.plain-in-SessionClose.result c.in-SessionClose.is refl c.plain-in-SessionClose.ensures

pub returns-in-Child : goal.returns-in-Child
returns-in-Child c = states c.args.route route.Child c.args.who c.args.body.now _ c.new_child.result c.in-Child.is refl c.new_child.ensures

pub returns-in-Open : goal.returns-in-Open
returns-in-Open c = states c.args.route route.Open c.args.who c.args.body.now _ c.opening-in-Open.result c.in-Open.is refl c.opening-in-Open.ensures

pub returns-in-Wake : goal.returns-in-Wake
returns-in-Wake c = states c.args.route route.Wake c.args.who c.args.body.now _ c.plain-in-Wake.result c.in-Wake.is refl c.plain-in-Wake.ensures

pub returns-in-GrainQuery : goal.returns-in-GrainQuery
returns-in-GrainQuery c = states c.args.route (route.GrainQuery c.in-GrainQuery.num) c.args.who c.args.body.now _ c.options.result c.in-GrainQuery.is refl c.options.ensures

pub returns-in-GrainChoose : goal.returns-in-GrainChoose
returns-in-GrainChoose c = states c.args.route (route.GrainChoose c.in-GrainChoose.num) c.args.who c.args.body.now _ c.choice.result c.in-GrainChoose.is refl c.choice.ensures

pub returns-in-Claim : goal.returns-in-Claim
returns-in-Claim c = states c.args.route route.Claim c.args.who c.args.body.now _ c.claim.result c.in-Claim.is refl c.claim.ensures

pub returns-in-Save : goal.returns-in-Save
returns-in-Save c = states c.args.route route.Save c.args.who c.args.body.now _ c.reference.result c.in-Save.is refl c.reference.ensures

pub returns-in-Restore : goal.returns-in-Restore
returns-in-Restore c = states c.args.route route.Restore c.args.who c.args.body.now _ c.restoration.result c.in-Restore.is refl c.restoration.ensures

pub returns-in-Drop : goal.returns-in-Drop
returns-in-Drop c = states c.args.route route.Drop c.args.who c.args.body.now _ c.drop_reference.result c.in-Drop.is refl c.drop_reference.ensures

pub returns-in-GrainAccess : goal.returns-in-GrainAccess
returns-in-GrainAccess c = states c.args.route (route.GrainAccess c.in-GrainAccess.num) c.args.who c.args.body.now _ c.plain-in-GrainAccess.result c.in-GrainAccess.is refl c.plain-in-GrainAccess.ensures

pub returns-in-GrainWhy : goal.returns-in-GrainWhy
returns-in-GrainWhy c = states c.args.route (route.GrainWhy c.in-GrainWhy.num) c.args.who c.args.body.now _ c.reasons.result c.in-GrainWhy.is refl c.reasons.ensures

pub returns-in-GrainMissing : goal.returns-in-GrainMissing
returns-in-GrainMissing c = states c.args.route (route.GrainMissing c.in-GrainMissing.num) c.args.who c.args.body.now _ c.missing.result c.in-GrainMissing.is refl c.missing.ensures

pub returns-in-GrainCollect : goal.returns-in-GrainCollect
returns-in-GrainCollect c = states c.args.route (route.GrainCollect c.in-GrainCollect.num) c.args.who c.args.body.now _ c.collection.result c.in-GrainCollect.is refl c.collection.ensures

pub returns-in-GrainShares : goal.returns-in-GrainShares
returns-in-GrainShares c = states c.args.route (route.GrainShares c.in-GrainShares.num) c.args.who c.args.body.now _ c.page.result c.in-GrainShares.is refl c.page.ensures

pub returns-in-Me : goal.returns-in-Me
returns-in-Me c = states c.args.route route.Me c.args.who c.args.body.now _ c.plain-in-Me.result c.in-Me.is refl c.plain-in-Me.ensures

pub returns-in-Mine : goal.returns-in-Mine
returns-in-Mine c = states c.args.route route.Mine c.args.who c.args.body.now _ c.page-in-Mine.result c.in-Mine.is refl c.page-in-Mine.ensures

pub returns-in-AccountsList : goal.returns-in-AccountsList
returns-in-AccountsList c = states c.args.route route.AccountsList c.args.who c.args.body.now _ c.page-in-AccountsList.result c.in-AccountsList.is refl c.page-in-AccountsList.ensures

pub returns-in-AppsList : goal.returns-in-AppsList
returns-in-AppsList c = states c.args.route route.AppsList c.args.who c.args.body.now _ c.page-in-AppsList.result c.in-AppsList.is refl c.page-in-AppsList.ensures

pub returns-in-GrantPreview : goal.returns-in-GrantPreview
returns-in-GrantPreview c = states c.args.route (route.GrantPreview c.in-GrantPreview.num) c.args.who c.args.body.now _ c.plain-in-GrantPreview.result c.in-GrantPreview.is refl c.plain-in-GrantPreview.ensures
