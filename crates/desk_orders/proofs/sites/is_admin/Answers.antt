-- The login is one account's.
use Rattle.std.proofs.Common.{ap, sym, subst}
use Rattle.desk_base.specs.Terms.{Account, Digest, HasLogin, IsOneOf}
use Rattle.share_graph.proofs.Apart.{login_one}
use Rattle.desk_base.specs.Wording.{secret_of}
use Rattle.desk_orders.proofs.sites.is_admin.Goals as goal

pub returns-in-Some : goal.returns-in-Some
returns-in-Some c = λ account is.
    let found : IsOneOf c.args.state.now.tables.accounts (HasLogin (secret_of c.args.caller.now)) c.in-Some.account.now =
    subst (λ (d : Digest). IsOneOf c.args.state.now.tables.accounts (HasLogin d) c.in-Some.account.now) c.secret_of.ensures c.in-Some.ensures in
    ap (λ (x : Account). x.admin) ((login_one c.args.state.now c.requires (secret_of c.args.caller.now)).one c.in-Some.account.now account found is.one)

pub returns-in-None : goal.returns-in-None
returns-in-None c = λ account is.
    absurd (c.in-None.ensures account is.one.listed (subst (λ (d : Digest). HasLogin d account) (sym c.secret_of.ensures) is.one.is))
