use Rattle.std.proofs.Common.{◌≡◌, ◌↔◌, IsTrue, subst, rules}
use borrow.Author.Tests.{tests}
use Rattle.desk_base.specs.Terms.{AccountId, IsRootMaker}
use Rattle.share_desk.proofs.revoking.is_root_maker.Goals as goal

pub returns : goal.returns
returns c =
    let tells : IsTrue c.eq.result ↔ (c.root_maker.result ≡ c.args.account) = search (rules, tests) in
    let made = c.root_maker.ensures in
    (λ yes. subst (λ (a : AccountId). IsRootMaker c.args.tables.now c.args.num a) (tells.0 yes) made.maker, λ other. tells.1 (made.one.one _ _ made.maker other))
