use Rattle.std.proofs.Common.{subst, sym}
use Rattle.epoch_gate.specs.Books.{start_of}
use Rattle.shared_hub.specs.Wanting.{ShowsVerdict, blank}
use Rattle.shared_hub.proofs.Passing.{goes_on_now, judged_now, first_lent}
use Rattle.shared_hub.proofs.pass_desk.PassDeskDesk.verdict.Goals as goal

pub returns-clause-judged : goal.returns-clause-judged
returns-clause-judged g c =
    let start = (start_of blank g.N.Named.start).start in
    let new = c.find.new.self in
    let key = c.args.key.now in
    let shown = c.in_ok-place.ensures.shown in
    let verdict = first_lent (λ r. r.now) new.cache _ (λ v. ShowsVerdict start new.seen key v) c.newest.result _ _ shown.1 c.in-Some.is c.newest.ensures in
    rw (← c.self.view_is) (
    judged_now g.C.Law.SiteLaw.law start c.self.inside.pass new key _ _ c.find.ensures.seen shown.0
    (subst (λ v. ShowsVerdict start new.seen key v) (sym c.in_ok-verdict_copy.ensures) verdict))

pub returns-clause-onward : goal.returns-clause-onward
returns-clause-onward g c =
    let start = (start_of blank g.N.Named.start).start in
    let new = c.find.new.self in
    let shown = c.in_ok-place.ensures.shown in
    let verdict = first_lent (λ r. r.now) new.cache _ (λ v. ShowsVerdict start new.seen c.args.key.now v) c.newest.result _ _ shown.1 c.in-Some.is c.newest.ensures in
    goes_on_now g.C.Law.SiteLaw.law start c.self.inside.pass new _ shown.0 verdict.2
