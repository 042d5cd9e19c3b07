use Rattle.std.proofs.Common.{◌≡◌, ◌∙◌, length, sym, ap, subst, List}
use Rattle.share_graph.specs.declared.grants.Grant.{Grant}
use Rattle.share_graph.specs.declared.grants.Need.{Need}
use Rattle.share_graph.specs.declared.grants.Target.{Target}
use Rattle.listings.specs.Lines.{IsGivenTo}
use Rattle.listings.proofs.giving.line_of.Goals as goal

pub given_to-requires : goal.given_to-requires
given_to-requires c = (c.requires.coherent.grants c.args.num c.in-Some.grant.now (sym c.in-Some.ensures)).knows.target

pub returns : goal.returns
returns c =
    let shown = c.in_ok-passing.ensures in
    let same : shown.grant ≡ c.in-Some.grant.now = cc (shown.is_row, c.in-Some.ensures) in
    record {
      passing = shown;
      to = subst (λ (target : Target). IsGivenTo c.args.tables.now target c.in_ok-to.to) (ap (λ (grant : Grant). grant.target) (sym same)) c.in_ok-to.ensures;
      needs = ap (λ (needs : List Need). length needs) c.as_slice.ensures ∙ ap (λ (grant : Grant). length grant.needs) (sym same);
      expires = ap (λ (grant : Grant). grant.expires) (sym same);
      revoked = ap (λ (grant : Grant). grant.revoked) (sym same);
    }
