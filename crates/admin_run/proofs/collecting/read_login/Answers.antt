use Rattle.std.proofs.Common.{rules, ◌≡◌, ◌∷◌, ℕ, length, ap, arith, ◌∙◌}
use Rattle.admin_run.proofs.Collected.{gives_one, read_at_feed, read_on}
use Rattle.admin_run.proofs.collecting.read_login.Goals as goal

pub returns-then-next-eq10-clause-login : goal.returns-then-next-eq10-clause-login
returns-then-next-eq10-clause-login g c =
    let one : c.in-Ok.count ≡ 1 = omega (arith, c.if-count-eq0.false, c.in-Ok.ensures.within, c.bytes.invariant.one) in
    let whole : length c.take.new.buf ≡ 1 = search rules in
    read_at_feed _ _ c.bytes.login.items c.bytes.invariant.so_far (λ left is.
    let (more, first, then) = gives_one left c.take.new.buf c.in-Ok.count _ _ (c.in-Ok.ensures.given left is) one whole in
    (more, first ∙ ap (λ (b : ℕ). b ∷ more) c.if-next-eq10.true))

pub bytes-preserved : goal.bytes-preserved
bytes-preserved g c =
    let one : c.in-Ok.count ≡ 1 = omega (arith, c.if-count-eq0.false, c.in-Ok.ensures.within, c.bytes.invariant.one) in
    let whole : length c.take.new.buf ≡ 1 = search rules in
    record {
      so_far = rw c.in-Ok-push.ensures.items (read_on _ _ c.bytes.login.items c.bytes.invariant.so_far _ _ (omega (arith, c.bytes-test.true, c.len.ensures, c.bytes.login.ok.0)) c.if-next-eq10.false
          (λ left is. gives_one left c.take.new.buf c.in-Ok.count _ _ (c.in-Ok.ensures.given left is) one whole) c.take.ensures.counts);
      one = whole;
    }
