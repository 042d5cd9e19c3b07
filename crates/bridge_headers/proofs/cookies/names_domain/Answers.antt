use Rattle.std.proofs.Common.{rules, ◌≡◌, ◌+◌, ◌≤◌, ◌==◌, ◌∙◌, sym, true, false, drop, length, get_or}
use Rattle.std.proofs.lemmas.List.{at_drop_all}
use Rattle.bridge_headers.specs.Cookies.{begins_domain, names_domain}
use Rattle.bridge_headers.proofs.CookieLemmas.{names_at, found_here, other_attribute, no_semicolon}
use Rattle.bridge_headers.proofs.cookies.names_domain.Goals as goal
use Rattle.bridge_headers.proofs.cookies.names_domain.Goals.{else-byte-eq59-via-then-byte-eq59+else-begins_domain, else-byte-eq59-via-else-byte-eq59}

pub returns-then-begins_domain : goal.returns-then-begins_domain
returns-then-begins_domain c =
    let value = c.args.value.now in
    let i = c.loop-at.at in
    let byte : (get_or value i 0 == 59) ≡ true = search rules in
    let attribute : begins_domain (drop (i + 1) value) ≡ true = search rules in
    sym (c.loop-at.invariant ∙ names_at i value c.loop-at-test.true ∙ found_here _ _ _ byte attribute)

pub loop-at-preserved : goal.loop-at-preserved
loop-at-preserved c =
    let value = c.args.value.now in
    let i = c.loop-at.at in
    elim c.else-byte-eq59.branch [
      | else-byte-eq59-via-then-byte-eq59+else-begins_domain w ↦
          let attribute : begins_domain (drop (i + 1) value) ≡ false = search rules in
          c.loop-at.invariant ∙ names_at i value c.loop-at-test.true ∙ other_attribute _ _ _ attribute
      | else-byte-eq59-via-else-byte-eq59 w ↦
          let byte : (get_or value i 0 == 59) ≡ false = search rules in
          c.loop-at.invariant ∙ names_at i value c.loop-at-test.true ∙ no_semicolon _ _ _ byte
    ]

pub returns : goal.returns
unfolding names_domain
returns c =
    let value = c.args.value.now in
    let past : length value ≤ c.loop-at.at = search rules in
    sym (c.loop-at.invariant ∙ at_drop_all names_domain value c.loop-at.at past)
