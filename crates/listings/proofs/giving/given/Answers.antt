use Rattle.std.proofs.Common.{ℕ, List, Contains, inr, refl, subst}
use Rattle.std.specs.List.{AllZip}
use Rattle.share_graph.proofs.Coherence.{coherent}
use Rattle.listings.specs.Lines.{IsGrantLine, MaySee}
use Rattle.listings.proofs.Paged.{belongs, page_by}
use Rattle.listings.proofs.giving.given.Goals as goal

pub lines_of-requires-clause-coherent : goal.lines_of-requires-clause-coherent
lines_of-requires-clause-coherent c = coherent c.args.state.now.tables c.requires.formed.tables

pub lines_of-requires-clause-there : goal.lines_of-requires-clause-there
lines_of-requires-clause-there c g listed =
    let Seen = MaySee c.args.state.now.tables c.in-Ok.account.now.num c.args.num in
    let page = page_by Seen Seen c.args.after.0 c.in_ok-seen_behind.field-0.items c.in_ok-page.page.items (λ n. (λ is. is, λ is. is)) c.in_ok-seen_behind.ensures c.in_ok-page.ensures in
    let ((grant, is, on), may) = belongs Seen c.args.after.0 c.in_ok-page.page.items page g (subst (λ (xs : List ℕ). Contains xs g) c.as_slice.ensures.value listed) in
    (grant, is)

pub returns-clause-row : goal.returns-clause-row
returns-clause-row c =
    let account = c.in-Ok.account.now in
    let Seen = MaySee c.args.state.now.tables account.num c.args.num in
    let page = page_by Seen Seen c.args.after.0 c.in_ok-seen_behind.field-0.items c.in_ok-page.page.items (λ n. (λ is. is, λ is. is)) c.in_ok-seen_behind.ensures c.in_ok-page.ensures in
    (inr (_, c.in-Ok.ensures.one, inr (c.in-Ok.ensures.enabled, inr (_, c.in-Ok-known_grain.ensures, refl))), (account, c.in-Ok.ensures, (c.in_ok-page.page.items, page, subst (λ (xs : List ℕ). AllZip (λ (g : ℕ). IsGrantLine c.args.state.now.tables (record { 0 = g })) xs c.in_ok-lines.lines) c.as_slice.ensures.value c.in_ok-lines.ensures)))
