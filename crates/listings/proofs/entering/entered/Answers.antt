use Rattle.std.proofs.Common.{ℕ, List, Contains, inr, refl, subst, sym}
use Rattle.std.specs.List.{AllZip}
use Rattle.share_graph.proofs.Coherence.{coherent}
use Rattle.least_access.specs.Solved.{IsSolutionOf, Table}
use Rattle.share_graph.specs.declared.facts.Fact.TheVariants.{Open}
use Rattle.share_graph.specs.declared.facts.Node.TheVariants as node
use Rattle.listings.specs.Choosing.{AreBehind, AreFirst, EntersBy}
use Rattle.listings.specs.Lines.{Enters, IsGrainLine}
use Rattle.listings.specs.Pages.{IsPage}
use Rattle.listings.specs.Terms.{AccountId, Tables}
use Rattle.listings.proofs.Paged.{belongs, page_by}
use Rattle.listings.proofs.entering.entered.Goals as goal

entered_page : (t : Tables) (table : Table) → IsSolutionOf t table → (a : AccountId) (after : ℕ) (numbers page : List ℕ) → AreBehind (EntersBy table a) after numbers → AreFirst numbers page → IsPage (Enters t a) after page
entered_page t table solution a after numbers page behind first =
    page_by (EntersBy table a) (Enters t a) after numbers page (λ n. let same = solution (node.User (record { 0 = n }) a) Open in (λ (few, held). (few, same.0 held), λ (few, holds). (few, same.1 holds))) behind first

pub lines_of-requires-clause-coherent : goal.lines_of-requires-clause-coherent
lines_of-requires-clause-coherent c = coherent c.args.state.now.tables c.requires.formed.tables

pub lines_of-requires-clause-enters : goal.lines_of-requires-clause-enters
lines_of-requires-clause-enters c n listed =
    let solution = subst (λ (table : Table). IsSolutionOf c.args.state.now.tables table) (sym c.solved-solved.ensures) c.requires.solved.solution in
    let page = entered_page c.args.state.now.tables c.solved-solved.result.now solution c.in-Ok.account.now.num c.args.after.0 c.in_ok-entered_behind.field-0.items c.in_ok-page.page.items c.in_ok-entered_behind.ensures c.in_ok-page.ensures in
    belongs (Enters c.args.state.now.tables c.in-Ok.account.now.num) c.args.after.0 c.in_ok-page.page.items page n (subst (λ (xs : List ℕ). Contains xs n) c.as_slice.ensures.value listed)

pub returns-clause-row : goal.returns-clause-row
returns-clause-row c =
    let account = c.in-Ok.account.now in
    let solution = subst (λ (table : Table). IsSolutionOf c.args.state.now.tables table) (sym c.solved-solved.ensures) c.requires.solved.solution in
    let page = entered_page c.args.state.now.tables c.solved-solved.result.now solution account.num c.args.after.0 c.in_ok-entered_behind.field-0.items c.in_ok-page.page.items c.in_ok-entered_behind.ensures c.in_ok-page.ensures in
    (inr (_, c.in-Ok.ensures.one, inr (c.in-Ok.ensures.enabled, refl)), (account, c.in-Ok.ensures, (c.in_ok-page.page.items, page, subst (λ (xs : List ℕ). AllZip (λ (n : ℕ). IsGrainLine c.args.state.now account.num (record { 0 = n })) xs c.in_ok-lines.lines) c.as_slice.ensures.value c.in_ok-lines.ensures)))
