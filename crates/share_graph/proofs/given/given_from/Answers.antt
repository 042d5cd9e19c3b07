use Rattle.std.proofs.Common.{ap, inr, rules}
use borrow.Author.Tests.{tests}
use Rattle.std.proofs.lemmas.Iterator.{first_from_find}
use Rattle.std.proofs.lemmas.Iterator.Consumers.{YieldsList-from_first}
use Rattle.row_index.specs.Narrow.{seen}
use Rattle.share_graph.specs.Clues.{given_of, given_clue, grant_clues}
use Rattle.share_graph.specs.Keys.{IsGivenFrom}
use Rattle.share_graph.proofs.Narrowing.{from_candidates}
use Rattle.share_graph.proofs.given.given_from.Goals as goal

pub returns : goal.returns
returns c =
    from_candidates (IsGivenFrom c.args.from) grant_clues (given_clue c.args.from) (λ row has. inr (inr (ap given_of has))) (λ row. row.now) c.args.grants.now (seen c.candidates.result) _ _ c.given_clue.ensures c.candidates.ensures
    (first_from_find c.find.new.self _ _ (IsGivenFrom c.args.from) (λ row. IsGivenFrom c.args.from row → ⊥) c.find.ensures.ran (YieldsList-from_first (λ row. row.now) seen (seen c.candidates.result) cc)
    (λ x q k. search (rules, tests)) (λ x q k. search (rules, tests)))
