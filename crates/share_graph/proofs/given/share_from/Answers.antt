use Rattle.std.proofs.Common.{inl, inr, rules}
use borrow.Author.Tests.{tests}
use Rattle.std.proofs.lemmas.Iterator.{first_from_find}
use Rattle.std.proofs.lemmas.Iterator.Consumers.{YieldsList-from_first}
use Rattle.row_index.specs.Narrow.{seen}
use Rattle.share_graph.specs.Clues.{share_of, share_clue, grant_clues}
use Rattle.share_graph.specs.Keys.{IsShareFrom}
use Rattle.share_graph.proofs.Narrowing.{from_candidates}
use Rattle.share_graph.proofs.given.share_from.Goals as goal

pub returns : goal.returns
returns c =
    from_candidates (IsShareFrom c.args.from c.args.to) grant_clues (share_clue c.args.from c.args.to) (λ row has. inr (inl (λ i. share_of (has.from i) (has.to i) (has.live i)))) (λ row. row.now) c.args.grants.now (seen c.candidates.result) _ _ c.share_clue.ensures c.candidates.ensures
    (first_from_find c.find.new.self _ _ (IsShareFrom c.args.from c.args.to) (λ row. IsShareFrom c.args.from c.args.to row → ⊥) c.find.ensures.ran (YieldsList-from_first (λ row. row.now) seen (seen c.candidates.result) cc)
    (λ x q k. search (rules, tests)) (λ x q k. search (rules, tests)))
