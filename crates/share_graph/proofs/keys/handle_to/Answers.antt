use Rattle.std.proofs.Common.{Some, inl, inr, rules}
use borrow.Author.Tests.{tests}
use Rattle.std.proofs.lemmas.Iterator.{first_from_find}
use Rattle.std.proofs.lemmas.Iterator.Consumers.{YieldsList-from_first}
use Rattle.row_index.specs.Narrow.{seen}
use Rattle.share_graph.specs.Clues.{held_clue, handle_clues}
use Rattle.share_graph.specs.Keys.{IsHandleTo}
use Rattle.share_graph.proofs.Narrowing.{from_candidates}
use Rattle.share_graph.proofs.keys.handle_to.Goals as goal

pub returns : goal.returns
returns c =
    from_candidates (IsHandleTo c.args.run c.args.grant) handle_clues (held_clue c.args.run c.args.grant) (λ row has. inr (inl (λ i. Some (held_clue (has.0 i) (has.1 i))))) (λ row. row.now) c.args.handles.now (seen c.candidates.result) _ _ c.held_clue.ensures c.candidates.ensures
    (first_from_find c.find.new.self _ _ (IsHandleTo c.args.run c.args.grant) (λ row. IsHandleTo c.args.run c.args.grant row → ⊥) c.find.ensures.ran (YieldsList-from_first (λ row. row.now) seen (seen c.candidates.result) cc)
    (λ x q k. search (rules, tests)) (λ x q k. search (rules, tests)))
