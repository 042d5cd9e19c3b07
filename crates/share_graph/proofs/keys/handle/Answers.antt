use Rattle.std.proofs.Common.{Some, inl, rules}
use borrow.Author.Tests.{tests}
use Rattle.std.proofs.lemmas.Iterator.{first_from_find}
use Rattle.std.proofs.lemmas.Iterator.Consumers.{YieldsList-from_first}
use Rattle.row_index.specs.Narrow.{seen}
use Rattle.share_graph.specs.Clues.{handle_clue, handle_clues}
use Rattle.share_graph.specs.Keys.{IsHandleOf}
use Rattle.share_graph.proofs.Narrowing.{from_candidates}
use Rattle.share_graph.proofs.FirstOf.{found_one}
use Rattle.share_graph.proofs.keys.handle.Goals as goal

pub returns : goal.returns
returns c =
    found_one (IsHandleOf c.args.run c.args.num) (λ row. row.now) c.args.state.now.handles _ (
    from_candidates (IsHandleOf c.args.run c.args.num) handle_clues (handle_clue c.args.run c.args.num) (λ row has. inl (λ i. Some (handle_clue (has.0 i) (has.1 i)))) (λ row. row.now) c.args.state.now.handles (seen c.candidates.result) _ _ c.handle_clue.ensures c.candidates.ensures
    (first_from_find c.find.new.self _ _ (IsHandleOf c.args.run c.args.num) (λ row. IsHandleOf c.args.run c.args.num row → ⊥) c.find.ensures.ran (YieldsList-from_first (λ row. row.now) seen (seen c.candidates.result) cc)
    (λ x q k. search (rules, tests)) (λ x q k. search (rules, tests))))
