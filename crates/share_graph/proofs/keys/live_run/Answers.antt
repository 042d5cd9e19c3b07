use Rattle.std.proofs.Common.{inl, inr, rules}
use borrow.Author.Tests.{tests}
use Rattle.std.proofs.lemmas.Iterator.{first_from_find}
use Rattle.std.proofs.lemmas.Iterator.Consumers.{YieldsList-from_first}
use Rattle.row_index.specs.Narrow.{seen}
use Rattle.share_graph.specs.Clues.{live_clue, run_clues}
use Rattle.share_graph.specs.Keys.{IsLiveRun}
use Rattle.share_graph.proofs.Keeping.{live_clue_of}
use Rattle.share_graph.proofs.Narrowing.{from_candidates}
use Rattle.share_graph.proofs.FirstOf.{found_one}
use Rattle.share_graph.proofs.keys.live_run.Goals as goal

pub returns : goal.returns
returns c =
    found_one (IsLiveRun c.args.num) (λ row. row.now) c.args.state.now.runs _ (
    from_candidates (IsLiveRun c.args.num) run_clues (live_clue c.args.num) (λ row has. inr (inl (live_clue_of row c.args.num has))) (λ row. row.now) c.args.state.now.runs (seen c.candidates.result) _ _ c.live_clue.ensures c.candidates.ensures
    (first_from_find c.find.new.self _ _ (IsLiveRun c.args.num) (λ row. IsLiveRun c.args.num row → ⊥) c.find.ensures.ran (YieldsList-from_first (λ row. row.now) seen (seen c.candidates.result) cc)
    (λ x q k. search (rules, tests)) (λ x q k. search (rules, tests))))
