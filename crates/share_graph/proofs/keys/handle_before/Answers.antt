use Rattle.std.proofs.Common.{take, ◌∙◌, Some, ap, inl, inr, rules}
use borrow.Author.Tests.{tests}
use Rattle.std.proofs.lemmas.Iterator.{first_from_find}
use Rattle.std.proofs.lemmas.Iterator.Consumers.{YieldsList-from_first}
use Rattle.row_index.specs.Clues.{text_clue}
use Rattle.row_index.specs.Narrow.{seen}
use Rattle.share_graph.specs.Clues.{account_clues}
use Rattle.share_graph.specs.Keys.{HasHandle}
use Rattle.share_graph.proofs.Narrowing.{from_candidates}
use Rattle.share_graph.proofs.keys.handle_before.Goals as goal

pub returns : goal.returns
returns c =
    from_candidates (HasHandle c.args.handle.now) account_clues (text_clue c.args.handle.now) (λ row has. inr (inl (ap (λ t. Some (text_clue t)) has))) (λ row. row.now) (take c.args.place c.args.accounts.now) (seen c.candidates_before.result) _ _ (c.text_clue.ensures ∙ ap text_clue (c.as_bytes.ensures.value ∙ c.as_str.ensures.text)) c.candidates_before.ensures
    (first_from_find c.find.new.self _ _ (HasHandle c.args.handle.now) (λ row. HasHandle c.args.handle.now row → ⊥) c.find.ensures.ran (YieldsList-from_first (λ row. row.now) seen (seen c.candidates_before.result) cc)
    (λ x q k. search (rules, tests)) (λ x q k. search (rules, tests)))
