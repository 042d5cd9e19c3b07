use Rattle.std.proofs.Common.{ap, inl, rules}
use borrow.Author.Tests.{tests}
use Rattle.std.proofs.lemmas.Iterator.{first_from_find}
use Rattle.std.proofs.lemmas.Iterator.Consumers.{YieldsList-from_first}
use Rattle.std.specs.Option.{option_map}
use Rattle.row_index.specs.Narrow.{seen}
use Rattle.share_graph.specs.Clues.{digest_clue, grant_clues}
use Rattle.share_graph.specs.Keys.{IsBearerOf}
use Rattle.share_graph.proofs.Narrowing.{from_candidates}
use Rattle.share_graph.proofs.FirstOf.{found_one}
use Rattle.share_graph.proofs.keys.by_bearer_token.Goals as goal

pub returns : goal.returns
returns c =
    found_one (IsBearerOf c.args.digest.now) (λ row. row.now) c.args.tables.now.grants _ (
    from_candidates (IsBearerOf c.args.digest.now) grant_clues (digest_clue c.args.digest.now) (λ row has. inl (ap (λ o. option_map digest_clue o) has.token)) (λ row. row.now) c.args.tables.now.grants (seen c.candidates.result) _ _ c.digest_clue.ensures c.candidates.ensures
    (first_from_find c.find.new.self _ _ (IsBearerOf c.args.digest.now) (λ row. IsBearerOf c.args.digest.now row → ⊥) c.find.ensures.ran (YieldsList-from_first (λ row. row.now) seen (seen c.candidates.result) cc)
    (λ x q k. search (rules, tests)) (λ x q k. search (rules, tests))))
