use Rattle.std.proofs.Common.{◌≡◌, ◌∙◌, take, Some, ap, inl, rules}
use borrow.Author.Tests.{tests}
use Rattle.std.proofs.lemmas.Iterator.{first_from_find}
use Rattle.std.proofs.lemmas.Iterator.Consumers.{YieldsList-from_first}
use Rattle.std.specs.Option.{option_map}
use Rattle.row_index.specs.Narrow.{seen}
use Rattle.share_graph.specs.Clues.{digest_clue}
use Rattle.share_graph.proofs.Narrowing.{from_candidates}
use Rattle.share_graph.proofs.digests.first_before.Goals as goal

pub returns : goal.returns
returns g c =
    from_candidates (λ row. g.R.Digested.digest_of row ≡ Some c.args.digest.now) _ (digest_clue c.args.digest.now) (λ row has. inl (g.met.R.Digested.first_clue row ∙ ap (λ o. option_map digest_clue o) has)) (λ row. row.now) (take c.args.place c.args.rows.now) (seen c.candidates_before.result) _ _ c.digest_clue.ensures c.candidates_before.ensures
    (first_from_find c.find.new.self _ _ (λ row. g.R.Digested.digest_of row ≡ Some c.args.digest.now) (λ row. g.R.Digested.digest_of row ≡ Some c.args.digest.now → ⊥) c.find.ensures.ran (YieldsList-from_first (λ row. row.now) seen (seen c.candidates_before.result) cc)
    (λ x q k. search (rules, tests)) (λ x q k. search (rules, tests)))
