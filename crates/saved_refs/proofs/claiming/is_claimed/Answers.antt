use Rattle.std.proofs.Common.{refl}
use Rattle.share_graph.specs.Keys.{IsGivenFrom}
use Rattle.share_graph.proofs.FirstOf.{one_of}
use Rattle.saved_refs.proofs.claiming.is_claimed.Goals as goal

pub returns-in-None : goal.returns-in-None
returns-in-None c = (λ no. cc, λ (grant, one). absurd (c.in-None.ensures grant one.listed one.is))

pub returns-in-Some : goal.returns-in-Some
returns-in-Some c = (λ _. (_, one_of c.args.tables.now.grants (IsGivenFrom c.args.num) _ c.in-Some.ensures), λ _. refl)
