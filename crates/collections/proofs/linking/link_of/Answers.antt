use Rattle.std.proofs.Common.{inl, inr, refl, rules}
use Rattle.collections.proofs.linking.link_of.Goals as goal

pub returns-in_default : goal.returns-in_default
returns-in_default c = inr (inl (_, refl, c.in_ok-link.ensures, λ (for_sharing, is). c.in_default.not-Bearer for_sharing is))

pub returns-then-ne : goal.returns-then-ne
returns-then-ne c = inr (inr (_, refl, c.in_ok-link.ensures, (c.in-Bearer.for_sharing, c.in-Bearer.is), search rules))
