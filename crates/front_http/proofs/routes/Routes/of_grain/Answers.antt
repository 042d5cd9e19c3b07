use Rattle.std.proofs.Common.{inl, inr}
use Rattle.front_http.proofs.Cutting.{use_alone}
use Rattle.front_http.proofs.routes.Routes.of_grain.Goals as goal

pub returns-in-Some-clause-whole : goal.returns-in-Some-clause-whole
returns-in-Some-clause-whole c = λ found is. elim is [
  | inl post ↦ absurd (use_alone c.args.request.now c.in-Some.number found c.in-Some.ensures.found post)
  | inr used ↦ let number = c.in-Some.ensures.whole used.0 used.1 in let same = used.2 in cc
]

pub returns-in-None-clause-whole : goal.returns-in-None-clause-whole
returns-in-None-clause-whole c = λ found is. elim is [
  | inl post ↦ c.at_grain.ensures.whole found post
  | inr used ↦ let none = c.in-None.ensures.whole used.0 used.1 in absurd cc
]
