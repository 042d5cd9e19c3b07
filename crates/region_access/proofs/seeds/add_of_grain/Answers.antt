use Rattle.std.proofs.Common.{Contains, inl, inr}
use Rattle.std.proofs.lemmas.Result.{on_ok_weaker}
use Rattle.region_access.proofs.seeds.add_of_grain.Goals as goal

pub returns : goal.returns
returns c =
    on_ok_weaker c.add_tied.result
    (λ all at.
    let first = c.in_ok-push_some.ensures at in
    let owner = c.owner_there.ensures at in
    let both = all at in (
      λ has.
          elim (both.0 has) [
            | inl before ↦ elim (first.0 before) [ inl old ↦ inl old | inr is ↦ inr (inl (owner.0 is)) ]
            | inr more ↦ inr (inr more)
          ],
      elim [
        | inl old ↦ both.1 (inl (first.1 (inl old)))
        | inr (inl is) ↦ both.1 (inl (first.1 (inr (owner.1 is))))
        | inr (inr more) ↦ both.1 (inr more)
      ],
    ))
    c.add_tied.ensures
