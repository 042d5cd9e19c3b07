use Rattle.std.proofs.Common.{◌≡◌, ◌∙◌, List, Contains, sym, subst, inl, inr}
use Rattle.share_graph.specs.declared.grants.Need.{Need}
use Rattle.region_access.specs.declared.tie.Tie.{Tie}
use Rattle.region_access.specs.Ties.{IsAskedBy}
use Rattle.region_work.proofs.Sums.{contains_none}
use Rattle.region_access.proofs.Tied.{end_of, tied_either}
use Rattle.region_access.proofs.tying.ties_of_grant.Goals as goal

pub returns : goal.returns
returns c on =
    let either = tied_either c.args.grant.now on in
    let first = c.in_ok-push_some.ensures on in
    let then = c.in_ok-push_some-2.ensures on in
    let last = c.in_ok-add_asked.ensures on in
    let end : end_of c.args.grant.now.expires ≡ c.end_of.result = sym c.end_of.ensures in (
      λ has.
          elim (last.0 has) [
            | inl before ↦
                elim (then.0 before) [
                  | inl earlier ↦
                      elim (first.0 earlier) [
                        | inl none ↦ absurd (contains_none on (subst (λ (xs : List Tie). Contains xs on) c.new-ties.ensures.items none))
                        | inr grain ↦ either.1 (inl grain)
                      ]
                  | inr ends ↦ either.1 (inr (inl (end ∙ ends)))
                ]
            | inr asked ↦ either.1 (inr (inr (subst (λ (needs : List Need). IsAskedBy needs on) c.as_slice.ensures asked)))
          ],
      λ tied.
          elim (either.0 tied) [
            | inl grain ↦ last.1 (inl (then.1 (inl (first.1 (inr grain)))))
            | inr (inl ends) ↦ last.1 (inl (then.1 (inr (sym end ∙ ends))))
            | inr (inr asked) ↦ last.1 (inr (subst (λ (needs : List Need). IsAskedBy needs on) (sym c.as_slice.ensures) asked))
          ],
    )
