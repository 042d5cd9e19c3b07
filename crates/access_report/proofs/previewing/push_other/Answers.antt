use Rattle.std.proofs.Common.{◌≡◌, ◌≢◌, ◌++◌, ◌∷◌, [], List, Contains, sym, ◌∙◌, subst, inl, inr}
use Rattle.std.proofs.lemmas.List.Elements.{Contains-append_left, Contains-push, Contains-push_cases}
use Rattle.host_base.specs.declared.ids.GrantId.{GrantId}
use Rattle.least_access.proofs.Lacking.{not_so}
use Rattle.access_report.proofs.previewing.push_other.Goals as goal

pub returns-then-not-is_other : goal.returns-then-not-is_other
returns-then-not-is_other c g = (
  λ listed. inl listed,
  λ either.
      elim either [
        | inl listed ↦ listed
        | inr (same, differs) ↦ absurd (not_so (c.args.other ≢ c.args.num) c.is_other.result c.is_other.ensures c.if-not-is_other.true (λ is. differs (sym same ∙ is)))
      ],
)

pub returns : goal.returns
returns c g =
    let more : c.push.new.self.items ≡ c.args.others.now.items ++ c.args.other ∷ [] = c.in_ok-push.ensures.items in
    let differs : c.args.other ≢ c.args.num = c.is_other.ensures.0 c.if-not-is_other.false in (
      λ listed.
          elim (Contains-push_cases c.args.others.now.items c.args.other g (subst (λ (xs : List GrantId). Contains xs g) more listed)) [
            | inl before ↦ inl before
            | inr last ↦ inr (last, λ is. differs (last ∙ is))
          ],
      λ either.
          subst (λ (xs : List GrantId). Contains xs g) (sym more)
          (elim either [
            | inl before ↦ Contains-append_left c.args.others.now.items (c.args.other ∷ []) g before
            | inr (same, other) ↦ subst (λ (x : GrantId). Contains (c.args.others.now.items ++ c.args.other ∷ []) x) same (Contains-push c.args.others.now.items c.args.other)
          ]),
    )
