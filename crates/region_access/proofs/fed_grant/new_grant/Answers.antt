use Rattle.std.proofs.Common.{◌∙◌, List, Contains, refl, sym, subst, inl, inr}
use Rattle.share_graph.specs.declared.facts.Node.{Node}
use Rattle.share_graph.specs.declared.grants.Need.{Need}
use Rattle.region_access.specs.Adding.{IsNamed}
use Rattle.region_work.proofs.Sums.{contains_none}
use Rattle.region_access.proofs.Added.{feeds_either}
use Rattle.region_access.proofs.fed_grant.new_grant.Goals as goal

pub returns : goal.returns
returns c = (
  refl,
  record {
    feeding = λ at.
        let either = feeds_either c.args.grant.now at in
        let first = c.in_ok-push_some.ensures at in
        let second = c.in_ok-add_holders.ensures at in (
          λ has.
              elim (second.0 has) [
                | inl before ↦
                    elim (first.0 before) [
                      | inl none ↦ absurd (contains_none at (subst (λ (xs : List Node). Contains xs at) c.new-feeding.ensures.items none))
                      | inr source ↦ either.1 (inl (sym c.source_of.ensures ∙ source))
                    ]
                | inr named ↦ either.1 (inr (subst (λ (xs : List Need). IsNamed xs at) c.as_slice.ensures named))
              ],
          λ feeds.
              elim (either.0 feeds) [
                | inl source ↦ second.1 (inl (first.1 (inr (c.source_of.ensures ∙ source))))
                | inr named ↦ second.1 (inr (subst (λ (xs : List Need). IsNamed xs at) (sym c.as_slice.ensures) named))
              ],
        );
    node = c.node_of.ensures;
    ties = c.in_ok-ties_of_grant.ensures;
  },
)
