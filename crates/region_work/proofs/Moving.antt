-- What follows since a node gained facts, and what followed before.
use Rattle.std.proofs.Common.{◌≡◌, ◌⊎◌, ◌↔◌, Option, Some, None, Contains, IsSome, refl, sym, ◌∙◌, ap, subst, inl, inr}
use Rattle.std.proofs.lemmas.Bool.{cases_Bool}
use Rattle.host_base.specs.declared.ids.GrantId.{GrantId}
use Rattle.share_graph.specs.declared.facts.Fact.{Fact}
use Rattle.share_graph.specs.declared.facts.Fact.TheVariants.{Open}
use Rattle.share_graph.specs.declared.facts.Node.{Node}
use Rattle.share_graph.specs.declared.facts.Node.TheVariants as node
use Rattle.share_graph.specs.declared.grants.Grant.{Grant}
use Rattle.share_graph.specs.declared.grants.Need.{Need}
use Rattle.share_graph.specs.declared.grants.Need.TheVariants as need
use Rattle.share_graph.specs.declared.state.Tables.{Tables}
use Rattle.share_graph.specs.Derivation.{IsMetBy, Follows}
use Rattle.share_graph.specs.Nodes.{source_of}
use Rattle.share_graph.specs.Region.{Feeds}
use Rattle.least_access.specs.declared.held.Held.{Held}
use Rattle.least_access.specs.Held.{IsIn}
use Rattle.least_access.specs.Solved.{Table, held_at, HeldAt}
use Rattle.least_access.proofs.Nodes.{same_or_other}
use Rattle.least_access.proofs.Raising.{held_there, held_here, held_same}
use Rattle.least_access.proofs.Following.{Rule, follows_source, follows_site}
use Rattle.region_work.specs.declared.gain.Gain.{Gain}
use Rattle.region_work.specs.Owed.{meets, holder_of}
use Rattle.region_work.specs.Moves.{Becomes, Moves}
use Rattle.region_work.proofs.NeedsMet.{meets_is, asks_at, asks_open}

-- what a table with this at the node has there, both ways
pub exactly : (table : Table) (at : Node) (held : Held) → held_at table at ≡ Some held → (fact : Fact) → IsIn held fact ↔ HeldAt table at fact
exactly table at held is fact = (held_here table at held fact is, held_there table at held fact is)

module _ (t : Tables) (gain : Gain) (old new : Table) (moves : Moves gain old new) where
  pub held_on : (at : Node) (fact : Fact) → HeldAt old at fact → HeldAt new at fact
  held_on at fact h =
      elim (same_or_other at gain.node) [
        | inl here ↦
            let before = held_there old gain.node gain.before fact moves.had (subst (λ (n : Node). HeldAt old n fact) here h) in
            subst (λ (n : Node). HeldAt new n fact) (sym here) (held_here new gain.node gain.after fact moves.has ((moves.members fact).1 (inl before)))
        | inr other ↦ held_same new old at fact (sym (moves.others at other)) h
      ]

  pub held_back : (at : Node) (fact : Fact) → HeldAt new at fact → HeldAt old at fact ⊎ ((at ≡ gain.node) × IsIn gain.gained fact)
  held_back at fact h =
      elim (same_or_other at gain.node) [
        | inl here ↦
            elim ((moves.members fact).0 (held_there new gain.node gain.after fact moves.has (subst (λ (n : Node). HeldAt new n fact) here h))) [
              | inl before ↦ inl (subst (λ (n : Node). HeldAt old n fact) (sym here) (held_here old gain.node gain.before fact moves.had before))
              | inr one ↦ inr (here, one)
            ]
        | inr other ↦ inl (held_same old new at fact (moves.others at other) h)
      ]

  pub gained : (fact : Fact) → IsIn gain.gained fact → HeldAt new gain.node fact
  gained fact is = held_here new gain.node gain.after fact moves.has ((moves.members fact).1 (inr is))

  pub placed : (at : Node) → IsSome (held_at old at) → IsSome (held_at new at)
  placed at there =
      elim (same_or_other at gain.node) [
        | inl here ↦ subst (λ (o : Option Held). IsSome o) (sym (ap (λ (n : Node). held_at new n) here ∙ moves.has)) refl
        | inr other ↦ subst (λ (o : Option Held). IsSome o) (sym (moves.others at other)) there
      ]

  -- a need that isn't met since is met before
  need_at : (q : Need) (at : Node) → holder_of q ≡ Some at → (Becomes gain q → ⊥) → IsMetBy t (HeldAt new) q → IsMetBy t (HeldAt old) q
  need_at q at named never met =
      elim (same_or_other at gain.node) [
        | inl here ↦
            let there : holder_of q ≡ Some gain.node = named ∙ ap (λ (n : Node). Some n) here in
            let after = (meets_is t (HeldAt new) q gain.node gain.after there (exactly new gain.node gain.after moves.has)).1 met.1 in
            elim (cases_Bool (meets gain.before q)) [
              | inl enough ↦ (met.0, (meets_is t (HeldAt old) q gain.node gain.before there (exactly old gain.node gain.before moves.had)).0 enough)
              | inr short ↦ absurd (never (record { named = there; before = short; after = after }))
            ]
        | inr other ↦ (
          met.0,
          λ n asked a.
              let one = asks_at q at n asked named a in
              held_same old new n asked (moves.others n (λ same. other (sym one ∙ same))) (met.1 n asked a),
        )
      ]

  need_back : (q : Need) → (Becomes gain q → ⊥) → IsMetBy t (HeldAt new) q → IsMetBy t (HeldAt old) q
  need_back (need.TokenValid h) never met = need_at (need.TokenValid h) (node.Grant h) refl never met
  need_back (need.PermissionsHeld holder set) never met = need_at (need.PermissionsHeld holder set) holder refl never met
  need_back (need.UserIsAdmin a) never met = (met.0, λ at asked never. absurd never)

  follows_by : (g : GrantId) (grant : Grant) → ((q : Need) → Contains grant.needs q → Becomes gain q → ⊥) → (at : Node) (fact : Fact)
      → (from : Option Node) → source_of grant ≡ from → Follows t (HeldAt new) g grant at fact
      → Follows t (HeldAt old) g grant at fact ⊎ ((source_of grant ≡ Some gain.node) × IsIn gain.gained fact)
  follows_by g grant never at fact None is f =
      inl (record {
        met = λ q c. need_back q (never q c) (f.met q c);
        source = subst (λ (o : Option Node). Rule t (HeldAt old) g grant o at fact) (sym is) (follows_site t (HeldAt new) g grant at fact is f);
      })
  follows_by g grant never at fact (Some from) is f =
      let s = follows_source t (HeldAt new) g grant from at fact is f in
      elim (held_back from fact s.2) [
        | inl before ↦ inl (record {
          met = λ q c. need_back q (never q c) (f.met q c);
          source = subst (λ (o : Option Node). Rule t (HeldAt old) g grant o at fact) (sym is) (s.0, s.1, before);
        })
        | inr since ↦ inr (is ∙ ap (λ (n : Node). Some n) since.0, since.1)
      ]

  -- what follows by a grant none of whose needs is met since, followed before, or is a fact that its source gained
  pub follows_back : (g : GrantId) (grant : Grant) → ((q : Need) → Contains grant.needs q → Becomes gain q → ⊥) → (at : Node) (fact : Fact)
      → Follows t (HeldAt new) g grant at fact → Follows t (HeldAt old) g grant at fact ⊎ ((source_of grant ≡ Some gain.node) × IsIn gain.gained fact)
  follows_back g grant never at fact f = follows_by g grant never at fact (source_of grant) refl f

  -- a grant that the node doesn't feed passes nothing more on
  pub not_fed : (g : GrantId) (grant : Grant) → (Feeds gain.node grant → ⊥) → (at : Node) (fact : Fact)
      → Follows t (HeldAt new) g grant at fact → Follows t (HeldAt old) g grant at fact
  not_fed g grant apart at fact f =
      elim (follows_back g grant (λ q c b. apart (inr (q, c, (Open, asks_open q gain.node b.named)))) at fact f) [
        | inl before ↦ before
        | inr since ↦ absurd (apart (inl since.0))
      ]
