-- What can still be tested falls by what a gain lets be tested.
use Rattle.std.proofs.Common.{◌≡◌, ◌≢◌, ◌+◌, ◌-◌, ◌≤◌, ℕ, Bool, true, false, if◌then◌else◌, List, Option, Some, None, Contains, refl, ◌∙◌, ap, inl, inr, arith}
use Rattle.std.specs.Prelude.{sum_by, AllPairs}
use Rattle.host_base.specs.declared.ids.GrantId.{GrantId}
use Rattle.share_graph.specs.declared.facts.Node.{Node}
use Rattle.share_graph.specs.declared.grants.Grant.{Grant}
use Rattle.share_graph.specs.declared.grants.Need.{Need}
use Rattle.share_graph.specs.declared.state.Tables.{Tables}
use Rattle.share_graph.specs.Nodes.{source_of}
use Rattle.share_graph.specs.Rows.{row, IsGrant}
use Rattle.least_access.specs.declared.held.Held.{Held}
use Rattle.least_access.specs.Held.{room}
use Rattle.least_access.specs.Solved.{Table}
use Rattle.least_access.proofs.Nodes.{same_or_other}
use Rattle.region_work.specs.declared.gain.Gain.{Gain}
use Rattle.region_work.specs.Owed.{meets, holder_of, held_or, held_in, unmet_at, unmet, lacking, owed_by_grant, owed_by_row, owed}
use Rattle.region_work.specs.Moves.{Becomes, Moves}
use Rattle.region_work.specs.Working.{owed_by}
use Rattle.region_work.proofs.NeedsMet.{meets_more}
use Rattle.region_work.proofs.Sums.{sum_less, sum_less_at, sum_of_two, sum_of_members}

abbrev mark : Bool → ℕ
mark met = if met then 0 else 1

mark_falls : (before after : Bool) → (before ≡ true → after ≡ true) → mark after ≤ mark before
mark_falls true after more = let met = more refl in rw met (omega arith)
mark_falls false true more = omega arith
mark_falls false false more = omega arith

module _ (gain : Gain) (old new : Table) (moves : Moves gain old new) where
  held_before : held_in old gain.node ≡ gain.before
  held_before = ap held_or moves.had

  held_after : held_in new gain.node ≡ gain.after
  held_after = ap held_or moves.has

  unmet_here : (q : Need) → mark (meets gain.after q) ≤ mark (meets gain.before q)
  unmet_here q = mark_falls (meets gain.before q) (meets gain.after q) (meets_more gain.before gain.after (λ fact h. (moves.members fact).1 (inl h)) q)

  unmet_falls_at : (q : Need) (o : Option Node) → unmet_at new q o ≤ unmet_at old q o
  unmet_falls_at q None = omega arith
  unmet_falls_at q (Some at) =
      elim (same_or_other at gain.node) [
        | inl here ↦
            let less = unmet_here q in
            let a : mark (meets (held_in new at) q) ≡ mark (meets gain.after q) = ap (λ (n : Node). mark (meets (held_in new n) q)) here ∙ ap (λ (h : Held). mark (meets h q)) held_after in
            let b : mark (meets (held_in old at) q) ≡ mark (meets gain.before q) = ap (λ (n : Node). mark (meets (held_in old n) q)) here ∙ ap (λ (h : Held). mark (meets h q)) held_before in
            omega arith
        | inr other ↦
            let a : mark (meets (held_in new at) q) ≡ mark (meets (held_in old at) q) = ap (λ (o : Option Held). mark (meets (held_or o) q)) (moves.others at other) in
            omega arith
      ]

  unmet_falls : (q : Need) → unmet new q ≤ unmet old q
  unmet_falls q = unmet_falls_at q (holder_of q)

  unmet_becomes : (q : Need) → Becomes gain q → unmet new q + 1 ≤ unmet old q
  unmet_becomes q b =
      let a : unmet new q ≡ mark true = ap (λ (o : Option Node). unmet_at new q o) b.named ∙ ap (λ (h : Held). mark (meets h q)) held_after ∙ ap mark b.after in
      let c : unmet old q ≡ mark false = ap (λ (o : Option Node). unmet_at old q o) b.named ∙ ap (λ (h : Held). mark (meets h q)) held_before ∙ ap mark b.before in
      omega arith

  lacking_here : lacking new (Some gain.node) + 1 ≤ lacking old (Some gain.node)
  lacking_here =
      let less = moves.less in
      let a : lacking new (Some gain.node) ≡ room gain.after = ap room held_after in
      let b : lacking old (Some gain.node) ≡ room gain.before = ap room held_before in
      omega arith

  lacking_falls : (o : Option Node) → lacking new o ≤ lacking old o
  lacking_falls None = omega arith
  lacking_falls (Some at) =
      elim (same_or_other at gain.node) [
        | inl here ↦
            let less = lacking_here in
            let a : lacking new (Some at) ≡ lacking new (Some gain.node) = ap (λ (n : Node). lacking new (Some n)) here in
            let b : lacking old (Some at) ≡ lacking old (Some gain.node) = ap (λ (n : Node). lacking old (Some n)) here in
            omega arith
        | inr other ↦
            let a : lacking new (Some at) ≡ lacking old (Some at) = ap (λ (o : Option Held). room (held_or o)) (moves.others at other) in
            omega arith
      ]

  grant_falls : (grant : Grant) → owed_by_grant new grant ≤ owed_by_grant old grant
  grant_falls grant =
      let source = lacking_falls (source_of grant) in
      let needs = sum_less (unmet new) (unmet old) unmet_falls grant.needs in
      omega arith

  row_falls : (o : Option Grant) → owed_by_row new o ≤ owed_by_row old o
  row_falls None = omega arith
  row_falls (Some grant) = grant_falls grant

  pub owed_falls : (t : Tables) (g : GrantId) → owed t new g ≤ owed t old g
  unfolding owed
  owed_falls t g = row_falls (row t.grants g.0)

  -- by one where the grant's source gained the fact
  pub owed_source : (t : Tables) (g : GrantId) (grant : Grant) → IsGrant t g grant → source_of grant ≡ Some gain.node → owed t new g + 1 ≤ owed t old g
  unfolding owed
  owed_source t g grant is from =
      let a : owed_by_row new (row t.grants g.0) ≡ owed_by_grant new grant = ap (owed_by_row new) is in
      let b : owed_by_row old (row t.grants g.0) ≡ owed_by_grant old grant = ap (owed_by_row old) is in
      let c : lacking new (source_of grant) ≡ lacking new (Some gain.node) = ap (lacking new) from in
      let d : lacking old (source_of grant) ≡ lacking old (Some gain.node) = ap (lacking old) from in
      let here = lacking_here in
      let needs = sum_less (unmet new) (unmet old) unmet_falls grant.needs in
      omega arith

  -- and where a need became met
  pub owed_need : (t : Tables) (g : GrantId) (grant : Grant) (q : Need) → IsGrant t g grant → Contains grant.needs q → Becomes gain q → owed t new g + 1 ≤ owed t old g
  unfolding owed
  owed_need t g grant q is c becomes =
      let a : owed_by_row new (row t.grants g.0) ≡ owed_by_grant new grant = ap (owed_by_row new) is in
      let b : owed_by_row old (row t.grants g.0) ≡ owed_by_grant old grant = ap (owed_by_row old) is in
      let source = lacking_falls (source_of grant) in
      let needs = sum_less_at (unmet new) (unmet old) unmet_falls grant.needs q c (unmet_becomes q becomes) in
      omega arith

  -- what the grants that are fed may cost, the others needn't
  pub owed_fed : (t : Tables) (fed gs : List GrantId) → AllPairs (λ (a : GrantId) (b : GrantId). a ≢ b) fed → ((g : GrantId) → Contains fed g → Contains gs g)
      → sum_by (λ g. owed t old g - owed t new g) fed + owed_by t new gs ≤ owed_by t old gs
  owed_fed t fed gs apart within =
      let some = sum_of_members (λ g. owed t old g - owed t new g) fed gs apart within in
      let all = sum_of_two (owed t new) (λ g. owed t old g - owed t new g) (owed t old) (λ g. (let less = owed_falls t g in omega arith)) gs in
      omega arith
