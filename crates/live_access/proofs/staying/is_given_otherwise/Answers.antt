use Rattle.std.proofs.Common.{ℕ, ◌-◌, ◌<◌, ◌≤◌, ◌∙◌, List, Contains, length, slice_index_or, inl, inr, sym, subst, arith}
use Rattle.std.proofs.lemmas.List.Elements.{Contains-get_or}
use Rattle.host_base.specs.declared.ids.GrantId.{GrantId}
use Rattle.share_graph.specs.declared.grants.Grant.{Grant}
use Rattle.share_graph.specs.declared.state.Tables.{Tables}
use Rattle.share_graph.specs.Rows.{IsGrant}
use Rattle.region_work.specs.Fed.{fed_in}
use Rattle.live_access.proofs.Stays.{given_more, other_grant}
use Rattle.live_access.proofs.staying.is_given_otherwise.Goals as goal

pub gave_from_outside-requires-clause-row : goal.gave_from_outside-requires-clause-row
gave_from_outside-requires-clause-row g c =
    let fed : List GrantId = c.fed_by-fed.result.now in
    let k : ℕ = c.loop-k.k in
    let most : k ≤ length fed = c.loop-k.auto.k in
    let some : 0 < k = c.loop-k-test.true in
    let within : k - 1 < length fed = omega arith in
    let other : GrantId = slice_index_or fed (k - 1) (record { 0 = 0 }) in
    let there : Contains (fed_in c.args.arrivals.now.entries c.args.at) other =
    subst (λ (xs : List GrantId). Contains xs other) c.fed_by-fed.ensures (Contains-get_or fed (k - 1) (record { 0 = 0 }) within) in
    let (grant, is, same) = (c.requires.arrivals.exact c.args.at other).0 there in
    (grant, subst (λ (t : Tables). IsGrant t other grant) (sym c.loop-k.invariant.0) is)

pub loop-k-preserved-then-ne : goal.loop-k-preserved-then-ne
loop-k-preserved-then-ne g c =
    let t = g.V.Probe.tables c.args.probe.now in
    let fed : List GrantId = c.fed_by-fed.result.now in
    let k : ℕ = c.loop-k.k in
    let most : k ≤ length fed = c.loop-k.auto.k in
    let some : 0 < k = c.loop-k-test.true in
    let within : k - 1 < length fed = omega arith in
    let other : GrantId = slice_index_or fed (k - 1) (record { 0 = 0 }) in
    let there : Contains (fed_in c.args.arrivals.now.entries c.args.at) other =
    subst (λ (xs : List GrantId). Contains xs other) c.fed_by-fed.ensures (Contains-get_or fed (k - 1) (record { 0 = 0 }) within) in
    let gave = rw c.loop-k.invariant.0 at c.gave_from_outside.ensures.gave in
    let before = c.loop-k.invariant.1 in
    let one = c.gave_from_outside.ensures.counted in (
      c.gave_from_outside.ensures.same ∙ c.loop-k.invariant.0,
      omega arith,
      λ nodes fact empty inside.
          elim ((c.union-given.ensures.members fact).0 inside) [
            | inl had ↦ c.loop-k.invariant.2 nodes fact empty had
            | inr new ↦
                given_more t c.args.table.now.entries nodes (fed_in c.args.arrivals.now.entries) c.args.at c.args.num other fact c.requires.arrivals there
                (other_grant other c.args.num c.if-ne.ensures) (λ grant is. gave nodes fact grant empty is new)
          ],
    )
