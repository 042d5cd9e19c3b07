use Rattle.std.proofs.Common.{◌⊎◌, ◌↔◌, List, Contains, subst, inl, inr}
use Rattle.std.proofs.lemmas.Result.{on_ok_weaker}
use Rattle.host_base.specs.declared.ids.GrantId.{GrantId}
use Rattle.region_access.specs.Seeds.{IsSeedOfGrants}
use Rattle.region_access.specs.Ties.{tied_in}
use Rattle.region_access.proofs.Tied.{seeds_tied}
use Rattle.region_access.proofs.seeds.add_tied.Goals as goal

pub returns : goal.returns
returns c =
    on_ok_weaker c.add_nodes.result
    (λ all at.
    let one = seeds_tied c.args.tables.now (tied_in c.args.ties.now.entries) c.requires c.args.on at in
    let both = subst (λ (gs : List GrantId). Contains c.add_nodes.new.nodes.items at ↔ (Contains c.args.nodes.now.items at ⊎ IsSeedOfGrants c.args.tables.now gs at)) c.tied_by.ensures (all at) in (
      λ has. elim (both.0 has) [ inl before ↦ inl before | inr is ↦ inr (one.0 is) ],
      elim [ inl before ↦ both.1 (inl before) | inr is ↦ both.1 (inr (one.1 is)) ],
    ))
    c.add_nodes.ensures
