use Rattle.std.proofs.Common.{List, Contains, subst, inl, inr}
use Rattle.host_base.specs.declared.ids.GrantId.{GrantId}
use Rattle.region_work.proofs.Sums.{contains_none}
use Rattle.access_report.proofs.spreading.start.Goals as goal

pub add_sites-requires : goal.add_sites-requires
add_sites-requires c num listed = c.requires num (subst (λ (gs : List GrantId). Contains gs num) c.as_slice.ensures.value listed)

pub returns-clause-listed : goal.returns-clause-listed
returns-clause-listed c num waits =
    elim (c.in_ok-add_sites.ensures.only num waits) [
      | inl before ↦ absurd (contains_none num (subst (λ (gs : List GrantId). Contains gs num) c.new-queue.ensures before))
      | inr listed ↦ subst (λ (gs : List GrantId). Contains gs num) c.as_slice.ensures.value listed
    ]
