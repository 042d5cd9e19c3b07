use Rattle.std.proofs.Common.{List, sym, ◌∙◌, ap, subst}
use Rattle.std.specs.List.{filter_map}
use Rattle.std.proofs.lemmas.Result.{IfOk-weaker}
use Rattle.host_base.specs.declared.ids.AccountId.{AccountId}
use Rattle.collections.specs.Scan.{AreMembers, member_of}
use Rattle.collections.proofs.Listed.{are_members}
use Rattle.collections.proofs.members.members_of.Goals as goal

pub returns : goal.returns
returns c =
    let t = c.args.tables.now in
    let are = are_members t c.args.grain c.in_ok-entries.entries.items c.in_ok-entries.ensures in
    IfOk-weaker c.members_in.result _ _
    (λ members same. subst (λ (xs : List AccountId). AreMembers t c.args.grain xs) (sym (same ∙ ap (filter_map member_of) c.as_slice.ensures.value)) are)
    c.members_in.ensures
