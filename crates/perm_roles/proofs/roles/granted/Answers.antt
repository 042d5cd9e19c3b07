use Rattle.std.proofs.Common.{inl, inr}
use Rattle.perm_roles.proofs.Giving.{Gives-within}
use Rattle.perm_roles.proofs.OneAnswer.{one_set}
use Rattle.perm_roles.proofs.roles.granted.Goals as goal

pub returns-clause-gives : goal.returns-clause-gives
returns-clause-gives c p =
    let base_is = c.base_set.ensures p in
    let set_is = c.applied_to.ensures p in (
      λ has. let given = set_is.0 has in (elim given.0 [ inl in_base ↦ inl (base_is.0 in_base) | inr added ↦ inr added ], given.1),
      λ gives. set_is.1 (elim gives.0 [ inl in_base ↦ inl (base_is.1 in_base) | inr added ↦ inr added ], gives.1),
    )

pub returns-clause-within : goal.returns-clause-within
returns-clause-within c p here =
    Gives-within c.args.roles.now c.args.count c.args.assignment.now c.requires.sets_fit p ((returns-clause-gives c p).0 here)

pub returns-clause-one : goal.returns-clause-one
returns-clause-one c other is = one_set c.args.roles.now c.args.count c.args.assignment.now other _ is (returns-clause-gives c)
