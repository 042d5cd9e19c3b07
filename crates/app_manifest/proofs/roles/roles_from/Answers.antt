use Rattle.std.proofs.Common.{◌≡◌, [], ◌∷◌, Some, option_map, length, length-append, sym, ap, ◌∙◌, arith}
use Rattle.std.proofs.lemmas.Iterator.Adapters.{YieldsList-from_vec}
use Rattle.std.proofs.lemmas.Iterator.Consumers.{YieldsList-so_far, YieldsList-turn, YieldsList-end}
use Rattle.app_manifest.specs.declared.fault.ManifestFault.TheVariants.{LongSet}
use Rattle.app_manifest.proofs.Sets.{first_long, long_set_is, first_long_here, first_long_more, roles_more, unchanged}
use Rattle.app_manifest.proofs.roles.roles_from.Goals as goal

pub returns-in_default-clause-fault : goal.returns-in_default-clause-fault
returns-in_default-clause-fault c =
    let read = c.args.read.items in
    let yielded = c.loop-read_role.yielded in
    let made = c.into_iter-read_role-iterator.ensures.into_iter_gives in
    let whole = YieldsList-from_vec {s = c.into_iter-read_role-iterator.result} read made.0 (omega arith) in
    let turn = YieldsList-turn whole yielded c.loop-read_role.read_role-iterator c.loop-read_role.yielded_by c.next.result c.next.new.self c.in-Some.read_role c.in-Some.is c.next.ensures.steps in
    let so_far = sym (unchanged yielded) ∙ YieldsList-so_far whole yielded c.loop-read_role.read_role-iterator c.loop-read_role.yielded_by in
    let place : length yielded ≡ c.len.result = omega arith in
    ap (λ n. option_map LongSet n) (long_set_is c.args.count read ∙ first_long_here c.args.count read yielded c.in-Some.read_role so_far turn.0 turn.1 c.loop-read_role.invariant.short c.in_default.ensures.long)
    ∙ ap (λ n. Some (LongSet n)) place

pub loop-read_role-preserved : goal.loop-read_role-preserved
loop-read_role-preserved c = record {
  short = first_long_more _ c.loop-read_role.yielded c.in-Some.read_role c.loop-read_role.invariant.short c.in-Some-role_with_set.ensures.long;
  roles = rw c.in_ok-push_role.ensures (roles_more c.loop-read_role.yielded c.loop-read_role.roles.items c.in-Some.read_role c.in-Some-role_with_set.role c.loop-read_role.invariant.roles c.in-Some-role_with_set.ensures.role);
  count = rw c.in_ok-push_role.ensures (omega (arith, length-append c.loop-read_role.roles.items (c.in-Some-role_with_set.role ∷ []), length-append c.loop-read_role.yielded (c.in-Some.read_role ∷ []), c.loop-read_role.invariant.count));
}

pub returns-clause-ok : goal.returns-clause-ok
returns-clause-ok c =
    let read = c.args.read.items in
    let yielded = c.loop-read_role.yielded in
    let made = c.into_iter-read_role-iterator.ensures.into_iter_gives in
    let whole = YieldsList-from_vec {s = c.into_iter-read_role-iterator.result} read made.0 (omega arith) in
    let all = YieldsList-end whole yielded c.loop-read_role.read_role-iterator c.loop-read_role.yielded_by c.next.result c.next.new.self c.in-None.is c.next.ensures.steps in
    long_set_is c.args.count read ∙ ap (first_long c.args.count) (sym all.0 ∙ unchanged yielded) ∙ c.loop-read_role.invariant.short
