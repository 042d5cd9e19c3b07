use Rattle.std.proofs.Common.{◌≡◌, ◌+◌, List, length, sym, ◌∙◌, ap, subst, arith}
use Rattle.host_base.specs.declared.ids.GrainId.{GrainId}
use Rattle.share_graph.proofs.Walks.{at_place}
use Rattle.region_access.proofs.GrainsOf.{AreBelow, none_below, one_taken, one_passed, all_below}
use Rattle.region_access.proofs.grains_of.grains_of.Goals as goal
use Rattle.region_access.proofs.grains_of.grains_of.Goals.{then-is_of+in-Ok, else-is_of}

pub loop-place-init : goal.loop-place-init
loop-place-init c = subst (λ (xs : List GrainId). AreBelow c.args.tables.now.grains c.args.app 0 xs) (sym c.new-nums.ensures.items) (none_below c.args.tables.now.grains c.args.app)

pub loop-place-preserved : goal.loop-place-preserved
loop-place-preserved c =
    let grains = c.args.tables.now.grains in
    let there = at_place grains c.as_slice-grain-items.result.now c.loop-place.place c.grain-item.result c.as_slice-grain-items.ensures c.loop-place-test.true c.grain-item.is in
    elim c.if-is_of.branch [
      | then-is_of+in-Ok w ↦
          subst (λ (xs : List GrainId). AreBelow grains c.args.app (c.loop-place.place + 1) xs) (sym (ap (λ v. v.items) w.nums-is ∙ w.in-Ok.ensures.items))
          (one_taken grains c.args.app c.loop-place.place c.grain-item.result c.loop-place.nums.items there (c.is_of.ensures.0 w.if-is_of.true) c.loop-place.invariant)
      | else-is_of w ↦
          subst (λ (xs : List GrainId). AreBelow grains c.args.app (c.loop-place.place + 1) xs) (sym (ap (λ v. v.items) w.nums-is))
          (one_passed grains c.args.app c.loop-place.place c.grain-item.result c.loop-place.nums.items there (λ same. (let is = c.is_of.ensures.1 same in let not = w.if-is_of.false in cc)) c.loop-place.invariant)
    ]

pub returns : goal.returns
returns c =
    let same : length c.as_slice-grain-items.result.now ≡ length c.args.tables.now.grains = ap length c.as_slice-grain-items.ensures in
    all_below c.args.tables.now.grains c.args.app c.loop-place.place c.loop-place.nums.items (omega arith) c.loop-place.invariant
