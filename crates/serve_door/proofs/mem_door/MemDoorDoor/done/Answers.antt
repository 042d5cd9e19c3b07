use Rattle.std.proofs.Common.{◌≡◌, ◌++◌, ◌≤◌, ◌<◌, ◌∷◌, [], ℕ, List, arith, ap, length, length-append, map, refl}
use Rattle.std.proofs.lemmas.List.{length-map}
use Rattle.serve_door.specs.Doors.{Connection, Connected, Visit}
use Rattle.serve_door.proofs.mem_door.MemDoorDoor.done.Goals as goal

few_kept : (kept : List Connection) (given : ℕ) → length (map (λ (one : Connection). Connected one) kept) < given → length kept < given
few_kept kept given few = omega (arith, few, length-map kept (λ (one : Connection). Connected one))

few_with : (one : Connection) (old new : List Connection) (given : ℕ) → new ≡ old ++ one ∷ [] → length old < given → length new ≤ given
few_with one old new given is few = omega (arith, ap length is, length-append old (one ∷ []), few)

pub push_reserved-requires : goal.push_reserved-requires
push_reserved-requires g c =
    let out = rw (← c.self.view_is) at c.requires.out in
    let few = few_kept c.self.inside.kept.items c.self.inside.given (out _ refl) in
    omega (arith, few, c.self.invariant.1)

pub invariant_of-self : goal.invariant_of-self
invariant_of-self g c =
    let out = rw (← c.self.view_is) at c.requires.out in
    let few = few_kept c.self.inside.kept.items c.self.inside.given (out _ refl) in (
      c.self.invariant.0,
      omega (arith, c.push_reserved.ensures.capacity, c.self.invariant.1),
      few_with _ _ _ _ c.push_reserved.ensures.items few,
      c.self.invariant.3,
    )
