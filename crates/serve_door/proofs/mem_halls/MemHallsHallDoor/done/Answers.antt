use Rattle.std.proofs.Common.{◌≡◌, ◌++◌, ◌≤◌, ◌<◌, ◌∷◌, [], ℕ, List, arith, ap, length, length-append, map, refl}
use Rattle.std.proofs.lemmas.List.{length-map}
use Rattle.serve_door.specs.Doors.{Tunnel, Tunneled, Visit}
use Rattle.serve_door.proofs.mem_halls.MemHallsHallDoor.done.Goals as goal

few_kept : (kept : List Tunnel) (given : ℕ) → length (map (λ (one : Tunnel). Tunneled one) kept) < given → length kept < given
few_kept kept given few = omega (arith, few, length-map kept (λ (one : Tunnel). Tunneled one))

few_with : (one : Tunnel) (old new : List Tunnel) (given : ℕ) → new ≡ old ++ one ∷ [] → length old < given → length new ≤ given
few_with one old new given is few = omega (arith, ap length is, length-append old (one ∷ []), few)

pub push_reserved-requires : goal.push_reserved-requires
push_reserved-requires g c =
    let out = rw (← c.self.view_is) at c.requires.out in
    let few = few_kept c.self.inside.kept.items c.self.inside.given (out _ refl) in
    omega (arith, few, c.self.invariant.1)

pub invariant_of-self : goal.invariant_of-self
invariant_of-self g c =
    let out = rw (← c.self.view_is) at c.requires.out in
    let few = few_kept c.self.inside.kept.items c.self.inside.given (out _ refl) in (
      c.self.invariant.0,
      omega (arith, c.push_reserved.ensures.capacity, c.self.invariant.1),
      few_with _ _ _ _ c.push_reserved.ensures.items few,
      c.self.invariant.3,
    )
