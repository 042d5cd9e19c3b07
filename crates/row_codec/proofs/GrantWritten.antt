-- What is written of a grant in each version.
use Rattle.std.proofs.Common.{◌≡◌, ℕ, ◌∷◌, ◌++◌, Option, Some, None, ap}
use Rattle.std.specs.Int.{w64}
use Rattle.share_graph.specs.declared.grants.Grant.{Grant}
use Rattle.row_formats.specs.Format.{number_bytes}
use Rattle.row_codec.specs.GrantRow.{without_expiry, grant}

pub write_without : (num : ℕ) (g : Grant) → g.expires ≡ None → (grant num).write g ≡ 1 ∷ (without_expiry num).write g
write_without num g is = ap (λ (o : Option ℕ). (grant num).write (record g { expires = o })) is

pub write_with : (num : ℕ) (g : Grant) (end : ℕ) → g.expires ≡ Some end → (grant num).write g ≡ 2 ∷ ((without_expiry num).write g ++ number_bytes w64 end)
write_with num g end is = ap (λ (o : Option ℕ). (grant num).write (record g { expires = o })) is
