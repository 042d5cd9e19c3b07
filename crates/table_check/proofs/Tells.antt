-- What the last test of a row of tests tells of all of them.
use Rattle.std.proofs.Common.{◌↔◌, Bool, IsTrue, false}
use Rattle.std.proofs.lemmas.Bool.{false≢true}

-- a test of a part that fails
pub refuted : {P Q : Type 0} → (P → Q) → IsTrue false ↔ Q → IsTrue false ↔ P
refuted part tells = (λ no. absurd (false≢true no), λ whole. tells.1 (part whole))

-- the test of the last part
pub matched : {P Q : Type 0} {b : Bool} → (P → Q) → (Q → P) → IsTrue b ↔ Q → IsTrue b ↔ P
matched part whole tells = (λ yes. whole (tells.0 yes), λ all. tells.1 (part all))
