use Rattle.std.proofs.Common.{ℕ, List}
use Rattle.front_http.specs.Routes.{IsUse}
use Rattle.cloud_serve.proofs.showing.used.Goals as goal

pub unreachable-requires : goal.unreachable-requires
unreachable-requires c =
    let none : (n : ℕ) (rest : List ℕ) → IsUse n c.args.target.now rest → ⊥ = rw c.in-None.is at c.in_ok-found.ensures in
    none c.requires.0 c.requires.1 c.requires.2
