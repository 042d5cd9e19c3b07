-- What routes ask for.
use Rattle.std.proofs.Common.{◌≡◌, ℕ, List, Option, Some, Result, ◌∙◌, ap}
use Rattle.host_base.specs.declared.digest.Digest.{Digest}
use Rattle.front_http.specs.declared.route.Route.{Route}
use Rattle.desk_bodies.specs.Answers.{Answers}
use Rattle.desk_bodies.specs.declared.fault.BodyFault.{BodyFault}
use Rattle.cloud_serve.specs.declared.showing.Showing.{Showing}
use Rattle.cloud_serve.specs.Commands.{asked_at}

-- something is asked for, and the answer is it, or its body's fault, or memory ran out
abbrev AnswersAt : Option (Result Showing BodyFault) → Result Showing BodyFault → Type 0
AnswersAt asked answer = (one : Result Showing BodyFault) × (asked ≡ Some one) × Answers one answer

-- the answer is of what a route asks for
pub states : (found there : Route) (who : Digest) (body : List ℕ) (one answer : Result Showing BodyFault) → found ≡ there → asked_at who body there ≡ Some one → Answers one answer → AnswersAt (asked_at who body found) answer
states found there who body one answer is same stated = (one, ap (λ (r : Route). asked_at who body r) is ∙ same, stated)
