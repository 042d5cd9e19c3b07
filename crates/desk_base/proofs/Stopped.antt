-- Where the checks of a command stop.
use Rattle.std.proofs.Common.{◌≡◌, Result, Ok, Err, IsErrAnd, sym, subst}
use Rattle.desk_base.specs.Terms.{Refusal}
use Rattle.desk_base.specs.declared.outcome.Outcome.{Outcome}
use Rattle.desk_base.specs.declared.stop.Stop.{Stop}
use Rattle.desk_base.specs.declared.stop.Stop.TheVariants as stop
use Rattle.desk_base.specs.Outcomes.{step_of, Stops, Checks, IsCarriedExactly, IsCarried}
use Rattle.desk_base.specs.Steps.{Step, Refuses, Keeps}

-- a test's refusal is that of the command
pub stopped : {X : Type 0} (Row : Step → Type 0) (makes : X → Step) (result : Result X Stop) (r : Refusal) → IsErrAnd result (λ e. e ≡ stop.Refused r) → Row (Refuses r) → Checks Row makes result
stopped Row makes (Ok x) r odd is = absurd odd
stopped Row makes (Err s) r same is = subst (λ (one : Stop). Stops Row one) (sym same) is

-- where the checks stop, the command does
pub halted : {X : Type 0} (Row : Step → Type 0) (makes : X → Step) (result : Result X Stop) (s : Stop) → IsErrAnd result (λ e. e ≡ s) → Stops Row s → Checks Row makes result
halted Row makes (Ok x) s odd is = absurd odd
halted Row makes (Err e) s same is = subst (λ (one : Stop). Stops Row one) (sym same) is

-- what is carried out exactly is carried out
pub loosely : (Row : Step → Type 0) (result : Result Outcome Stop) → IsCarriedExactly Row result → IsCarried Row result
loosely Row (Ok out) is = is
loosely Row (Err (stop.Refused r)) is = is
loosely Row (Err (stop.Same made)) is = is
loosely Row (Err stop.Memory) is = absurd is

-- a test's refusal is that of a command that may run out of memory
pub refused : (Row : Step → Type 0) (result : Result Outcome Stop) (r : Refusal) → IsErrAnd result (λ e. e ≡ stop.Refused r) → Row (Refuses r) → IsCarried Row result
refused Row result r same is = loosely Row result (stopped Row step_of result r same is)

-- where memory runs out, the row has an answer
pub starved : (Row : Step → Type 0) (result : Result Outcome Stop) → IsErrAnd result (λ e. e ≡ stop.Memory) → (step : Step) × Row step → IsCarried Row result
starved Row (Ok out) odd has = absurd odd
starved Row (Err e) same has = subst (λ (one : Stop). IsCarried Row (Err one)) (sym same) has

-- what is carried out by the rest of a row is carried out by the row, where the row goes on with it
pub carried_more : (Rest Row : Step → Type 0) → ((step : Step) → Rest step → Row step) → (result : Result Outcome Stop) → IsCarried Rest result → IsCarried Row result
carried_more Rest Row more (Ok out) is = more (step_of out) is
carried_more Rest Row more (Err (stop.Refused r)) is = more (Refuses r) is
carried_more Rest Row more (Err (stop.Same made)) is = more (Keeps made) is
carried_more Rest Row more (Err stop.Memory) (step, is) = (step, more step is)
