-- The answers have no float, so their texts are exact.
use Rattle.std.proofs.Common.{◌≡◌, ℕ, Bool, false, List, [], ◌∷◌, Option, Some, None, refl}
use Rattle.serde_json.specs.Data.{string}
use Rattle.serde_json.specs.Written.{has_float, items_have_float, members_have_float}
use Rattle.report_desk.specs.declared.holder.Holder.TheVariants as holder
use Rattle.report_texts.specs.Terms.{AccountId, Data, Holder, Passing, ReasonStep, ReportLine}
use Rattle.report_texts.specs.Answers.{access_data, array_of, grant_data, items_of, line_data, line_members, missing_data, number_of, preview_data, shared_data, step_data, why_data}

pub items_exact : {X : Type 0} (make : X → Data) → ((x : X) → has_float (make x) ≡ false) → (xs : List X) → items_have_float (items_of make xs) ≡ false
items_exact make each [] = refl
items_exact make each (x ∷ xs) = rw (each x) (items_exact make each xs)

members_exact : (shown : Holder) (entry : Bool) (names : List (List ℕ)) → members_have_float (line_members shown entry names) ≡ false
members_exact (holder.User a handle n) entry names = rw (items_exact string (λ _. refl) names)
members_exact (holder.Grant g n) entry names = rw (items_exact string (λ _. refl) names)

line_exact : (line : ReportLine) → has_float (line_data line) ≡ false
unfolding line_data
line_exact line = members_exact line.holder line.entry line.permissions

grant_exact : (passing : Option Passing) → has_float (grant_data passing) ≡ false
grant_exact None = refl
grant_exact (Some passing) = refl

step_exact : (step : ReasonStep) → has_float (step_data step) ≡ false
unfolding step_data
step_exact step = rw (items_exact number_of (λ _. refl) step.from, grant_exact step.passing, line_exact step.line)

lines_exact : (lines : List ReportLine) → has_float (array_of line_data lines) ≡ false
lines_exact lines = items_exact line_data line_exact lines

pub access_exact : (lines : List ReportLine) → has_float (access_data lines) ≡ false
unfolding access_data
access_exact lines = rw (lines_exact lines)

pub preview_exact : (lines : List ReportLine) → has_float (preview_data lines) ≡ false
unfolding preview_data
preview_exact lines = rw (lines_exact lines)

pub why_exact : (reasons : List (List ReasonStep)) → has_float (why_data reasons) ≡ false
unfolding why_data
why_exact reasons = rw (items_exact (array_of step_data) (items_exact step_data step_exact) reasons)

pub missing_exact : (members : List AccountId) → has_float (missing_data members) ≡ false
unfolding missing_data
missing_exact members = rw (items_exact (λ (u : AccountId). number_of u.0) (λ _. refl) members)

pub shared_exact : (made : ℕ) → has_float (shared_data made) ≡ false
unfolding shared_data
shared_exact made = refl
