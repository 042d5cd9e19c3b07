use Rattle.std.proofs.Common.{◌≡◌, ◌++◌, List, ℕ, sym, ◌∙◌, subst}
use Rattle.std.proofs.lemmas.List.{append_cancel_left, append_cancel_right}
use Rattle.front_http.specs.Routes.{IsNumber}
use Rattle.front_http.proofs.number.number_between.Goals as goal

pub returns-in_err-digits-clause-whole : goal.returns-in_err-digits-clause-whole
returns-in_err-digits-clause-whole c = λ n is.
    absurd (c.in_err-digits.ensures is.digits (append_cancel_left c.args.before.now c.in_ok-rest.rest.now (is.digits ++ c.args.after.now) (sym c.in_ok-rest.ensures ∙ is.path_is)))

pub returns-clause-whole : goal.returns-clause-whole
returns-clause-whole c = λ n is.
    let rest_is : c.in_ok-rest.rest.now ≡ is.digits ++ c.args.after.now = append_cancel_left c.args.before.now c.in_ok-rest.rest.now (is.digits ++ c.args.after.now) (sym c.in_ok-rest.ensures ∙ is.path_is) in
    let digits_are : is.digits ≡ c.in_ok-digits.digits.now = append_cancel_right is.digits c.in_ok-digits.digits.now c.args.after.now (sym rest_is ∙ c.in_ok-digits.ensures) in
    let number : IsNumber c.in_ok-digits.digits.now n = subst (λ (digits : List ℕ). IsNumber digits n) digits_are is.number in
    c.path_number.ensures.whole n number
