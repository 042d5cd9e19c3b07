use Rattle.std.proofs.Common.{◌≡◌, ◌==◌, List, ℕ, length, sym, ◌∙◌, subst, arith}
use Rattle.std.specs.List.{position_or_len}
use Rattle.front_http.specs.Routes.{IsNumber}
use Rattle.front_http.proofs.Cutting.{UseText, use_text, use_found}
use Rattle.front_http.proofs.target.use_parts.Goals as goal

pub returns-in_err-digits-clause-whole : goal.returns-in_err-digits-clause-whole
returns-in_err-digits-clause-whole c = λ n rest is.
    let text = c.in_ok-behind_use.field-0.now in
    let cut : UseText n text rest = use_text n c.args.target.now text rest c.in_ok-behind_use.ensures is in
    let none : position_or_len (λ byte. byte == 47) text ≡ length text = c.in_err-digits.ensures in
    absurd (omega (arith, cut.within, none))

pub returns-in_err-number-clause-whole : goal.returns-in_err-number-clause-whole
returns-in_err-number-clause-whole c = λ n rest is.
    let text = c.in_ok-behind_use.field-0.now in
    let cut : UseText n text rest = use_text n c.args.target.now text rest c.in_ok-behind_use.ensures is in
    let parts = c.in_ok-digits.ensures in
    let digits_are : cut.digits ≡ c.as_bytes.result.now = sym cut.before ∙ sym parts.1 ∙ sym c.as_bytes.ensures.value in
    let number : IsNumber c.as_bytes.result.now n = subst (λ (digits : List ℕ). IsNumber digits n) digits_are cut.number in
    let none = c.in_err-number.ensures.whole n number in
    absurd cc

pub returns-clause-found : goal.returns-clause-found
returns-clause-found c =
    let parts = c.in_ok-digits.ensures in
    let number : IsNumber c.in_ok-digits.digits.now c.in_ok-number.number = subst (λ (digits : List ℕ). IsNumber digits c.in_ok-number.number) c.as_bytes.ensures.value c.in_ok-number.ensures.found in
    use_found c.in_ok-number.number c.args.target.now c.in_ok-behind_use.field-0.now c.in_ok-digits.digits.now c.in_ok-digits.rest.now c.in_ok-behind_use.ensures parts.0 parts.1 parts.2 number

pub returns-clause-whole : goal.returns-clause-whole
returns-clause-whole c = λ n rest is.
    let text = c.in_ok-behind_use.field-0.now in
    let cut : UseText n text rest = use_text n c.args.target.now text rest c.in_ok-behind_use.ensures is in
    let parts = c.in_ok-digits.ensures in
    let digits_are : cut.digits ≡ c.as_bytes.result.now = sym cut.before ∙ sym parts.1 ∙ sym c.as_bytes.ensures.value in
    let number : IsNumber c.as_bytes.result.now n = subst (λ (digits : List ℕ). IsNumber digits n) digits_are cut.number in
    let found = c.in_ok-number.ensures.whole n number in
    (cc, parts.2 ∙ cut.after)
