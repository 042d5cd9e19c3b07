use Rattle.std.proofs.Common.{◌≡◌, ◌++◌, ℕ, OnOk, sym, subst, arith}
use Rattle.request_maker.specs.Requests.{kinds, request}
use Rattle.request_maker.proofs.kinds.put_request.Goals as goal

pub returns-in_default : goal.returns-in_default
unfolding kinds request
returns-in_default c =
    let seventh : c.args.kind ≡ 7 = omega arith in
    let P : ℕ → Type 0 = λ kind. OnOk c.put_plain-in_default.result (c.put_plain-in_default.new.text ≡ c.args.text.now ++ request c.args.place kind c.args.drawn) in
    subst P (sym seventh) c.put_plain-in_default.ensures
