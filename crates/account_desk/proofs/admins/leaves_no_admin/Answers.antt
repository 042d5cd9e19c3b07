use Rattle.std.proofs.lemmas.Bool.{false≢true}
use Rattle.account_desk.proofs.AdminsLeft.{some_left, only_left}
use Rattle.account_desk.proofs.admins.leaves_no_admin.Goals as goal

pub returns-then-on : goal.returns-then-on
returns-then-on c =
    λ m. (λ odd. absurd (false≢true odd), rw c.if-on.true (λ none. absurd (some_left c.args.state.now c.args.num m c.requires.some none)))

pub returns : goal.returns
returns c =
    λ m. rw c.if-on.false (only_left c.args.state.now c.args.num m c.requires.formed c.is_only_admin.result (rw c.as_slice.ensures at c.is_only_admin.ensures))
