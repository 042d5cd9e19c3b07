use Rattle.std.proofs.Common.{◌≡◌, ◌≤◌, ◌∷◌, Some, None, nat_eq, length, sym, ap, ◌∙◌, subst, arith}
use Rattle.std.specs.HashMap.{get}
use Rattle.std.specs.Option.{option_copied}
use Rattle.row_index.specs.declared.index.Slot.TheVariants.{Only, From}
use Rattle.row_index.specs.Narrow.{Narrows}
use Rattle.row_index.proofs.Narrowed.{none_found, found_behind, one_found, found_from}
use Rattle.row_index.proofs.index.Index.candidates.Goals as goal

pub returns-in-None : goal.returns-in-None
returns-in-None g c =
    let none : get nat_eq c.args.self.now.slots c.args.clue ≡ None = sym c.get.ensures.value ∙ ap option_copied c.in-None.is in
    let fewer : c.min-covered.result ≤ c.args.self.now.covered = omega (arith, c.min-covered.ensures) in
    let within : c.min-covered.result ≤ length c.split_at.result.0.now = omega (arith, c.min-covered.ensures, c.split_at.ensures.front_len) in
    subst (λ xs. Narrows g.T.Keyed.clues_of c.args.clue xs c.split_at-2.result.1.now) c.split_at.ensures.front
    (none_found _ _ _ _ _ _ _ _ c.args.clue c.requires.index c.split_at.ensures.front fewer within c.split_at-2.ensures.back none)

pub returns-in-Some-From : goal.returns-in-Some-From
returns-in-Some-From g c =
    let found : get nat_eq c.args.self.now.slots c.args.clue ≡ Some (From c.in-Some-From.first) =
    sym c.get.ensures.value ∙ ap option_copied c.in-Some-From.is ∙ ap (λ x. Some x) c.in-Some-From.field-0-is in
    let fewer : c.min-covered.result ≤ c.args.self.now.covered = omega (arith, c.min-covered.ensures) in
    let within : c.min-covered.result ≤ length c.split_at.result.0.now = omega (arith, c.min-covered.ensures, c.split_at.ensures.front_len) in
    subst (λ xs. Narrows g.T.Keyed.clues_of c.args.clue xs c.split_at-in-Some-From.result.1.now) c.split_at.ensures.front
    (subst (Narrows g.T.Keyed.clues_of c.args.clue c.split_at.result.0.now) (sym c.split_at-in-Some-From.ensures.back)
    (found_from _ _ _ _ _ _ _ _ c.args.clue c.requires.index c.split_at.ensures.front fewer within c.split_at-2.ensures.back c.in-Some-From.first c.min.result found
    (omega (arith, c.min.ensures)) (omega (arith, c.min.ensures))))

pub returns-in-Some-Only : goal.returns-in-Some-Only
returns-in-Some-Only g c =
    let found : get nat_eq c.args.self.now.slots c.args.clue ≡ Some (Only c.in-Some-Only.at) =
    sym c.get.ensures.value ∙ ap option_copied c.in-Some-Only.is ∙ ap (λ x. Some x) c.in-Some-Only.field-0-is in
    let fewer : c.min-covered.result ≤ c.args.self.now.covered = omega (arith, c.min-covered.ensures) in
    let within : c.min-covered.result ≤ length c.split_at.result.0.now = omega (arith, c.min-covered.ensures, c.split_at.ensures.front_len) in
    subst (λ xs. Narrows g.T.Keyed.clues_of c.args.clue xs (c.index-before-at.result ∷ c.split_at-2.result.1.now)) c.split_at.ensures.front
    (one_found _ _ _ _ _ _ _ _ c.args.clue c.requires.index c.split_at.ensures.front fewer within c.split_at-2.ensures.back c.in-Some-Only.at c.index-before-at.result found c.if-at-covered.true c.index-before-at.is)

pub returns-in-Some-Only-2 : goal.returns-in-Some-Only-2
returns-in-Some-Only-2 g c =
    let found : get nat_eq c.args.self.now.slots c.args.clue ≡ Some (Only c.in-Some-Only.at) =
    sym c.get.ensures.value ∙ ap option_copied c.in-Some-Only.is ∙ ap (λ x. Some x) c.in-Some-Only.field-0-is in
    let fewer : c.min-covered.result ≤ c.args.self.now.covered = omega (arith, c.min-covered.ensures) in
    let within : c.min-covered.result ≤ length c.split_at.result.0.now = omega (arith, c.min-covered.ensures, c.split_at.ensures.front_len) in
    subst (λ xs. Narrows g.T.Keyed.clues_of c.args.clue xs c.split_at-2.result.1.now) c.split_at.ensures.front
    (found_behind _ _ _ _ _ _ _ _ c.args.clue c.requires.index c.split_at.ensures.front fewer within c.split_at-2.ensures.back c.in-Some-Only.at found c.if-at-covered.false)
