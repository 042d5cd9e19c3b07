use Rattle.std.proofs.Common.{◌≡◌, ℕ, ◌-◌, List, [], ◌∷◌, Option, None, length, take, drop, slice_get, ap, sym, refl, ◌∙◌, rules}
use Rattle.std.proofs.Math.Seq.{take-length}
use Rattle.std.proofs.lemmas.List.{drop-drop, length-drop}
use Rattle.ws_tunnel.specs.declared.message.Message.{Message}
use Rattle.ws_tunnel.specs.InMemory.{MemHall}
use Rattle.ws_tunnel.proofs.mem_messages.MemMessagesMessages.next.Goals as goal

-- nothing is dropped of a list that has no first item
drop-of_none : (xs : List Message) → None ≡ slice_get xs 0 → xs ≡ drop 1 xs
drop-of_none [] e = refl
drop-of_none (x ∷ xs) e = cc

-- the first of the rest of a slice
first_of_rest : (xs s : List Message) (n : ℕ) (next : Option Message) → s ≡ xs
    → next ≡ slice_get (take (length s - n) (drop n s)) 0 → next ≡ slice_get (drop n xs) 0
first_of_rest xs s n next same e =
    let whole = ap (λ k. take k (drop n s)) (sym (length-drop n s)) ∙ (take-length (drop n s) ∙ ap (λ (l : List Message). drop n l) same) in
    e ∙ ap (λ (l : List Message). slice_get l 0) whole

pub returns-in-None-clause-gives : goal.returns-in-None-clause-gives
returns-in-None-clause-gives c =
    let left_is = ap (λ (state : MemHall). state.left) c.self.view_is in
    let first = first_of_rest c.self.inside.messages c.as_slice.result.now c.self.inside.given c.in-Ok.next c.as_slice.ensures c.in-Ok.ensures in
    let none = sym c.in-None.is ∙ (first ∙ ap (λ (l : List Message). slice_get l 0) left_is) in
    (none, left_is ∙ drop-of_none c.args.self.now.left none)

pub returns-in-Some-clause-gives : goal.returns-in-Some-clause-gives
returns-in-Some-clause-gives c =
    let used = sym (drop-drop 1 c.self.inside.given c.self.inside.messages) ∙ ap (λ (state : MemHall). drop 1 state.left) c.self.view_is in
    search rules
