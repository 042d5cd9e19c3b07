use Rattle.std.proofs.Common.{arith, ◌≡◌, ℕ, zero, suc, Bool, true, false, List, [], ◌∷◌, if◌then◌else◌, refl, ap, sym, subst}
use Rattle.share_graph.specs.declared.sessions.Root.{Root}
use Rattle.share_graph.specs.declared.sessions.Session.{Session}
use Rattle.share_graph.specs.Changing.{change}
use Rattle.share_graph.specs.History.{is_open_of, close_first}
use Rattle.share_graph.specs.Opening.{NoneIsOpen, IsFirstOpen}
use Rattle.share_graph.specs.Setting.{closed}

here : (test : Bool) (x : Session) (rest more : List Session) → test ≡ true → closed x ∷ rest ≡ (if test then closed x ∷ rest else x ∷ more)
here true x rest more is = refl
here false x rest more is = cc

later : (test : Bool) (x : Session) (rest more changed : List Session) → test ≡ false → changed ≡ more → x ∷ changed ≡ (if test then closed x ∷ rest else x ∷ more)
later false x rest more changed is same = ap (λ xs. x ∷ xs) same
later true x rest more changed is same = cc

pub closes_first : (root : Root) (sessions : List Session) (i : ℕ) → IsFirstOpen root sessions i → change closed sessions i ≡ close_first root sessions
closes_first root [] i first = refl
closes_first root (x ∷ rest) zero first =
    let same : x ≡ first.session = (let there = first.there in cc) in
    here (is_open_of root x) x rest (close_first root rest) (subst (λ (y : Session). is_open_of root y ≡ true) (sym same) first.is_open)
closes_first root (x ∷ rest) (suc i) first =
    later (is_open_of root x) x rest (close_first root rest) (change closed rest i) (first.before zero x (omega arith) refl)
    (closes_first root rest i (record { session = first.session; there = first.there; is_open = first.is_open; before = λ k y less at. first.before (suc k) y (omega (arith, less)) at }))

pub closes_none : (root : Root) (sessions : List Session) → NoneIsOpen root sessions → sessions ≡ close_first root sessions
closes_none root [] none = refl
closes_none root (x ∷ rest) none =
    later (is_open_of root x) x rest (close_first root rest) rest (none zero x refl) (closes_none root rest (λ k y at. none (suc k) y at))
