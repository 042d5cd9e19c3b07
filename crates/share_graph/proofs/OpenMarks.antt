-- The mark of open sessions of a root is on those that are open and have that root.
use Rattle.std.proofs.Common.{◌≡◌, ◌*◌, ◌+◌, ◌&&◌, ℕ, nat_eq, not, Bool, true, false, List, Some, None, if◌then◌else◌, is_some, length, refl, sym, ◌∙◌, arith}
use Rattle.std.proofs.lemmas.Bool.{eqb-true, eq-eqb}
use Rattle.std.proofs.lemmas.Option.{slice_get_within}
use Rattle.row_index.specs.Marks.{has_mark, NoneHasMark, IsFirstMarked}
use Rattle.share_graph.specs.declared.sessions.Root.{Root}
use Rattle.share_graph.specs.declared.sessions.Root.TheVariants as root
use Rattle.share_graph.specs.declared.sessions.Session.{Session}
use Rattle.share_graph.specs.Clues.{root_mark, session_mark}
use Rattle.share_graph.specs.History.{is_open_of, is_same_root}
use Rattle.share_graph.specs.Opening.{NoneIsOpen, IsFirstOpen}

-- two tests of numbers agree where each follows from the other
agree : (a b : Bool) → (a ≡ true → b ≡ true) → (b ≡ true → a ≡ true) → a ≡ b
agree true b there back = sym (there refl)
agree false true there back = back refl
agree false false there back = refl

same_root : (one other : Root) → nat_eq (root_mark other) (root_mark one) ≡ is_same_root one other
same_root (root.Account a) (root.Account b) = agree _ _
    (λ e. (let same = eqb-true (2 * b.0) (2 * a.0) e in eq-eqb a.0 b.0 (omega (arith, same))))
    (λ e. (let same = eqb-true a.0 b.0 e in eq-eqb (2 * b.0) (2 * a.0) (omega (arith, same))))
same_root (root.Grant g) (root.Grant h) = agree _ _
    (λ e. (let same = eqb-true (2 * h.0 + 1) (2 * g.0 + 1) e in eq-eqb g.0 h.0 (omega (arith, same))))
    (λ e. (let same = eqb-true g.0 h.0 e in eq-eqb (2 * h.0 + 1) (2 * g.0 + 1) (omega (arith, same))))
same_root (root.Account a) (root.Grant h) = agree _ _ (λ e. absurd (let same = eqb-true (2 * h.0 + 1) (2 * a.0) e in omega (arith, same))) (λ e. cc)
same_root (root.Grant g) (root.Account b) = agree _ _ (λ e. absurd (let same = eqb-true (2 * b.0) (2 * g.0 + 1) e in omega (arith, same))) (λ e. cc)

marked_by : (closed : Bool) (one other : Root) → has_mark (root_mark one) (if closed then None else Some (root_mark other)) ≡ (not closed && is_same_root one other)
marked_by true one other = refl
marked_by false one other = same_root one other

pub is_marked : (one : Root) (session : Session) → has_mark (root_mark one) (session_mark session) ≡ is_open_of one session
is_marked one session = marked_by session.closed one session.root

has_some : (closed : Bool) (mark : ℕ) → is_some (if closed then None else Some mark) ≡ not closed
has_some true mark = refl
has_some false mark = refl

pub is_open : (session : Session) → is_some (session_mark session) ≡ not session.closed
is_open session = has_some session.closed (root_mark session.root)

pub first_is_open : (one : Root) (sessions : List Session) (place : ℕ) → IsFirstMarked session_mark (root_mark one) sessions place → IsFirstOpen one sessions place
first_is_open one sessions place first = record {
  session = first.row;
  there = first.there;
  is_open = sym (is_marked one first.row) ∙ first.has;
  before = λ k session below at. sym (is_marked one session) ∙ first.before k session below at;
}

pub none_is_open : (one : Root) (sessions : List Session) → NoneHasMark session_mark (root_mark one) sessions (length sessions) → NoneIsOpen one sessions
none_is_open one sessions none k session at = sym (is_marked one session) ∙ none k session (slice_get_within sessions k session at) at
