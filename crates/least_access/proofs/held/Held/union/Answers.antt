use Rattle.std.proofs.Common.{◌≡◌, true, sym, ◌∙◌, inl}
use Rattle.std.proofs.lemmas.Bool.{false≢true}
use Rattle.least_access.specs.declared.held.Held.{Held}
use Rattle.least_access.proofs.Rooms.{room_falls, room_same}
use Rattle.least_access.proofs.held.Held.union.Goals as goal
use Rattle.least_access.proofs.held.Held.union.Goals.{then-self, else-self}

keeps : (c : goal.After-union) → c.args.self.now.entry ≡ true → c.if-self.result ≡ true
keeps c has = elim c.if-self.branch [ then-self w ↦ w.result-is ∙ has | else-self w ↦ absurd (false≢true (sym w.if-self.false ∙ has)) ]

abbrev joined : goal.After-union → Held
joined c = record { entry = c.if-self.result; perms = c.union.result }

pub returns-clause-room : goal.returns-clause-room
returns-clause-room c = room_falls c.args.self.now (joined c) (keeps c) (λ p has. (c.union.ensures p).1 (inl has))

pub returns-clause-same : goal.returns-clause-same
returns-clause-same c = room_same c.args.self.now (joined c) (keeps c) (λ p has. (c.union.ensures p).1 (inl has))
