use Rattle.std.proofs.Common.{◌<◌, ℕ, take}
use Rattle.host_base.specs.declared.ids.GrantId.{GrantId}
use Rattle.listings.specs.Lines.{MaySee}
use Rattle.listings.proofs.Chosen.{AreChosen}
use Rattle.listings.proofs.giving.seen_behind.Given as goal

abbrev pub invariant-loop-grant : goal.invariant-loop-grant
invariant-loop-grant l = AreChosen (λ (n : ℕ). let grant : GrantId = record { 0 = n } in grant) (λ (n : ℕ). (l.fn.after < n) × MaySee l.fn.tables l.fn.account l.fn.num n) (take l.grant-index l.grant-items) l.numbers.items
