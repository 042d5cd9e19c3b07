use Rattle.std.proofs.Common.{refl}
use Rattle.std.proofs.lemmas.Bool.{false≢true}
use Rattle.session_table.proofs.Named.{one_less, one_more, all_named}
use Rattle.session_table.proofs.names.names_of.Goals as goal
use Rattle.session_table.proofs.names.names_of.Goals.{then-has+in_ok-add_name, else-has}

pub loop-place-preserved : goal.loop-place-preserved
loop-place-preserved c = elim c.if-has.branch [
  | then-has+in_ok-add_name w ↦
      one_more c.args.app.now c.args.set c.loop-place.list.items c.if-has.list.items c.loop-place.place c.loop-place.invariant (w.if-has.ensures.0 refl) (cc w.in_ok-add_name.ensures)
  | else-has w ↦ one_less c.args.app.now c.args.set c.loop-place.list.items c.if-has.list.items c.loop-place.place c.loop-place.invariant (λ has. false≢true (w.if-has.ensures.1 has)) (cc)
]

pub returns : goal.returns
returns c =
    rw c.new.ensures
    (all_named c.args.app.now c.args.set c.loop-place.list.items c.loop-place.place c.loop-place.invariant c.loop-place-test.false c.len.ensures.members c.len.ensures.below)
