use Rattle.table_check.proofs.apart.is_apart.Goals as goal

pub returns-in-Some : goal.returns-in-Some
returns-in-Some g c = rw (← c.digest.ensures, c.in-Some.is, ← c.num.ensures) c.has_no_other.ensures
