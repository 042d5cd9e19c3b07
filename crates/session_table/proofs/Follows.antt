-- What follows of an answer.
use Rattle.std.proofs.Common.{Result, Ok, Err, IfOk}

-- what follows where there is an answer
pub if_ok_then : {V E : Type 0} (P Q : V → Type 0) (r : Result V E) → ((v : V) → P v → Q v) → IfOk r P → IfOk r Q
if_ok_then P Q (Ok v) then h = then v h
if_ok_then P Q (Err e) then h = tt
