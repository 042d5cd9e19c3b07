use Rattle.std.proofs.Common.{◌≡◌, ◌++◌, take}
use Rattle.desk_orders.specs.Sites.{those_of}
use Rattle.desk_orders.proofs.sites.append_those.Given as goal

abbrev pub invariant-loop-one : goal.invariant-loop-one
invariant-loop-one l = l.list.items ≡ l.fn.list.items ++ those_of l.quality (take l.one-index l.listed)
