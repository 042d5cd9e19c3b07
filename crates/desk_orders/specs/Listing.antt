-- An aid for the contract of what answers questions: the row's answer, and the listing.
use Rattle.std.specs.Prelude.{None, Result}
use Rattle.desk_base.specs.Outcomes.{IsAnswered}
use Rattle.desk_orders.specs.Terms.{DeskFault, Law, Listing, State}
use Rattle.desk_orders.specs.Commands.{Asked}
use Rattle.desk_orders.specs.Orders.{RowOf}
use Rattle.desk_orders.specs.Sites.{ListsBy}

abbrev pub IsListed : Law → State → Asked → Result Listing DeskFault → Type 0
IsListed law s order = IsAnswered (RowOf s None order) (ListsBy law s order.caller order.command)
