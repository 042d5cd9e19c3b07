-- One row of the tables.
use Rattle.std.specs.Prelude.{ℕ, Option, None, option_map}
use Rattle.share_graph.specs.declared.fault.Kind.{Kind}
use Rattle.share_graph.specs.declared.fault.Kind.TheVariants as kind
use Rattle.share_graph.specs.declared.state.Tables.{Tables}
use Rattle.share_graph.specs.Rows.{row}
use Rattle.row_codec.specs.Rows.{account, grain, saved}
use Rattle.row_codec.specs.AppRow.{app}
use Rattle.row_codec.specs.GrantRow.{grant}
use Rattle.cloud_keeper.specs.declared.row.Row.{Row}
use Rattle.row_tables.specs.Sections.{stored}

-- the row of that kind and number, if the tables have it
abbrev pub row_of : Tables → Kind → ℕ → Option Row
row_of t kind.Account n = option_map (stored 1 account n) (row t.accounts n)
row_of t kind.App n = option_map (stored 2 app n) (row t.apps n)
row_of t kind.Grain n = option_map (stored 3 grain n) (row t.grains n)
row_of t kind.Grant n = option_map (stored 4 grant n) (row t.grants n)
row_of t kind.Saved n = option_map (stored 5 saved n) (row t.saved n)
row_of t _ n = None
