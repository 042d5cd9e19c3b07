use Rattle.std.proofs.Common.{◌≡◌}
use Rattle.host_base.specs.declared.ids.GrainId.{GrainId}
use Rattle.share_graph.specs.declared.rows.App.{App}
use Rattle.share_graph.specs.declared.state.Tables.{Tables}
use Rattle.share_graph.specs.Rows.{IsAppOf}

-- a grain has one application
pub app_unique : (t : Tables) (n : GrainId) (a b : App) → IsAppOf t n a → IsAppOf t n b → a ≡ b
app_unique t n a b (grain, is, of) (other, there, by) = let same : grain ≡ other = cc in cc
