use Rattle.std.proofs.Common.{[], ◌∷◌, ◌∙◌, ap}
use Rattle.cloud_keeper.specs.declared.row.Row.{Row}
use Rattle.first_account.specs.First.{first_row}
use Rattle.first_account.proofs.Opening.{first_kept, first_checked}
use Rattle.first_account.proofs.beginning.first_account.Goals as goal

pub returns-clause-row : goal.returns-clause-row
returns-clause-row g c = λ rows told. c.in_ok-keep.ensures.kept rows told ∙ ap (λ (r : Row). r ∷ []) (c.in_ok-tables.ensures.row ∙ ap first_row c.as_slice.ensures.value)

pub returns-clause-opens : goal.returns-clause-opens
returns-clause-opens g c = first_kept _

pub returns-clause-checked : goal.returns-clause-checked
returns-clause-checked g c = first_checked _
