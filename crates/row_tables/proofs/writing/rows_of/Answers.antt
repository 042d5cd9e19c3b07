use Rattle.std.proofs.Common.{List, arith, subst}
use Rattle.std.proofs.lemmas.Grind.{common_steps}
use Rattle.std.specs.Prelude.{All}
use Rattle.share_graph.specs.declared.rows.Account.{Account}
use Rattle.share_graph.specs.declared.rows.App.{App}
use Rattle.share_graph.specs.declared.rows.Grain.{Grain}
use Rattle.share_graph.specs.declared.rows.Saved.{Saved}
use Rattle.share_graph.specs.declared.grants.Grant.{Grant}
use Rattle.row_codec.specs.Rows.{account, grain, saved}
use Rattle.row_codec.specs.AppRow.{app, IsCountableApp}
use Rattle.row_codec.specs.GrantRow.{grant, IsCountableGrant}
use Rattle.row_tables.specs.Sections.{FitsOwn}
use Rattle.row_tables.proofs.Fitted.{have_rows_of}
use Rattle.row_tables.proofs.writing.rows_of.Goals as goal

pub returns-clause-rows : goal.returns-clause-rows
returns-clause-rows c = grind (arith, common_steps)

pub returns-clause-found : goal.returns-clause-found
returns-clause-found c s formed is = record {
  have =
      have_rows_of s c.args.tables.now formed is (record {
        accounts = subst (λ (xs : List Account). All (FitsOwn account (λ a. a.num.0) (λ a. Unit {0})) xs) c.as_slice.ensures c.in_ok-put_section.ensures.fits;
        apps = subst (λ (xs : List App). All (FitsOwn app (λ a. a.num.0) IsCountableApp) xs) c.as_slice-2.ensures c.in_ok-put_section-2.ensures.fits;
        grains = subst (λ (xs : List Grain). All (FitsOwn grain (λ g. g.num.0) (λ g. Unit {0})) xs) c.as_slice-3.ensures c.in_ok-put_section-3.ensures.fits;
        grants = subst (λ (xs : List Grant). All (FitsOwn grant (λ g. g.num.0) IsCountableGrant) xs) c.as_slice-4.ensures c.in_ok-put_section-4.ensures.fits;
        saved = subst (λ (xs : List Saved). All (FitsOwn saved (λ s. s.num.0) (λ s. Unit {0})) xs) c.as_slice-5.ensures c.in_ok-put_section-5.ensures.fits;
      });
  rows_are = returns-clause-rows c;
}
