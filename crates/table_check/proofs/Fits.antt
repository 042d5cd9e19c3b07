-- What a test of the one row that was found tells.
use Rattle.std.proofs.Common.{◌≡◌, ◌↔◌, Bool, IsTrue, false, Some, sym, ◌∙◌, subst}
use Rattle.std.proofs.lemmas.Bool.{false≢true}
use Rattle.host_base.specs.declared.ids.GrainId.{GrainId}
use Rattle.host_base.specs.declared.ids.GrantId.{GrantId}
use Rattle.share_graph.specs.declared.grants.Grant.{Grant}
use Rattle.share_graph.specs.declared.grants.Target.TheVariants as target
use Rattle.share_graph.specs.declared.rows.App.{App}
use Rattle.share_graph.specs.declared.sessions.Handle.{Handle}
use Rattle.share_graph.specs.declared.sessions.Root.TheVariants as root
use Rattle.share_graph.specs.declared.sessions.Run.{Run}
use Rattle.share_graph.specs.declared.state.State.{State}
use Rattle.share_graph.specs.declared.state.Tables.{Tables}
use Rattle.share_graph.specs.Rows.{IsAppOf, IsGrant}
use Rattle.share_graph.specs.Fitting.{ForApp}
use Rattle.share_graph.specs.Keys.{IsBearer, IsOneOf}
use Rattle.share_graph.specs.Parents.{IsChild, PassesTo}
use Rattle.share_graph.specs.WellFormed.{IsRootedHandle, MayRoot}
use Rattle.share_graph.proofs.Fits.{app_unique}

-- what a test tells of the application that was found, it tells of the grain's application
pub for_app : (t : Tables) (n : GrainId) (P : App → Type 0) (app : App) (test : Bool) → IsAppOf t n app → IsTrue test ↔ P app → IsTrue test ↔ ForApp t n P
for_app t n P app test of tells = (λ yes. (app, of, tells.0 yes), λ f. tells.1 (subst P (app_unique t n f.0 app f.1 of) f.2))

-- a grain without an application
pub for_no_app : (t : Tables) (n : GrainId) (P : App → Type 0) → ((app : App) → IsAppOf t n app → ⊥) → IsTrue false ↔ ForApp t n P
for_no_app t n P none = (λ no. absurd (false≢true no), λ f. absurd (none f.0 f.1))

-- what a test tells of the grant that was found, it tells of the grant of that number
pub for_grant : (t : Tables) (g : GrantId) (P : Grant → Type 0) (row : Grant) (test : Bool) → IsGrant t g row → IsTrue test ↔ P row → IsTrue test ↔ ((grant : Grant) × IsGrant t g grant × P grant)
for_grant t g P row test is tells = (
  λ yes. (row, is, tells.0 yes),
  λ f. (let both : Some f.0 ≡ Some row = sym f.1 ∙ is in let same : f.0 ≡ row = cc in tells.1 (subst P same f.2)),
)

-- and so of a grant that is passed on
pub for_parent : (t : Tables) (g : GrantId) (grant parent : Grant) (test : Bool) → IsGrant t g parent → IsTrue test ↔ ((parent.grain ≡ grant.grain) × PassesTo parent.target grant.target) → IsTrue test ↔ IsChild t g grant
for_parent t g grant parent test is tells =
    let found = for_grant t g (λ row. (row.grain ≡ grant.grain) × PassesTo row.target grant.target) parent test is tells in (
      λ yes. (let (row, there, fits) = found.0 yes in record { parent = row; is_row = there; same_grain = fits.0; passes = fits.1 }),
      λ child. found.1 (child.parent, child.is_row, (child.same_grain, child.passes)),
    )

-- of a grant that a session acts as
pub for_root : (t : Tables) (n : GrainId) (g : GrantId) (row : Grant) (test : Bool) → IsGrant t g row → IsTrue test ↔ ((row.grain ≡ n) × IsBearer row.target) → IsTrue test ↔ MayRoot t n (root.Grant g)
for_root t n g row test is tells =
    let found = for_grant t g (λ other. (other.grain ≡ n) × IsBearer other.target) row test is tells in (
      λ yes. (let (other, there, fits) = found.0 yes in (other, there, fits.0, fits.1)),
      λ may. found.1 (may.0, may.1, (may.2, may.3)),
    )

-- and of a grant that a handle is of
pub for_handle : (s : State) (handle : Handle) (row : Grant) (test : Bool) → IsGrant s.tables handle.grant row
    → IsTrue test ↔ ((run : Run) × IsOneOf s.runs (λ run. (run.num ≡ handle.run) × (row.target ≡ target.Grain run.grain)) run) → IsTrue test ↔ IsRootedHandle s handle
for_handle s handle row test is tells = (
  λ yes. (let (run, one) = tells.0 yes in record { run = run; grant = row; is_run = record { listed = one.listed; is = one.is.0 }; is_grant = is; claimed = one.is.1 }),
  λ rooted.
      (let both : Some rooted.grant ≡ Some row = sym rooted.is_grant ∙ is in
      let same : rooted.grant ≡ row = cc in
      tells.1 (rooted.run, record { listed = rooted.is_run.listed; is = (rooted.is_run.is, subst (λ (other : Grant). other.target ≡ target.Grain rooted.run.grain) same rooted.claimed) })),
)
