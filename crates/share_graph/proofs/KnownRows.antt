-- What a look-up tells of whether a row is there.
use Rattle.std.proofs.Common.{◌≡◌, Bool, IsTrue, Option, Some, None, Bor, sym, ◌∙◌, subst}
use Rattle.std.proofs.lemmas.Bool.{false≢true}
use Rattle.std.specs.Option.{is_some, option_copied}
use Rattle.host_base.specs.declared.ids.GrantId.{GrantId}
use Rattle.share_graph.specs.declared.grants.Grant.{Grant}
use Rattle.share_graph.specs.declared.state.Tables.{Tables}
use Rattle.share_graph.specs.Parents.{IsNoUser, IsOwnNode}
use Rattle.share_graph.specs.Rows.{IsGrant}

-- a row was found exactly where there is one
pub found_there : {X : Type 0} (found : Option (Bor X)) (there : Option X) (b : Bool) → option_copied found ≡ there → b ≡ is_some found → (IsTrue b → (x : X) × (there ≡ Some x)) × ((x : X) × (there ≡ Some x) → IsTrue b)
found_there None there b copied is = (λ yes. absurd (false≢true (sym is ∙ yes)), λ row. (let odd : None ≡ Some row.0 = copied ∙ row.1 in cc))
found_there (Some r) there b copied is = (λ yes. (r.now, sym copied), λ row. is)

-- a grant that is there is a node of its own exactly where it goes to no account
pub own_node : (t : Tables) (h : GrantId) (grant : Grant) (b : Bool) → IsGrant t h grant → (IsTrue b → IsNoUser grant.target) × (IsNoUser grant.target → IsTrue b) → (IsTrue b → IsOwnNode t h) × (IsOwnNode t h → IsTrue b)
own_node t h grant b is tells = (
  λ yes. record { grant = grant; is_row = is; no_user = tells.0 yes },
  λ own. (let both : Some own.grant ≡ Some grant = sym own.is_row ∙ is in let same : own.grant ≡ grant = cc in tells.1 (subst (λ (row : Grant). IsNoUser row.target) same own.no_user)),
)
