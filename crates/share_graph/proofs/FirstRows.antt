-- The first row of a kind that has a digest, where no row of an earlier kind has it, is the first of all.
use Rattle.std.proofs.Common.{◌≡◌, ◌++◌, Some, refl, ◌∙◌, ap}
use Rattle.std.specs.Option.{option_map}
use Rattle.std.proofs.lemmas.Option.{same_Some}
use Rattle.host_base.specs.declared.digest.Digest.{Digest}
use Rattle.share_graph.specs.declared.fault.Kind.TheVariants as kind
use Rattle.share_graph.specs.declared.grants.Grant.{Grant}
use Rattle.share_graph.specs.declared.rows.Account.{Account}
use Rattle.share_graph.specs.declared.rows.Saved.{Saved}
use Rattle.share_graph.specs.declared.sessions.Run.{Run}
use Rattle.share_graph.specs.declared.sessions.Session.{Session}
use Rattle.share_graph.specs.declared.state.State.{State}
use Rattle.share_graph.specs.Keys.{IsFirstOf, IsNoneOf, HasToken}
use Rattle.share_graph.specs.Kinds.{KnownDigest, IsFirstWith}
use Rattle.share_graph.proofs.Apart.{logins, token_of, tokens, references, keys, run_tokens}
use Rattle.share_graph.proofs.FirstOf.{first_mapped, first_filtered, first_left, first_right}
use Rattle.share_graph.proofs.Unused.{token_by, in_logins, in_tokens, in_references, in_keys, in_both}

module _ (s : State) (d : Digest) where
  abbrev Has : KnownDigest → Type 0
  Has known = known.digest ≡ d

  pub login_first : (row : Account) → IsFirstOf s.tables.accounts (λ x. Some x.login ≡ Some d) row → IsFirstWith s d kind.Account row.num.0
  login_first row first =
      first_left Has (logins s ++ tokens s ++ references s ++ keys s) (run_tokens s) _
      (first_left Has (logins s ++ tokens s ++ references s) (keys s) _
      (first_left Has (logins s ++ tokens s) (references s) _
      (first_left Has (logins s) (tokens s) _
      (first_mapped (λ (x : Account). record { kind = kind.Account; num = x.num.0; digest = x.login }) (λ x. Some x.login ≡ Some d) Has s.tables.accounts row _
      (λ x same. ap (λ (y : Digest). Some y) same) (ap (λ (e : Digest). record { kind = kind.Account; num = row.num.0; digest = e }) (same_Some row.login d first.is)) refl first))))

  module _ (no_login : IsNoneOf s.tables.accounts (λ x. Some x.login ≡ Some d)) where
    pub token_first : (row : Grant) → IsFirstOf s.tables.grants (HasToken d) row → IsFirstWith s d kind.Grant row.num.0
    token_first row first =
        first_left Has (logins s ++ tokens s ++ references s ++ keys s) (run_tokens s) _
        (first_left Has (logins s ++ tokens s ++ references s) (keys s) _
        (first_left Has (logins s ++ tokens s) (references s) _
        (first_right Has (logins s) (tokens s) _ (in_logins s d no_login)
        (first_filtered token_of (HasToken d) Has s.tables.grants row _
        (λ x known is same. token_by x.num.0 x.digest known is ∙ ap (λ (y : Digest). Some y) same)
        (ap (λ o. option_map (λ (e : Digest). record { kind = kind.Grant; num = row.num.0; digest = e }) o) first.is) refl first))))

    module _ (no_token : IsNoneOf s.tables.grants (HasToken d)) where
      before_references : IsNoneOf (logins s ++ tokens s) Has
      before_references = in_both Has (logins s) (tokens s) (in_logins s d no_login) (in_tokens s d no_token)

      pub reference_first : (row : Saved) → IsFirstOf s.tables.saved (λ x. Some x.digest ≡ Some d) row → IsFirstWith s d kind.Saved row.num.0
      reference_first row first =
          first_left Has (logins s ++ tokens s ++ references s ++ keys s) (run_tokens s) _
          (first_left Has (logins s ++ tokens s ++ references s) (keys s) _
          (first_right Has (logins s ++ tokens s) (references s) _ before_references
          (first_mapped (λ (x : Saved). record { kind = kind.Saved; num = x.num.0; digest = x.digest }) (λ x. Some x.digest ≡ Some d) Has s.tables.saved row _
          (λ x same. ap (λ (y : Digest). Some y) same) (ap (λ (e : Digest). record { kind = kind.Saved; num = row.num.0; digest = e }) (same_Some row.digest d first.is)) refl first)))

      module _ (no_reference : IsNoneOf s.tables.saved (λ x. Some x.digest ≡ Some d)) where
        before_keys : IsNoneOf (logins s ++ tokens s ++ references s) Has
        before_keys = in_both Has (logins s ++ tokens s) (references s) before_references (in_references s d no_reference)

        pub key_first : (row : Session) → IsFirstOf s.sessions (λ x. Some x.digest ≡ Some d) row → IsFirstWith s d kind.Session row.num.0
        key_first row first =
            first_left Has (logins s ++ tokens s ++ references s ++ keys s) (run_tokens s) _
            (first_right Has (logins s ++ tokens s ++ references s) (keys s) _ before_keys
            (first_mapped (λ (x : Session). record { kind = kind.Session; num = x.num.0; digest = x.digest }) (λ x. Some x.digest ≡ Some d) Has s.sessions row _
            (λ x same. ap (λ (y : Digest). Some y) same) (ap (λ (e : Digest). record { kind = kind.Session; num = row.num.0; digest = e }) (same_Some row.digest d first.is)) refl first))

        module _ (no_key : IsNoneOf s.sessions (λ x. Some x.digest ≡ Some d)) where
          pub run_token_first : (row : Run) → IsFirstOf s.runs (λ x. Some x.digest ≡ Some d) row → IsFirstWith s d kind.Run row.num.0
          run_token_first row first =
              first_right Has (logins s ++ tokens s ++ references s ++ keys s) (run_tokens s) _
              (in_both Has (logins s ++ tokens s ++ references s) (keys s) before_keys (in_keys s d no_key))
              (first_mapped (λ (x : Run). record { kind = kind.Run; num = x.num.0; digest = x.digest }) (λ x. Some x.digest ≡ Some d) Has s.runs row _
              (λ x same. ap (λ (y : Digest). Some y) same) (ap (λ (e : Digest). record { kind = kind.Run; num = row.num.0; digest = e }) (same_Some row.digest d first.is)) refl first)
