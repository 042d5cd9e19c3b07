use Rattle.std.proofs.Common.{◌≡◌, ℕ, sym, subst, rules}
use Rattle.host_base.specs.declared.digest.Digest.{Digest}
use Rattle.share_graph.specs.declared.fault.Kind.{Kind}
use Rattle.share_graph.specs.declared.fault.Kind.TheVariants as kind
use Rattle.share_graph.specs.declared.state.State.{State}
use Rattle.share_graph.specs.Kinds.{HasDigest, IsFirstWith, digests_of}
use Rattle.share_graph.proofs.FirstOf.{one_of}
use Rattle.share_graph.proofs.FirstRows.{login_first, token_first, reference_first, key_first, run_token_first}
use Rattle.share_graph.proofs.Unused.{unused}
use Rattle.share_graph.proofs.clashing.clash.Goals as goal

-- by equal numbers; and the first row that has the digest has it
numbered : (s : State) (d : Digest) (k : Kind) (n m : ℕ) → n ≡ m → IsFirstWith s d k m → IsFirstWith s d k n
numbered s d k n m same first = subst (λ i. IsFirstWith s d k i) (sym same) first

has : (s : State) (d : Digest) (k : Kind) (n : ℕ) → IsFirstWith s d k n → HasDigest s d k n
has s d k n first = (one_of (digests_of s) (λ known. known.digest ≡ d) _ first).listed

pub returns-in-Some : goal.returns-in-Some
returns-in-Some c =
    let row = c.in-Some.account.now in
    let num : c.from.result ≡ row.num.0 = search rules in
    let first = numbered c.args.state.now c.args.digest.now kind.Account _ _ num (login_first c.args.state.now c.args.digest.now row c.in-Some.ensures) in
    record { found = has c.args.state.now c.args.digest.now kind.Account _ first; first = first }

pub returns-in-Some-first_with : goal.returns-in-Some-first_with
returns-in-Some-first_with c =
    let row = c.in-Some-first_with.grant.now in
    let num : c.from-in-Some-first_with.result ≡ row.num.0 = search rules in
    let first = numbered c.args.state.now c.args.digest.now kind.Grant _ _ num (token_first c.args.state.now c.args.digest.now c.in_default.ensures row c.in-Some-first_with.ensures) in
    record { found = has c.args.state.now c.args.digest.now kind.Grant _ first; first = first }

pub returns-in-Some-first_with-2 : goal.returns-in-Some-first_with-2
returns-in-Some-first_with-2 c =
    let row = c.in-Some-first_with-2.saved.now in
    let num : c.from-in-Some-first_with-2.result ≡ row.num.0 = search rules in
    let first = numbered c.args.state.now c.args.digest.now kind.Saved _ _ num (reference_first c.args.state.now c.args.digest.now c.in_default.ensures c.in_default-first_with.ensures row c.in-Some-first_with-2.ensures) in
    record { found = has c.args.state.now c.args.digest.now kind.Saved _ first; first = first }

pub returns-in-Some-first_with-3 : goal.returns-in-Some-first_with-3
returns-in-Some-first_with-3 c =
    let row = c.in-Some-first_with-3.session.now in
    let num : c.from-in-Some-first_with-3.result ≡ row.num.0 = search rules in
    let first = numbered c.args.state.now c.args.digest.now kind.Session _ _ num (key_first c.args.state.now c.args.digest.now c.in_default.ensures c.in_default-first_with.ensures c.in_default-first_with-2.ensures row c.in-Some-first_with-3.ensures) in
    record { found = has c.args.state.now c.args.digest.now kind.Session _ first; first = first }

pub returns-in-Some-first_with-4 : goal.returns-in-Some-first_with-4
returns-in-Some-first_with-4 c =
    let row = c.in-Some-first_with-4.run'.now in
    let first = run_token_first c.args.state.now c.args.digest.now c.in_default.ensures c.in_default-first_with.ensures c.in_default-first_with-2.ensures c.in_default-first_with-3.ensures row c.in-Some-first_with-4.ensures in
    record { found = has c.args.state.now c.args.digest.now kind.Run _ first; first = first }

pub returns-clause-found : goal.returns-clause-found
returns-clause-found c = unused c.args.state.now c.args.digest.now c.in_default.ensures c.in_default-first_with.ensures c.in_default-first_with-2.ensures c.in_default-first_with-3.ensures c.in_default-first_with-4.ensures
