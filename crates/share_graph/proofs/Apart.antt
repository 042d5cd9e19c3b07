-- In a well-formed state, a digest is one row's.
use Rattle.std.proofs.Common.{◌≡◌, ◌++◌, ℕ, List, map, Contains, Option, Some, ap, sym, subst}
use Rattle.std.specs.List.{filter_map}
use Rattle.std.specs.Option.{option_map}
use Rattle.std.proofs.lemmas.List.Elements.{Contains-append_left, Contains-append_right}
use Rattle.host_base.specs.declared.digest.Digest.{Digest}
use Rattle.share_graph.specs.declared.fault.Kind.{Kind}
use Rattle.share_graph.specs.declared.fault.Kind.TheVariants as kind
use Rattle.share_graph.specs.declared.grants.Grant.{Grant}
use Rattle.share_graph.specs.declared.rows.Account.{Account}
use Rattle.share_graph.specs.declared.rows.Saved.{Saved}
use Rattle.share_graph.specs.declared.sessions.Run.{Run}
use Rattle.share_graph.specs.declared.sessions.Session.{Session}
use Rattle.share_graph.specs.declared.state.State.{State}
use Rattle.share_graph.specs.Forms.{IsOne}
use Rattle.share_graph.specs.Keys.{IsOneOf, HasLogin, HasToken, HasReference, HasKey, HasRunToken, IsBearerOf}
use Rattle.share_graph.specs.Kinds.{KnownDigest, HasDigest}
use Rattle.share_graph.specs.WellFormed.{IsWellFormed}
use Rattle.share_graph.proofs.Contained.{contains-map, contains-filter_map, single}

abbrev pub logins : State → List KnownDigest
logins s = map (λ account. record { kind = kind.Account; num = account.num.0; digest = account.login }) s.tables.accounts

abbrev pub known_token : ℕ → Digest → KnownDigest
known_token num d = record { kind = kind.Grant; num = num; digest = d }

abbrev pub token_of : Grant → Option KnownDigest
token_of grant = option_map (λ d. known_token grant.num.0 d) grant.digest

abbrev pub tokens : State → List KnownDigest
tokens s = filter_map token_of s.tables.grants

abbrev pub references : State → List KnownDigest
references s = map (λ saved. record { kind = kind.Saved; num = saved.num.0; digest = saved.digest }) s.tables.saved

abbrev pub keys : State → List KnownDigest
keys s = map (λ session. record { kind = kind.Session; num = session.num.0; digest = session.digest }) s.sessions

abbrev pub run_tokens : State → List KnownDigest
run_tokens s = map (λ run. record { kind = kind.Run; num = run.num.0; digest = run.digest }) s.runs

pub login_known : (s : State) (account : Account) → Contains s.tables.accounts account → HasDigest s account.login kind.Account account.num.0
login_known s account listed =
    Contains-append_left (logins s ++ tokens s ++ references s ++ keys s) (run_tokens s) _
    (Contains-append_left (logins s ++ tokens s ++ references s) (keys s) _
    (Contains-append_left (logins s ++ tokens s) (references s) _
    (Contains-append_left (logins s) (tokens s) _
    (contains-map (λ (row : Account). record { kind = kind.Account; num = row.num.0; digest = row.login }) s.tables.accounts account listed))))

pub token_known : (s : State) (grant : Grant) (d : Digest) → Contains s.tables.grants grant → grant.digest ≡ Some d → HasDigest s d kind.Grant grant.num.0
token_known s grant d listed has =
    Contains-append_left (logins s ++ tokens s ++ references s ++ keys s) (run_tokens s) _
    (Contains-append_left (logins s ++ tokens s ++ references s) (keys s) _
    (Contains-append_left (logins s ++ tokens s) (references s) _
    (Contains-append_right (logins s) (tokens s) _
    (contains-filter_map token_of s.tables.grants grant (record { kind = kind.Grant; num = grant.num.0; digest = d }) listed
    (ap (λ (o : Option Digest). option_map (λ (e : Digest). record { kind = kind.Grant; num = grant.num.0; digest = e }) o) has)))))

pub reference_known : (s : State) (saved : Saved) → Contains s.tables.saved saved → HasDigest s saved.digest kind.Saved saved.num.0
reference_known s saved listed =
    Contains-append_left (logins s ++ tokens s ++ references s ++ keys s) (run_tokens s) _
    (Contains-append_left (logins s ++ tokens s ++ references s) (keys s) _
    (Contains-append_right (logins s ++ tokens s) (references s) _
    (contains-map (λ (row : Saved). record { kind = kind.Saved; num = row.num.0; digest = row.digest }) s.tables.saved saved listed)))

pub key_known : (s : State) (session : Session) → Contains s.sessions session → HasDigest s session.digest kind.Session session.num.0
key_known s session listed =
    Contains-append_left (logins s ++ tokens s ++ references s ++ keys s) (run_tokens s) _
    (Contains-append_right (logins s ++ tokens s ++ references s) (keys s) _
    (contains-map (λ (row : Session). record { kind = kind.Session; num = row.num.0; digest = row.digest }) s.sessions session listed))

pub run_token_known : (s : State) (run : Run) → Contains s.runs run → HasDigest s run.digest kind.Run run.num.0
run_token_known s run listed =
    Contains-append_right (logins s ++ tokens s ++ references s ++ keys s) (run_tokens s) _
    (contains-map (λ (row : Run). record { kind = kind.Run; num = row.num.0; digest = row.digest }) s.runs run listed)

-- the same by equal digests and numbers
pub known_by : (s : State) (d e : Digest) (k : Kind) (n m : ℕ) → e ≡ d → n ≡ m → HasDigest s e k m → HasDigest s d k n
known_by s d e k n m digests nums known = subst (λ (x : Digest). HasDigest s x k n) digests (subst (λ (i : ℕ). HasDigest s e k i) (sym nums) known)

-- and so each key finds one row at the most
pub login_one : (s : State) → IsWellFormed s → (d : Digest) → IsOne (λ account. IsOneOf s.tables.accounts (HasLogin d) account)
login_one s formed d = single (λ (row : Account). row.num.0) s.tables.accounts (HasLogin d) formed.numbered.accounts
    (λ x y a b. (formed.apart.one d kind.Account kind.Account x.num.0 y.num.0 (rw (← a.is) (login_known s x a.listed)) (rw (← b.is) (login_known s y b.listed))).1)

pub token_one : (s : State) → IsWellFormed s → (d : Digest) → IsOne (λ grant. IsOneOf s.tables.grants (HasToken d) grant)
token_one s formed d = single (λ (row : Grant). row.num.0) s.tables.grants (HasToken d) formed.numbered.grants
    (λ x y a b. (formed.apart.one d kind.Grant kind.Grant x.num.0 y.num.0 (token_known s x d a.listed a.is) (token_known s y d b.listed b.is)).1)

pub bearer_one : (s : State) → IsWellFormed s → (d : Digest) → IsOne (λ grant. IsOneOf s.tables.grants (IsBearerOf d) grant)
bearer_one s formed d = single (λ (row : Grant). row.num.0) s.tables.grants (IsBearerOf d) formed.numbered.grants
    (λ x y a b. (formed.apart.one d kind.Grant kind.Grant x.num.0 y.num.0 (token_known s x d a.listed a.is.token) (token_known s y d b.listed b.is.token)).1)

pub reference_one : (s : State) → IsWellFormed s → (d : Digest) → IsOne (λ saved. IsOneOf s.tables.saved (HasReference d) saved)
reference_one s formed d = single (λ (row : Saved). row.num.0) s.tables.saved (HasReference d) formed.numbered.saved
    (λ x y a b. (formed.apart.one d kind.Saved kind.Saved x.num.0 y.num.0 (rw (← a.is) (reference_known s x a.listed)) (rw (← b.is) (reference_known s y b.listed))).1)

pub key_one : (s : State) → IsWellFormed s → (d : Digest) → IsOne (λ session. IsOneOf s.sessions (HasKey d) session)
key_one s formed d = single (λ (row : Session). row.num.0) s.sessions (HasKey d) formed.numbered.sessions
    (λ x y a b. (formed.apart.one d kind.Session kind.Session x.num.0 y.num.0 (rw (← a.is) (key_known s x a.listed)) (rw (← b.is) (key_known s y b.listed))).1)

pub run_token_one : (s : State) → IsWellFormed s → (d : Digest) → IsOne (λ run. IsOneOf s.runs (HasRunToken d) run)
run_token_one s formed d = single (λ (row : Run). row.num.0) s.runs (HasRunToken d) formed.numbered.runs
    (λ x y a b. (formed.apart.one d kind.Run kind.Run x.num.0 y.num.0 (rw (← a.is) (run_token_known s x a.listed)) (rw (← b.is) (run_token_known s y b.listed))).1)
