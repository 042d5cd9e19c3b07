-- What is so of each digest of a state, by the lists of its rows.
use Rattle.std.proofs.Common.{◌≡◌, ◌++◌, ℕ, List, [], ◌∷◌, All, Contains, Option, Some, None, refl, sym, ◌∙◌, ap, subst}
use Rattle.std.specs.List.{filter_map}
use Rattle.std.specs.Option.{option_map}
use Rattle.std.proofs.lemmas.List.Elements.{All-append, All-map, All-contains, All-weaker, All-contains_itself, All-nil, All-cons, All-head, All-tail}
use Rattle.host_base.specs.declared.digest.Digest.{Digest}
use Rattle.share_graph.specs.declared.fault.Kind.{Kind}
use Rattle.share_graph.specs.declared.fault.Kind.TheVariants as kind
use Rattle.share_graph.specs.declared.grants.Grant.{Grant}
use Rattle.share_graph.specs.declared.rows.Account.{Account}
use Rattle.share_graph.specs.declared.rows.Saved.{Saved}
use Rattle.share_graph.specs.declared.sessions.Run.{Run}
use Rattle.share_graph.specs.declared.sessions.Session.{Session}
use Rattle.share_graph.specs.declared.state.State.{State}
use Rattle.share_graph.specs.Kinds.{KnownDigest, HasDigest, AreApart, digests_of}
use Rattle.share_graph.proofs.Apart.{logins, known_token, token_of, tokens, references, keys, run_tokens, login_known, token_known, reference_known, key_known, run_token_known}
use Rattle.table_check.specs.Apart.{HasNoOther, IsApart}

kept : {X Y : Type 0} (P : Y → Type 0) (f : X → Option Y) (x : X) (rows : List X) (o : Option Y) → o ≡ f x → ((y : Y) → f x ≡ Some y → P y) → All P (filter_map f rows) → All P (filter_map f (x ∷ rows))
kept P f x rows None same here rest = rw (← same) rest
kept P f x rows (Some z) same here rest = rw (← same) (All-cons P z (filter_map f rows) (here z (sym same)) rest)

all_filtered : {X Y : Type 0} (P : Y → Type 0) (f : X → Option Y) (rows : List X) → All (λ x. (y : Y) → f x ≡ Some y → P y) rows → All P (filter_map f rows)
all_filtered P f [] all = All-nil P
all_filtered {X} {Y} P f (x ∷ rows) all =
    kept P f x rows (f x) refl (All-head (λ z. (y : Y) → f z ≡ Some y → P y) x rows all) (all_filtered P f rows (All-tail (λ z. (y : Y) → f z ≡ Some y → P y) x rows all))

-- a token of a grant that has one
token_is : (P : KnownDigest → Type 0) (num : ℕ) (o : Option Digest) (e : KnownDigest) → option_map (λ (d : Digest). known_token num d) o ≡ Some e → ((d : Digest) → o ≡ Some d → P (known_token num d)) → P e
token_is P num None e made all = cc made
token_is P num (Some d) e made all = let same : known_token num d ≡ e = cc in subst P same (all d refl)

-- what is so of each row's digest is so of each digest
pub all_digests : (s : State) (P : KnownDigest → Type 0)
    → All (λ account. P (record { kind = kind.Account; num = account.num.0; digest = account.login })) s.tables.accounts
    → All (λ grant. (d : Digest) → grant.digest ≡ Some d → P (known_token grant.num.0 d)) s.tables.grants
    → All (λ saved. P (record { kind = kind.Saved; num = saved.num.0; digest = saved.digest })) s.tables.saved
    → All (λ session. P (record { kind = kind.Session; num = session.num.0; digest = session.digest })) s.sessions
    → All (λ run. P (record { kind = kind.Run; num = run.num.0; digest = run.digest })) s.runs
    → All P (digests_of s)
all_digests s P accounts grants saved sessions runs =
    All-append P (logins s ++ tokens s ++ references s ++ keys s) (run_tokens s)
    (All-append P (logins s ++ tokens s ++ references s) (keys s)
    (All-append P (logins s ++ tokens s) (references s)
    (All-append P (logins s) (tokens s)
    (All-map P (λ (row : Account). record { kind = kind.Account; num = row.num.0; digest = row.login }) s.tables.accounts accounts)
    (all_filtered P token_of s.tables.grants
    (All-weaker (λ (row : Grant). (d : Digest) → row.digest ≡ Some d → P (known_token row.num.0 d)) (λ (row : Grant). (e : KnownDigest) → token_of row ≡ Some e → P e)
    (λ row all e made. token_is P row.num.0 row.digest e made all) s.tables.grants grants)))
    (All-map P (λ (row : Saved). record { kind = kind.Saved; num = row.num.0; digest = row.digest }) s.tables.saved saved))
    (All-map P (λ (row : Session). record { kind = kind.Session; num = row.num.0; digest = row.digest }) s.sessions sessions))
    (All-map P (λ (row : Run). record { kind = kind.Run; num = row.num.0; digest = row.digest }) s.runs runs)

-- no row of these but the one of a kind and number has the digest
abbrev pub HaveNoOther : {X : Type 0} → Kind → (X → ℕ) → (X → Option Digest) → List X → Digest → Kind → ℕ → Type 0
HaveNoOther own num digest rows d k n = All (λ row. digest row ≡ Some d → (own ≡ k) × (num row ≡ n)) rows

abbrev Fits : Digest → Kind → ℕ → KnownDigest → Type 0
Fits d k n e = e.digest ≡ d → (e.kind ≡ k) × (e.num ≡ n)

plain : {X : Type 0} (own : Kind) (num : X → ℕ) (digest : X → Digest) (rows : List X) (d : Digest) (k : Kind) (n : ℕ) → HaveNoOther own num (λ row. Some (digest row)) rows d k n
    → All (λ row. digest row ≡ d → (own ≡ k) × (num row ≡ n)) rows
plain {X} own num digest rows d k n all =
    All-weaker (λ (row : X). Some (digest row) ≡ Some d → (own ≡ k) × (num row ≡ n)) (λ (row : X). digest row ≡ d → (own ≡ k) × (num row ≡ n))
    (λ row tells same. tells (ap (λ (e : Digest). Some e) same)) rows all

pub no_other : (s : State) (d : Digest) (k : Kind) (n : ℕ)
    → HaveNoOther kind.Account (λ account. account.num.0) (λ account. Some account.login) s.tables.accounts d k n
    → HaveNoOther kind.Grant (λ grant. grant.num.0) (λ grant. grant.digest) s.tables.grants d k n
    → HaveNoOther kind.Saved (λ saved. saved.num.0) (λ saved. Some saved.digest) s.tables.saved d k n
    → HaveNoOther kind.Session (λ session. session.num.0) (λ session. Some session.digest) s.sessions d k n
    → HaveNoOther kind.Run (λ run. run.num.0) (λ run. Some run.digest) s.runs d k n
    → HasNoOther s d k n
no_other s d k n accounts grants saved sessions runs m j known =
    let all = all_digests s (Fits d k n)
    (plain kind.Account (λ account. account.num.0) (λ account. account.login) s.tables.accounts d k n accounts)
    (All-weaker (λ (row : Grant). row.digest ≡ Some d → (kind.Grant ≡ k) × (row.num.0 ≡ n)) (λ (row : Grant). (e : Digest) → row.digest ≡ Some e → Fits d k n (known_token row.num.0 e))
    (λ row tells e has same. tells (has ∙ ap (λ (x : Digest). Some x) same)) s.tables.grants grants)
    (plain kind.Saved (λ saved. saved.num.0) (λ saved. saved.digest) s.tables.saved d k n saved)
    (plain kind.Session (λ session. session.num.0) (λ session. session.digest) s.sessions d k n sessions)
    (plain kind.Run (λ run. run.num.0) (λ run. run.digest) s.runs d k n runs) in
    All-contains (Fits d k n) (digests_of s) (record { kind = m; num = j; digest = d }) all known refl

-- a row that has the digest is the one
each_one : {X : Type 0} (s : State) (own : Kind) (num : X → ℕ) (digest : X → Option Digest) (rows : List X) → ((row : X) (d : Digest) → Contains rows row → digest row ≡ Some d → HasDigest s d own (num row))
    → (d : Digest) (k : Kind) (n : ℕ) → HasNoOther s d k n → HaveNoOther own num digest rows d k n
each_one {X} s own num digest rows known d k n alone =
    All-weaker (Contains rows) (λ (row : X). digest row ≡ Some d → (own ≡ k) × (num row ≡ n)) (λ row listed has. alone own (num row) (known row d listed has)) rows (All-contains_itself rows)

has_login : (s : State) (row : Account) (d : Digest) → Contains s.tables.accounts row → Some row.login ≡ Some d → HasDigest s d kind.Account row.num.0
has_login s row d listed has = let same : row.login ≡ d = cc in subst (λ (e : Digest). HasDigest s e kind.Account row.num.0) same (login_known s row listed)

has_token : (s : State) (row : Grant) (d : Digest) → Contains s.tables.grants row → row.digest ≡ Some d → HasDigest s d kind.Grant row.num.0
has_token s row d listed has = token_known s row d listed has

has_reference : (s : State) (row : Saved) (d : Digest) → Contains s.tables.saved row → Some row.digest ≡ Some d → HasDigest s d kind.Saved row.num.0
has_reference s row d listed has = let same : row.digest ≡ d = cc in subst (λ (e : Digest). HasDigest s e kind.Saved row.num.0) same (reference_known s row listed)

has_key : (s : State) (row : Session) (d : Digest) → Contains s.sessions row → Some row.digest ≡ Some d → HasDigest s d kind.Session row.num.0
has_key s row d listed has = let same : row.digest ≡ d = cc in subst (λ (e : Digest). HasDigest s e kind.Session row.num.0) same (key_known s row listed)

has_run_token : (s : State) (row : Run) (d : Digest) → Contains s.runs row → Some row.digest ≡ Some d → HasDigest s d kind.Run row.num.0
has_run_token s row d listed has = let same : row.digest ≡ d = cc in subst (λ (e : Digest). HasDigest s e kind.Run row.num.0) same (run_token_known s row listed)

pub among_accounts : (s : State) (d : Digest) (k : Kind) (n : ℕ) → HasNoOther s d k n → HaveNoOther kind.Account (λ (row : Account). row.num.0) (λ row. Some row.login) s.tables.accounts d k n
among_accounts s = each_one s kind.Account (λ (row : Account). row.num.0) (λ row. Some row.login) s.tables.accounts (has_login s)

pub among_grants : (s : State) (d : Digest) (k : Kind) (n : ℕ) → HasNoOther s d k n → HaveNoOther kind.Grant (λ (row : Grant). row.num.0) (λ row. row.digest) s.tables.grants d k n
among_grants s = each_one s kind.Grant (λ (row : Grant). row.num.0) (λ row. row.digest) s.tables.grants (has_token s)

pub among_saved : (s : State) (d : Digest) (k : Kind) (n : ℕ) → HasNoOther s d k n → HaveNoOther kind.Saved (λ (row : Saved). row.num.0) (λ row. Some row.digest) s.tables.saved d k n
among_saved s = each_one s kind.Saved (λ (row : Saved). row.num.0) (λ row. Some row.digest) s.tables.saved (has_reference s)

pub among_sessions : (s : State) (d : Digest) (k : Kind) (n : ℕ) → HasNoOther s d k n → HaveNoOther kind.Session (λ (row : Session). row.num.0) (λ row. Some row.digest) s.sessions d k n
among_sessions s = each_one s kind.Session (λ (row : Session). row.num.0) (λ row. Some row.digest) s.sessions (has_key s)

pub among_runs : (s : State) (d : Digest) (k : Kind) (n : ℕ) → HasNoOther s d k n → HaveNoOther kind.Run (λ (row : Run). row.num.0) (λ row. Some row.digest) s.runs d k n
among_runs s = each_one s kind.Run (λ (row : Run). row.num.0) (λ row. Some row.digest) s.runs (has_run_token s)

-- each row's digest is its alone
abbrev pub AreEachApart : {X : Type 0} → State → Kind → (X → ℕ) → (X → Option Digest) → List X → Type 0
AreEachApart s own num digest rows = All (λ row. IsApart s own (num row) (digest row)) rows

abbrev Alone : State → KnownDigest → Type 0
Alone s e = HasNoOther s e.digest e.kind e.num

token_alone : (s : State) (num : ℕ) (o : Option Digest) (d : Digest) → o ≡ Some d → IsApart s kind.Grant num o → Alone s (known_token num d)
token_alone s num None d has is = cc has
token_alone s num (Some e) d has is = let same : e ≡ d = cc in subst (λ (x : Digest). HasNoOther s x kind.Grant num) same is

pub apart_from : (s : State)
    → AreEachApart s kind.Account (λ account. account.num.0) (λ account. Some account.login) s.tables.accounts
    → AreEachApart s kind.Grant (λ grant. grant.num.0) (λ grant. grant.digest) s.tables.grants
    → AreEachApart s kind.Saved (λ saved. saved.num.0) (λ saved. Some saved.digest) s.tables.saved
    → AreEachApart s kind.Session (λ session. session.num.0) (λ session. Some session.digest) s.sessions
    → AreEachApart s kind.Run (λ run. run.num.0) (λ run. Some run.digest) s.runs
    → AreApart s
apart_from s accounts grants saved sessions runs =
    let all = all_digests s (Alone s) accounts
    (All-weaker (λ (row : Grant). IsApart s kind.Grant row.num.0 row.digest) (λ (row : Grant). (d : Digest) → row.digest ≡ Some d → Alone s (known_token row.num.0 d))
    (λ row is d has. token_alone s row.num.0 row.digest d has is) s.tables.grants grants)
    saved sessions runs in
    record {
      one = λ d k m i j first other.
          (let alone = All-contains (Alone s) (digests_of s) (record { kind = k; num = i; digest = d }) all first in
          let same = alone m j other in
          (sym same.0, sym same.1));
    }

apart_by : (s : State) (own : Kind) (num : ℕ) (o : Option Digest) → AreApart s → ((d : Digest) → o ≡ Some d → HasDigest s d own num) → IsApart s own num o
apart_by s own num None apart known = tt
apart_by s own num (Some d) apart known = λ m j other. apart.one d m own j num other (known d refl)

each_apart : {X : Type 0} (s : State) (own : Kind) (num : X → ℕ) (digest : X → Option Digest) (rows : List X) → ((row : X) (d : Digest) → Contains rows row → digest row ≡ Some d → HasDigest s d own (num row))
    → AreApart s → AreEachApart s own num digest rows
each_apart {X} s own num digest rows known apart =
    All-weaker (Contains rows) (λ (row : X). IsApart s own (num row) (digest row)) (λ row listed. apart_by s own (num row) (digest row) apart (λ d has. known row d listed has)) rows (All-contains_itself rows)

pub accounts_apart : (s : State) → AreApart s → AreEachApart s kind.Account (λ (row : Account). row.num.0) (λ row. Some row.login) s.tables.accounts
accounts_apart s = each_apart s kind.Account (λ (row : Account). row.num.0) (λ row. Some row.login) s.tables.accounts (has_login s)

pub grants_apart : (s : State) → AreApart s → AreEachApart s kind.Grant (λ (row : Grant). row.num.0) (λ row. row.digest) s.tables.grants
grants_apart s = each_apart s kind.Grant (λ (row : Grant). row.num.0) (λ row. row.digest) s.tables.grants (has_token s)

pub saved_apart : (s : State) → AreApart s → AreEachApart s kind.Saved (λ (row : Saved). row.num.0) (λ row. Some row.digest) s.tables.saved
saved_apart s = each_apart s kind.Saved (λ (row : Saved). row.num.0) (λ row. Some row.digest) s.tables.saved (has_reference s)

pub sessions_apart : (s : State) → AreApart s → AreEachApart s kind.Session (λ (row : Session). row.num.0) (λ row. Some row.digest) s.sessions
sessions_apart s = each_apart s kind.Session (λ (row : Session). row.num.0) (λ row. Some row.digest) s.sessions (has_key s)

pub runs_apart : (s : State) → AreApart s → AreEachApart s kind.Run (λ (row : Run). row.num.0) (λ row. Some row.digest) s.runs
runs_apart s = each_apart s kind.Run (λ (row : Run). row.num.0) (λ row. Some row.digest) s.runs (has_run_token s)
