-- The answers of the server's own.
use Rattle.std.specs.Prelude.{ℕ, Bool, true, false, List, [], ◌∷◌, codes, bytes_eq}
use Rattle.host_base.specs.declared.request.Request.{Request}
use Rattle.host_base.specs.declared.verdict.Denial.{Denial}
use Rattle.host_base.specs.declared.verdict.Denial.TheVariants as denial
use Rattle.front_http.specs.declared.refusal.Refusal.{Refusal}
use Rattle.front_http.specs.declared.refusal.Refusal.TheVariants as refusal
use Rattle.front_http.specs.Texts.{reply_text, refusal_body}

-- whether a request asks for the head of an answer alone
abbrev pub wants_head : Request → Bool
wants_head request = bytes_eq request.method (codes "HEAD")

-- an answer of the server's own: a status, a name, and numbers; and whether its head alone is sent
abbrev pub own_text : ℕ → List ℕ → List ℕ → Bool → List ℕ
own_text status name numbers head_only = reply_text status false (refusal_body name numbers) head_only

-- what each denial is called, its numbers, and the status that it is answered with
abbrev pub denial_name : Denial → List ℕ
denial_name denial.UnknownKey = codes "UnknownKey"
denial_name (denial.SessionClosed s) = codes "SessionClosed"
denial_name (denial.NotHolder n) = codes "NotHolder"
denial_name (denial.Dropped v) = codes "Dropped"
denial_name (denial.GrainTrashed n) = codes "GrainTrashed"
denial_name (denial.AccountDisabled a) = codes "AccountDisabled"
denial_name (denial.Revoked g) = codes "Revoked"
denial_name (denial.Unmet g i) = codes "Unmet"
denial_name (denial.SourceLost g) = codes "SourceLost"
denial_name (denial.NoShare n a) = codes "NoShare"
denial_name (denial.GrainStopped n) = codes "GrainStopped"
denial_name (denial.Expired g moment) = codes "Expired"

abbrev pub denial_numbers : Denial → List ℕ
denial_numbers denial.UnknownKey = []
denial_numbers (denial.SessionClosed s) = s.0 ∷ []
denial_numbers (denial.NotHolder n) = n.0 ∷ []
denial_numbers (denial.Dropped v) = v.0 ∷ []
denial_numbers (denial.GrainTrashed n) = n.0 ∷ []
denial_numbers (denial.AccountDisabled a) = a.0 ∷ []
denial_numbers (denial.Revoked g) = g.0 ∷ []
denial_numbers (denial.Unmet g i) = g.0 ∷ i ∷ []
denial_numbers (denial.SourceLost g) = g.0 ∷ []
denial_numbers (denial.NoShare n a) = n.0 ∷ a.0 ∷ []
denial_numbers (denial.GrainStopped n) = n.0 ∷ []
denial_numbers (denial.Expired g moment) = g.0 ∷ moment ∷ []

abbrev pub denial_status : Denial → ℕ
denial_status denial.UnknownKey = 401
denial_status (denial.GrainStopped n) = 409
denial_status _ = 403

-- the body of the answer to a denial
abbrev pub denial_body : Denial → List ℕ
denial_body reason = refusal_body (denial_name reason) (denial_numbers reason)

-- the answer to a denial
abbrev pub denial_text : Denial → Bool → List ℕ
denial_text reason head_only = own_text (denial_status reason) (denial_name reason) (denial_numbers reason) head_only

-- what each framing refusal is called, and the status that it is answered with
abbrev pub refusal_name : Refusal → List ℕ
refusal_name refusal.BadHead = codes "BadHead"
refusal_name refusal.LongHead = codes "LongHead"
refusal_name refusal.NeedLength = codes "NeedLength"
refusal_name refusal.LongBody = codes "LongBody"

abbrev pub refusal_status : Refusal → ℕ
refusal_status refusal.BadHead = 400
refusal_status refusal.LongHead = 413
refusal_status refusal.NeedLength = 411
refusal_status refusal.LongBody = 413

-- the answer to what is refused at a place of the stream
abbrev pub refused_text : Refusal → ℕ → List ℕ
refused_text why at = own_text (refusal_status why) (refusal_name why) (at ∷ []) false

-- the answer where memory ran out
abbrev pub memory_text : Bool → List ℕ
memory_text head_only = own_text 500 (codes "Memory") [] head_only

-- the answer of one of the site's own capabilities: a plain text
abbrev pub site_text : List ℕ → Bool → List ℕ
site_text text head_only = reply_text 200 true text head_only
