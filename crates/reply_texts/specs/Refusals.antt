-- THE REFUSALS of commands: what each is called, its numbers, and the status that it is answered with. A denial is answered as such.
use Rattle.std.specs.Prelude.{ℕ, Bool, List, [], ◌∷◌, codes}
use Rattle.app_manifest.specs.Fault.{number_of, argument_of}
use Rattle.share_graph.specs.declared.refusal.Refusal.{Refusal}
use Rattle.share_graph.specs.declared.refusal.Refusal.TheVariants.{Denied, NotAdmin, NotOwner, NotGiver, Unknown, BadRole, ObsoleteRole, LongSet, BadParent, SelfShare, HandleTaken, LastAdmin, Manifest, AlreadyClaimed, NoSuchOffer, NoMatch, UnknownHandle, TooMany, TokenClash, BadNeed, PastMoment}
use Rattle.share_graph.specs.Kinds.{kind_number}
use Rattle.front_http.specs.Texts.{refusal_body}
use Rattle.reply_texts.specs.Texts.{own_text, denial_name, denial_numbers, denial_status}

abbrev pub command_name : Refusal → List ℕ
command_name (Denied reason) = denial_name reason
command_name NotAdmin = codes "NotAdmin"
command_name (NotOwner n) = codes "NotOwner"
command_name (NotGiver g) = codes "NotGiver"
command_name (Unknown kind n) = codes "Unknown"
command_name (BadRole n) = codes "BadRole"
command_name (ObsoleteRole n) = codes "ObsoleteRole"
command_name LongSet = codes "LongSet"
command_name (BadParent g) = codes "BadParent"
command_name SelfShare = codes "SelfShare"
command_name (HandleTaken a) = codes "HandleTaken"
command_name LastAdmin = codes "LastAdmin"
command_name (Manifest fault) = codes "Manifest"
command_name (AlreadyClaimed g) = codes "AlreadyClaimed"
command_name NoSuchOffer = codes "NoSuchOffer"
command_name NoMatch = codes "NoMatch"
command_name (UnknownHandle n) = codes "UnknownHandle"
command_name (TooMany kind limit) = codes "TooMany"
command_name (TokenClash kind n) = codes "TokenClash"
command_name (BadNeed index) = codes "BadNeed"
command_name (PastMoment now) = codes "PastMoment"

abbrev pub command_numbers : Refusal → List ℕ
command_numbers (Denied reason) = denial_numbers reason
command_numbers NotAdmin = []
command_numbers (NotOwner n) = n.0 ∷ []
command_numbers (NotGiver g) = g.0 ∷ []
command_numbers (Unknown kind n) = kind_number kind ∷ n ∷ []
command_numbers (BadRole n) = n ∷ []
command_numbers (ObsoleteRole n) = n ∷ []
command_numbers LongSet = []
command_numbers (BadParent g) = g.0 ∷ []
command_numbers SelfShare = []
command_numbers (HandleTaken a) = a.0 ∷ []
command_numbers LastAdmin = []
command_numbers (Manifest fault) = number_of fault ∷ argument_of fault ∷ []
command_numbers (AlreadyClaimed g) = g.0 ∷ []
command_numbers NoSuchOffer = []
command_numbers NoMatch = []
command_numbers (UnknownHandle n) = n ∷ []
command_numbers (TooMany kind limit) = kind_number kind ∷ limit ∷ []
command_numbers (TokenClash kind n) = kind_number kind ∷ n ∷ []
command_numbers (BadNeed index) = index ∷ []
command_numbers (PastMoment now) = now ∷ []

abbrev pub command_status : Refusal → ℕ
command_status (Denied reason) = denial_status reason
command_status NotAdmin = 403
command_status (NotOwner n) = 403
command_status (NotGiver g) = 403
command_status (Unknown kind n) = 404
command_status (UnknownHandle n) = 404
command_status (TooMany kind limit) = 507
command_status _ = 409

-- the body of the answer to a command that is refused
abbrev pub command_body : Refusal → List ℕ
command_body why = refusal_body (command_name why) (command_numbers why)

-- the answer to a command that is refused
abbrev pub command_text : Refusal → Bool → List ℕ
command_text why head_only = own_text (command_status why) (command_name why) (command_numbers why) head_only
