-- The faults, which aren't refusals: they keep a command from being carried out, or an item of the site's own from being given. Want of
-- memory is `memory_text` of `Texts`.
use Rattle.std.specs.Prelude.{ℕ, Bool, List, [], ◌∷◌, codes}
use Rattle.reply_texts.specs.declared.faults.OwnFault.{OwnFault}
use Rattle.reply_texts.specs.declared.faults.OwnFault.TheVariants.{StoreFailed, SecretsFailed, StartFailed, BadBody, NoDriver, NotOffered}
use Rattle.reply_texts.specs.Texts.{own_text}

-- what each is called, its numbers, and the status that it is answered with
abbrev pub fault_name : OwnFault → List ℕ
fault_name StoreFailed = codes "StoreFailed"
fault_name SecretsFailed = codes "SecretsFailed"
fault_name StartFailed = codes "StartFailed"
fault_name (BadBody field) = codes "BadBody"
fault_name (NoDriver tag) = codes "NoDriver"
fault_name (NotOffered tag item) = codes "NotOffered"

abbrev pub fault_numbers : OwnFault → List ℕ
fault_numbers (BadBody field) = field ∷ []
fault_numbers (NoDriver tag) = tag ∷ []
fault_numbers (NotOffered tag item) = tag ∷ item ∷ []
fault_numbers _ = []

abbrev pub fault_status : OwnFault → ℕ
fault_status StoreFailed = 503
fault_status SecretsFailed = 503
fault_status StartFailed = 502
fault_status (BadBody field) = 422
fault_status (NoDriver tag) = 404
fault_status (NotOffered tag item) = 404

-- the answer to a fault
abbrev pub fault_text : OwnFault → Bool → List ℕ
fault_text why head_only = own_text (fault_status why) (fault_name why) (fault_numbers why) head_only
