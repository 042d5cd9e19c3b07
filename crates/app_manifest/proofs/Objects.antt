-- When bytes are a JSON object.
use Rattle.std.proofs.Common.{◌≡◌, ℕ, Bool, true, false, cond, List, Some, None, option_and_then, refl}
use Rattle.std.specs.Option.{is_some}
use Rattle.std.specs.Str.{IsUtf8, is_utf8}
use Rattle.std.proofs.lemmas.Str.{IsUtf8-from_is_utf8, is_utf8-from_IsUtf8}
use Rattle.serde_json.specs.Data.{Data}
use Rattle.serde_json.specs.Find.{as_object}
use Rattle.serde_json.specs.Read.{read}
use Rattle.app_manifest.specs.Stated.{only_object, object_of}

-- bytes that are an object
pub object_there : (bytes : List ℕ) (d : Data) → IsUtf8 bytes → read bytes ≡ Some d → is_some (as_object d) ≡ true → object_of bytes ≡ Some d
object_there bytes d utf8 e h = rw (is_utf8-from_IsUtf8 bytes utf8, e, h) refl

-- bytes that are no JSON value
pub no_value : (bytes : List ℕ) → (IsUtf8 bytes → read bytes ≡ None) → object_of bytes ≡ None
no_value bytes none = no_value_at (is_utf8 bytes) (λ h. none (IsUtf8-from_is_utf8 bytes h))
  where
    no_value_at : (b : Bool) → (b ≡ true → read bytes ≡ None) → cond b (option_and_then only_object (read bytes)) None ≡ None
    no_value_at true f = rw (f refl) refl
    no_value_at false f = refl
