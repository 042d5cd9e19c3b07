-- What the fields of a JSON object state: a field is a value, or none where it is missing.
use Rattle.std.specs.Prelude.{ℕ, Bool, false, List, [], ◌∷◌, Option, Some, None, option_and_then}
use Rattle.serde_json.specs.Data.{Data, Items}
use Rattle.serde_json.specs.Find.{as_array, as_bool, as_str}
use Rattle.plain_data.specs.Name.{is_plain}
use Rattle.app_manifest.specs.Text.{text_with, is_title}

-- `?` of an `Option`, for the parts that are put together
infixl 10 ◌>>=◌
abbrev pub ◌>>=◌ : {A B : Type 0} → Option A → (A → Option B) → Option B
found >>= next = option_and_then next found

-- what each value of a list states, if each states something
abbrev pub each_of : {A : Type 0} → (Data → Option A) → Items → Option (List A)
each_of part Items.no_items = Some []
each_of part (Items.item d ds) = do
  x ← part d
  xs ← each_of part ds
  Some (x ∷ xs)

-- the list that a field states, if it is a list and each of its values states something
abbrev pub list_of : {A : Type 0} → (Data → Option A) → Option Data → Option (List A)
list_of part found = found >>= as_array >>= each_of part

-- a title, which has to be there
abbrev pub title_of : Option Data → Option (List ℕ)
title_of found = text_with is_title (found >>= as_str)

-- a text of any form, which is empty where it is missing
abbrev pub stated_or_empty : Option Data → Option (List ℕ)
stated_or_empty None = Some []
stated_or_empty (Some d) = as_str d

-- a text of the form of a name, which is empty where it is missing
abbrev pub text_or_empty : Option Data → Option (List ℕ)
text_or_empty found = text_with is_plain (stated_or_empty found)

-- a boolean, which is false where it is missing
abbrev pub flag_or_false : Option Data → Option Bool
flag_or_false None = Some false
flag_or_false (Some d) = as_bool d

-- a list of booleans, which has to be there
abbrev pub flags_of : Option Data → Option (List Bool)
flags_of found = list_of as_bool found
