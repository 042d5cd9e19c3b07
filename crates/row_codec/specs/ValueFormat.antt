-- The format of a tag's value.
use Rattle.std.specs.Prelude.{ℕ, zero, suc, ℤ, pos, List, [], ◌∷◌, Option, option_map}
use Rattle.powerbox_match.specs.Value.{TagData, any, number, text, fields, items, FieldsData, no_fields, field, ItemsData, no_items, item, fields_of, items_of}
use Rattle.row_formats.specs.Format.{Format, integer, text as name, text_above, always, ◌⊗◌, made, choice, chain, list}

-- the number of each kind of value
abbrev pub kind_of : TagData → ℕ
kind_of any = 0
kind_of (number n) = 1
kind_of (text t) = 2
kind_of (fields fs) = 3
kind_of (items vs) = 4

-- the number of a value, with anything for the others
abbrev pub the_number : TagData → ℤ
the_number (number n) = n
the_number _ = pos 0

-- the text of a value, with anything for the others
abbrev pub the_text : TagData → List ℕ
the_text (text t) = t
the_text _ = []

-- fields as a list
abbrev pub list_fields : FieldsData → List (List ℕ × TagData)
list_fields no_fields = []
list_fields (field name v fs) = (name, v) ∷ list_fields fs

-- items as a list
abbrev pub list_items : ItemsData → List TagData
list_items no_items = []
list_items (item v vs) = v ∷ list_items vs

-- the fields of a value, with anything for the others
abbrev pub the_fields : TagData → List (List ℕ × TagData)
the_fields (fields fs) = list_fields fs
the_fields _ = []

-- the items of a value, with anything for the others
abbrev pub the_items : TagData → List TagData
the_items (items vs) = list_items vs
the_items _ = []

-- a field: its name, above that of the field before it, and its value
abbrev pub entry : Format TagData → Option (List ℕ × TagData) → Format (List ℕ × TagData)
entry value before = text_above (option_map (λ f. f.0) before) ⊗ value

-- 0 anything; 1 a number; 2 a text; 3 fields; 4 items, where the values inside have the format that is given
abbrev pub values : Format TagData → List (Format TagData)
values inner =
    always any
    ∷ made number the_number integer
    ∷ made text the_text name
    ∷ made (λ fs. fields (fields_of fs)) the_fields (chain 1000 (entry inner))
    ∷ made (λ vs. items (items_of vs)) the_items (list 1000 inner)
    ∷ []

-- A value with values inside one another up to this depth: where no level is left, no kind is one.
unfoldable pub value : ℕ → Format TagData
value zero = choice 0 kind_of []
value (suc depth) = choice 0 kind_of (values (value depth))
