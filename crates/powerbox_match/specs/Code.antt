-- An aid for proofs: the codes by which a proof tells tag values and descriptors apart.
use Rattle.std.specs.Prelude.{◌≡◌, ℕ, ℤ, List, [], ◌∷◌, map, refl}
use Rattle.std.specs.Coded.{Coded, code_by, coded×, coded_ℕ, coded_list}
use mathlib.Core.Path.{ap, ◌∙◌, sym}
use Rattle.powerbox_match.specs.Value.{TagData, any, number, text, fields, items, FieldsData, no_fields, field, ItemsData, no_items, item, fields_of, items_of}
use Rattle.powerbox_match.specs.Descriptor.{DescriptorData}
use Rattle.powerbox_match.specs.declared.coded_value.CodedValue.{CodedValue, Any, Number, Text, Fields, Items, fold-CodedValue}
use Rattle.powerbox_match.specs.declared.coded_value.CodedValue.TheOpen.{CodedValue-F}
use Rattle.powerbox_match.specs.declared.coded_value.CodedValue.TheFolds.{fold-roll-CodedValue}
use Rattle.powerbox_match.specs.declared.coded_value.CodedValue.TheVariants.{rolls-Any, rolls-Number, rolls-Text, rolls-Fields, rolls-Items}
use Rattle.powerbox_match.specs.contracts.coded_value.CodedValue as coded_value
use Rattle.powerbox_match.specs.declared.value.Quality.{Quality}
use Rattle.powerbox_match.specs.contracts.value.Quality as quality

-- a value over plain lists
abbrev mutual
  pub coded_value_of : TagData → CodedValue
  coded_value_of any = Any
  coded_value_of (number n) = Number n
  coded_value_of (text t) = Text t
  coded_value_of (fields fs) = Fields (coded_fields_of fs)
  coded_value_of (items vs) = Items (coded_items_of vs)

  pub coded_fields_of : FieldsData → List (List ℕ × CodedValue)
  coded_fields_of no_fields = []
  coded_fields_of (field name v fs) = (name, coded_value_of v) ∷ coded_fields_of fs

  pub coded_items_of : ItemsData → List CodedValue
  coded_items_of no_items = []
  coded_items_of (item v vs) = coded_value_of v ∷ coded_items_of vs

-- one level of the way back
abbrev pub decoding_step : CodedValue-F TagData → TagData
decoding_step CodedValue-F.Any = any
decoding_step (CodedValue-F.Number n) = number n
decoding_step (CodedValue-F.Text t) = text t
decoding_step (CodedValue-F.Fields fs) = fields (fields_of fs)
decoding_step (CodedValue-F.Items vs) = items (items_of vs)

-- the way back
abbrev pub decoded : CodedValue → TagData
decoded = fold-CodedValue TagData decoding_step

-- the way back at each variant
decoded-any : decoded Any ≡ any
decoded-any = ap decoded (sym rolls-Any) ∙ fold-roll-CodedValue TagData decoding_step CodedValue-F.Any

decoded-number : (n : ℤ) → decoded (Number n) ≡ number n
decoded-number n = ap decoded (sym (rolls-Number n)) ∙ fold-roll-CodedValue TagData decoding_step (CodedValue-F.Number n)

decoded-text : (t : List ℕ) → decoded (Text t) ≡ text t
decoded-text t = ap decoded (sym (rolls-Text t)) ∙ fold-roll-CodedValue TagData decoding_step (CodedValue-F.Text t)

decoded-fields : (fs : List (List ℕ × CodedValue)) → decoded (Fields fs) ≡ fields (fields_of (map (λ f. (f.0, decoded f.1)) fs))
decoded-fields fs = ap decoded (sym (rolls-Fields fs)) ∙ fold-roll-CodedValue TagData decoding_step (CodedValue-F.Fields fs)

decoded-items : (vs : List CodedValue) → decoded (Items vs) ≡ items (items_of (map decoded vs))
decoded-items vs = ap decoded (sym (rolls-Items vs)) ∙ fold-roll-CodedValue TagData decoding_step (CodedValue-F.Items vs)

-- the way back gives the value
mutual
  pub given_back : (d : TagData) → decoded (coded_value_of d) ≡ d
  given_back any = decoded-any
  given_back (number n) = decoded-number n
  given_back (text t) = decoded-text t
  given_back (fields fs) = decoded-fields (coded_fields_of fs) ∙ ap fields (fields_given_back fs)
  given_back (items vs) = decoded-items (coded_items_of vs) ∙ ap items (items_given_back vs)

  fields_given_back : (fs : FieldsData) → fields_of (map (λ f. (f.0, decoded f.1)) (coded_fields_of fs)) ≡ fs
  fields_given_back no_fields = refl
  fields_given_back (field name v fs) =
      ap (λ d. field name d (fields_of (map (λ f. (f.0, decoded f.1)) (coded_fields_of fs)))) (given_back v) ∙ ap (λ rest. field name v rest) (fields_given_back fs)

  items_given_back : (vs : ItemsData) → items_of (map decoded (coded_items_of vs)) ≡ vs
  items_given_back no_items = refl
  items_given_back (item v vs) =
      ap (λ d. item d (items_of (map decoded (coded_items_of vs)))) (given_back v) ∙ ap (λ rest. item v rest) (items_given_back vs)

-- the code of a tag's value
abbrev pub value_code : Coded TagData
value_code = code_by CodedValue coded_value.the_row.coded coded_value_of decoded given_back

-- the code of a descriptor: the pair of its tags and its quality
abbrev pub descriptor_code : Coded DescriptorData
descriptor_code =
    code_by (List (ℕ × TagData) × Quality) (coded× (coded_list (coded× coded_ℕ value_code)) quality.the_row.coded) (λ d. (d.tags, d.quality))
    (λ p. record { tags = p.0; quality = p.1 }) (λ _. refl)
