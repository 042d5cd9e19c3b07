-- An aid for proofs: the format of a tag's value has one spelling for each value.
use Rattle.std.proofs.Common.{◌≡◌, ℕ, zero, suc, List, [], ◌∷◌, refl, sym, ap, lit≤}
use Rattle.std.specs.Prelude.{option_map}
use Rattle.row_formats.specs.declared.fault.RowFault.TheVariants.{BadField}
use Rattle.row_formats.specs.Exact.{IsExact}
use Rattle.powerbox_match.specs.Value.{TagData, fields_of, items_of}
use Rattle.row_codec.specs.ValueFormat.{kind_of, list_fields, list_items, entry, values, value}
use Rattle.row_formats.proofs.Fields.{text_exact}
use Rattle.row_formats.proofs.Integer.{integer_exact}
use Rattle.row_formats.proofs.Parts.{always_exact, pair_exact, made_exact}
use Rattle.row_formats.proofs.Basics.{text_above_exact}
use Rattle.row_formats.proofs.Choices.{numbered_exact}
use Rattle.row_formats.proofs.Chains.{chain_exact}

pub fields_back : (fs : List (List ℕ × TagData)) → list_fields (fields_of fs) ≡ fs
fields_back [] = refl
fields_back (f ∷ fs) = ap (λ (gs : List (List ℕ × TagData)). f ∷ gs) (fields_back fs)

pub items_back : (vs : List TagData) → list_items (items_of vs) ≡ vs
items_back [] = refl
items_back (v ∷ vs) = ap (λ (ws : List TagData). v ∷ ws) (items_back vs)

pub value_exact : (depth : ℕ) → IsExact (value depth)
unfolding value
value_exact zero = numbered_exact (λ at n. BadField at) 0 kind_of [] (lit≤ tt) tt
value_exact (suc depth) =
    let inner = value_exact depth in
    numbered_exact (λ at n. BadField at) 0 kind_of (values (value depth)) (lit≤ tt) (
      always_exact _,
      λ x h. ap kind_of h,
      (
        made_exact _ _ _ (λ y h. refl) integer_exact,
        λ x h. sym (ap kind_of h.1),
        (
          made_exact _ _ _ (λ y h. refl) text_exact,
          λ x h. sym (ap kind_of h.1),
          (
            made_exact _ _ _ (λ fs h. fields_back fs) (chain_exact 1000 (entry (value depth)) (λ last. pair_exact _ _ (text_above_exact (option_map (λ f. f.0) last)) inner)),
            λ x h. sym (ap kind_of h.1),
            (made_exact _ _ _ (λ vs h. items_back vs) (chain_exact 1000 (λ last. value depth) (λ last. inner)), λ x h. sym (ap kind_of h.1), tt),
          ),
        ),
      ),
    )
