-- The grains to choose from are one list.
use Rattle.std.proofs.Common.{◌≡◌, ◌∙◌, List, sym, subst, arith, inl, inr}
use Rattle.desk_base.specs.Terms.{Account, Caller, GrainId, IsOne, IsWellFormed, State}
use Rattle.powerbox_match.specs.Descriptor.{DescriptorData}
use Rattle.powerbox_match.specs.declared.choices.Choice.{Choice}
use Rattle.powerbox_match.specs.declared.value.Quality.TheVariants.{Acceptable, Preferred}
use Rattle.share_graph.proofs.Apart.{login_one}
use Rattle.desk_base.specs.Wording.{secret_of}
use Rattle.saved_refs.specs.Choosing.{AreChoices, StandsBefore}
use Rattle.saved_refs.specs.Options.{AreOptions}
use Rattle.saved_refs.proofs.Members.{one_list}

apart : (c d : Choice) → StandsBefore c d → StandsBefore d c → ⊥
apart c d (inl (first, last)) (inl (other, same)) = let odd : Preferred ≡ Acceptable = sym first ∙ same in cc
apart c d (inl (first, last)) (inr (same, more)) = let odd : Preferred ≡ Acceptable = sym first ∙ sym same ∙ last in cc
apart c d (inr (same, less)) (inl (first, last)) = let odd : Preferred ≡ Acceptable = sym first ∙ sym same ∙ last in cc
apart c d (inr (same, less)) (inr (also, more)) = omega (arith, less, more)

pub options_one_list : (s : State) → IsWellFormed s → (who : Caller) (n : GrainId) (query : List DescriptorData) → IsOne (AreOptions s who n query)
options_one_list s formed who n query = record {
  one = λ xs ys (account, caller, p) (other, also, too).
      (let q = subst (λ (x : Account). AreChoices s.tables x.num n query ys) ((login_one s formed (secret_of who)).one other account also.one caller.one) too in
      one_list StandsBefore apart xs ys p.in_order q.in_order (λ z is. (q.exact z).1 ((p.exact z).0 is)) (λ z is. (p.exact z).1 ((q.exact z).0 is)));
}
