-- Where no tag stands twice, no two drivers have one.
use Rattle.std.proofs.Common.{◌≡◌, ◌<◌, ℕ, List, get_or, length, sym, ◌∙◌, arith, length-take}
use Rattle.std.proofs.lemmas.List.{get_or-take}
use Rattle.std.proofs.lemmas.Option.{get_or_from_slice_get, slice_get_within}
use Rattle.site_caps.specs.Finding.{FindsTwo}
use Rattle.site_caps.specs.Offering.{AreDistinct}
use Rattle.site_caps.specs.declared.fault.SiteFault.{SiteFault}

pub never_two : (own : List ℕ) (fault : SiteFault) → AreDistinct own → FindsTwo own fault → ⊥
never_two own fault distinct two =
    let (k, less, same) = two.again in
    let inside : two.place < length own = slice_get_within own two.place two.tag two.there in
    let before : k < two.place = omega (arith, length-take two.place own) in
    let at : get_or own two.place two.tag ≡ two.tag = get_or_from_slice_get own two.place two.tag two.tag two.there in
    let earlier : get_or own k two.tag ≡ two.tag = sym (get_or-take two.place own k two.tag before) ∙ same in
    distinct k two.place two.tag before inside (earlier ∙ sym at)
