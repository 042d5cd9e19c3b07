use Rattle.std.proofs.Common.{◌≡◌, ◌<◌, length, refl, sym, ◌∙◌, ap, arith, inl, inr}
use Rattle.std.proofs.lemmas.Bool.{false≢true}
use Rattle.std.proofs.lemmas.Option.{slice_get_within}
use Rattle.share_graph.specs.Rows.{IsKept}
use Rattle.share_graph.proofs.Coherence.{coherent}
use Rattle.least_access.proofs.Lacking.{not_so}
use Rattle.least_access.proofs.missing.grant_lacks.Goals as goal

pub overflow_cast-result : goal.overflow_cast-result
overflow_cast-result c =
    let within : c.in-Some-first_unmet.index < length c.as_slice.result.now = slice_get_within c.as_slice.result.now c.in-Some-first_unmet.index c.in-Some-first_unmet.ensures.need c.in-Some-first_unmet.ensures.there in
    let same : length c.as_slice.result.now ≡ length c.args.grant.now.needs = ap length c.as_slice.ensures in
    let few = ((coherent c.args.tables.now c.requires.checked).grants c.args.num c.args.grant.now c.requires.row).shares.few_needs in
    omega arith

pub returns-then-not-is_kept : goal.returns-then-not-is_kept
returns-then-not-is_kept c =
    inr (c.requires.none, inl (refl, not_so (IsKept c.args.tables.now c.args.grant.now.grain) c.is_kept.result c.is_kept.ensures c.if-not-is_kept.true))

pub returns-in-None : goal.returns-in-None
returns-in-None c =
    inr (
      c.requires.none,
      inr (
        c.is_kept.ensures.0 c.if-not-is_kept.false,
        inr (
          λ gone. false≢true (sym c.if-grant.false ∙ gone),
          inr (c.in_default.ensures, inr (rw c.as_slice.ensures at c.in-None.ensures, refl)),
        ),
      ),
    )
