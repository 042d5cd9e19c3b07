-- What was so stays so when more is seen, and effects one after another.
use Rattle.std.proofs.Common.{◌≡◌, ℕ, ◌+◌, ◌≤◌, ◌++◌, List, [], cond, Some, length, count_by, refl, sym, ◌∙◌, ap, subst, arith, append_assoc, append-nil, length-append}
use Rattle.std.specs.Prelude.{is_none}
use Rattle.std.proofs.lemmas.List.Sums.{sum_by-append}
use Rattle.host_base.specs.declared.key.Key.{Key}
use Rattle.host_base.specs.declared.verdict.Verdict.{Verdict}
use Rattle.share_graph.specs.declared.event.Event.{Event}
use Rattle.share_graph.specs.declared.state.State.{State}
use Rattle.share_graph.specs.History.{replay}
use Rattle.share_graph.specs.WellFormed.{IsWellFormed}
use Rattle.session_table.specs.Verdict.{IsVerdict}
use Rattle.grain_supervise.specs.declared.ask.Ask.{Ask}
use Rattle.grain_supervise.specs.Line.{Line}
use Rattle.hub_core.specs.Book.{Book, Later, Judged, TakesNone}
use Rattle.cloud_serve.specs.Effects.{AskedOf}
use Rattle.host_base.specs.Outside.{Grew}

pub later_trans : (old mid new : Book) → Later old mid → Later mid new → Later old new
later_trans old mid new a b = record {
  law = b.law ∙ a.law;
  start = b.start ∙ a.start;
  more = a.more ++ b.more;
  seen = b.seen ∙ ap (λ (xs : List Event). xs ++ b.more) a.seen ∙ append_assoc old.seen a.more b.more;
  counts = record {
    store = omega (arith, a.counts.store, b.counts.store);
    secrets = omega (arith, a.counts.secrets, b.counts.secrets);
    starts = omega (arith, a.counts.starts, b.counts.starts);
    clean = λ is. a.counts.clean (b.counts.clean is);
  };
  stored = λ has. b.stored (a.stored has);
}

pub later_refl : (book : Book) → Later book book
later_refl book = record {
  law = refl;
  start = refl;
  more = [];
  seen = sym (append-nil book.seen);
  counts = record { store = omega arith; secrets = omega arith; starts = omega arith; clean = λ is. is };
  stored = λ has. has;
}

-- nothing was done
pub none_taken : (book : Book) → TakesNone book book
none_taken book = record { later = later_refl book; accepted = refl; undrawn = refl; untold = record { starts = refl; stops = refl } }

pub later_longer : (old new : Book) → Later old new → length old.seen ≤ length new.seen
later_longer old new a = omega (arith, ap length a.seen, length-append old.seen a.more)

pub grew_trans : (a b c n m : ℕ) → b ≤ c → Grew a b n → Grew b c m → Grew a c (n + m)
grew_trans a b c n m le f h = λ lt. let first : a + n ≤ b = f (omega arith) in let second : b + m ≤ c = h lt in omega arith

-- how many asks failed
abbrev fails : List Ask → ℕ
fails asked = count_by (λ (ask : Ask). is_none ask.back) asked

pub asked_trans : (a b c : Line) (xs ys : List Ask) → AskedOf a b xs → AskedOf b c ys → AskedOf a c (xs ++ ys)
asked_trans a b c xs ys f h = record {
  told = λ list is. h.told (list ++ xs) (f.told list is) ∙ ap Some (append_assoc list xs ys);
  counts = omega (arith, f.counts, h.counts);
  counted = subst (λ n. Grew a.faults c.faults n) (sym (sum_by-append (λ (x : Ask). cond (is_none x.back) 1 0) xs ys)) (grew_trans a.faults b.faults c.faults (fails xs) (fails ys) h.counts f.counted h.counted);
}

pub asked_none : (line : Line) → AskedOf line line []
asked_none line = record { told = λ list is. is ∙ ap Some (sym (append-nil list)); counts = omega arith; counted = λ lt. omega arith }

pub asked_unasked : (before after : Line) → after.asked ≡ before.asked → before.faults ≤ after.faults → AskedOf before after []
asked_unasked before after same le = record { told = λ list is. same ∙ is ∙ ap Some (sym (append-nil list)); counts = le; counted = λ lt. omega arith }

-- what stood at a place stands there later too
pub judged_later : (old new : Book) (low lower : ℕ) (key : Key) (place : ℕ) (verdict : Verdict) → Later old new → lower ≤ low → Judged low old key place verdict → Judged lower new key place verdict
judged_later old new low lower key place verdict later less j = record {
  before = j.before;
  rest = j.rest ++ later.more;
  seen = later.seen ∙ ap (λ (xs : List Event). xs ++ later.more) j.seen ∙ append_assoc j.before j.rest later.more;
  place_is = j.place_is;
  low_is = omega (arith, j.low_is);
  formed = subst (λ (start : State). IsWellFormed (replay start j.before)) (sym later.start) j.formed;
  verdict_is = subst (λ (start : State). IsVerdict (replay start j.before) key verdict) (sym later.start) j.verdict_is;
}

pub judged_within : (book : Book) (low : ℕ) (key : Key) (place : ℕ) (verdict : Verdict) → Judged low book key place verdict → place ≤ length book.seen
judged_within book low key place verdict j = omega (arith, ap length j.seen, length-append j.before j.rest, j.place_is)
