-- What stands while a tunnel is served, and what serving it comes to.
use Rattle.std.proofs.Common.{◌≡◌, ℕ, ◌+◌, ◌<◌, ◌≤◌, ◌++◌, List, [], ◌∷◌, Option, Some, None, Ok, length, map, refl, sym, ◌∙◌, ap, subst, arith, append_assoc, append-nil, length-append, inl, inr}
use Rattle.std.specs.List.{flat_map}
use Rattle.std.proofs.lemmas.List.{map-append}
use Rattle.std.proofs.lemmas.Grind.{flat_map-append}
use Rattle.host_base.specs.declared.digest.Digest.{Digest}
use Rattle.host_base.specs.declared.key.Key.{Key}
use Rattle.host_base.specs.declared.key.Key.TheVariants as key
use Rattle.host_base.specs.declared.verdict.Verdict.TheVariants as verdict
use Rattle.grain_supervise.specs.declared.ask.Ask.{Ask}
use Rattle.hub_core.specs.Book.{Book, Later}
use Rattle.cloud_serve.specs.Effects.{AskedOf}
use Rattle.cloud_serve.proofs.Growth.{asked_trans, judged_later, judged_within, later_longer}
use Rattle.cloud_serve.proofs.Orders.{none_trans}
use Rattle.ws_tunnel.specs.Hall.{Hall}
use Rattle.ws_tunnel.specs.declared.message.Message.{Message}
use Rattle.tunnel_serve.specs.declared.tunnel_end.HallEnd.{HallEnd}
use Rattle.tunnel_serve.specs.declared.tunnel_end.HallEnd.TheVariants as end
use Rattle.tunnel_serve.specs.Exchanges.{AllGoOn, Answer, Exchange, GoesOn, places_in, reached}
use Rattle.tunnel_serve.specs.Tunnels.{digest_in, EndsMisopened, EndsWith, in_hand, LeftAt, limit, Misopened, Moved, Opened, TunnelRun, Unopened, WereAsked, Wired}
use Rattle.tunnel_serve.specs.Inner.{Did, IsMisopened, IsOpen, OneMore, Serves, StaysUnopened, Stops}
use Rattle.tunnel_serve.proofs.Moving.{cause_from, left_from, moved_trans}
use Rattle.tunnel_serve.proofs.Exchanging.{did_none}

-- what was lawful stays so when more is seen
goes_on_later : (old new : Book) → Later old new → (low : ℕ) (who : Digest) (e : Exchange) (number : ℕ) → GoesOn old low who e number → GoesOn new low who e number
goes_on_later old new later low who e number (inl long) = inl long
goes_on_later old new later low who e number (inr p) = inr (record {
  short = p.short;
  place = p.place;
  permit = p.permit;
  back = p.back;
  reply = p.reply;
  judged_is = p.judged_is;
  judged = judged_later old new low low (key.Session who) p.place (verdict.Forward p.permit) later (omega arith) p.judged;
  asked_is = p.asked_is;
  puts = p.puts;
  put_is = p.put_is;
})

all_later : (old new : Book) → Later old new → (low : ℕ) (who : Digest) (number : ℕ) (es : List Exchange) (high : ℕ) → AllGoOn old low who number es high → AllGoOn new low who number es high
all_later old new later low who number [] high are = are
all_later old new later low who number (e ∷ es) high are = (goes_on_later old new later low who e number are.0, all_later old new later (reached low e.judged) who (number + 1) es high are.1)

-- one message more
all-append : (book : Book) (low : ℕ) (who : Digest) (number : ℕ) (es : List Exchange) (high : ℕ) (e : Exchange) (next : ℕ) → next ≡ number + length es
    → AllGoOn book low who number es high → GoesOn book high who e next → AllGoOn book low who number (es ++ e ∷ []) (reached high e.judged)
all-append book low who number [] high e next is are goes =
    let same : next ≡ number = omega (arith, is) in
    (subst (λ (n : ℕ). GoesOn book low who e n) same (subst (λ (n : ℕ). GoesOn book n who e next) are goes), ap (λ (n : ℕ). reached n e.judged) are)
all-append book low who number (x ∷ es) high e next is are goes =
    (are.0, all-append book (reached low x.judged) who (number + 1) es high e next (omega (arith, is)) are.1 goes)

reached_by : (book : Book) (low high : ℕ) (judged answer : Option Answer) → judged ≡ answer → reached low answer ≤ high → reached low judged ≤ high
reached_by book low high judged answer is le = subst (λ (j : Option Answer). reached low j ≤ high) (sym is) le

reached_within : (book : Book) (low : ℕ) (who : Digest) (e : Exchange) (number : ℕ) → low ≤ length book.seen → GoesOn book low who e number → reached low e.judged ≤ length book.seen
reached_within book low who e number less (inl long) = reached_by book low (length book.seen) e.judged None long.unjudged less
reached_within book low who e number less (inr p) =
    reached_by book low (length book.seen) e.judged (Some (Ok (p.place, verdict.Forward p.permit))) p.judged_is (judged_within book low (key.Session who) p.place (verdict.Forward p.permit) p.judged)

-- what each of some messages came to, and of further ones
pieces : {A : Type 0} (f : Exchange → List A) (es fs : List Exchange) → flat_map f es ++ flat_map f fs ≡ flat_map f (es ++ fs)
pieces f es fs = sym (flat_map-append f es fs)

module _ {D : Type 0} (gave : D → Key → Answer → D → Type 0) (book : D → Book) (who : Digest) where
  asked-append : (k : Key) (before mid after : D) (es fs : List Exchange) → WereAsked gave k before es mid → WereAsked gave k mid fs after → WereAsked gave k before (es ++ fs) after
  asked-append k before mid after [] fs f h = subst (λ (d : D). WereAsked gave k d fs after) f h
  asked-append k before mid after (e ∷ es) fs f h = (f.0, f.1, asked-append k f.0 mid after es fs f.2 h)

  did_trans : (old now new : Wired) (before mid after : D) (places places' places'' : List ℕ) (counted counts counts' : ℕ) (es fs : List Exchange)
      → Did gave book who old now before mid places places' counted counts es → Did gave book who now new mid after places' places'' counts counts' fs
      → Did gave book who old new before after places places'' counted counts' (es ++ fs)
  did_trans old now new before mid after places places' places'' counted counts counts' es fs f h =
      let ask : Exchange → List Ask = λ e. e.asked in
      let put : Exchange → List Message = λ e. e.put in
      let place : Exchange → List ℕ = λ e. places_in e.judged in
      record {
        asked_desk = asked-append (key.Session who) before mid after es fs f.asked_desk h.asked_desk;
        none = none_trans (book before) (book mid) (book after) f.none h.none;
        places_are = h.places_are ∙ (ap (λ (ps : List ℕ). ps ++ flat_map place fs) f.places_are ∙ (append_assoc places (flat_map place es) (flat_map place fs) ∙ ap (λ (ps : List ℕ). places ++ ps) (pieces place es fs)));
        asked_of = subst (λ (xs : List Ask). AskedOf old.line new.line xs) (pieces ask es fs) (asked_trans old.line now.line new.line (flat_map ask es) (flat_map ask fs) f.asked_of h.asked_of);
        counts_is = h.counts_is ∙ (omega (arith, f.counts_is, length-append (flat_map ask es) (flat_map ask fs), ap length (pieces ask es fs)));
        moved = subst (λ (ms : List Message). Moved old.hall new.hall ms (flat_map put (es ++ fs))) (sym (map-append (λ (e : Exchange). e.message) es fs))
            (subst (λ (ps : List Message). Moved old.hall new.hall (map (λ (e : Exchange). e.message) es ++ map (λ (e : Exchange). e.message) fs) ps) (pieces put es fs)
            (moved_trans old.hall now.hall new.hall (map (λ (e : Exchange). e.message) es) (map (λ (e : Exchange). e.message) fs) (flat_map put es) (flat_map put fs) f.moved h.moved));
      }

  -- what stands once some messages were served
  pub record SoFar (old now : Wired) (before desk : D) (places places' : List ℕ) (counted counts number : ℕ) : Type 0 where
    pub es : List Exchange
    pub high : ℕ
    pub number_is : number ≡ length es
    pub within : high ≤ length (book desk).seen
    pub lawful : AllGoOn (book desk) (length (book before).seen) who 1 es high
    pub did : Did gave book who old now before desk places places' counted counts es

  pub so_far_none : (old : Wired) (desk : D) (places : List ℕ) (counted : ℕ) → SoFar old old desk desk places places counted counted 0
  so_far_none old desk places counted = record {
    es = [];
    high = length (book desk).seen;
    number_is = refl;
    within = omega arith;
    lawful = refl;
    did = did_none gave book who old old desk places counted refl (record { left = λ list is. (list, refl, is); put = λ list is. is ∙ ap Some (sym (append-nil list)); whole = refl; counts = omega arith });
  }

  pub so_far_more : (old now new : Wired) (before mid after : D) (places places' places'' : List ℕ) (counted counts counts' number : ℕ)
      → (s : SoFar old now before mid places places' counted counts number) → OneMore gave book who s.high (number + 1) now new mid after places' places'' counts counts'
      → SoFar old new before after places places'' counted counts' (number + 1)
  so_far_more old now new before mid after places places' places'' counted counts counts' number s o =
      let longer = later_longer (book mid) (book after) o.did.none.later in
      record {
        es = s.es ++ o.e ∷ [];
        high = reached s.high o.e.judged;
        number_is = omega (arith, s.number_is, length-append s.es (o.e ∷ []));
        within = reached_within (book after) s.high who o.e (number + 1) (omega (arith, s.within, longer)) o.goes_on;
        lawful = all-append (book after) (length (book before).seen) who 1 s.es s.high o.e (number + 1) (omega (arith, s.number_is))
            (all_later (book mid) (book after) o.did.none.later (length (book before).seen) who 1 s.es s.high s.lawful) o.goes_on;
        did = did_trans old now new before mid after places places' places'' counted counts counts' s.es (o.e ∷ []) s.did o.did;
      }

  -- the tunnel ended with or before the next message
  pub serves_when : (old now new : Wired) (before mid after : D) (places places' places'' : List ℕ) (counted counts counts' number : ℕ) (e : HallEnd)
      → (s : SoFar old now before mid places places' counted counts number) → number < limit → Stops gave book who s.high (number + 1) now new mid after places' places'' counts counts' e
      → Serves gave book who old new before after places places'' counted counts' e
  serves_when old now new before mid after places places' places'' counted counts counts' number e s less o = record {
    es = s.es;
    hand = o.hand;
    high = s.high;
    lawful = all_later (book mid) (book after) o.did.none.later (length (book before).seen) who 1 s.es s.high s.lawful;
    ends = o.ends (length s.es) (omega (arith, s.number_is)) (omega (arith, s.number_is));
    did = did_trans old now new before mid after places places' places'' counted counts counts' s.es (in_hand o.hand) s.did o.did;
    left = left_from e old.hall now.hall new.hall _ _ s.did.moved o.left;
    cause = cause_from e old.hall now.hall new.hall s.did.moved.counts o.did.moved.counts o.cause;
  }

  -- as many messages were served as there may be
  pub serves_spent : (old now : Wired) (before desk : D) (places places' : List ℕ) (counted counts : ℕ) → SoFar old now before desk places places' counted counts limit
      → Serves gave book who old now before desk places places' counted counts end.Spent
  serves_spent old now before desk places places' counted counts s = record {
    es = s.es;
    hand = None;
    high = s.high;
    lawful = s.lawful;
    ends = sym s.number_is;
    did = subst (λ (es : List Exchange). Did gave book who old now before desk places places' counted counts es) (sym (append-nil s.es)) s.did;
    left = tt;
    cause = tt;
  }

module _ {D : Type 0} (gave : D → Key → Answer → D → Type 0) (book : D → Book) where
  -- no first message came
  pub runs_unopened : (old new : Wired) (desk : D) (e : HallEnd) (from : ℕ) → from ≡ length (book desk).seen → new.line ≡ old.line → StaysUnopened old.hall new.hall e
      → TunnelRun gave book old new desk desk e from [] 0
  runs_unopened old new desk e from is line s =
      let d = did_none gave book (digest_in []) old new desk [] 0 line s.moved in
      record {
        course = Unopened;
        asked_desk = refl;
        run = record {
          from_is = is;
          lawful = s.ends;
          none = d.none;
          places_are = refl;
          asked_of = d.asked_of;
          passed_is = refl;
          moved = d.moved;
          left = s.left;
          cause = s.cause;
        };
      }

  left_misopened : (e : HallEnd) (old new : Hall) → EndsMisopened e → LeftAt e old new
  left_misopened end.Closed old new ends = absurd ends
  left_misopened (end.Refused reason) old new ends = tt
  left_misopened end.ReadFault old new ends = tt
  left_misopened end.WriteFault old new ends = tt
  left_misopened end.Spent old new ends = tt
  left_misopened end.Memory old new ends = tt

  -- the first message is no key
  pub runs_misopened : (old new : Wired) (desk : D) (e : HallEnd) (from : ℕ) → from ≡ length (book desk).seen → new.line ≡ old.line → IsMisopened old.hall new.hall e
      → TunnelRun gave book old new desk desk e from [] 0
  runs_misopened old new desk e from is line m =
      let d = did_none gave book (digest_in []) old (record { hall = old.hall; line = new.line }) desk [] 0 line (record { left = λ list told. (list, refl, told); put = λ list told. told ∙ ap Some (sym (append-nil list)); whole = refl; counts = omega arith }) in
      record {
        course = Misopened m.first;
        asked_desk = refl;
        run = record {
          from_is = is;
          lawful = (m.no_key, m.ends);
          none = d.none;
          places_are = refl;
          asked_of = d.asked_of;
          passed_is = refl;
          moved = m.moved;
          left = left_misopened e old.hall new.hall m.ends;
          cause = m.cause;
        };
      }

  -- the messages behind the key were served
  pub runs_opened : (old now new : Wired) (before after : D) (who : Digest) (e : HallEnd) (from : ℕ) (places : List ℕ) (passed : ℕ) → from ≡ length (book before).seen → now.line ≡ old.line
      → IsOpen old.hall now.hall who → Serves gave book who now new before after [] places 0 passed e → TunnelRun gave book old new before after e from places passed
  runs_opened old now new before after who e from places passed is line o s =
      let text = o.opened.text in
      let same : who ≡ digest_in text = o.opened.who_is in
      record {
        course = Opened text s.es s.hand;
        asked_desk = subst (λ (w : Digest). WereAsked gave (key.Session w) before (s.es ++ in_hand s.hand) after) same s.did.asked_desk;
        run = record {
          from_is = is;
          lawful = (
            o.opened.is_key,
            (
              s.high,
              subst (λ (w : Digest). AllGoOn (book after) from w 1 s.es s.high) same (subst (λ (n : ℕ). AllGoOn (book after) n who 1 s.es s.high) (sym is) s.lawful),
              subst (λ (w : Digest). EndsWith e s.hand (book after) s.high w (length s.es)) same s.ends,
            ),
          );
          none = s.did.none;
          places_are = s.did.places_are;
          asked_of = subst (λ (l : _). AskedOf l new.line (flat_map (λ (x : Exchange). x.asked) (s.es ++ in_hand s.hand))) line s.did.asked_of;
          passed_is = omega (arith, s.did.counts_is);
          moved = subst (λ (m : Message). Moved old.hall new.hall (m ∷ map (λ (x : Exchange). x.message) (s.es ++ in_hand s.hand)) (flat_map (λ (x : Exchange). x.put) (s.es ++ in_hand s.hand))) o.opened.first_is
              (moved_trans old.hall now.hall new.hall (o.first ∷ []) (map (λ (x : Exchange). x.message) (s.es ++ in_hand s.hand)) [] (flat_map (λ (x : Exchange). x.put) (s.es ++ in_hand s.hand)) o.moved s.did.moved);
          left = left_from e old.hall now.hall new.hall (o.first ∷ []) [] o.moved s.left;
          cause = cause_from e old.hall now.hall new.hall o.moved.counts s.did.moved.counts s.cause;
        };
      }
