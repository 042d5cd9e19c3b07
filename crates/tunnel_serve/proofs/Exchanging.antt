-- What serving one message comes to, over plain values.
use Rattle.std.proofs.Common.{◌≡◌, ℕ, ◌+◌, ◌<◌, ◌≤◌, ◌++◌, List, [], ◌∷◌, Option, Some, None, Result, Ok, Err, IfOk, codes, length, refl, sym, ◌∙◌, ap, subst, arith, append-nil, inl, inr}
use Rattle.std.specs.Prelude.{◌⊎◌}
use Rattle.host_base.specs.Outside.{Rose}
use Rattle.host_base.specs.declared.bytes.Memory.{Memory}
use Rattle.host_base.specs.declared.digest.Digest.{Digest}
use Rattle.host_base.specs.declared.key.Key.{Key}
use Rattle.host_base.specs.declared.key.Key.TheVariants as key
use Rattle.host_base.specs.declared.permit.Permit.{Permit}
use Rattle.host_base.specs.declared.request.Request.{Request}
use Rattle.bridge_headers.specs.Text.{grain_text}
use Rattle.host_base.specs.declared.verdict.Denial.{Denial}
use Rattle.host_base.specs.declared.verdict.Verdict.TheVariants as verdict
use Rattle.grain_supervise.specs.Line.{Line}
use Rattle.grain_supervise.specs.declared.ask.Ask.{Ask}
use Rattle.hub_core.specs.Book.{Book, Judged, TakesNone}
use Rattle.cloud_serve.specs.Effects.{AskedOf}
use Rattle.cloud_serve.specs.Turns.{ask_of}
use Rattle.cloud_serve.proofs.Growth.{asked_none, judged_later, later_refl, none_taken}
use Rattle.reply_texts.specs.Texts.{denial_body}
use Rattle.ws_tunnel.specs.Hall.{bytes_of, Hall}
use Rattle.ws_tunnel.specs.declared.message.Message.{Message}
use Rattle.ws_tunnel.specs.declared.message.Message.TheVariants as message
use Rattle.tunnel_serve.specs.declared.replies.Outcome.{Outcome}
use Rattle.tunnel_serve.specs.declared.replies.Outcome.TheVariants as outcome
use Rattle.tunnel_serve.specs.declared.tunnel_end.HallEnd.{HallEnd}
use Rattle.tunnel_serve.specs.declared.tunnel_end.HallEnd.TheVariants as end
use Rattle.tunnel_serve.specs.Exchanges.{Answer, Exchange, GoesOn, HasAsked, IsBroken, IsDenied, longest, notice, places_in, PutsBack, request_of}
use Rattle.tunnel_serve.specs.Tunnels.{CauseAt, EndsWith, LeftAt, limit, Moved, Wired}
use Rattle.tunnel_serve.specs.Inner.{Answers, Asks, AsksBy, Did, Settles, Steps, Stops}
use Rattle.tunnel_serve.proofs.Moving.{moved_refl, moved_trans, rose_later}

-- one text was asked, and what came back is put, or memory ran out
pub asks_by : (ask : Option (List ℕ) → Ask) (back : Option (List ℕ)) (result : Result Message Memory) → IfOk result (λ reply. PutsBack back reply) → AsksBy ask result (ask back ∷ [])
asks_by ask back (Ok reply) is = (back, refl, is)
asks_by ask back (Err memory) is = inr (back, refl)

-- the text that was asked is told as the grain's text of a request
pub told_as : (permit : Permit) (request : Request) (text : List ℕ) (back : Option (List ℕ)) (before after : Option (List Ask)) → text ≡ grain_text permit request
    → ((list : List Ask) → before ≡ Some list → after ≡ Some (list ++ record { run = permit.run; grain = permit.grain; text = text; back = back } ∷ []))
    → (list : List Ask) → before ≡ Some list → after ≡ Some (list ++ ask_of permit request back ∷ [])
told_as permit request text back before after same told list is =
    told list is ∙ ap (λ (t : List ℕ). Some (list ++ record { run = permit.run; grain = permit.grain; text = t; back = back } ∷ [])) same

-- an exchange with other messages put
abbrev putting : List Message → Exchange → Exchange
putting put e = record e { put = put }

-- memory ran out on a message on which that much had been asked
broken_from : (book : Book) (low : ℕ) (who : Digest) (e : Exchange) (judged : Option Answer) (asked : List Ask) → e.judged ≡ judged → e.asked ≡ asked
    → HasAsked book low who e.message judged asked → IsBroken book low who (putting [] e)
broken_from book low who e judged asked judged_is asked_is has = record {
  begun = subst (λ (j : Option Answer). HasAsked book low who e.message j e.asked) (sym judged_is) (subst (λ (xs : List Ask). HasAsked book low who e.message judged xs) (sym asked_is) has);
  unput = refl;
}

broken_going : (book : Book) (low : ℕ) (who : Digest) (e : Exchange) (number : ℕ) → GoesOn book low who e number → IsBroken book low who (putting [] e)
broken_going book low who e number (inl l) = broken_from book low who e None [] l.unjudged l.unasked refl
broken_going book low who e number (inr p) =
    broken_from book low who e (Some (Ok (p.place, verdict.Forward p.permit))) (ask_of p.permit (request_of e.message) p.back ∷ []) p.judged_is p.asked_is
    (p.judged, inr (p.permit, p.back, refl, refl))

broken_denied : (book : Book) (low : ℕ) (who : Digest) (e : Exchange) (reason : Denial) → IsDenied book low who e reason → IsBroken book low who (putting [] e)
broken_denied book low who e reason d =
    broken_from book low who e (Some (Ok (d.place, verdict.Deny reason))) [] d.judged_is d.unasked (d.judged, inl refl)

begun_ask : (permit : Permit) (m : Message) (memory : Memory) (asked : List Ask) → AsksBy (ask_of permit (request_of m)) (Err memory) asked
    → (asked ≡ []) ⊎ ((other : Permit) × (back : Option (List ℕ)) × (verdict.Forward permit ≡ verdict.Forward other) × (asked ≡ ask_of other (request_of m) back ∷ []))
begun_ask permit m memory asked (inl none) = inl none
begun_ask permit m memory asked (inr one) = inr (permit, one.0, refl, one.1)

module _ {D : Type 0} (gave : D → Key → Answer → D → Type 0) (book : D → Book) (who : Digest) where
  -- nothing was done
  pub did_none : (old new : Wired) (desk : D) (places : List ℕ) (counted : ℕ) → new.line ≡ old.line → Moved old.hall new.hall [] [] → Did gave book who old new desk desk places places counted counted []
  did_none old new desk places counted line moved = record {
    asked_desk = refl;
    none = none_taken (book desk);
    places_are = sym (append-nil places);
    asked_of = subst (λ (l : Line). AskedOf old.line l []) (sym line) (asked_none old.line);
    counts_is = omega arith;
    moved = moved;
  }

  -- a message was taken, and this was put
  did_one : (old new : Wired) (before after : D) (places places' : List ℕ) (counted counts low number : ℕ) (m : Message) (result : Result Outcome Memory) (put : List Message)
      → (a : Answers gave book old.line new.line before after places places' counted counts low who number m result) → Moved old.hall new.hall (m ∷ []) put
      → Did gave book who old new before after places places' counted counts (putting put a.e ∷ [])
  did_one old new before after places places' counted counts low number m result put a moved = record {
    asked_desk = (after, a.asked_desk, refl);
    none = a.none;
    places_are = a.places_are ∙ ap (λ (ps : List ℕ). places ++ ps) (sym (append-nil (places_in a.e.judged)));
    asked_of = subst (λ (xs : List Ask). AskedOf old.line new.line xs) (sym (append-nil a.e.asked)) a.asked_of;
    counts_is = a.counts_is ∙ ap (λ (xs : List Ask). counted + length xs) (sym (append-nil a.e.asked));
    moved = subst (λ (ms : List Message). Moved old.hall new.hall (ms) (put ++ [])) (ap (λ (x : Message). x ∷ []) (sym a.message_is))
        (subst (λ (ps : List Message). Moved old.hall new.hall (m ∷ []) ps) (sym (append-nil put)) moved);
  }

  module _ (old new : Wired) (mid : Hall) (before after : D) (places places' : List ℕ) (counted counts low number : ℕ) (m : Message) (took : Moved old.hall mid (m ∷ []) []) where
    -- what a message came to whose answer was `came`
    abbrev Came : Result Outcome Memory → Type 0
    Came came = Answers gave book old.line new.line before after places places' counted counts low who number m came

    abbrev Ends : HallEnd → Type 0
    Ends e = Stops gave book who low number old new before after places places' counted counts e

    stops : (e : HallEnd) (came : Result Outcome Memory) (a : Came came) (put : List Message) → Moved mid new.hall [] put
        → ((count : ℕ) → count < limit → number ≡ count + 1 → EndsWith e (Some (putting put a.e)) (book after) low who count)
        → LeftAt e old.hall new.hall → CauseAt e old.hall new.hall → Ends e
    stops e came a put moved ends left cause = record {
      hand = Some (putting put a.e);
      ends = ends;
      did = did_one old new before after places places' counted counts low number m came put a (moved_trans old.hall mid new.hall (m ∷ []) [] [] put took moved);
      left = left;
      cause = cause;
    }

    -- memory ran out before anything was to be put
    pub stops_broken : (memory : Memory) → new.hall ≡ mid → Came (Err memory) → Ends end.Memory
    stops_broken memory same a =
        stops end.Memory (Err memory) a [] (subst (λ (h : Hall). Moved mid h [] []) (sym same) (moved_refl mid))
        (λ count less is. (less, record { begun = a.outcome_is.begun; unput = refl })) tt tt

    rose : Moved mid new.hall [] [] → Rose mid.faults new.hall.faults → Rose old.hall.faults new.hall.faults
    rose moved r = rose_later old.hall.faults mid.faults new.hall.faults took.counts moved.counts r

    abbrev Came_to : Result (Unit {0}) HallEnd → Type 0
    Came_to result = Steps gave book who low number old new before after places places' counted counts result

    -- what came out was put, or wasn't
    pub steps_settled : (came : Outcome) (result : Result (Unit {0}) HallEnd) → Came (Ok came) → Settles mid new.hall came result → Came_to result
    steps_settled (outcome.GoesOn reply) (Ok done) a s = record {
      e = putting (reply ∷ []) a.e;
      goes_on = subst (λ (x : Exchange). GoesOn (book after) low who x number) (ap (λ (ps : List Message). putting ps a.e) a.outcome_is.0) a.outcome_is.1;
      did = did_one old new before after places places' counted counts low number m (Ok (outcome.GoesOn reply)) (reply ∷ []) a (moved_trans old.hall mid new.hall (m ∷ []) [] [] (reply ∷ []) took s);
    }
    steps_settled (outcome.GoesOn reply) (Err end.WriteFault) a s =
        stops end.WriteFault (Ok (outcome.GoesOn reply)) a [] s.0
        (λ count less is. (less, record { put = a.e.put; done = inl (subst (λ (n : ℕ). GoesOn (book after) low who a.e n) is a.outcome_is.1); unput = refl })) tt (rose s.0 s.1)
    steps_settled (outcome.GoesOn reply) (Err end.Memory) a s =
        stops end.Memory (Ok (outcome.GoesOn reply)) a [] s (λ count less is. (less, broken_going (book after) low who a.e number a.outcome_is.1)) tt tt
    steps_settled (outcome.GoesOn reply) (Err e) a s = absurd s
    steps_settled (outcome.Denied reason reply) (Err (end.Refused why)) a s =
        stops (end.Refused why) (Ok (outcome.Denied reason reply)) a (reply ∷ []) s.1
        (λ count less is. (
          less,
          subst (λ (r : Denial). IsDenied (book after) low who (putting (reply ∷ []) a.e) r) (sym s.0)
              (subst (λ (x : Exchange). IsDenied (book after) low who x reason) (ap (λ (ps : List Message). putting ps a.e) a.outcome_is.0) a.outcome_is.1),
        )) tt tt
    steps_settled (outcome.Denied reason reply) (Err end.WriteFault) a s =
        stops end.WriteFault (Ok (outcome.Denied reason reply)) a [] s.0
        (λ count less is. (less, record { put = a.e.put; done = inr (reason, a.outcome_is.1); unput = refl })) tt (rose s.0 s.1)
    steps_settled (outcome.Denied reason reply) (Err end.Memory) a s =
        stops end.Memory (Ok (outcome.Denied reason reply)) a [] s (λ count less is. (less, broken_denied (book after) low who a.e reason a.outcome_is.1)) tt tt
    steps_settled (outcome.Denied reason reply) result a s = absurd s

  -- the tunnel ended with no message in hand
  pub stops_bare : (old new : Wired) (desk : D) (places : List ℕ) (counted low number : ℕ) (e : HallEnd) → ((b : Book) (from count : ℕ) → count < limit → EndsWith e None b from who count)
      → new.line ≡ old.line → Moved old.hall new.hall [] [] → LeftAt e old.hall new.hall → CauseAt e old.hall new.hall → Stops gave book who low number old new desk desk places places counted counted e
  stops_bare old new desk places counted low number e ends line moved left cause = record {
    hand = None;
    ends = λ count less is. ends (book desk) low count less;
    did = did_none old new desk places counted line moved;
    left = left;
    cause = cause;
  }

  module _ (places : List ℕ) (number : ℕ) (m : Message) where
    -- what a message came to, before and after which the desk stood so
    abbrev Is : D → D → Line → Line → List ℕ → ℕ → ℕ → ℕ → Result Outcome Memory → Type 0
    Is before after line line' places' counted counts low came = Answers gave book line line' before after places places' counted counts low who number m came

    -- a message that is too long
    pub answers_long : (desk : D) (line : Line) (counted low : ℕ) (reply : Message) → longest < length (bytes_of m) → reply ≡ notice (codes "LongBody") (number ∷ []) → Is desk desk line line places counted counted low (Ok (outcome.GoesOn reply))
    answers_long desk line counted low reply long is = record {
      e = record { message = m; judged = None; asked = []; put = reply ∷ [] };
      message_is = refl;
      asked_desk = refl;
      none = none_taken (book desk);
      places_are = sym (append-nil places);
      asked_of = asked_none line;
      counts_is = omega arith;
      outcome_is = (refl, inl (record { long = long; unjudged = refl; unasked = refl; put_is = ap (λ (r : Message). r ∷ []) is }));
    }

    -- memory ran out before the desk was asked
    pub breaks_unasked : (desk : D) (line : Line) (counted low : ℕ) (memory : Memory) → Is desk desk line line places counted counted low (Err memory)
    breaks_unasked desk line counted low memory = record {
      e = record { message = m; judged = None; asked = []; put = [] };
      message_is = refl;
      asked_desk = refl;
      none = none_taken (book desk);
      places_are = sym (append-nil places);
      asked_of = asked_none line;
      counts_is = omega arith;
      outcome_is = record { begun = refl; unput = refl };
    }

    -- the desk had no memory for a verdict
    pub breaks_unjudged : (before after : D) (line : Line) (counted low : ℕ) (memory : Memory) → gave before (key.Session who) (Err memory) after → TakesNone (book before) (book after)
        → Is before after line line places counted counted low (Err memory)
    breaks_unjudged before after line counted low memory asked none = record {
      e = record { message = m; judged = Some (Err memory); asked = []; put = [] };
      message_is = refl;
      asked_desk = asked;
      none = none;
      places_are = sym (append-nil places);
      asked_of = asked_none line;
      counts_is = omega arith;
      outcome_is = record { begun = refl; unput = refl };
    }

    module _ (before after : D) (low place : ℕ) (short : length (bytes_of m) ≤ longest) (less : low ≤ length (book before).seen) (none : TakesNone (book before) (book after)) where
      -- the verdict was a denial
      pub answers_denied : (line : Line) (counted : ℕ) (reason : Denial) (reply : Message) → gave before (key.Session who) (Ok (place, verdict.Deny reason)) after
          → Judged (length (book before).seen) (book after) (key.Session who) place (verdict.Deny reason) → reply ≡ message.Text (denial_body reason)
          → Is before after line line (places ++ place ∷ []) counted counted low (Ok (outcome.Denied reason reply))
      answers_denied line counted reason reply asked judged is = record {
        e = record { message = m; judged = Some (Ok (place, verdict.Deny reason)); asked = []; put = reply ∷ [] };
        message_is = refl;
        asked_desk = asked;
        none = none;
        places_are = refl;
        asked_of = asked_none line;
        counts_is = omega arith;
        outcome_is = (
          refl,
          record {
            short = short;
            place = place;
            judged_is = refl;
            judged = judged_later (book after) (book after) (length (book before).seen) low (key.Session who) place (verdict.Deny reason) (later_refl (book after)) less judged;
            unasked = refl;
            put_is = ap (λ (r : Message). r ∷ []) is;
          },
        );
      }

      pub breaks_denied : (line : Line) (counted : ℕ) (reason : Denial) (memory : Memory) → gave before (key.Session who) (Ok (place, verdict.Deny reason)) after
          → Judged (length (book before).seen) (book after) (key.Session who) place (verdict.Deny reason) → Is before after line line (places ++ place ∷ []) counted counted low (Err memory)
      breaks_denied line counted reason memory asked judged = record {
        e = record { message = m; judged = Some (Ok (place, verdict.Deny reason)); asked = []; put = [] };
        message_is = refl;
        asked_desk = asked;
        none = none;
        places_are = refl;
        asked_of = asked_none line;
        counts_is = omega arith;
        outcome_is = record {
          begun = (judged_later (book after) (book after) (length (book before).seen) low (key.Session who) place (verdict.Deny reason) (later_refl (book after)) less judged, inl refl);
          unput = refl;
        };
      }

      -- the verdict was a denial, which was to be said
      pub answers_denial : (line : Line) (counted : ℕ) (reason : Denial) (came : Result Outcome Memory) → gave before (key.Session who) (Ok (place, verdict.Deny reason)) after
          → Judged (length (book before).seen) (book after) (key.Session who) place (verdict.Deny reason)
          → IfOk came (λ o. o ≡ outcome.Denied reason (message.Text (denial_body reason))) → Is before after line line (places ++ place ∷ []) counted counted low came
      answers_denial line counted reason (Ok o) asked judged is =
          subst (λ (x : Outcome). Is before after line line (places ++ place ∷ []) counted counted low (Ok x)) (sym is) (answers_denied line counted reason (message.Text (denial_body reason)) asked judged refl)
      answers_denial line counted reason (Err memory) asked judged is = breaks_denied line counted reason memory asked judged

      -- the message went through, and was answered
      pub answers_passed : (line line' : Line) (counted counts : ℕ) (permit : Permit) (reply : Message) → gave before (key.Session who) (Ok (place, verdict.Forward permit)) after
          → Judged (length (book before).seen) (book after) (key.Session who) place (verdict.Forward permit) → Asks line line' counted counts permit m (Ok reply)
          → Is before after line line' (places ++ place ∷ []) counted counts low (Ok (outcome.GoesOn reply))
      answers_passed line line' counted counts permit reply asked judged a = record {
        e = record { message = m; judged = Some (Ok (place, verdict.Forward permit)); asked = a.asked; put = reply ∷ [] };
        message_is = refl;
        asked_desk = asked;
        none = none;
        places_are = refl;
        asked_of = a.asked_of;
        counts_is = a.counts_is;
        outcome_is = (
          refl,
          inr (record {
            short = short;
            place = place;
            permit = permit;
            back = a.answered.0;
            reply = reply;
            judged_is = refl;
            judged = judged_later (book after) (book after) (length (book before).seen) low (key.Session who) place (verdict.Forward permit) (later_refl (book after)) less judged;
            asked_is = a.answered.1;
            puts = a.answered.2;
            put_is = refl;
          }),
        );
      }

      pub breaks_passed : (line line' : Line) (counted counts : ℕ) (permit : Permit) (memory : Memory) → gave before (key.Session who) (Ok (place, verdict.Forward permit)) after
          → Judged (length (book before).seen) (book after) (key.Session who) place (verdict.Forward permit) → Asks line line' counted counts permit m (Err memory)
          → Is before after line line' (places ++ place ∷ []) counted counts low (Err memory)
      breaks_passed line line' counted counts permit memory asked judged a = record {
        e = record { message = m; judged = Some (Ok (place, verdict.Forward permit)); asked = a.asked; put = [] };
        message_is = refl;
        asked_desk = asked;
        none = none;
        places_are = refl;
        asked_of = a.asked_of;
        counts_is = a.counts_is;
        outcome_is = record {
          begun = (judged_later (book after) (book after) (length (book before).seen) low (key.Session who) place (verdict.Forward permit) (later_refl (book after)) less judged, begun_ask permit m memory a.asked a.answered);
          unput = refl;
        };
      }
