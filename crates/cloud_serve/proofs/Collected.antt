-- The orders of a curator that collects, one after another.
use Rattle.std.proofs.Common.{◌≡◌, ◌≤◌, ◌<◌, ◌+◌, ◌++◌, ℕ, Bool, true, false, List, [], ◌∷◌, cond, Some, None, Result, Ok, Err, get_or, length, map, take, refl, sym, ◌∙◌, ap, subst, arith, inl, inr, append_assoc, length-append}
use Rattle.std.proofs.lemmas.List.{map-append, take_all, take_more}
use Rattle.std.proofs.lemmas.List.Elements.{All-nil, All-cons, All-append}
use Rattle.std.proofs.lemmas.List.Sums.{sum_by-append}
use Rattle.desk_orders.specs.Commands.{Asked}
use Rattle.desk_orders.specs.declared.reply.OrderFault.{OrderFault}
use Rattle.desk_orders.specs.declared.reply.Reply.{Reply}
use Rattle.desk_orders.specs.declared.reply.Reply.TheVariants as reply
use Rattle.host_base.specs.declared.ids.AccountId.{AccountId}
use Rattle.hub_core.specs.Book.{Book, Later, Ordered}
use Rattle.cloud_serve.specs.Acts.{Act, is_done, IsMade, past}
use Rattle.cloud_serve.specs.Collecting.{AreMade, EndsWith, Fails, giving, IsOfCurator, listed_by, past_all, place_after, question, shares, shows_share, StopsWith}
use Rattle.cloud_serve.specs.declared.sharing.Collecting.{Collecting}
use Rattle.cloud_serve.specs.Effects.{Came}
use Rattle.cloud_serve.specs.Inner.{EndsEach, EndsRound}
use Rattle.cloud_serve.proofs.Growth.{later_longer, later_refl}
use Rattle.cloud_serve.proofs.Orders.{act_of, ordered_one, ordered_refl, ordered_trans, placed_later, placed_within}

place_append : (p : ℕ) (xs ys : List Act) → place_after p (xs ++ ys) ≡ place_after (place_after p xs) ys
place_append p [] ys = refl
place_append p (x ∷ xs) ys = place_append x.place xs ys

-- an order that was made stays so when more is seen, and behind an earlier moment
pub made_lower : (old new : Book) → Later old new → (low lower : ℕ) → lower ≤ low → (order : Asked) (act : Act) → IsMade old low order act → IsMade new lower order act
made_lower old new later low lower less order act m =
    record { order_is = m.order_is; placed = placed_later old new low lower order act.place act.answer act.drawn act.added act.app later less m.placed }

pub are_later : (old new : Book) → Later old new → (low : ℕ) (acts : List Act) → AreMade old low acts → AreMade new low acts
are_later old new later low [] are = tt
are_later old new later low (x ∷ xs) are = (made_lower old new later low low (omega arith) x.order x are.0, are_later old new later (past x) xs are.1)

pub are_lower : (book : Book) (lower low : ℕ) → lower ≤ low → (acts : List Act) → AreMade book low acts → AreMade book lower acts
are_lower book lower low less [] are = tt
are_lower book lower low less (x ∷ xs) are = (made_lower book book (later_refl book) low lower less x.order x are.0, are.1)

are_append : (book : Book) (low high : ℕ) (xs ys : List Act) → past_all low xs ≤ high → AreMade book low xs → AreMade book high ys → AreMade book low (xs ++ ys)
are_append book low high [] ys less first second = are_lower book low high less ys second
are_append book low high (x ∷ xs) ys less first second = (first.0, are_append book (past x) high xs ys less first.1 second)

pub are_within : (book : Book) (low : ℕ) (acts : List Act) → low ≤ length book.seen → AreMade book low acts → past_all low acts ≤ length book.seen
are_within book low [] less are = less
are_within book low (x ∷ xs) less are = are_within book (past x) xs (placed_within book low x.order x.place x.answer x.drawn x.added x.app are.0.placed) are.1

shares_append : (xs ys : List Act) → shares (xs ++ ys) ≡ shares xs + shares ys
shares_append xs ys = sum_by-append (λ (act : Act). cond (shows_share act.answer) 1 0) xs ys

-- where no order was made, the place is the one before
pub came_none : (asks : Collecting) (place : ℕ) (book : Book) (Ends : List Act → Type 0) → Ends [] → Came asks place book book place Ends
came_none asks place book Ends ends = record {
  acts = [];
  collecting = record { made = tt; orders = All-nil (IsOfCurator asks) };
  ordered_of = ordered_refl book;
  place_is = refl;
  ends = ends;
}

-- no member was given its share yet
pub each_none : (asks : Collecting) (members : List AccountId) → EndsEach asks (take 0 members) [] (Ok 0)
each_none asks [] = (refl, refl)
each_none asks (x ∷ xs) = (refl, refl)

-- a truth as a number
pub as_number : (gave : Bool) (n : ℕ) → (gave ≡ true → n ≡ 1) → (gave ≡ false → n ≡ 0) → n ≡ cond gave 1 0
as_number true n one none = one refl
as_number false n one none = none refl

pub at_most_one : (gave : Bool) → cond gave 1 0 ≤ 1
at_most_one true = omega arith
at_most_one false = omega arith

-- there is one order, with this answer
abbrev pub Only : Asked → Result Reply OrderFault → List Act → Type 0
Only order answer acts = (act : Act) × (acts ≡ act ∷ []) × (act.order ≡ order) × (act.answer ≡ answer)

pub came_one : (asks : Collecting) (before : ℕ) (old new : Book) (order : Asked) (place : ℕ) (answer : Result Reply OrderFault) → ((act : Act) → act.order ≡ order → IsOfCurator asks act)
    → Ordered old new order place answer → Came asks before old new place (Only order answer)
came_one asks before old new order place answer of o =
    let act : Act = act_of order place answer o.drawn o.added o.app in
    record {
      acts = act ∷ [];
      collecting = record {
        made = (record { order_is = refl; placed = o.placed }, tt);
        orders = All-cons (IsOfCurator asks) act [] (of act refl) (All-nil (IsOfCurator asks));
      };
      ordered_of = ordered_one old new order place answer o;
      place_is = refl;
      ends = (act, refl, refl, refl);
    }

-- the order for a member, and the question
pub came_given : (asks : Collecting) (before : ℕ) (old new : Book) (member : AccountId) (order : Asked) (place : ℕ) (answer : Result Reply OrderFault) → order ≡ giving asks member
    → Ordered old new order place answer → Came asks before old new place (Only (giving asks member) answer)
came_given asks before old new member order place answer is o =
    came_one asks before old new (giving asks member) place answer (λ act same. inr (member, same)) (subst (λ (x : Asked). Ordered old new x place answer) is o)

pub came_asked : (asks : Collecting) (before : ℕ) (old new : Book) (order : Asked) (place : ℕ) (answer : Result Reply OrderFault) → order ≡ question asks
    → Ordered old new order place answer → Came asks before old new place (Only (question asks) answer)
came_asked asks before old new order place answer is o =
    came_one asks before old new (question asks) place answer (λ act same. inl same) (subst (λ (x : Asked). Ordered old new x place answer) is o)

pub came_trans : (asks : Collecting) (p q r : ℕ) (old mid new : Book) (A B C : List Act → Type 0) → ((xs ys : List Act) → A xs → B ys → C (xs ++ ys))
    → Came asks p old mid q A → Came asks q mid new r B → Came asks p old new r C
came_trans asks p q r old mid new A B C join a b = record {
  acts = a.acts ++ b.acts;
  collecting = record {
    made = are_append new (length old.seen) (length mid.seen) a.acts b.acts
        (are_within mid (length old.seen) a.acts (later_longer old mid a.ordered_of.later) a.collecting.made)
        (are_later mid new b.ordered_of.later (length old.seen) a.acts a.collecting.made) b.collecting.made;
    orders = All-append (IsOfCurator asks) a.acts b.acts a.collecting.orders b.collecting.orders;
  };
  ordered_of = ordered_trans old mid new a.acts b.acts a.ordered_of b.ordered_of;
  place_is = b.place_is ∙ ap (λ (n : ℕ). place_after n b.acts) a.place_is ∙ sym (place_append p a.acts b.acts);
  ends = join a.acts b.acts a.ends b.ends;
}

pub came_map : (asks : Collecting) (p q : ℕ) (old new : Book) (A B : List Act → Type 0) → ((acts : List Act) → A acts → B acts) → Came asks p old new q A → Came asks p old new q B
came_map asks p q old new A B turn a = record { acts = a.acts; collecting = a.collecting; ordered_of = a.ordered_of; place_is = a.place_is; ends = turn a.acts a.ends }

-- an order that stopped behind others
stops_behind : (asks : Collecting) (xs ys : List Act) (answer : Result Reply OrderFault) → StopsWith asks ys answer → StopsWith asks (xs ++ ys) answer
stops_behind asks xs ys answer s = record {
  earlier = xs ++ s.earlier;
  last = s.last;
  acts_are = ap (λ (zs : List Act). xs ++ zs) s.acts_are ∙ sym (append_assoc xs s.earlier (s.last ∷ []));
  fails = s.fails;
  answer_is = s.answer_is;
}

-- one order that stopped
stops_once : (asks : Collecting) (act : Act) (back : Result Reply OrderFault) → Fails asks act → back ≡ act.answer → StopsWith asks (act ∷ []) back
stops_once asks act back fails is = record { earlier = []; last = act; acts_are = refl; fails = fails; answer_is = is }

module _ (asks : Collecting) where
  -- one more member was given its share
  pub each_more : (members : List AccountId) (n : ℕ) (d : AccountId) (made : ℕ) (gave : Bool) (answer : Result Reply OrderFault) → n < length members → gave ≡ shows_share answer
      → (xs ys : List Act) → EndsEach asks (take n members) xs (Ok made) → Only (giving asks (get_or members n d)) answer ys → EndsEach asks (take (n + 1) members) (xs ++ ys) (Ok (made + cond gave 1 0))
  each_more members n d made gave answer less is xs ys so (act, one, order_is, answer_is) =
      let member : AccountId = get_or members n d in
      let more : take (n + 1) members ≡ take n members ++ member ∷ [] = take_more members n d less in
      let orders : map (λ (a : Act). a.order) ys ≡ giving asks member ∷ [] = ap (map (λ (a : Act). a.order)) one ∙ ap (λ (o : Asked). o ∷ []) order_is in
      let shown : shares (act ∷ []) ≡ cond gave 1 0 = omega (arith, ap (λ (b : Bool). 0 + cond b 1 0) (ap shows_share answer_is ∙ sym is)) in
      let counted : shares ys ≡ cond gave 1 0 = ap shares one ∙ shown in (
        map-append (λ (a : Act). a.order) xs ys ∙ ap (λ (os : List Asked). os ++ map (λ (a : Act). a.order) ys) so.0
            ∙ ap (λ (os : List Asked). map (giving asks) (take n members) ++ os) orders
            ∙ sym (map-append (giving asks) (take n members) (member ∷ [])) ∙ ap (map (giving asks)) (sym more),
        omega (arith, so.1, shares_append xs ys, counted),
      )

  -- a member wasn't given its share
  pub each_stops : (members : List AccountId) (member : AccountId) (answer back : Result Reply OrderFault) → is_done answer ≡ false → back ≡ answer
      → (xs ys : List Act) → Only (giving asks member) answer ys → EndsEach asks members (xs ++ ys) (Err back)
  each_stops members member answer back undone is xs ys (act, one, order_is, answer_is) =
      subst (λ (zs : List Act). StopsWith asks (xs ++ zs) back) (sym one)
      (stops_behind asks xs (act ∷ []) back (stops_once asks act back (inr (member, order_is, ap is_done answer_is ∙ undone)) (is ∙ sym answer_is)))

  -- each was given its share
  pub each_done : (members : List AccountId) (n made : ℕ) → length members ≤ n → (acts : List Act) → EndsEach asks (take n members) acts (Ok made) → EndsEach asks members acts (Ok made)
  each_done members n made all acts so = (so.0 ∙ ap (map (giving asks)) (take_all n members all), so.1)

  -- the list of members shows no share
  listed_none : (answer : Result Reply OrderFault) (members : List AccountId) → listed_by answer ≡ Some members → shows_share answer ≡ false
  listed_none (Ok (reply.Listed told)) members is = refl
  listed_none (Ok (reply.Made made text)) members is = cc
  listed_none (Ok (reply.Refused why)) members is = refl
  listed_none (Err fault) members is = refl

  -- the question was answered, and each member that it listed was given its share, or the orders stopped
  pub round_ends : (answer : Result Reply OrderFault) (members : List AccountId) (outcome : Result ℕ (Result Reply OrderFault)) → listed_by answer ≡ Some members
      → (xs ys : List Act) → Only (question asks) answer xs → EndsEach asks members ys outcome → EndsRound asks (xs ++ ys) outcome
  round_ends answer members (Ok made) listed xs ys (act, one, order_is, answer_is) so =
      let acts_are : xs ++ ys ≡ act ∷ ys = ap (λ (zs : List Act). zs ++ ys) one in
      let none : shares (act ∷ []) ≡ 0 = omega (arith, ap (λ (b : Bool). 0 + cond b 1 0) (ap shows_share answer_is ∙ listed_none answer members listed)) in
      let first : shares (act ∷ ys) ≡ shares ys = omega (arith, shares_append (act ∷ []) ys, none) in (
        record {
          first = act;
          rest = ys;
          members = members;
          acts_are = acts_are;
          asked = order_is;
          listed = ap listed_by answer_is ∙ listed;
          each = so.0;
        },
        so.1 ∙ sym first ∙ ap shares (sym acts_are),
      )
  round_ends answer members (Err back) listed xs ys only so = stops_behind asks xs ys back so

  -- the question wasn't answered by members
  pub round_stops : (answer back : Result Reply OrderFault) → listed_by answer ≡ None → back ≡ answer → (acts : List Act) → Only (question asks) answer acts → EndsRound asks acts (Err back)
  round_stops answer back none is acts (act, one, order_is, answer_is) =
      subst (λ (zs : List Act). StopsWith asks zs back) (sym one) (stops_once asks act back (inl (order_is, ap listed_by answer_is ∙ none)) (is ∙ sym answer_is))

  -- a round that gave nothing
  pub nothing_left : (shared made : ℕ) → 0 ≡ made → (xs ys : List Act) → shared ≡ shares xs → EndsRound asks ys (Ok made) → EndsWith asks (xs ++ ys) (Ok shared)
  nothing_left shared made none xs ys so round =
      (omega (arith, so, shares_append xs ys, round.1, none), inl (xs, ys, refl, round.0, omega (arith, round.1, none)))

  -- a round that gave some
  pub shared_more : (shared made : ℕ) (xs ys : List Act) → shared ≡ shares xs → EndsRound asks ys (Ok made) → shared + made ≡ shares (xs ++ ys)
  shared_more shared made xs ys so round = omega (arith, so, shares_append xs ys, round.1)

  -- a round that stopped
  pub stops_later : (shared : ℕ) (back : Result Reply OrderFault) (xs ys : List Act) → shared ≡ shares xs → EndsRound asks ys (Err back) → EndsWith asks (xs ++ ys) (Err back)
  stops_later shared back xs ys so stops = stops_behind asks xs ys back stops

  -- there was an order at least
  some_order : (outcome : Result ℕ (Result Reply OrderFault)) → EndsWith asks [] outcome → ⊥
  some_order (Ok made) (is, inl (earlier, last, acts_are, round, none)) =
      absurd (omega (arith, ap length acts_are, length-append earlier last, ap length round.acts_are))
  some_order (Ok made) (is, inr many) = absurd (omega (arith, many))
  some_order (Err back) s = absurd (omega (arith, ap length s.acts_are, length-append s.earlier (s.last ∷ [])))

  pub same_place : (a b : ℕ) (acts : List Act) (outcome : Result ℕ (Result Reply OrderFault)) → EndsWith asks acts outcome → place_after a acts ≡ place_after b acts
  same_place a b [] outcome ends = absurd (some_order outcome ends)
  same_place a b (x ∷ xs) outcome ends = refl
