-- Asked sockets that are handed over one after another, and ways that refuse them.
use Rattle.std.proofs.Common.{◌≡◌, ℕ, zero, suc, ◌+◌, ◌<◌, List, [], ◌∷◌, ◌++◌, length, slice_get, slice_set, sum_by, take, option_to_list, Option, Some, None, refl, sym, ap, subst, ◌∙◌, append-nil, append_assoc, arith}
use Rattle.std.specs.List.{All, AllByRecursion}
use Rattle.std.proofs.lemmas.List.{length-append}
use Rattle.std.proofs.lemmas.List.Elements.{All-cons, All-head, All-nil, All-tail, All-weaker}
use Rattle.std.proofs.lemmas.List.Sums.{sum_by-cons, sum_by_push}
use Rattle.m2_bytes.proofs.m2_lemmas.Lists.{all_append, all_last, all_so}
use Rattle.m2_mailbox.proofs.Sublists.{sub_longer, sub_push}
use Rattle.m2_mailbox.specs.Merge.{IsMerge, IsSublist}
use Rattle.m2_mailbox.specs.Views.{put_by}
use Rattle.m2_handover.specs.Door.{DoorNow, GoesBy, Hands, HandsAll, HandsFirst}
use Rattle.m2_handover.specs.Handed.{OnItsWay}
use Rattle.m2_handover.specs.Way.{AreLater, EachHasPut, HavePut, IsAtHomeIn, Refuses, WasRefused, WayNow, put_all, with_put}

-- ---- lists

stood_length : (taken rest all : List OnItsWay) → all ≡ taken ++ rest → length all ≡ length taken + length rest
stood_length taken rest all e = ap length e ∙ length-append taken rest

stood_more : (taken : List OnItsWay) (next : OnItsWay) (rest all was : List OnItsWay) → all ≡ taken ++ was → was ≡ next ∷ rest → all ≡ (taken ++ next ∷ []) ++ rest
stood_more taken next rest all was stood e = stood ∙ (ap (λ l. taken ++ l) e ∙ sym (append_assoc taken (next ∷ []) rest))

counts_more : (taken : List OnItsWay) (next : OnItsWay) (count : ℕ) → length taken ≡ count → length (taken ++ next ∷ []) ≡ count + 1
counts_more taken next count e = length-append taken (next ∷ []) ∙ (let h : length taken + 1 ≡ count + 1 = omega (arith, e) in h)

-- ---- ways later on

put_more : (hs more : List OnItsWay) (puts : List (List OnItsWay)) → put_all more (put_all hs puts) ≡ put_all (hs ++ more) puts
put_more [] more puts = refl
put_more (h ∷ hs) [] puts = ap (λ l. put_all l puts) (sym (append-nil (h ∷ hs)))
put_more (h ∷ hs) (m ∷ more) [] = refl
put_more (h ∷ hs) (m ∷ more) (own ∷ joined) = ap (λ l. l ∷ joined) (append_assoc own (h ∷ hs) (m ∷ more))

put_one : (h : OnItsWay) (puts : List (List OnItsWay)) → put_by h puts ≡ put_all (h ∷ []) puts
put_one h [] = refl
put_one h (own ∷ joined) = refl

none_put : (w : WayNow) → HavePut [] w w
none_put w = record { home = tt; put = refl }

one_put : (h : OnItsWay) (w : WayNow) → IsAtHomeIn w.home h → HavePut (h ∷ []) w (with_put h w)
one_put h w home = record { home = (home, tt); put = ap (λ p. record w { put = p }) (put_one h w.put) }

more_put : (hs more : List OnItsWay) (a b c : WayNow) → HavePut hs a b → HavePut more b c → HavePut (hs ++ more) a c
more_put hs more a b c f g = record {
  home = all_append (IsAtHomeIn a.home) hs more f.home (subst (λ (w : WayNow). AllByRecursion (IsAtHomeIn w.home) more) f.put g.home);
  put = g.put ∙ (ap (λ (w : WayNow). record w { put = put_all more w.put }) f.put ∙ ap (λ p. record a { put = p }) (put_more hs more a.put));
}

-- nothing by any way
abbrev no_puts : List WayNow → List (List OnItsWay)
no_puts [] = []
no_puts (w ∷ ws) = [] ∷ no_puts ws

none_by_each : (ws : List WayNow) → EachHasPut (no_puts ws) ws ws
none_by_each [] = tt
none_by_each (w ∷ ws) = (none_put w, none_by_each ws)

-- by each way these, and then those
abbrev both_puts : (xs ys : List (List OnItsWay)) → List (List OnItsWay)
both_puts (x ∷ xs) (y ∷ ys) = (x ++ y) ∷ both_puts xs ys
both_puts _ _ = []

both_by_each : (xs ys : List (List OnItsWay)) (a b c : List WayNow) → EachHasPut xs a b → EachHasPut ys b c → EachHasPut (both_puts xs ys) a c
both_by_each [] [] [] [] [] f g = tt
both_by_each (x ∷ xs) (y ∷ ys) (u ∷ a) (v ∷ b) (w ∷ c) f g = (more_put x y u v w f.0 g.0, both_by_each xs ys a b c f.1 g.1)
both_by_each [] ys [] (v ∷ b) c f g = absurd f
both_by_each [] ys (u ∷ a) b c f g = absurd f
both_by_each (x ∷ xs) ys [] b c f g = absurd f
both_by_each (x ∷ xs) ys (u ∷ a) [] c f g = absurd f
both_by_each [] (y ∷ ys) [] [] c f g = absurd g
both_by_each [] [] [] [] (w ∷ c) f g = absurd g
both_by_each (x ∷ xs) [] (u ∷ a) (v ∷ b) c f g = absurd g
both_by_each (x ∷ xs) (y ∷ ys) (u ∷ a) (v ∷ b) [] f g = absurd g

pub are_later_same : (ws : List WayNow) → AreLater ws ws
are_later_same ws = (no_puts ws, none_by_each ws)

pub are_later_more : (a b c : List WayNow) → AreLater a b → AreLater b c → AreLater a c
are_later_more a b c f g = (both_puts f.0 g.0, both_by_each f.0 g.0 a b c f.1 g.1)

-- one more by the way at this place
abbrev put_at : ℕ → OnItsWay → List (List OnItsWay) → List (List OnItsWay)
put_at k h [] = []
put_at zero h (l ∷ ls) = (l ++ h ∷ []) ∷ ls
put_at (suc k) h (l ∷ ls) = l ∷ put_at k h ls

one_more_by : (k : ℕ) (h : OnItsWay) (put : List (List OnItsWay)) (old mid : List WayNow) (before : WayNow) → EachHasPut put old mid → slice_get mid k ≡ Some before → IsAtHomeIn before.home h
    → EachHasPut (put_at k h put) old (slice_set mid k (with_put h before))
one_more_by k h put old [] before each there home = absurd (cc)
one_more_by k h [] [] (m ∷ mid) before each there home = absurd each
one_more_by k h [] (o ∷ old) (m ∷ mid) before each there home = absurd each
one_more_by k h (l ∷ put) [] (m ∷ mid) before each there home = absurd each
one_more_by zero h (l ∷ put) (o ∷ old) (m ∷ mid) before each there home =
    let is : m ≡ before = cc in
    (more_put l (h ∷ []) o before (with_put h before) (subst (HavePut l o) is each.0) (one_put h before home), each.1)
one_more_by (suc k) h (l ∷ put) (o ∷ old) (m ∷ mid) before each there home = (each.0, one_more_by k h put old mid before each.1 there home)

-- such a place is one of the lists
place_within : (k : ℕ) (put : List (List OnItsWay)) (old mid : List WayNow) (before : WayNow) → EachHasPut put old mid → slice_get mid k ≡ Some before → k < length put
place_within k put old [] before each there = absurd (cc)
place_within k [] [] (m ∷ mid) before each there = absurd each
place_within k [] (o ∷ old) (m ∷ mid) before each there = absurd each
place_within k (l ∷ put) [] (m ∷ mid) before each there = absurd each
place_within zero (l ∷ put) (o ∷ old) (m ∷ mid) before each there = omega arith
place_within (suc k) (l ∷ put) (o ∷ old) (m ∷ mid) before each there = let within = place_within k put old mid before each.1 there in omega (arith, within)

later_by : (place : ℕ) (h : OnItsWay) (old new : List WayNow) → GoesBy place h old new → AreLater old new
later_by place h old new g =
    (put_at place h (no_puts old), subst (EachHasPut (put_at place h (no_puts old)) old) (sym g.put) (one_more_by place h (no_puts old) old old g.before (none_by_each old) g.there g.home))

-- ---- what went by the ways, and what stays

at_weighs : (weight : OnItsWay → ℕ) (k : ℕ) (h : OnItsWay) (put : List (List OnItsWay)) → k < length put → sum_by (sum_by weight) (put_at k h put) ≡ sum_by (sum_by weight) put + weight h
at_weighs weight k h [] within = absurd (omega (arith, within))
at_weighs weight zero h (l ∷ ls) within =
    omega (arith, sum_by-cons (sum_by weight) (l ++ h ∷ []) ls, sum_by-cons (sum_by weight) l ls, sum_by_push weight l h)
at_weighs weight (suc k) h (l ∷ ls) within =
    let rest = at_weighs weight k h ls (omega (arith, within)) in
    omega (arith, sum_by-cons (sum_by weight) l (put_at k h ls), sum_by-cons (sum_by weight) l ls, rest)

longer_all : (lists : List (List OnItsWay)) (whole : List OnItsWay) (h : OnItsWay) → All (λ l. IsSublist l whole) lists → All (λ l. IsSublist l (whole ++ h ∷ [])) lists
longer_all lists whole h all = All-weaker (λ l. IsSublist l whole) (λ l. IsSublist l (whole ++ h ∷ [])) (λ l s. sub_longer l whole h s) lists all

at_in_order : (k : ℕ) (h : OnItsWay) (put : List (List OnItsWay)) (whole : List OnItsWay) → All (λ l. IsSublist l whole) put → All (λ l. IsSublist l (whole ++ h ∷ [])) (put_at k h put)
at_in_order k h [] whole all = All-nil (λ l. IsSublist l (whole ++ h ∷ []))
at_in_order zero h (l ∷ ls) whole all =
    All-cons (λ m. IsSublist m (whole ++ h ∷ [])) (l ++ h ∷ []) ls
    (sub_push l whole h (All-head (λ m. IsSublist m whole) l ls all))
    (longer_all ls whole h (All-tail (λ m. IsSublist m whole) l ls all))
at_in_order (suc k) h (l ∷ ls) whole all =
    All-cons (λ m. IsSublist m (whole ++ h ∷ [])) l (put_at k h ls)
    (sub_longer l whole h (All-head (λ m. IsSublist m whole) l ls all))
    (at_in_order k h ls whole (All-tail (λ m. IsSublist m whole) l ls all))

-- one more went
went_more : (k : ℕ) (h : OnItsWay) (stay : List OnItsWay) (put : List (List OnItsWay)) (whole : List OnItsWay) → k < length put → IsMerge OnItsWay (stay ∷ put) whole
    → IsMerge OnItsWay (stay ∷ put_at k h put) (whole ++ h ∷ [])
went_more k h stay put whole within m = record {
  weighs = λ weight.
      let was = m.weighs weight in
      omega (arith, was, sum_by-cons (sum_by weight) stay put, sum_by-cons (sum_by weight) stay (put_at k h put), at_weighs weight k h put within, sum_by_push weight whole h);
  in_order = at_in_order (suc k) h (stay ∷ put) whole m.in_order;
}

-- one more stays
stays_more : (h : OnItsWay) (stay : List OnItsWay) (put : List (List OnItsWay)) (whole : List OnItsWay) → IsMerge OnItsWay (stay ∷ put) whole
    → IsMerge OnItsWay ((stay ++ h ∷ []) ∷ put) (whole ++ h ∷ [])
stays_more h stay put whole m = record {
  weighs = λ weight.
      let was = m.weighs weight in
      omega (arith, was, sum_by-cons (sum_by weight) stay put, sum_by-cons (sum_by weight) (stay ++ h ∷ []) put, sum_by_push weight stay h, sum_by_push weight whole h);
  in_order = at_in_order zero h (stay ∷ put) whole m.in_order;
}

-- of none, none
nothing_weighs : (weight : OnItsWay → ℕ) (ws : List WayNow) → sum_by (sum_by weight) (no_puts ws) ≡ 0
nothing_weighs weight [] = refl
nothing_weighs weight (w ∷ ws) = omega (arith, sum_by-cons (sum_by weight) [] (no_puts ws), nothing_weighs weight ws)

nothing_in_order : (ws : List WayNow) → All (λ l. IsSublist l []) (no_puts ws)
nothing_in_order [] = All-nil (λ l. IsSublist l [])
nothing_in_order (w ∷ ws) = All-cons (λ l. IsSublist l []) [] (no_puts ws) refl (nothing_in_order ws)

none_merged : (ws : List WayNow) → IsMerge OnItsWay ([] ∷ no_puts ws) []
none_merged ws = record {
  weighs = λ weight. omega (arith, sum_by-cons (sum_by weight) [] (no_puts ws), nothing_weighs weight ws);
  in_order = All-cons (λ l. IsSublist l []) [] (no_puts ws) refl (nothing_in_order ws);
}

-- the way at this place takes what is at home there
pub goes_by_way : (k : ℕ) (h left : OnItsWay) (old now : List WayNow) (w after : WayNow) → left ≡ h → now ≡ old → slice_get now k ≡ Some w → IsAtHomeIn w.home left →
    after ≡ with_put left w → (place : ℕ) × GoesBy place h old (slice_set now k after)
goes_by_way k h left old now w after is same there home put = (
  k,
  record {
    before = w;
    there = ap (λ ws. slice_get ws k) (sym same) ∙ there;
    home = subst (IsAtHomeIn w.home) is home;
    put = ap (λ ws. slice_set ws k after) same ∙ (ap (slice_set old k) put ∙ ap (λ x. slice_set old k (with_put x w)) is);
  },
)

-- ---- ways that refuse

-- the ways that were asked so far have refused
pub refused_more : (h : OnItsWay) (ws : List WayNow) (k : ℕ) (w : WayNow) → AllByRecursion (Refuses h) (take k ws) → slice_get ws k ≡ Some w → Refuses h w → AllByRecursion (Refuses h) (take (k + 1) ws)
refused_more h [] k w all there r = absurd (cc)
refused_more h (x ∷ ws) zero w all there r = let is : w ≡ x = cc in (subst (Refuses h) is r, tt)
refused_more h (x ∷ ws) (suc k) w all there r =
    let next : suc (k + 1) ≡ suc k + 1 = omega arith in subst (λ n. AllByRecursion (Refuses h) (take n (x ∷ ws))) next (all.0, refused_more h ws k w all.1 there r)

pub refused_all : (h : OnItsWay) (ws : List WayNow) (k : ℕ) → AllByRecursion (Refuses h) (take k ws) → k ≡ length ws → AllByRecursion (Refuses h) ws
refused_all h [] k all e = tt
refused_all h (x ∷ ws) zero all e = absurd (omega (arith, e))
refused_all h (x ∷ ws) (suc k) all e = (all.0, refused_all h ws k all.1 (omega (arith, e)))

refused_later : (a b c : List WayNow) (h : OnItsWay) → WasRefused a b h → AreLater b c → WasRefused a c h
refused_later a b c h r later = record { ways = r.ways; since = r.since; before = are_later_more r.ways b c r.before later; refused = r.refused }

-- ---- one after another

-- So many were taken up, and these are to come, before those that stay.
pub record HandedSo (count : ℕ) (old new : DoorNow) : Type 0 where
  pub taken : List OnItsWay
  pub rest : List OnItsWay
  pub behind : List OnItsWay
  pub stood : old.asked ≡ taken ++ rest
  pub asked : new.asked ≡ rest ++ behind
  pub put : List (List OnItsWay)
  pub later : EachHasPut put old.ways new.ways
  pub all : IsMerge OnItsWay (behind ∷ put) taken
  pub refused : AllByRecursion (WasRefused old.ways new.ways) behind
  pub so_many : length taken ≡ count

pub begins_so : (d : DoorNow) → HandedSo 0 d d
begins_so d = record { taken = []; rest = d.asked; behind = []; stood = refl; asked = sym (append-nil d.asked); put = no_puts d.ways; later = none_by_each d.ways; all = none_merged d.ways; refused = tt; so_many = refl }

handed_more : (count : ℕ) (old mid new : DoorNow) (so : HandedSo count old mid) (next : OnItsWay) (rest : List OnItsWay) → so.rest ≡ next ∷ rest → (left : Option OnItsWay) →
    Hands left next mid.ways new.ways → new.asked ≡ (rest ++ so.behind) ++ option_to_list left → HandedSo (count + 1) old new
handed_more count old mid new so next rest e None hands asked =
    let g = hands.1 in
    let later = later_by hands.0 next mid.ways new.ways g in
    record {
      taken = so.taken ++ next ∷ [];
      rest = rest;
      behind = so.behind;
      stood = stood_more so.taken next rest old.asked so.rest so.stood e;
      asked = asked ∙ append-nil (rest ++ so.behind);
      put = put_at hands.0 next so.put;
      later = subst (EachHasPut (put_at hands.0 next so.put) old.ways) (sym g.put) (one_more_by hands.0 next so.put old.ways mid.ways g.before so.later g.there g.home);
      all = went_more hands.0 next so.behind so.put so.taken (place_within hands.0 so.put old.ways mid.ways g.before so.later g.there) so.all;
      refused = all_so (WasRefused old.ways mid.ways) (WasRefused old.ways new.ways) (λ h r. refused_later old.ways mid.ways new.ways h r later) so.behind so.refused;
      so_many = counts_more so.taken next count so.so_many;
    }
handed_more count old mid new so next rest e (Some left) hands asked =
    let same : mid.ways ≡ new.ways = sym hands.1 in
    let later : EachHasPut so.put old.ways new.ways = subst (EachHasPut so.put old.ways) same so.later in
    let one : WasRefused old.ways new.ways next = record { ways = new.ways; since = (so.put, later); before = are_later_same new.ways; refused = subst (AllByRecursion (Refuses next)) same hands.2 } in
    record {
      taken = so.taken ++ next ∷ [];
      rest = rest;
      behind = so.behind ++ next ∷ [];
      stood = stood_more so.taken next rest old.asked so.rest so.stood e;
      asked = asked ∙ (append_assoc rest so.behind (left ∷ []) ∙ ap (λ h. rest ++ (so.behind ++ h ∷ [])) hands.0);
      put = so.put;
      later = later;
      all = stays_more next so.behind so.put so.taken so.all;
      refused = all_last (WasRefused old.ways new.ways) so.behind next (subst (λ ws. AllByRecursion (WasRefused old.ways ws) so.behind) same so.refused) one;
      so_many = counts_more so.taken next count so.so_many;
    }

pub goes_on_so : (count : ℕ) (old mid new : DoorNow) → HandedSo count old mid → count < length old.asked → HandsFirst mid new → HandedSo (count + 1) old new
goes_on_so count old mid new so more first = by so.rest refl
  where
    by : (rest : List OnItsWay) → so.rest ≡ rest → HandedSo (count + 1) old new
    by [] e = absurd (
        let all = stood_length so.taken so.rest old.asked so.stood in
        let none : length so.rest ≡ 0 = ap length e in
        omega (arith, more, all, none, so.so_many))
    by (next ∷ rest) e =
        let one = first next (rest ++ so.behind) (so.asked ∙ ap (λ r. r ++ so.behind) e) in
        handed_more count old mid new so next rest e one.left one.hands one.asked

pub hands_all : (count : ℕ) (old new : DoorNow) → HandedSo count old new → count ≡ length old.asked → new.halves ≡ old.halves → new.over ≡ old.over → new.busy ≡ old.busy → HandsAll old new
hands_all count old new so all halves over busy = by so.rest refl
  where
    by : (rest : List OnItsWay) → so.rest ≡ rest → HandsAll old new
    by [] e =
        let left : new.asked ≡ so.behind = so.asked ∙ ap (λ r. r ++ so.behind) e in
        let were : old.asked ≡ so.taken = so.stood ∙ (ap (λ r. so.taken ++ r) e ∙ append-nil so.taken) in
        record {
          halves = halves;
          over = over;
          busy = busy;
          put = so.put;
          ways = so.later;
          all = subst (λ l. IsMerge OnItsWay (l ∷ so.put) old.asked) (sym left) (subst (IsMerge OnItsWay (so.behind ∷ so.put)) (sym were) so.all);
          refused = subst (AllByRecursion (WasRefused old.ways new.ways)) (sym left) so.refused;
        }
    by (next ∷ rest) e = absurd (
        let stood = stood_length so.taken so.rest old.asked so.stood in
        let some : length so.rest ≡ suc (length rest) = ap length e in
        omega (arith, stood, all, some, so.so_many))
