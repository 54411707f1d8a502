-- Halves of a door that take their turns one after another.
use Rattle.std.proofs.Common.{◌≡◌, inl, inr, ℕ, suc, ◌+◌, ◌<◌, ◌||◌, Bool, true, false, List, [], ◌∷◌, ◌++◌, length, map, refl, sym, ap, subst, ◌∙◌, append-nil, append_assoc, arith}
use Rattle.std.specs.List.{flat_map, list_any}
use Rattle.std.proofs.lemmas.List.{length-append, length-map, map-append}
use Rattle.std.proofs.lemmas.List.Concat.{flat_map-append}
use Rattle.m2_bytes.proofs.m2_lemmas.Booleans.{or_assoc}
use Rattle.m2_bytes.proofs.m2_lemmas.Lists.{all_last}
use Rattle.m2_trail.specs.Incoming.{IncomingNow}
use Rattle.m2_trail.specs.Arrivals.{LooseNow}
use Rattle.m2_trail.specs.Turn.{AdvancesAs}
use Rattle.m2_trail.specs.declared.turn.HalfTurn.{HalfTurn}
use Rattle.m2_handover.specs.Handed.{AreAskedAs, ComeAsked, IsAskedAs, OnItsWay}
use Rattle.m2_handover.specs.Door.{DoorNow, HadMemory, HandsAll, HasRoom, HasShaken, HaveCome, IsSameOrBusy, HaveShaken, Shaken, Shakes, ShakesAll, ShakesFirst, ShakesNext, StandBefore, asked_by, is_busy, over_by, stays_by}
use Rattle.m2_handover.specs.declared.door.DoorTurn.{DoorTurn}
use Rattle.m2_handover.specs.declared.door.TheConstants.{MOST_AT_DOOR}
use Rattle.m2_handover.specs.declared.door.DoorTurn.TheVariants as turn

-- ---- lists

flat_last : {Y : Type 0} (f : Shaken → List Y) (turned : List Shaken) (s : Shaken) → flat_map f (turned ++ s ∷ []) ≡ flat_map f turned ++ f s
flat_last f turned s = flat_map-append f turned (s ∷ []) ∙ ap (λ l. flat_map f turned ++ l) (append-nil (f s))

before_last : (turned : List Shaken) (s : Shaken) (next : IncomingNow) (rest : List IncomingNow) → s.before ≡ next →
    map (λ (t : Shaken). t.before) turned ++ next ∷ rest ≡ map (λ (t : Shaken). t.before) (turned ++ s ∷ []) ++ rest
before_last turned s next rest e =
    ap (λ n. map (λ (t : Shaken). t.before) turned ++ n ∷ rest) (sym e)
    ∙ (sym (append_assoc (map (λ (t : Shaken). t.before) turned) (s.before ∷ []) rest)
    ∙ ap (λ l. l ++ rest) (sym (map-append (λ (t : Shaken). t.before) turned (s ∷ []))))

-- ---- whether something is to be done at once

pub or_none : (b : Bool) → b ≡ b || false
or_none false = refl
or_none true = refl

pub or_some : (b : Bool) → true ≡ b || true
or_some false = refl
or_some true = refl

any_last : (turned : List Shaken) (s : Shaken) → list_any (λ (t : Shaken). is_busy t.turn) turned || is_busy s.turn ≡ list_any (λ (t : Shaken). is_busy t.turn) (turned ++ s ∷ [])
any_last [] s = or_none (is_busy s.turn)
any_last (t ∷ ts) s = or_assoc (is_busy t.turn) (list_any (λ (t : Shaken). is_busy t.turn) ts) (is_busy s.turn) ∙ ap (λ b. is_busy t.turn || b) (any_last ts s)

-- ---- halves that were asked

-- one more was asked, or none
pub one_asked : (asked after : List OnItsWay) (h : OnItsWay) (half : IncomingNow) → after ≡ asked ++ h ∷ [] → IsAskedAs half h → ComeAsked (half ∷ []) asked after
one_asked asked after h half e is = (h ∷ [], e, (is, tt))

pub none_asked : (asked : List OnItsWay) → ComeAsked [] asked asked
none_asked asked = ([], sym (append-nil asked), tt)

asked_append : (xs ys : List IncomingNow) (hs ks : List OnItsWay) → AreAskedAs xs hs → AreAskedAs ys ks → AreAskedAs (xs ++ ys) (hs ++ ks)
asked_append [] ys [] ks f g = g
asked_append [] ys (h ∷ hs) ks f g = absurd f
asked_append (x ∷ xs) ys [] ks f g = absurd f
asked_append (x ∷ xs) ys (h ∷ hs) ks f g = (f.0, asked_append xs ys hs ks f.1 g)

more_asked : (xs ys : List IncomingNow) (a b c : List OnItsWay) → ComeAsked xs a b → ComeAsked ys b c → ComeAsked (xs ++ ys) a c
more_asked xs ys a b c f g = (f.0 ++ g.0, g.1 ∙ (ap (λ l. l ++ g.0) f.1 ∙ append_assoc a f.0 g.0), asked_append xs ys f.0 g.0 f.2 g.2)

-- the first half has taken its turn
pub shakes_first : (turn : HalfTurn) (before behind : IncomingNow) (rest : List IncomingNow) (old new : DoorNow) → AdvancesAs turn before behind → HadMemory turn → old.halves ≡ before ∷ rest
    → new.halves ≡ rest ++ stays_by turn behind → ComeAsked (asked_by turn behind) old.asked new.asked → new.over ≡ old.over ++ over_by turn behind → new.ways ≡ old.ways
    → new.busy ≡ old.busy || is_busy turn → ShakesFirst old new
shakes_first turn before behind rest old new advances memory was halves asked over ways busy next others e =
    let both : before ∷ rest ≡ next ∷ others = sym was ∙ e in
    let is : before ≡ next = cc in
    let same : rest ≡ others = cc in (
      record { before = before; turn = turn; behind = behind },
      is,
      record {
        has = record { advances = advances; memory = memory };
        halves = halves ∙ ap (λ r. r ++ stays_by turn behind) same;
        asked = asked;
        over = over;
        ways = ways;
        busy = busy;
      },
    )

-- ---- one after another

pub none_shaken : (d : DoorNow) → HaveShaken [] d.halves d d
none_shaken d = record { each = tt; stood = refl; halves = sym (append-nil d.halves); asked = none_asked d.asked; over = sym (append-nil d.over); ways = refl; busy = or_none d.busy }

one_more : (turned : List Shaken) (next : IncomingNow) (rest : List IncomingNow) (old mid new : DoorNow) (s : Shaken) → HaveShaken turned (next ∷ rest) old mid → s.before ≡ next
    → ShakesNext (rest ++ flat_map (λ (t : Shaken). stays_by t.turn t.behind) turned) s mid new → HaveShaken (turned ++ s ∷ []) rest old new
one_more turned next rest old mid new s h is one = record {
  each = all_last HasShaken turned s h.each one.has;
  stood = h.stood ∙ before_last turned s next rest is;
  halves = one.halves ∙ (append_assoc rest (flat_map (λ (t : Shaken). stays_by t.turn t.behind) turned) (stays_by s.turn s.behind) ∙ ap (λ l. rest ++ l) (sym (flat_last (λ (t : Shaken). stays_by t.turn t.behind) turned s)));
  asked = subst (λ (l : List IncomingNow). ComeAsked l old.asked new.asked) (sym (flat_last (λ (t : Shaken). asked_by t.turn t.behind) turned s))
      (more_asked (flat_map (λ (t : Shaken). asked_by t.turn t.behind) turned) (asked_by s.turn s.behind) old.asked mid.asked new.asked h.asked one.asked);
  over = one.over ∙ (ap (λ l. l ++ over_by s.turn s.behind) h.over ∙ (append_assoc old.over (flat_map (λ (t : Shaken). over_by t.turn t.behind) turned) (over_by s.turn s.behind)
      ∙ ap (λ l. old.over ++ l) (sym (flat_last (λ (t : Shaken). over_by t.turn t.behind) turned s))));
  ways = one.ways ∙ h.ways;
  busy = one.busy ∙ (ap (λ b. b || is_busy s.turn) h.busy ∙ (or_assoc old.busy (list_any (λ (t : Shaken). is_busy t.turn) turned) (is_busy s.turn) ∙ ap (λ b. old.busy || b) (any_last turned s)));
}

pub record ShakenSo (count : ℕ) (old new : DoorNow) : Type 0 where
  pub turned : List Shaken
  pub rest : List IncomingNow
  pub shaken : HaveShaken turned rest old new
  pub so_many : length turned ≡ count

stood_length : (turned : List Shaken) (rest : List IncomingNow) (old new : DoorNow) → HaveShaken turned rest old new → length old.halves ≡ length turned + length rest
stood_length turned rest old new h =
    let split = length-append (map (λ (s : Shaken). s.before) turned) rest in
    let same = length-map turned (λ (s : Shaken). s.before) in
    let all = ap length h.stood in omega (arith, all, split, same)

pub begins_so : (d : DoorNow) → ShakenSo 0 d d
begins_so d = record { turned = []; rest = d.halves; shaken = none_shaken d; so_many = refl }

pub goes_on_so : (count : ℕ) (old mid new : DoorNow) → ShakenSo count old mid → count < length old.halves → ShakesFirst mid new → ShakenSo (count + 1) old new
goes_on_so count old mid new so more first = by so.rest refl
  where
    by : (rest : List IncomingNow) → so.rest ≡ rest → ShakenSo (count + 1) old new
    by [] e = absurd (
        let all = stood_length so.turned so.rest old mid so.shaken in
        let none : length so.rest ≡ 0 = ap length e in
        omega (arith, more, all, none, so.so_many))
    by (next ∷ rest) e =
        let shaken = subst (λ (r : List IncomingNow). HaveShaken so.turned r old mid) e so.shaken in
        let one = first next (rest ++ flat_map (λ (t : Shaken). stays_by t.turn t.behind) so.turned) shaken.halves in record {
          turned = so.turned ++ one.0 ∷ [];
          rest = rest;
          shaken = one_more so.turned next rest old mid new one.0 shaken one.1 one.2;
          so_many = length-append so.turned (one.0 ∷ []) ∙ (let h : length so.turned + 1 ≡ count + 1 = omega (arith, so.so_many) in h);
        }

pub all_so : (count : ℕ) (old new : DoorNow) → ShakenSo count old new → count ≡ length old.halves → (turned : List Shaken) × HaveShaken turned [] old new
all_so count old new so all = (so.turned, by so.rest refl)
  where
    by : (rest : List IncomingNow) → so.rest ≡ rest → HaveShaken so.turned [] old new
    by [] e = subst (λ (r : List IncomingNow). HaveShaken so.turned r old new) e so.shaken
    by (next ∷ rest) e = absurd (
        let stood = stood_length so.turned so.rest old new so.shaken in
        let some : length so.rest ≡ suc (length rest) = ap length e in
        omega (arith, stood, all, some, so.so_many))

-- ---- a turn of the door

pub shakes_then : (old mid new : DoorNow) → ((turned : List Shaken) × HaveShaken turned [] old mid) → HandsAll mid new → ShakesAll old new
shakes_then old mid new h hands = record { turned = h.0; mid = mid; shaken = h.1; hands = hands }

pub stand_still : {A : Type 0} (hs : List A) → StandBefore hs hs
stand_still hs = ([], sym (append-nil hs))

stand_more : {A : Type 0} (a b c : List A) → StandBefore a b → StandBefore b c → StandBefore a c
stand_more a b c h k = (h.0 ++ k.0, k.1 ∙ (ap (λ l. l ++ k.0) h.1 ∙ append_assoc a h.0 k.0))

pub stands_behind : {A : Type 0} (old new : List A) (h : A) → new ≡ old ++ h ∷ [] → StandBefore old new
stands_behind old new h e = (h ∷ [], e)

pub none_came : (d : DoorNow) → HaveCome d d
none_came d = record { halves = stand_still d.halves; asked = refl; over = stand_still d.over; room = λ r. refl; ways = refl; busy = inl (refl, refl, refl) }

pub same_came : (old new : DoorNow) → new.halves ≡ old.halves → new.asked ≡ old.asked → new.over ≡ old.over → new.ways ≡ old.ways → new.busy ≡ old.busy → HaveCome old new
same_came old new halves asked over ways busy = record {
  halves = subst (StandBefore old.halves) (sym halves) (stand_still old.halves);
  asked = asked;
  over = subst (StandBefore old.over) (sym over) (stand_still old.over);
  room = λ r. over;
  ways = ways;
  busy = inl (halves, over, busy);
}

-- where there is room for one half more, there was before
room_before : (old new : DoorNow) → StandBefore old.halves new.halves → new.asked ≡ old.asked → HasRoom new → HasRoom old
room_before old new more asked room =
    let long : length new.halves ≡ length old.halves + length more.0 = ap length more.1 ∙ length-append old.halves more.0 in
    let same : length new.asked ≡ length old.asked = ap length asked in
    omega (arith, room, long, same)

pub has_come : (old new : DoorNow) (over : List LooseNow) → over ≡ old.over → StandBefore old.halves new.halves → StandBefore over new.over → new.asked ≡ old.asked → new.ways ≡ old.ways
    → (count : ℕ) → count ≡ length old.asked → (length old.halves + count < MOST_AT_DOOR → new.over ≡ over) → new.busy ≡ true → HaveCome old new
has_come old new over same halves more asked ways count many spared busy = record {
  halves = halves;
  asked = asked;
  over = subst (λ l. StandBefore l new.over) same more;
  room = λ r. spared (let before : HasRoom old = room_before old new halves asked r in omega (arith, before, many)) ∙ same;
  ways = ways;
  busy = inr busy;
}

busy_on : (a b c : DoorNow) → IsSameOrBusy a b → IsSameOrBusy b c → IsSameOrBusy a c
busy_on a b c (inl h) (inl k) = inl (k.0 ∙ h.0, k.1 ∙ h.1, k.2 ∙ h.2)
busy_on a b c (inr h) (inl k) = inr (k.2 ∙ h)
busy_on a b c h (inr k) = inr k

pub more_came : (a b c : DoorNow) → HaveCome a b → HaveCome b c → HaveCome a c
more_came a b c h k = record {
  halves = stand_more a.halves b.halves c.halves h.halves k.halves;
  asked = k.asked ∙ h.asked;
  over = stand_more a.over b.over c.over h.over k.over;
  room = λ r. k.room r ∙ h.room (room_before b c k.halves k.asked r);
  busy = busy_on a b c h.busy k.busy;
  ways = k.ways ∙ h.ways;
}

-- all halves have taken their turns, and then sockets were let in
pub shakes_before : (end : DoorTurn) (old mid new : DoorNow) → ShakesAll (record old { busy = false }) mid → HaveCome mid new → Shakes end old new
shakes_before turn.Done old mid new all came = (mid, all, came)
shakes_before turn.Failed old mid new all came = (mid, all, came)
shakes_before turn.NoMemory old mid new all came = tt
