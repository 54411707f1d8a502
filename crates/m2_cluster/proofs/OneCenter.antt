-- How the ends of one center, those that wait among them, change where a socket comes and where an end is told something.
use Rattle.std.proofs.Common.{◌≡◌, ℕ, ◌&&◌, not, Bool, true, false, ◌||◌, if◌then◌else◌, List, [], ◌∷◌, ◌++◌, Option, Some, None, Result, Ok, Err, OnOk, refl, sym, ap, subst, ◌∙◌}
use Rattle.std.specs.Prelude.{IsSome}
use Rattle.std.specs.List.{list_any}
use Rattle.std.specs.Option.{option_map}
use Rattle.std.proofs.lemmas.List.{map-append}
use Rattle.m2_fabric.specs.declared.end.News.{News}
use Rattle.m2_fabric.specs.declared.socket.SocketId.{SocketId}
use Rattle.m2_fabric.specs.End.{SeenEnd, after_news, fresh_end}
use Rattle.m2_fabric.specs.Port.{may_wait, one_hears, with_incoming, with_news, with_waiting}
use Rattle.m2_fabric.specs.Sockets.{goes_to, is_among, same_socket}
use Rattle.m2_center.specs.m2_record.RecordNow.{ids_of}
use Rattle.m2_center.specs.m2_record.Sources.{end_at}
use Rattle.m2_center.specs.Center.{CenterNow}
use Rattle.m2_center.specs.Reaching.{after_hearing, all_ends_in, ends_in, ends_or_none, has_half, waiting_at}
use Rattle.m2_center.specs.RecordEnds.{has_end, records_hear}
use Rattle.m2_center.proofs.RecordsHear.{all_center_ends, among_both, among_ends, center_ends}
use Rattle.m2_center.specs.m2_turn.Hearing as halves
use Rattle.m2_cluster.specs.Node.{ComesIn, HearsIn, KeepsPort, NodeNow, Shows, end_in, has_in, waits_in}
use Rattle.m2_bytes.proofs.m2_lemmas.Booleans.{or_false, false_isnt_true}
use Rattle.m2_fabric.proofs.Sockets.{apart_turned, same_equal, same_refl}
use Rattle.m2_center.proofs.m2_turn.m2_record.Ends.{end-other}

-- ---- the first end of a socket in a list

-- of two lists
pub end_both : (xs ys : List SeenEnd) (k : SocketId) → end_at (xs ++ ys) k ≡ (if is_among k (ids_of xs) then end_at xs k else end_at ys k)
end_both [] ys k = refl
end_both (x ∷ xs) ys k = at (same_socket k x.id) (end_both xs ys k)
  where
    at : (b : Bool) → end_at (xs ++ ys) k ≡ (if is_among k (ids_of xs) then end_at xs k else end_at ys k) →
        (if b then Some x else end_at (xs ++ ys) k) ≡ (if b || is_among k (ids_of xs) then (if b then Some x else end_at xs k) else end_at ys k)
    at true rest = refl
    at false rest = rest

pub none_at : (xs : List SeenEnd) (k : SocketId) → is_among k (ids_of xs) ≡ false → end_at xs k ≡ None
none_at [] k none = refl
none_at (x ∷ xs) k none = at (same_socket k x.id) none (λ h. none_at xs k h)
  where
    at : (b : Bool) → b || is_among k (ids_of xs) ≡ false → (is_among k (ids_of xs) ≡ false → end_at xs k ≡ None) → (if b then Some x else end_at xs k) ≡ None
    at true h rest = absurd (false_isnt_true (sym h))
    at false h rest = rest h

-- none of the first list, so of the second
second_of : (xs ys : List SeenEnd) (k : SocketId) → is_among k (ids_of xs) ≡ false → end_at (xs ++ ys) k ≡ end_at ys k
second_of xs ys k none = end_both xs ys k ∙ ap (λ b. if b then end_at xs k else end_at ys k) none

-- the second lists agree
behind_same : (xs ys zs : List SeenEnd) (k : SocketId) → end_at ys k ≡ end_at zs k → end_at (xs ++ ys) k ≡ end_at (xs ++ zs) k
behind_same [] ys zs k same = same
behind_same (x ∷ xs) ys zs k same = ap (λ r. if same_socket k x.id then Some x else r) (behind_same xs ys zs k same)

or_true : (b : Bool) → b || true ≡ true
or_true true = refl
or_true false = refl

among_last : (xs : List SeenEnd) (e : SeenEnd) (k : SocketId) → is_among k (ids_of (xs ++ e ∷ [])) ≡ is_among k (ids_of xs) || (same_socket k e.id || false)
among_last xs e k = among_both k xs (e ∷ [])

-- the end that a center has, where it doesn't wait
pub had_in : {D : Type 0} (c : CenterNow D) (id : SocketId) → (if waits_in c id then None else end_in c id) ≡ end_at (ends_in c) id
had_in c id = at (has_in c id) (is_among id (ids_of (waiting_at c.port))) refl refl
  where
    at : (had waits : Bool) → has_in c id ≡ had → is_among id (ids_of (waiting_at c.port)) ≡ waits →
        (if waits && not had then None else end_in c id) ≡ end_at (ends_in c) id
    at true true h w = end_both (ends_in c) (waiting_at c.port) id ∙ ap (λ b. if b then end_at (ends_in c) id else end_at (waiting_at c.port) id) h
    at true false h w = end_both (ends_in c) (waiting_at c.port) id ∙ ap (λ b. if b then end_at (ends_in c) id else end_at (waiting_at c.port) id) h
    at false true h w = sym (none_at (ends_in c) id h)
    at false false h w = second_of (ends_in c) (waiting_at c.port) id h ∙ none_at (waiting_at c.port) id w ∙ sym (none_at (ends_in c) id h)

-- ---- what it is told

module _ (id : SocketId) (news : News) (bytes : List ℕ) where
  abbrev hears : SeenEnd → SeenEnd
  hears = after_news news bytes

  hears_there : (xs : List SeenEnd) → end_at (one_hears id hears xs) id ≡ option_map hears (end_at xs id)
  hears_there [] = refl
  hears_there (x ∷ xs) = at (same_socket id x.id) refl (hears_there xs)
    where
      at : (b : Bool) → same_socket id x.id ≡ b → end_at (one_hears id hears xs) id ≡ option_map hears (end_at xs id) →
          end_at (if b then hears x ∷ xs else x ∷ one_hears id hears xs) id ≡ option_map hears (if b then Some x else end_at xs id)
      at true e rest = ap (λ b. if b then Some (hears x) else end_at xs id) e
      at false e rest = ap (λ b. if b then Some x else end_at (one_hears id hears xs) id) e ∙ rest

  hears_other : (xs : List SeenEnd) (k : SocketId) → same_socket id k ≡ false → end_at (one_hears id hears xs) k ≡ end_at xs k
  hears_other [] k other = refl
  hears_other (x ∷ xs) k other = at (same_socket id x.id) refl (hears_other xs k other)
    where
      not_it : same_socket id x.id ≡ true → same_socket k x.id ≡ false
      not_it e = subst (λ j. same_socket k j ≡ false) (same_equal id x.id e) (apart_turned id k other)

      at : (b : Bool) → same_socket id x.id ≡ b → end_at (one_hears id hears xs) k ≡ end_at xs k →
          end_at (if b then hears x ∷ xs else x ∷ one_hears id hears xs) k ≡ (if same_socket k x.id then Some x else end_at xs k)
      at true e rest =
          ap (λ b. if b then Some (hears x) else end_at xs k) (not_it e) ∙ sym (ap (λ b. if b then Some x else end_at xs k) (not_it e))
      at false e rest = ap (λ r. if same_socket k x.id then Some x else r) rest

  same_ids : (xs : List SeenEnd) → ids_of (one_hears id hears xs) ≡ ids_of xs
  same_ids [] = refl
  same_ids (x ∷ xs) = at (same_socket id x.id) (same_ids xs)
    where
      at : (b : Bool) → ids_of (one_hears id hears xs) ≡ ids_of xs → ids_of (if b then hears x ∷ xs else x ∷ one_hears id hears xs) ≡ x.id ∷ ids_of xs
      at true rest = refl
      at false rest = ap (λ l. x.id ∷ l) rest

  module _ {D : Type 0} (c : CenterNow D) where
    abbrev next : CenterNow D
    next = after_hearing id news bytes c

    same_port : KeepsPort c next
    same_port = at (list_any (has_end id) c.records) (has_half id c.halves)
      where
        at : (b h : Bool) → KeepsPort {D = D} c
            (if b then record c { records = records_hear id news bytes c.records } else (if h then record c { halves = halves.after_hearing id news bytes c.halves } else record c { port = with_news id news bytes c.port }))
        at true h = record { at = refl; made = refl }
        at false true = record { at = refl; made = refl }
        at false false = record { at = refl; made = refl }

    waiting_same : (w : Option (List SeenEnd)) → ids_of (ends_or_none (option_map (one_hears id hears) w)) ≡ ids_of (ends_or_none w)
    waiting_same (Some es) = same_ids es
    waiting_same None = refl

    same_waiting : ids_of (waiting_at next.port) ≡ ids_of (waiting_at c.port)
    same_waiting = at (list_any (has_end id) c.records) (has_half id c.halves)
      where
        at : (b h : Bool) → ids_of (waiting_at
            (if b then record c { records = records_hear id news bytes c.records } else (if h then record c { halves = halves.after_hearing id news bytes c.halves } else record c { port = with_news id news bytes c.port })).port)
            ≡ ids_of (waiting_at c.port)
        at true h = refl
        at false true = refl
        at false false = waiting_same c.port.waiting

    same_had : ids_of (ends_in next) ≡ ids_of (ends_in c)
    same_had = ap ids_of (center_ends id news bytes c) ∙ same_ids (ends_in c)

    same_waits : (k : SocketId) → waits_in next k ≡ waits_in c k
    same_waits k = ap (λ w. is_among k w && not (has_in next k)) same_waiting ∙ ap (λ h. is_among k (ids_of (waiting_at c.port)) && not (is_among k h)) same_had

    pub hears_in : HearsIn id hears c next
    hears_in = record {
      there = record { shows = ap (λ l. end_at l id) (all_center_ends id news bytes c) ∙ hears_there (all_ends_in c); waits = same_waits id };
      line = same_waiting;
      others = record {
        ends = (λ k other. ap (λ l. end_at l k) (all_center_ends id news bytes c) ∙ hears_other (all_ends_in c) k other);
        waits = (λ k other. same_waits k);
      };
      port = same_port;
    }

-- told, of a node by its center
pub heard_so : {D E : Type 0} (r : Result (Unit {0}) E) (was old : NodeNow D) (same : was ≡ old) (id : SocketId) (news : News) (bytes : List ℕ) (new : CenterNow D) →
    OnOk r (new ≡ after_hearing id news bytes was.center) → OnOk r (HearsIn id (after_news news bytes) old.center new)
heard_so {D} (Ok done) was old same id news bytes new ok =
    subst (λ (n : NodeNow D). HearsIn id (after_news news bytes) n.center new) same
    (subst (λ (c : CenterNow D). HearsIn id (after_news news bytes) was.center c) (sym ok) (hears_in id news bytes was.center))
heard_so (Err e) was old same id news bytes new ok = tt

-- ---- a socket that comes

-- it goes there, wasn't made, and an end of it waits or is had
comes_so : (goes made waits had : Bool) → (had ≡ true → made ≡ true) → goes && (not made && not (waits && not had)) ≡ true →
    (goes && (not made && not waits) ≡ true) × (waits ≡ false) × (had ≡ false)
comes_so true false false false known may = (refl, refl, refl)
comes_so true false true false known may = absurd (false_isnt_true may)
comes_so true false waits true known may = absurd (false_isnt_true (known refl))
comes_so true true waits had known may = absurd (false_isnt_true may)
comes_so false made waits had known may = absurd (false_isnt_true may)

refused_so : (goes made waits had : Bool) → goes && (not made && not (waits && not had)) ≡ false → goes && (not made && not waits) ≡ false
refused_so true false false had may = may
refused_so true false true had may = refl
refused_so true true waits had may = refl
refused_so false made waits had may = refl

module _ {D : Type 0} (id : SocketId) (c : CenterNow D) (known : has_in c id ≡ true → is_among id c.port.made ≡ true) (es : List SeenEnd) where
  abbrev fresh : SeenEnd
  fresh = fresh_end id

  -- a center whose port has these waiting
  abbrev over : List SeenEnd → CenterNow D
  over w = record c { port = record c.port { waiting = Some w } }

  abbrev waits_now : Bool
  waits_now = is_among id (ids_of es)

  same_test : may_wait id c.port es ≡ goes_to c.port.at id && (not (is_among id c.port.made) && not waits_now)
  same_test = ap (λ b. goes_to c.port.at id && (not (is_among id c.port.made) && not b)) (sym (among_ends id es))

  came : Bool → List SeenEnd
  came b = if b then es ++ fresh ∷ [] else es

  other_ends : (b : Bool) (k : SocketId) → same_socket id k ≡ false → end_in (over (if b then es ++ fresh ∷ [] else es)) k ≡ end_in (over es) k
  other_ends true k other = behind_same (ends_in c) (es ++ fresh ∷ []) es k (end-other es fresh k (apart_turned id k other))
  other_ends false k other = refl

  other_waits : (b : Bool) (k : SocketId) → same_socket id k ≡ false → waits_in (over (if b then es ++ fresh ∷ [] else es)) k ≡ waits_in (over es) k
  other_waits true k other =
      ap (λ w. w && not (has_in c k))
      (among_last es fresh k ∙ ap (λ x. is_among k (ids_of es) || (x || false)) (apart_turned id k other) ∙ or_false (is_among k (ids_of es)))
  other_waits false k other = refl

  it_shows : (b : Bool) → b ≡ true → waits_now ≡ false → has_in c id ≡ false → Shows id (Some fresh) true (over (if b then es ++ fresh ∷ [] else es))
  it_shows true it none had = record {
    shows = second_of (ends_in c) (es ++ fresh ∷ []) id had ∙ second_of es (fresh ∷ []) id none ∙ ap (λ b. if b then Some fresh else None) (same_refl id);
    waits =
        ap (λ w. w && not (has_in c id)) (among_last es fresh id ∙ ap (λ x. waits_now || (x || false)) (same_refl id) ∙ or_true waits_now)
        ∙ ap not had;
  }
  it_shows false it none had = absurd (false_isnt_true it)

  line_by : (b : Bool) → ids_of (if b then es ++ fresh ∷ [] else es) ≡ (if b then ids_of es ++ id ∷ [] else ids_of es)
  line_by true = map-append (λ (e : SeenEnd). e.id) es (fresh ∷ [])
  line_by false = refl

  it_stays : (b : Bool) → b ≡ false → Shows id (end_in (over es) id) (waits_in (over es) id) (over (if b then es ++ fresh ∷ [] else es))
  it_stays true it = absurd (false_isnt_true (sym it))
  it_stays false it = record { shows = refl; waits = refl }

  comes_over : ComesIn id (over es) (over (with_waiting id c.port es))
  comes_over = record {
    comes = (λ may.
        let so = comes_so (goes_to c.port.at id) (is_among id c.port.made) waits_now (has_in c id) known may in
        it_shows (may_wait id c.port es) (same_test ∙ so.0) so.1 so.2);
    refused = (λ may. it_stays (may_wait id c.port es) (same_test ∙ refused_so (goes_to c.port.at id) (is_among id c.port.made) waits_now (has_in c id) may));
    line = line_by (may_wait id c.port es) ∙ ap (λ b. if b then ids_of es ++ id ∷ [] else ids_of es) same_test;
    others = record { ends = other_ends (may_wait id c.port es); waits = other_waits (may_wait id c.port es) };
    port = record { at = refl; made = refl };
  }

pub comes_in : {D : Type 0} (id : SocketId) (c : CenterNow D) → IsSome c.port.waiting → (has_in c id ≡ true → is_among id c.port.made ≡ true) →
    ComesIn id c (record c { port = with_incoming id c.port })
comes_in {D} id c memory known = at c.port.waiting memory
  where
    at : (w : Option (List SeenEnd)) → IsSome w →
        ComesIn id (record c { port = record c.port { waiting = w } }) (record c { port = record c.port { waiting = option_map (with_waiting id c.port) w } })
    at (Some es) is = comes_over id c known es
    at None is = absurd (false_isnt_true is)

-- it comes to a node by its center
pub came_so : {D E : Type 0} (r : Result (Unit {0}) E) (was old : NodeNow D) (same : was ≡ old) (id : SocketId) (new : CenterNow D) → IsSome was.center.port.waiting →
    OnOk r (new ≡ record was.center { port = with_incoming id was.center.port }) → (has_in was.center id ≡ true → is_among id was.center.port.made ≡ true) →
    OnOk r (ComesIn id old.center new)
came_so {D} (Ok done) was old same id new memory ok known =
    subst (λ (n : NodeNow D). ComesIn id n.center new) same
    (subst (λ (c : CenterNow D). ComesIn id was.center c) (sym ok) (comes_in id was.center memory known))
came_so (Err e) was old same id new memory ok known = tt
