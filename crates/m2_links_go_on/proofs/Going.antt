-- A side goes on, with its ends and the halves of its node: so do the halves and the ends of the link that are on its side.
use Rattle.std.proofs.Common.{◌≡◌, ℕ, ◌+◌, ◌≤◌, ◌⊎◌, inl, inr, Bool, true, false, List, ◌++◌, length, length-append, map, take, refl, sym, ap, subst, ◌∙◌, arith}
use Rattle.std.specs.List.{list_any}
use Rattle.std.proofs.lemmas.List.{map-append}
use Rattle.std.proofs.lemmas.List.Elements.{filter_map-append}
use Rattle.std.proofs.lemmas.List.Folds.{list_any-append}
use Rattle.m2_fabric.specs.declared.socket.SocketId.{SocketId}
use Rattle.m2_fabric.specs.End.{SeenEnd}
use Rattle.m2_fabric.specs.Sockets.{is_among}
use Rattle.m2_growth.proofs.m2_bytes_fit.Judges.{not_judged_on}
use Rattle.m2_growth.specs.Ends.{EndGrows}
use Rattle.m2_growth.specs.Halves.{IsOneOf, TrailGrows}
use Rattle.m2_growth.proofs.Among.{among_mapped, of_each}
use Rattle.m2_history.proofs.Tidiness.{judged_noted}
use Rattle.m2_history.specs.Link.{IsWholeHalf}
use Rattle.m2_history.specs.Parts.{PartsNow}
use Rattle.m2_history.specs.Woven.{EndNow, end_of, half_end, is_about, judged_times, knows}
use Rattle.m2_weave.specs.m2_journal.declared.entry.Entry.{Entry}
use Rattle.m2_weave.specs.m2_journal.Lawful.{judged_on}
use Rattle.m2_history.specs.m2_record.RecordNow.{ids_of}
use Rattle.m2_history.specs.m2_record.TakenTrails.{judgement_of, judgements_in, taken_in}
use Rattle.m2_history.specs.m2_trail.Arrivals.{LooseNow}
use Rattle.m2_history.specs.m2_trail.Trails.{TrailNow}
use Rattle.m2_links_go_on.specs.Sides.{HalfGoesOn}
use Rattle.m2_weave.specs.Later.{GoesOn}
use Rattle.m2_weave.specs.declared.strand.StrandItem.TheVariants.{Noted}
use Rattle.m2_weave.specs.Strands.{has_opened, journal_of, opens}
use Rattle.m2_links_go_on.proofs.LinkLists.{take_all_of, take_more}
use Rattle.m2_links_go_on.proofs.Standing as one
use Rattle.m2_links_go_on.proofs.Standing.{AreOpposed, StandsAt, judged_sockets}
use Rattle.m2_fabric.proofs.m2_lemmas.Booleans.{or_left}
use Rattle.m2_history.proofs.m2_record.AsksJudged.{judged_append}

-- ---- one half

-- with as many of its asks
abbrev pub cut : ℕ → TrailNow → TrailNow
cut n t = record t { judged_after = take n t.judged_after }

-- one that is left still: all of its asks counted, or none does still
pub left_goes : (t u : TrailNow) (n m : ℕ) → TrailGrows t u → n ≤ m → (m ≡ 0) ⊎ (length t.judged_after ≤ n) → HalfGoesOn (cut n t) (cut m u)
left_goes t u n m g h c =
    let asks = take_more (λ (i : ℕ). length t.entries ≤ i) t.judged_after g.asks.more n m h c g.asks.behind in
    record { entries = g.entries; asks = (asks.more, ap (take m) g.asks.all ∙ asks.is); behind = asks.each }

-- one that was taken: all of its asks counted
pub taken_goes : (t u : TrailNow) (n : ℕ) → TrailGrows t u → length t.judged_after ≤ n → HalfGoesOn (cut n t) u
taken_goes t u n g h = record {
  entries = g.entries;
  asks = (g.asks.more, g.asks.all ∙ ap (λ l. l ++ g.asks.more) (sym (take_all_of t.judged_after n h)));
  behind = g.asks.behind;
}

-- ---- what becomes of a side

-- one of these is the same end, later
pub record IsLaterEnd (now : List SeenEnd) (e : SeenEnd) : Type 0 where
  pub end : SeenEnd
  pub there : IsOneOf end now
  pub grows : EndGrows e end

-- one of these is the same half, later
pub record IsLaterLeft (now : List LooseNow) (l : LooseNow) : Type 0 where
  pub half : LooseNow
  pub there : IsOneOf half now
  pub grows : TrailGrows l.trail half.trail
  pub end : EndGrows l.end half.end

-- the side has taken it, with its end
pub record IsLaterTaken (q : PartsNow) (l : LooseNow) : Type 0 where
  pub trail : TrailNow
  pub taken : IsOneOf trail q.trails
  pub grows : TrailGrows l.trail trail
  pub end : IsLaterEnd q.ends l.end

-- one of two journals has opened its socket, or judged an ask on it
abbrev pub IsKnown : List Entry → List Entry → LooseNow → Type 0
IsKnown a b l = (knows a l.end.id ≡ true) ⊎ (knows b l.end.id ≡ true)

-- A side goes on, and its ends do; a half that either journal knows is left still, or it has taken it. And where it has judged asks
-- of a half by the end, all that were judged before it had judged.
pub record StandsOn (p q : PartsNow) (ls ms : List LooseNow) (theirs : List Entry) : Type 0 where
  pub journal : GoesOn p.journal q.journal
  pub trails : GoesOn p.trails q.trails
  pub ends : (e : SeenEnd) → IsOneOf e p.ends → IsLaterEnd q.ends e
  pub halves : (l : LooseNow) → IsOneOf l ls → IsKnown p.journal theirs l → IsLaterLeft ms l ⊎ IsLaterTaken q l
  pub counted : (l : LooseNow) → IsOneOf l ls → is_among l.trail.socket (judged_sockets q.journal) ≡ true →
      length l.trail.judged_after ≤ length (judged_on l.trail.socket (judgements_in p.journal))

-- ---- journals that go on

pub knows_on : (es fs : List Entry) (k : SocketId) → GoesOn es fs → knows es k ≡ true → knows fs k ≡ true
knows_on es fs k on h = ap (λ l. knows l k) on.1 ∙ list_any-append (is_about k) es on.0 ∙ or_left (knows es k) (knows on.0 k) h

pub opened_on : (es fs : List Entry) (k : SocketId) → GoesOn es fs → has_opened (journal_of es) k ≡ true → has_opened (journal_of fs) k ≡ true
opened_on es fs k on h =
    ap (λ l. has_opened (journal_of l) k) on.1 ∙ ap (list_any (opens k)) (map-append Noted es on.0)
    ∙ list_any-append (opens k) (map Noted es) (map Noted on.0) ∙ or_left (has_opened (journal_of es) k) (list_any (opens k) (map Noted on.0)) h

-- how many asks on a socket were judged
abbrev pub times : List Entry → SocketId → ℕ
times es k = length (judged_on k (judgements_in es))

pub times_on : (es fs : List Entry) (k : SocketId) → GoesOn es fs → times es k ≤ times fs k
times_on es fs k on =
    let parts : judged_on k (judgements_in fs) ≡ judged_on k (judgements_in es) ++ judged_on k (judgements_in on.0) =
    ap (λ l. judged_on k (judgements_in l)) on.1 ∙ ap (judged_on k) (filter_map-append judgement_of es on.0) ∙ judged_append k (judgements_in es) (judgements_in on.0) in
    omega (arith, ap length parts, length-append (judged_on k (judgements_in es)) (judged_on k (judgements_in on.0)))

pub none_times : (es : List Entry) (k : SocketId) → is_among k (judged_sockets es) ≡ false → times es k ≡ 0
none_times es k h = ap length (not_judged_on k (judgements_in es) h)

pub times_of : (a b : List Entry) (k : SocketId) → judged_times a b k ≡ times a k + times b k
times_of a b k = omega (arith, judged_noted k a, judged_noted k b)

known_on : (a b c d : List Entry) (l m : LooseNow) → GoesOn a c → GoesOn b d → m.end.id ≡ l.end.id → IsKnown a b l → IsKnown c d m
known_on a b c d l m on to same (inl h) = inl (ap (knows c) same ∙ knows_on a c l.end.id on h)
known_on a b c d l m on to same (inr h) = inr (ap (knows d) same ∙ knows_on b d l.end.id to h)

-- ---- the halves and ends of the link

pub record HasLater (now : List TrailNow) (t : TrailNow) : Type 0 where
  pub half : TrailNow
  pub there : IsOneOf half now
  pub socket : half.socket ≡ t.socket
  pub goes : HalfGoesOn t half

pub record LaterEnd (now : List EndNow) (d : EndNow) : Type 0 where
  pub end : EndNow
  pub there : IsOneOf end now
  pub socket : end.socket ≡ d.socket
  pub opener : end.opener ≡ d.opener
  pub got : GoesOn d.got end.got
  pub put : GoesOn d.put end.put

module _ (here away : SocketId → Bool) (opposed : AreOpposed here away) (p q : PartsNow) (ls ms : List LooseNow) (was : StandsAt here away p ls) (is : StandsAt here away q ms) (theirs later : List Entry)
    (on : StandsOn p q ls ms theirs) (grown : GoesOn theirs later) where
  -- of a half, among all halves of the link
  module _ (before after : SocketId → ℕ) (so : (k : SocketId) → here k ≡ true → before k ≡ times p.journal k) (now_so : (k : SocketId) → here k ≡ true → after k ≡ times q.journal k)
      (now : List TrailNow) (of_taken : (t : TrailNow) → IsOneOf t q.trails → IsOneOf t now)
      (of_left : (l : LooseNow) → IsOneOf l ms → IsKnown q.journal later l → IsOneOf (cut (after l.trail.socket) l.trail) now) where
    pub half_goes : (l : LooseNow) → IsOneOf l ls → IsKnown p.journal theirs l → HasLater now (cut (before l.trail.socket) l.trail)
    half_goes l i known = by (on.halves l i known)
      where
        comes : here l.trail.socket ≡ true
        comes = ap here (of_each IsWholeHalf l ls was.whole i).socket ∙ of_each (λ (x : LooseNow). here x.end.id ≡ true) l ls was.comes i

        n_is : before l.trail.socket ≡ times p.journal l.trail.socket
        n_is = so l.trail.socket comes

        m_is : after l.trail.socket ≡ times q.journal l.trail.socket
        m_is = now_so l.trail.socket comes

        counts : (after l.trail.socket ≡ 0) ⊎ (length l.trail.judged_after ≤ before l.trail.socket)
        counts = at (is_among l.trail.socket (judged_sockets q.journal)) refl
          where
            at : (b : Bool) → is_among l.trail.socket (judged_sockets q.journal) ≡ b → (after l.trail.socket ≡ 0) ⊎ (length l.trail.judged_after ≤ before l.trail.socket)
            at true h = inr (omega (arith, n_is, on.counted l i h))
            at false h = inl (m_is ∙ none_times q.journal l.trail.socket h)

        by : IsLaterLeft ms l ⊎ IsLaterTaken q l → HasLater now (cut (before l.trail.socket) l.trail)
        by (inl left) =
            let same : left.half.trail.socket ≡ l.trail.socket = left.grows.socket in
            record {
              half = cut (after left.half.trail.socket) left.half.trail;
              there = of_left left.half left.there (known_on p.journal theirs q.journal later l left.half on.journal grown left.end.id known);
              socket = same;
              goes = subst (λ j. HalfGoesOn (cut (before l.trail.socket) l.trail) (cut (after j) left.half.trail)) (sym same)
                  (left_goes l.trail left.half.trail (before l.trail.socket) (after l.trail.socket) left.grows (omega (arith, n_is, m_is, times_on p.journal q.journal l.trail.socket on.journal)) counts);
            }
        by (inr taken) =
            let among = among_mapped (λ (t : TrailNow). t.socket) taken.trail l.trail.socket q.trails taken.taken (sym taken.grows.socket) in
            let asked = one.taken_asked l.trail.socket q.journal (one.trail_taken here away opposed q ms is l.trail.socket among) in
            record {
              half = taken.trail;
              there = of_taken taken.trail taken.taken;
              socket = taken.grows.socket;
              goes = taken_goes l.trail taken.trail (before l.trail.socket) taken.grows (omega (arith, n_is, on.counted l i asked));
            }

  -- of an end, among all ends of the link
  opener_same : (k : SocketId) → is_among k (ids_of p.ends) ≡ true → has_opened (journal_of q.journal) k ≡ has_opened (journal_of p.journal) k
  opener_same k h = by (was.ends k h)
    where
      by : (has_opened (journal_of p.journal) k ≡ true) ⊎ (is_among k (taken_in p.journal) ≡ true) → has_opened (journal_of q.journal) k ≡ has_opened (journal_of p.journal) k
      by (inl o) = opened_on p.journal q.journal k on.journal o ∙ sym o
      by (inr t) =
          let comes = one.taken_here here away opposed p ls was k t in
          one.here_closed here away opposed q ms is k comes ∙ sym (one.here_closed here away opposed p ls was k comes)

  module _ (now : List EndNow) (of_side : (e : SeenEnd) → IsOneOf e q.ends → IsOneOf (end_of q.journal e) now)
      (of_half : (l : LooseNow) → IsOneOf l ms → IsKnown q.journal later l → IsOneOf (half_end l) now) where
    pub end_goes : (e : SeenEnd) → IsOneOf e p.ends → LaterEnd now (end_of p.journal e)
    end_goes e i =
        let later_one = on.ends e i in
        record {
          end = end_of q.journal later_one.end;
          there = of_side later_one.end later_one.there;
          socket = later_one.grows.id;
          opener = ap (has_opened (journal_of q.journal)) later_one.grows.id ∙ opener_same e.id (among_mapped (λ (x : SeenEnd). x.id) e e.id p.ends i refl);
          got = later_one.grows.got;
          put = later_one.grows.put;
        }

    pub half_end_goes : (l : LooseNow) → IsOneOf l ls → IsKnown p.journal theirs l → LaterEnd now (half_end l)
    half_end_goes l i known = by (on.halves l i known)
      where
        comes : here l.end.id ≡ true
        comes = of_each (λ (x : LooseNow). here x.end.id ≡ true) l ls was.comes i

        by : IsLaterLeft ms l ⊎ IsLaterTaken q l → LaterEnd now (half_end l)
        by (inl left) = record {
          end = half_end left.half;
          there = of_half left.half left.there (known_on p.journal theirs q.journal later l left.half on.journal grown left.end.id known);
          socket = left.end.id;
          opener = refl;
          got = left.end.got;
          put = left.end.put;
        }
        by (inr taken) = record {
          end = end_of q.journal taken.end.end;
          there = of_side taken.end.end taken.end.there;
          socket = taken.end.grows.id;
          opener = ap (has_opened (journal_of q.journal)) taken.end.grows.id ∙ one.here_closed here away opposed q ms is l.end.id comes;
          got = taken.end.grows.got;
          put = taken.end.grows.put;
        }
