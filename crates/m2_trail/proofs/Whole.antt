-- The trail of an incoming socket tells all that its end did.
use Rattle.std.proofs.Common.{◌≡◌, ℕ, Bool, true, false, is_some, List, [], ◌∷◌, ◌++◌, length, map, take, slice_index, Option, Some, None, refl, sym, ap, ◌∙◌, subst, append-nil, arith}
use Rattle.m2_fabric.specs.End.{SeenEnd, after_closing}
use Rattle.m2_fabric.specs.Log.{Log, nothing_done}
use Rattle.m2_handshake.specs.declared.ask.Ask.{Ask}
use Rattle.m2_handshake.specs.Course.{Exchange, no_exchange, Reaches}
use Rattle.m2_handshake.specs.Standing.{Standing, acceptor_at_start}
use Rattle.m2_handshake.proofs.Reaching.{leads_on}
use Rattle.m2_journal.specs.declared.entry.Entry.{Entry}
use Rattle.m2_journal.specs.declared.entry.Entry.TheVariants as entry
use Rattle.m2_journal.specs.declared.entry.JudgedItem.{JudgedItem}
use Rattle.m2_journal.specs.Items.{runs_on}
use Rattle.m2_trail.specs.Asks.{facts_of_ask}
use Rattle.m2_trail.specs.Arrivals.{IsArrival}
use Rattle.m2_trail.specs.Incoming.{IncomingNow, Asking, IsOwed, StandsAt, Keeps, exchange_of, given_by, is_over, accepted, item_of, with_entry}
use Rattle.m2_trail.specs.Trails.{TrailNow, begins, entry_of, closing, entries_of, replies_by, IsAsked, IsCounted, IsPoint, IsTrailOf, IsWholeTrail, opener_of}
use Rattle.m2_trail.proofs.Given.{entries_at_least}
use Rattle.m2_trail.proofs.Judged.{rises_more}
use Rattle.m2_trail.proofs.Runs.{runs_on-take}
use Rattle.m2_bytes.proofs.m2_lemmas.Lists.{take_nil}

differ : true ≡ false → ⊥
differ e = cc

-- ---- the two facts, whether the end is closed behind it or not

abbrev closed_as : Bool → Log → Log
closed_as closed log = record log { closed = closed }

pub trail_of : (v : IncomingNow) (closed : Bool) (entries : List Entry) → Keeps v → entries ≡ entries_of v.trail.socket (closed_as closed v.end.log) →
    IsTrailOf (record v.trail { entries = entries }) (closed_as closed v.end.log)
trail_of v closed entries k e =
    let t : TrailNow = record v.trail { entries = entries } in
    let log : Log = closed_as closed v.end.log in
    let first : (n : ℕ) → runs_on t.socket (take n entries) ≡ take n log.runs = λ n. ap (λ l. runs_on t.socket (take n l)) e ∙ runs_on-take t.socket n log in
    record {
      refused = v.refused;
      refused_fits = k.refused_fits;
      many = k.many;
      rising = rises_more 0 v.trail.judged_after (length log.runs) (length entries) (omega (arith, ap length e, entries_at_least v.trail.socket log)) k.rising;
      asks = λ place h.
          let n = slice_index v.trail.judged_after place in
          let asked : IsAsked t log place (take n log.runs) = record {
            exchange = (k.asked place h).exchange;
            standing = (k.asked place h).standing;
            comes = (k.asked place h).comes;
            fed = (k.asked place h).fed;
            given = (k.asked place h).given;
            first = (k.asked place h).first;
          } in
          subst (IsAsked t log place) (sym (first n)) asked;
      points = λ n.
          let point : IsPoint (begins t) log (replies_by t v.refused n) (take n log.runs) = record {
            exchange = (k.points n).exchange;
            standing = (k.points n).standing;
            comes = (k.points n).comes;
            fed = (k.points n).fed;
            given = (k.points n).given;
            written = (k.points n).written;
          } in
          subst (IsPoint (begins t) log (replies_by t v.refused n)) (sym (first n)) point;
    }

pub whole_trail : (v : IncomingNow) → Keeps v → IsWholeTrail v.trail v.end
whole_trail v k = record {
  socket = k.socket;
  entries = k.entries;
  counted = k.counted;
  facts = trail_of v v.end.log.closed v.trail.entries k k.entries;
}

-- behind its close
pub closed_trail : (v : IncomingNow) (end : SeenEnd) → Keeps v → end ≡ after_closing v.end → IsWholeTrail (with_entry (entry.Closed v.trail.socket) v.trail) end
closed_trail v end k e =
    let more = entry.Closed v.trail.socket ∷ [] in
    let entries : v.trail.entries ++ more ≡ entries_of v.trail.socket (closed_as true v.end.log) =
    ap (λ l. l ++ more) (k.entries ∙ (ap (λ b. map (entry_of v.trail.socket) v.end.log.runs ++ closing v.trail.socket b) k.unclosed ∙ append-nil (map (entry_of v.trail.socket) v.end.log.runs))) in
    rw e (record {
      socket = k.socket;
      entries = entries;
      counted = let c : IsCounted (closed_as true v.end.log) = record { got = k.counted.got; put = k.counted.put } in c;
      facts = trail_of v true (v.trail.entries ++ more) k entries;
    })

-- as the call leaves the fields
pub closed_left : (v : IncomingNow) (end : SeenEnd) (entries : List Entry) → Keeps v → end ≡ after_closing v.end → entries ≡ v.trail.entries ++ entry.Closed v.trail.socket ∷ [] →
    IsWholeTrail (record v.trail { entries = entries }) end
closed_left v end entries k e more = rw more (closed_trail v end k e)

-- ---- a socket that was asked

owes_at : (ask : Option Ask) (judged : Bool) (v : IncomingNow) (a : Asking) → StandsAt ask judged v a → (this : Ask) → ask ≡ Some this → IsOwed this a.asks v
owes_at None judged v a s this e = absurd cc
owes_at (Some other) false v a s this e = subst (λ (k : Ask). IsOwed k a.asks v) (let q : other ≡ this = cc in q) s.0
owes_at (Some other) true v a s this e = subst (λ (k : Ask). IsOwed k a.asks v) (let q : other ≡ this = cc in q) s.0

next_of : (ask : Option Ask) (judged : Bool) (v : IncomingNow) (a : Asking) → StandsAt ask judged v a → (this : Ask) → ask ≡ Some this → judged ≡ false → a.this ≡ []
next_of None judged v a s this e j = s.1
next_of (Some other) false v a s this e j = s.1
next_of (Some other) true v a s this e j = absurd (differ j)

last_of : (ask : Option Ask) (judged : Bool) (v : IncomingNow) (a : Asking) → StandsAt ask judged v a → (this : Ask) → ask ≡ Some this → judged ≡ true →
    (i : JudgedItem) × (a.this ≡ i ∷ []) × (i.ask ≡ facts_of_ask this)
last_of None judged v a s this e j = absurd (differ (sym j ∙ s.0))
last_of (Some other) false v a s this e j = absurd (differ (sym j))
last_of (Some other) true v a s this e j = (item_of other s.1.0, s.1.1, ap facts_of_ask (let q : other ≡ this = cc in q))

pub is_arrival : (v : IncomingNow) (ask : Ask) → v.ask ≡ Some ask → Keeps v → IsArrival v
is_arrival v ask had k =
    let owed : IsOwed ask k.asking.asks v = owes_at v.ask v.is_judged v k.asking k.stands ask had in
    record {
      unclosed = k.unclosed;
      trail = whole_trail v k;
      put = owed.put;
      unrefused = owed.unrefused;
      ask = ask;
      in_hand = had;
      owes = record {
        exchange = exchange_of (given_by v k.asking) k.asking.asks v;
        comes = k.comes;
        bytes = refl;
        text = ap (λ l. v.end.log.put ++ l) owed.put ∙ append-nil v.end.log.put;
        earlier = owed.earlier;
        last = owed.last;
        owed = owed.stage;
      };
      place = record {
        before = k.asking.before;
        next = λ j. k.judged ∙ (ap (λ l. k.asking.before ++ l) (next_of v.ask v.is_judged v k.asking k.stands ask had j) ∙ append-nil k.asking.before);
        last = λ j. let l = last_of v.ask v.is_judged v k.asking k.stands ask had j in (l.0, k.judged ∙ ap (λ is. k.asking.before ++ is) l.1, l.2);
        again = k.again (ap is_over owed.stage);
      };
    }

-- the ask that is there
pub the_ask : (ask : Option Ask) → is_some ask ≡ true → (this : Ask) × (ask ≡ Some this)
the_ask None e = absurd (differ (sym e))
the_ask (Some ask) e = (ask, refl)

-- ---- where it begins

no_point : (n : ℕ) (begin : Standing) → IsPoint begin nothing_done [] (take n nothing_done.runs)
no_point n begin =
    let here : IsPoint begin nothing_done [] [] = record {
      exchange = no_exchange;
      standing = begin;
      comes = leads_on.begins begin;
      fed = refl;
      given = ([], refl);
      written = ([], refl);
    } in
    subst (IsPoint begin nothing_done []) (sym (take_nil n)) here

abbrev no_asking : Asking
no_asking = record { before = []; this = []; asks = [] }

-- an end that was accepted
begun_keeps : (entity : ℕ) (end : SeenEnd) (room : ℕ) → end.log ≡ nothing_done → Keeps (accepted entity end room)
begun_keeps entity end room n =
    let begin = acceptor_at_start entity (opener_of end.id) in
    let x : Exchange = exchange_of [] [] (accepted entity end room) in
    let same : no_exchange ≡ x = rw n refl in
    record {
      unclosed = ap (λ (l : Log). l.closed) n;
      socket = refl;
      entries = sym (ap (entries_of end.id) n);
      counted = subst IsCounted (sym n) (let c : IsCounted nothing_done = record { got = refl; put = refl } in c);
      asking = no_asking;
      judged = refl;
      comes = subst (λ y. Reaches begin y begin) same (leads_on.begins begin);
      stands = (refl, refl, ([], refl, refl));
      again = λ _. tt;
      refused_ends = λ s. absurd (differ (sym s));
      refused_fits = tt;
      many = refl;
      rising = omega arith;
      asked = λ place h. absurd (omega (arith, h));
      points = λ i. subst (λ (l : Log). IsPoint begin l [] (take i l.runs)) (sym n) (no_point i begin);
    }

-- as its maker leaves the fields
pub begun_left : (end : SeenEnd) (t : TrailNow) (half : Standing) (left : List ℕ) (room : ℕ) → end.log ≡ nothing_done → t.socket ≡ end.id → t.entries ≡ [] → t.judged ≡ [] → t.judged_after ≡ [] →
    half ≡ acceptor_at_start t.entity (opener_of t.socket) → left ≡ [] →
    Keeps (record { end = end; trail = t; half = half; left = left; ask = None; is_judged = false; refused = None; room = room })
begun_left end t half left room n s e j p h l = rw (h, l, s, e, j, p) (begun_keeps t.entity end room n)
