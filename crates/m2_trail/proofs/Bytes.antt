-- Reading and writing keep what an incoming socket keeps.
use Rattle.std.proofs.Common.{◌≡◌, ℕ, min, ◌≤◌, ◌<◌, Bool, true, false, List, [], ◌∷◌, ◌++◌, length, map, take, drop, slice_index, Option, Some, None, refl, sym, ap, ◌∙◌, subst, arith, append_assoc, append-nil}
use Rattle.std.specs.Option.{option_map}
use Rattle.std.proofs.lemmas.List.{take-append-drop, length-append, length-take-le}
use Rattle.m2_bytes.specs.Items.{Holding}
use Rattle.m2_fabric.specs.declared.end.EndRead.{EndRead}
use Rattle.m2_fabric.specs.declared.end.EndRead.TheVariants as read
use Rattle.m2_fabric.specs.declared.end.EndWrite.{EndWrite}
use Rattle.m2_fabric.specs.declared.end.EndWrite.TheVariants as write
use Rattle.m2_fabric.specs.declared.log.Run.{Run}
use Rattle.m2_fabric.specs.declared.log.Run.TheVariants as run
use Rattle.m2_fabric.specs.declared.socket.SocketId.{SocketId}
use Rattle.m2_fabric.specs.End.{SeenEnd, Inflow, Reads, Writes, with_read, with_write, unread}
use Rattle.m2_fabric.specs.Log.{Log, after_read as log_after_read, after_write as log_after_write}
use Rattle.m2_handshake.specs.declared.ask.Ask.{Ask}
use Rattle.m2_handshake.specs.Course.{Reaches}
use Rattle.m2_handshake.specs.Laws.{IsPrefix}
use Rattle.m2_handshake.specs.Standing.{Standing, fed}
use Rattle.m2_handshake.proofs.Reaching.{leads_on}
use Rattle.m2_handshake.proofs.Turns.{fed_stage}
use Rattle.m2_journal.specs.declared.entry.Entry.{Entry}
use Rattle.m2_trail.specs.Incoming.{IncomingNow, Asking, IsOwed, StandsAt, Keeps, exchange_of, given_by, is_over, after_read, after_write, fed_of, noted_read, left_by, noted_write}
use Rattle.m2_trail.specs.Trails.{TrailNow, begins, entry_of, closing, entries_of, replies_by, IsAsked, IsCounted, IsPoint, RisesWithin}
use Rattle.m2_trail.proofs.Given.{given_by_then}
use Rattle.m2_trail.proofs.Judged.{asked_stays, rises_more}
use Rattle.m2_trail.proofs.Points.{Longer, last_point, points_more}
use Rattle.m2_trail.proofs.Runs.{entries_more, read_by-append, written_by-append}

differ : true ≡ false → ⊥
differ e = cc

pub prefix_self : {A : Type 0} (xs : List A) → IsPrefix xs xs
prefix_self xs = ([], sym (append-nil xs))

-- ---- what is known of the ask stays where neither the half's stage nor what is left changes

pub owed_stays : (ask : Ask) (asks : List Ask) (v w : IncomingNow) → w.half ≡ v.half → w.left ≡ v.left → w.refused ≡ v.refused → IsOwed ask asks v → IsOwed ask asks w
owed_stays ask asks v w half left refused o = record {
  ready = rw half o.ready;
  stage = rw half o.stage;
  put = left ∙ o.put;
  unrefused = refused ∙ o.unrefused;
  earlier = o.earlier;
  last = o.last;
  main = o.main;
  is_main = o.is_main;
  bounds = o.bounds;
}

pub stands_still : (ask : Option Ask) (judged : Bool) (v w : IncomingNow) (a : Asking) → w.half ≡ v.half → w.left ≡ v.left → w.refused ≡ v.refused →
    StandsAt ask judged v a → StandsAt ask judged w a
stands_still None judged v w a half left refused s = (s.0, s.1, (s.2.0, s.2.1, rw refused s.2.2))
stands_still (Some ask) false v w a half left refused s = (owed_stays ask a.asks v w half left refused s.0, s.1, s.2)
stands_still (Some ask) true v w a half left refused s = (owed_stays ask a.asks v w half left refused s.0, s.1, s.2)

-- without an ask nothing of it depends on where the half stands
pub stands_unasked : (ask : Option Ask) (judged : Bool) (v w : IncomingNow) (a : Asking) → ask ≡ None → w.refused ≡ v.refused → StandsAt ask judged v a → StandsAt ask judged w a
stands_unasked None judged v w a e refused s = (s.0, s.1, (s.2.0, s.2.1, rw refused s.2.2))
stands_unasked (Some ask) judged v w a e refused s = absurd cc

-- something is left only where there is no ask
pub unasked_at : (ask : Option Ask) (judged : Bool) (v : IncomingNow) (a : Asking) → 0 < length v.left → StandsAt ask judged v a → ask ≡ None
unasked_at None judged v a some s = refl
unasked_at (Some ask) false v a some s = absurd (omega (arith, ap length s.0.put))
unasked_at (Some ask) true v a some s = absurd (omega (arith, ap length s.0.put))

-- one entry more for one run more, at an end that is open
pub entries_grow : (k : SocketId) (rs : List Run) (r : Run) (closed : Bool) (entries : List Entry) → closed ≡ false →
    entries ≡ map (entry_of k) rs ++ closing k closed → entries ++ entry_of k r ∷ [] ≡ map (entry_of k) (rs ++ r ∷ []) ++ closing k closed
entries_grow k rs r true entries o e = absurd (differ o)
entries_grow k rs r false entries o e = ap (λ l. l ++ entry_of k r ∷ []) e ∙ sym (entries_more k rs r)

-- ---- reading

abbrev read_log : ℕ → List ℕ → Log → Log
read_log n piece log = log_after_read (read.Got n) piece log

read_counted : (n : ℕ) (piece : List ℕ) (log : Log) → n ≤ length piece → IsCounted log → IsCounted (read_log n piece log)
read_counted n piece log fits c = record {
  got = omega (arith, length-append log.got (take n piece), length-take-le n piece fits, read_by-append log.runs (run.Read n ∷ []), c.got);
  put = omega (arith, written_by-append log.runs (run.Read n ∷ []), c.put);
}

read_longer : (n : ℕ) (piece : List ℕ) (log : Log) → Longer log (read_log n piece log)
read_longer n piece log = record { got = (take n piece, refl); put = prefix_self log.put }

-- the end after a read of so many bytes
abbrev read_end : ℕ → List ℕ → Option Inflow → SeenEnd → SeenEnd
read_end n piece inflow end = record (with_read (read.Got n) piece end) { inflow = inflow }

keeps_got : (n : ℕ) (piece : List ℕ) (inflow : Option Inflow) (v : IncomingNow) → n ≤ length piece → v.ask ≡ None → Keeps v →
    Keeps (after_read (read.Got n) piece (read_end n piece inflow v.end) v)
keeps_got n piece inflow v fits unasked k =
    let more = take n piece in
    let log = read_log n piece v.end.log in
    let given = given_by v k.asking in
    let w : IncomingNow = after_read (read.Got n) piece (read_end n piece inflow v.end) v in
    let counted : IsCounted log = read_counted n piece v.end.log fits k.counted in
    let comes : Reaches (begins v.trail) (exchange_of given k.asking.asks w) (fed v.half more) = leads_on.feeds (begins v.trail) v.half (exchange_of given k.asking.asks v) more k.comes in
    let last : (m : ℕ) → length v.end.log.runs < m → IsPoint (begins v.trail) log (replies_by v.trail v.refused m) log.runs =
    λ m h. last_point (begins v.trail) (fed v.half more) log (replies_by v.trail v.refused m) (exchange_of given k.asking.asks w) counted comes refl (given_by_then v k m h) (v.left, refl) in
    record {
      unclosed = k.unclosed;
      socket = k.socket;
      entries = entries_grow v.trail.socket v.end.log.runs (run.Read n) v.end.log.closed v.trail.entries k.unclosed k.entries;
      counted = counted;
      asking = k.asking;
      judged = k.judged;
      comes = comes;
      stands = stands_unasked v.ask v.is_judged v w k.asking unasked refl k.stands;
      again = λ o. k.again (sym (ap is_over (fed_stage v.half more)) ∙ o);
      refused_ends = λ s. ap is_over (fed_stage v.half more) ∙ k.refused_ends s;
      refused_fits = k.refused_fits;
      many = k.many;
      rising = rises_more 0 v.trail.judged_after (length v.end.log.runs) (length log.runs) (omega (arith, length-append v.end.log.runs (run.Read n ∷ []))) k.rising;
      asked = λ place h. asked_stays v.trail v.end.log log place (run.Read n ∷ []) k.counted (read_longer n piece v.end.log) refl (omega (arith, h, k.many)) k.rising (k.asked place h);
      points = points_more (begins v.trail) v.end.log log (replies_by v.trail v.refused) (run.Read n) k.counted (read_longer n piece v.end.log) refl k.points last;
    }

-- no bytes were moved: of the log only what the last call answered has changed
keeps_end : (end : SeenEnd) (v : IncomingNow) → end.id ≡ v.end.id → (log : Log) → end.log ≡ record v.end.log { dry = log.dry; blocked = log.blocked; ended = log.ended } →
    Keeps v → Keeps (record v { end = end })
keeps_end end v id log same k = record {
  unclosed = ap (λ (l : Log). l.closed) same ∙ k.unclosed;
  socket = k.socket ∙ sym id;
  entries = k.entries ∙ sym (ap (entries_of v.trail.socket) same);
  counted = subst IsCounted (sym same) (let c : IsCounted (record v.end.log { dry = log.dry; blocked = log.blocked; ended = log.ended }) = record { got = k.counted.got; put = k.counted.put } in c);
  asking = k.asking;
  judged = k.judged;
  comes = subst (λ (l : Log). Reaches (begins v.trail) (exchange_of (given_by v k.asking) k.asking.asks (record v { end = record v.end { log = l } })) v.half) (sym same) k.comes;
  stands = stands_still v.ask v.is_judged v (record v { end = end }) k.asking refl refl refl k.stands;
  again = k.again;
  refused_ends = k.refused_ends;
  refused_fits = k.refused_fits;
  many = k.many;
  rising = subst (λ (l : Log). RisesWithin 0 v.trail.judged_after (length l.runs)) (sym same) k.rising;
  asked = λ place h. subst (λ (l : Log). IsAsked v.trail l place (take (slice_index v.trail.judged_after place) l.runs)) (sym same) (k.asked place h);
  points = λ n. subst (λ (l : Log). IsPoint (begins v.trail) l (replies_by v.trail v.refused n) (take n l.runs)) (sym same) (k.points n);
}

pub keeps_read : (answer : EndRead) (piece : List ℕ) (end : SeenEnd) (v : IncomingNow) → v.ask ≡ None → Keeps v → Reads answer piece v.end end → Keeps (after_read answer piece end v)
keeps_read (read.Got n) piece end v unasked k r =
    subst (λ e. Keeps (after_read (read.Got n) piece e v)) (sym r.2) (keeps_got n piece (option_map (unread n) v.end.inflow) v r.0.fits unasked k)
keeps_read read.NotYet piece end v unasked k r = keeps_end end v (ap (λ (e : SeenEnd). e.id) r.1) end.log (rw r.1 refl) k
keeps_read read.Ended piece end v unasked k r = keeps_end end v (ap (λ (e : SeenEnd). e.id) r.1) end.log (rw r.1 refl) k
keeps_read read.Failed piece end v unasked k r = keeps_end end v (ap (λ (e : SeenEnd). e.id) r.1) end.log (rw r.1 refl) k
keeps_read read.NoMemory piece end v unasked k r = keeps_end end v (ap (λ (e : SeenEnd). e.id) r) end.log (rw r refl) k

-- ---- writing

abbrev write_log : ℕ → List ℕ → Log → Log
write_log n piece log = log_after_write (write.Put n) piece log

write_counted : (n : ℕ) (piece : List ℕ) (log : Log) → n ≤ length piece → IsCounted log → IsCounted (write_log n piece log)
write_counted n piece log fits c = record {
  got = omega (arith, read_by-append log.runs (run.Wrote n ∷ []), c.got);
  put = omega (arith, length-append log.put (take n piece), length-take-le n piece fits, written_by-append log.runs (run.Wrote n ∷ []), c.put);
}

write_longer : (n : ℕ) (piece : List ℕ) (log : Log) → Longer log (write_log n piece log)
write_longer n piece log = record { got = prefix_self log.got; put = (take n piece, refl) }

-- the same text, part of it put
same_text : (n : ℕ) (put left : List ℕ) → put ++ left ≡ (put ++ take n left) ++ drop n left
same_text n put left = sym (append_assoc put (take n left) (drop n left) ∙ ap (λ l. put ++ l) (take-append-drop n left))

keeps_put : (n : ℕ) (v : IncomingNow) → 0 < n → n ≤ length v.left → Keeps v → Keeps (after_write (write.Put n) (with_write (write.Put n) v.left v.end) v)
keeps_put n v some fits k =
    let log = write_log n v.left v.end.log in
    let given = given_by v k.asking in
    let w : IncomingNow = after_write (write.Put n) (with_write (write.Put n) v.left v.end) v in
    let unasked : v.ask ≡ None = unasked_at v.ask v.is_judged v k.asking (omega arith) k.stands in
    let counted : IsCounted log = write_counted n v.left v.end.log fits k.counted in
    let comes : Reaches (begins v.trail) (exchange_of given k.asking.asks w) v.half =
    subst (λ text. Reaches (begins v.trail) (record { bytes = v.end.log.got; replies = given; text = text; asks = k.asking.asks }) v.half) (same_text n v.end.log.put v.left) k.comes in
    let last : (m : ℕ) → length v.end.log.runs < m → IsPoint (begins v.trail) log (replies_by v.trail v.refused m) log.runs =
    λ m h. last_point (begins v.trail) v.half log (replies_by v.trail v.refused m) (exchange_of given k.asking.asks w) counted comes refl (given_by_then v k m h) (drop n v.left, refl) in
    record {
      unclosed = k.unclosed;
      socket = k.socket;
      entries = entries_grow v.trail.socket v.end.log.runs (run.Wrote n) v.end.log.closed v.trail.entries k.unclosed k.entries;
      counted = counted;
      asking = k.asking;
      judged = k.judged;
      comes = comes;
      stands = stands_unasked v.ask v.is_judged v w k.asking unasked refl k.stands;
      again = k.again;
      refused_ends = k.refused_ends;
      refused_fits = k.refused_fits;
      many = k.many;
      rising = rises_more 0 v.trail.judged_after (length v.end.log.runs) (length log.runs) (omega (arith, length-append v.end.log.runs (run.Wrote n ∷ []))) k.rising;
      asked = λ place h. asked_stays v.trail v.end.log log place (run.Wrote n ∷ []) k.counted (write_longer n v.left v.end.log) refl (omega (arith, h, k.many)) k.rising (k.asked place h);
      points = points_more (begins v.trail) v.end.log log (replies_by v.trail v.refused) (run.Wrote n) k.counted (write_longer n v.left v.end.log) refl k.points last;
    }

pub keeps_write : (answer : EndWrite) (end : SeenEnd) (v : IncomingNow) → Keeps v → Writes answer v.left v.end end → Keeps (after_write answer end v)
keeps_write (write.Put n) end v k r = subst (λ e. Keeps (after_write (write.Put n) e v)) (sym r.2) (keeps_put n v r.0.some r.0.fits k)
keeps_write write.NotYet end v k r = keeps_end end v (ap (λ (e : SeenEnd). e.id) r.1) end.log (rw r.1 refl) k
keeps_write write.Failed end v k r = keeps_end end v (ap (λ (e : SeenEnd). e.id) r.1) end.log (rw r.1 refl) k
keeps_write write.NoMemory end v k r = keeps_end end v (ap (λ (e : SeenEnd). e.id) r) end.log (rw r refl) k

-- ---- as the calls leave the fields

-- the room of both lists of judgements
pub room_same : {A B : Type 0} (js ks : Holding A) (ns ms : Holding B) → js ≡ ks → ns ≡ ms → min js.room ns.room ≡ min ks.room ms.room
room_same js ks ns ms e f = rw (e, f) refl

pub read_kept : (v : IncomingNow) (answer : EndRead) (piece : List ℕ) (end : SeenEnd) (half : Standing) (t : TrailNow) (room : ℕ) →
    Keeps v → v.ask ≡ None → Reads answer piece v.end end → half ≡ fed_of answer piece v.half → t ≡ noted_read answer v.trail → room ≡ v.room →
    Keeps (record v { end = end; half = half; trail = t; room = room })
read_kept v answer piece end half t room k unasked r h e same = rw (h, e, same) (keeps_read answer piece end v unasked k r)

pub read_leaves : (v : IncomingNow) (answer : EndRead) (piece : List ℕ) (end : SeenEnd) (half : Standing) (t : TrailNow) (room : ℕ) →
    Keeps v → half ≡ fed_of answer piece v.half → t ≡ noted_read answer v.trail → room ≡ v.room →
    (let w : IncomingNow = record v { end = end; half = half; trail = t; room = room } in w) ≡ after_read answer piece end v
read_leaves v answer piece end half t room k h e same = rw (h, e, same) refl

pub write_kept : (v : IncomingNow) (answer : EndWrite) (piece : List ℕ) (end : SeenEnd) (t : TrailNow) (left : List ℕ) (room : ℕ) →
    Keeps v → piece ≡ v.left → Writes answer piece v.end end → t ≡ noted_write answer v.trail → left ≡ left_by answer v.left → room ≡ v.room →
    Keeps (record v { end = end; left = left; trail = t; room = room })
write_kept v answer piece end t left room k p w e l same = rw (l, e, same) (keeps_write answer end v k (subst (λ bytes. Writes answer bytes v.end end) p w))
