-- What an end that was handed over shows in its calls.
use Rattle.std.proofs.Common.{◌≡◌, ℕ, ◌≤◌, Bool, true, false, List, [], ◌∷◌, ◌++◌, length, map, take, slice_index, None, refl, sym, ap, subst, ◌∙◌, append-nil, arith}
use Rattle.m2_fabric.specs.Log.{Log, after_close}
use Rattle.m2_fabric.specs.End.{after_closing}
use Rattle.m2_fabric.specs.End.{Reads, SeenEnd, Writes}
use Rattle.m2_fabric.specs.declared.end.EndRead.{EndRead}
use Rattle.m2_fabric.specs.declared.end.EndRead.TheVariants as read
use Rattle.m2_fabric.specs.declared.end.EndWrite.{EndWrite}
use Rattle.m2_fabric.specs.declared.end.EndWrite.TheVariants as write
use Rattle.m2_handover.specs.End.{IsPastOf, told_nothing}
use Rattle.m2_handover.specs.Past.{PastNow, ReadsAgain, WritesAgain, closed_trail}
use Rattle.m2_journal.specs.Items.{runs_on}
use Rattle.m2_journal.specs.declared.entry.Entry.{Entry}
use Rattle.m2_journal.specs.declared.entry.Entry.TheVariants as entry
use Rattle.m2_trail.specs.Trails.{IsAsked, IsCounted, IsPoint, IsTrailOf, IsWholeTrail, TrailNow, begins, closing, entries_of, entry_of, replies_by}
use Rattle.m2_trail.proofs.Judged.{rises_more}
use Rattle.m2_trail.proofs.Runs.{runs_on-take}
use Rattle.std.proofs.lemmas.List.{length-append}

-- ---- the end inside goes on by itself

pub reads_shown : (answer : EndRead) (piece : List ℕ) (old new : SeenEnd) → Reads answer piece old new → Reads answer piece (told_nothing old) (told_nothing new)
reads_shown (read.Got n) piece old new r = (r.0, tt, ap told_nothing r.2)
reads_shown read.NotYet piece old new r = (tt, ap told_nothing r.1)
reads_shown read.Ended piece old new r = (tt, ap told_nothing r.1)
reads_shown read.Failed piece old new r = (record { risen = r.0.risen; cause = tt; once = tt }, ap told_nothing r.1)
reads_shown read.NoMemory piece old new r = ap told_nothing r

pub writes_shown : (answer : EndWrite) (piece : List ℕ) (old new : SeenEnd) → Writes answer piece old new → Writes answer piece (told_nothing old) (told_nothing new)
writes_shown (write.Put n) piece old new r = (r.0, tt, ap told_nothing r.2)
writes_shown write.NotYet piece old new r = (refl, ap told_nothing r.1)
writes_shown write.Failed piece old new r = (record { risen = r.0.risen; cause = tt; once = tt }, ap told_nothing r.1)
writes_shown write.NoMemory piece old new r = ap told_nothing r

-- ---- what was done is done again

pub reads_again : (answer : EndRead) (piece : List ℕ) (old new : SeenEnd) → old.left ≡ None → old.inflow ≡ None → new ≡ record old { log = new.log }
    → ReadsAgain answer piece old.log new.log → Reads answer piece old new
reads_again (read.Got n) piece old new l i e r = (r.0, rw i tt, rw (e, r.1, l, i) refl)
reads_again read.NotYet piece old new l i e r = (rw i tt, rw (e, r) refl)
reads_again read.Ended piece old new l i e r = absurd r
reads_again read.Failed piece old new l i e r = absurd r
reads_again read.NoMemory piece old new l i e r = rw (e, r) refl

pub writes_again : (answer : EndWrite) (piece : List ℕ) (old new : SeenEnd) → old.left ≡ None → old.inflow ≡ None → new ≡ record old { log = new.log }
    → WritesAgain answer piece old.log new.log → Writes answer piece old new
writes_again (write.Put n) piece old new l i e r = (r.0, rw i tt, rw (e, r.1, l) refl)
writes_again write.NotYet piece old new l i e r = (i, rw (e, r) refl)
writes_again write.Failed piece old new l i e r = absurd r
writes_again write.NoMemory piece old new l i e r = rw (e, r) refl

-- ---- trails

-- a trail tells of an end's socket and log alone
pub whole_inside : (t : TrailNow) (a b : SeenEnd) → IsWholeTrail t a → b.id ≡ a.id → b.log ≡ a.log → IsWholeTrail t b
whole_inside t a b w id log = record {
  socket = w.socket ∙ sym id;
  entries = w.entries ∙ sym (ap (entries_of t.socket) log);
  counted = subst IsCounted (sym log) w.counted;
  facts = subst (IsTrailOf t) (sym log) w.facts;
}

-- the two facts, behind a close
facts_closed : (t : TrailNow) (log : Log) (entries : List Entry) → t.entries ≡ entries_of t.socket log → length t.entries ≤ length entries
    → entries ≡ entries_of t.socket (after_close log) → IsTrailOf t log → IsTrailOf (record t { entries = entries }) (after_close log)
facts_closed t log entries was more is f =
    let u : TrailNow = record t { entries = entries } in
    let now : Log = after_close log in
    let same : (n : ℕ) → runs_on t.socket (take n t.entries) ≡ runs_on t.socket (take n entries) =
    λ n. (ap (λ l. runs_on t.socket (take n l)) was ∙ runs_on-take t.socket n log) ∙ sym (ap (λ l. runs_on t.socket (take n l)) is ∙ runs_on-take t.socket n now) in
    record {
      refused = f.refused;
      refused_fits = f.refused_fits;
      many = f.many;
      rising = rises_more 0 t.judged_after (length t.entries) (length entries) more f.rising;
      asks = λ place h.
          let n = slice_index t.judged_after place in
          let asked : IsAsked u now place (runs_on t.socket (take n t.entries)) = record {
            exchange = (f.asks place h).exchange;
            standing = (f.asks place h).standing;
            comes = (f.asks place h).comes;
            fed = (f.asks place h).fed;
            given = (f.asks place h).given;
            first = (f.asks place h).first;
          } in
          subst (IsAsked u now place) (same n) asked;
      points = λ n.
          let point : IsPoint (begins u) now (replies_by u f.refused n) (runs_on t.socket (take n t.entries)) = record {
            exchange = (f.points n).exchange;
            standing = (f.points n).standing;
            comes = (f.points n).comes;
            fed = (f.points n).fed;
            given = (f.points n).given;
            written = (f.points n).written;
          } in
          subst (IsPoint (begins u) now (replies_by u f.refused n)) (same n) point;
    }

-- what a close leaves of a trail that tells all
closed_whole : (t : TrailNow) (end : SeenEnd) → end.log.closed ≡ false → IsWholeTrail t end → IsWholeTrail (closed_trail false t) (after_closing end)
closed_whole t end unclosed w =
    let more = entry.Closed t.socket ∷ [] in
    let entries : t.entries ++ more ≡ entries_of t.socket (after_close end.log) =
    ap (λ l. l ++ more) (w.entries ∙ (ap (λ b. map (entry_of t.socket) end.log.runs ++ closing t.socket b) unclosed ∙ append-nil (map (entry_of t.socket) end.log.runs))) in
    record {
      socket = w.socket;
      entries = entries;
      counted = let c : IsCounted (after_close end.log) = record { got = w.counted.got; put = w.counted.put } in c;
      facts = facts_closed t end.log (t.entries ++ more) w.entries (omega (arith, length-append t.entries more)) entries w.facts;
    }

closed_end : (end : SeenEnd) → end.log.closed ≡ true → after_closing end ≡ end
closed_end end closed = ap (λ b. record end { log = record end.log { closed = b } }) (sym closed)

closed_log : (log : Log) → log.closed ≡ true → after_close log ≡ log
closed_log log closed = ap (λ b. record log { closed = b }) (sym closed)

closed_at : (closed : Bool) (end : SeenEnd) (p : PastNow) → end.log.closed ≡ closed → IsPastOf end p
    → IsPastOf (after_closing end) (record { trail = closed_trail closed p.trail; log = after_close p.log })
closed_at true end p closed h =
    let log : after_close p.log ≡ p.log = closed_log p.log (h.again.closed ∙ closed) in
    rw (closed_end end closed, log) h
closed_at false end p closed h = record {
  again = record { got = h.again.got; put = h.again.put; runs = h.again.runs; closed = refl };
  whole = closed_whole p.trail end closed h.whole;
  unjudged = h.unjudged;
}

-- an end that is closed before all was done again
pub closed_past : (end new : SeenEnd) (p q : PastNow) → IsPastOf end p → new ≡ after_closing end → q.log ≡ after_close p.log → q.trail ≡ closed_trail p.log.closed p.trail → IsPastOf new q
closed_past end new p q h e log trail =
    let is : q ≡ record { trail = closed_trail p.log.closed p.trail; log = after_close p.log } =
    (let all : record { trail = q.trail; log = q.log } ≡ record { trail = closed_trail p.log.closed p.trail; log = after_close p.log } = rw (trail, log) refl in all) in
    rw (e, is) (closed_at p.log.closed end p (sym h.again.closed) h)
