-- Trails beside logs that grow.
use Rattle.std.proofs.Common.{◌≡◌, ℕ, suc, List, ◌++◌, take, drop, slice_index, sym, ap, ◌∙◌, subst, arith}
use Rattle.std.proofs.lemmas.List.{take-append-drop}
use Rattle.std.proofs.lemmas.List.Elements.{filter_map-append}
use Rattle.m2_fabric.specs.declared.socket.SocketId.{SocketId}
use Rattle.m2_fabric.specs.End.{SeenEnd}
use Rattle.m2_fabric.specs.Log.{Log}
use Rattle.m2_handshake.specs.Course.{course_of}
use Rattle.m2_handshake.specs.Standing.{fed}
use Rattle.m2_journal.specs.declared.entry.Entry.{Entry}
use Rattle.m2_journal.specs.Items.{run_of, runs_on}
use Rattle.m2_trail.specs.TrailLaws.{GoesOn, IsWithin, TrailsStay, TrailsCover}
use Rattle.m2_trail.specs.Replies.{replies_to}
use Rattle.m2_trail.specs.Trails.{TrailNow, half_bytes, IsAsked, IsTaken, IsTakenTrail, IsTrailOf, IsWholeTrail, ComesToAsk, begins, replies_by, runs_of, read_by, written_by, unread_of}
use Rattle.m2_trail.proofs.Points.{Longer, Within, got_stays, put_stays, point_stays}
use Rattle.m2_trail.proofs.Runs.{read_by-append, written_by-append, runs_on-all}

longer : (old new : Log) → GoesOn old new → Longer old new
longer old new g = record { got = g.got; put = g.put }

whole_within : (t : TrailNow) (log : Log) → IsWithin t log → Within (runs_of t) log
whole_within t log w = record { got = w.got; put = w.put }

-- the runs of the first entries are the first ones
runs_split : (k : SocketId) (n : ℕ) (es : List Entry) → runs_on k es ≡ runs_on k (take n es) ++ runs_on k (drop n es)
runs_split k n es = sym (ap (runs_on k) (take-append-drop n es)) ∙ filter_map-append (run_of k) (take n es) (drop n es)

first_within : (t : TrailNow) (log : Log) (n : ℕ) → IsWithin t log → Within (runs_on t.socket (take n t.entries)) log
first_within t log n w =
    let split = runs_split t.socket n t.entries in
    let read = ap read_by split ∙ read_by-append (runs_on t.socket (take n t.entries)) (runs_on t.socket (drop n t.entries)) in
    let written = ap written_by split ∙ written_by-append (runs_on t.socket (take n t.entries)) (runs_on t.socket (drop n t.entries)) in
    record { got = omega (arith, w.got); put = omega (arith, w.put) }

asked_stays : (t : TrailNow) (old new : Log) (place n : ℕ) → IsWithin t old → GoesOn old new →
    IsAsked t old place (runs_on t.socket (take n t.entries)) → IsAsked t new place (runs_on t.socket (take n t.entries))
asked_stays t old new place n w g a =
    subst (λ bytes. ComesToAsk (begins t) bytes (replies_to (take place t.judged)) (take (suc place) t.judged))
    (sym (got_stays (runs_on t.socket (take n t.entries)) old new (first_within t old n w) (longer old new g))) a

facts_stay : (t : TrailNow) (old new : Log) → IsWithin t old → GoesOn old new → IsTrailOf t old → IsTrailOf t new
facts_stay t old new w g f = record {
  refused = f.refused;
  refused_fits = f.refused_fits;
  many = f.many;
  rising = f.rising;
  asks = λ place h. asked_stays t old new place (slice_index t.judged_after place) w g (f.asks place h);
  points = λ n. point_stays (begins t) old new (replies_by t f.refused n) (runs_on t.socket (take n t.entries)) (first_within t old n w) (longer old new g) (f.points n);
}

unread_stays : (t : TrailNow) (old new : Log) → IsWithin t old → GoesOn old new → unread_of t new ≡ unread_of t old
unfolding unread_of
unread_stays t old new w g =
    ap (λ bytes. (course_of (fed (begins t) bytes) (replies_to t.judged)).standing.rest) (got_stays (runs_of t) old new (whole_within t old w) (longer old new g))

half_stays : (t : TrailNow) (old new : Log) → IsWithin t old → GoesOn old new → IsTaken (begins t) (half_bytes t old) t.judged (unread_of t old) →
    IsTaken (begins t) (half_bytes t new) t.judged (unread_of t new)
half_stays t old new w g k = record {
  exchange = k.exchange;
  standing = k.standing;
  comes = k.comes;
  got = k.got ∙ sym (got_stays (runs_of t) old new (whole_within t old w) (longer old new g));
  put = k.put ∙ sym (put_stays (runs_of t) old new (whole_within t old w) (longer old new g));
  replies = k.replies;
  asks = k.asks;
  stage = k.stage;
  unread = k.unread ∙ sym (unread_stays t old new w g);
}

taken_stay : (t : TrailNow) (old new : Log) → IsWithin t old → GoesOn old new → IsTakenTrail t old → IsTakenTrail t new
taken_stay t old new w g it = record { half = half_stays t old new w g it.half; earlier = it.earlier; last = it.last }

pub trails_stay : TrailsStay
trails_stay = record { facts = facts_stay; unread = unread_stays; taken = taken_stay }

-- ---- whole trails

runs_are : (t : TrailNow) (end : SeenEnd) → IsWholeTrail t end → runs_of t ≡ end.log.runs
runs_are t end w = ap (runs_on t.socket) w.entries ∙ runs_on-all t.socket end.log

all_within : (t : TrailNow) (end : SeenEnd) → IsWholeTrail t end → IsWithin t end.log
all_within t end w =
    let read = ap read_by (runs_are t end w) in
    let written = ap written_by (runs_are t end w) in
    record { got = omega (arith, w.counted.got); put = omega (arith, w.counted.put) }

pub trails_cover : TrailsCover
trails_cover = record { runs = runs_are; within = all_within }
