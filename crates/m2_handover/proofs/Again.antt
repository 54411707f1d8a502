-- What is done again stays the first of what was done.
use Rattle.std.proofs.Common.{◌≡◌, ℕ, zero, suc, ◌+◌, ◌≤◌, ◌<◌, Bool, List, [], ◌∷◌, ◌++◌, length, take, drop, slice_get, Some, refl, sym, ap, ◌∙◌, arith}
use Rattle.std.proofs.lemmas.List.{length-append, length-take-le, take_all}
use Rattle.std.proofs.lemmas.Option.{slice_get_within}
use Rattle.std.proofs.Math.Seq.{take-add}
use Rattle.m2_fabric.specs.Log.{Log, after_read, after_write}
use Rattle.m2_fabric.specs.declared.end.EndRead.TheVariants as read
use Rattle.m2_fabric.specs.declared.end.EndWrite.TheVariants as write
use Rattle.m2_fabric.specs.declared.log.Run.{Run}
use Rattle.m2_handover.specs.Past.{IsDoneAgain, IsFrontOf, IsNextRead, IsNextWrite}

-- ---- fronts

-- one that is as long is all of it
whole_front : {A : Type 0} (all front : List A) → IsFrontOf all front → length front ≡ length all → front ≡ all
whole_front all front h e = sym h.same ∙ take_all (length front) all (omega (arith, e))

-- what follows it makes it longer
longer_front : {A : Type 0} (all front more : List A) → IsFrontOf all front → length front + length more ≤ length all
    → take (length more) (drop (length front) all) ≡ more → IsFrontOf all (front ++ more)
longer_front all front more h fits same = record {
  within = omega (arith, length-append front more, fits);
  same = ap (λ (n : ℕ). take n all) (length-append front more) ∙ take-add (length front) (length more) all
      ∙ ap (λ l. l ++ take (length more) (drop (length front) all)) h.same ∙ ap (λ l. front ++ l) same;
}

one_there : {A : Type 0} (k : ℕ) (all : List A) (x : A) → slice_get all k ≡ Some x → take 1 (drop k all) ≡ x ∷ []
one_there k [] x h = absurd (cc)
one_there zero (y ∷ ys) x h = let is : y ≡ x = cc in ap (λ z. z ∷ []) is
one_there (suc k) (y ∷ ys) x h = one_there k ys x h

next_front : {A : Type 0} (all front : List A) (x : A) → IsFrontOf all front → slice_get all (length front) ≡ Some x → IsFrontOf all (front ++ x ∷ [])
next_front all front x h there = longer_front all front (x ∷ []) h (let i : length front < length all = slice_get_within all (length front) x there in omega (arith, i))
    (one_there (length front) all x there)

more_front : (all front piece : List ℕ) (n : ℕ) → IsFrontOf all front → n ≤ length piece → length front + n ≤ length all
    → take n piece ≡ take n (drop (length front) all) → IsFrontOf all (front ++ take n piece)
more_front all front piece n h fits there same =
    let long : length (take n piece) ≡ n = length-take-le n piece fits in
    longer_front all front (take n piece) h (omega (arith, long, there)) (ap (λ (m : ℕ). take m (drop (length front) all)) long ∙ sym same)

-- ---- all is done

abbrev log_with : List ℕ → List ℕ → List Run → (closed dry blocked ended : Bool) → Log
log_with got put runs closed dry blocked ended = record { got = got; put = put; runs = runs; closed = closed; dry = dry; blocked = blocked; ended = ended }

pub all_is_done : (was log : Log) → IsDoneAgain was log → length log.got ≡ length was.got → length log.put ≡ length was.put → length log.runs ≡ length was.runs
    → log.dry ≡ was.dry → log.blocked ≡ was.blocked → log.ended ≡ was.ended → log ≡ was
all_is_done was log h g p r d b e =
    let got : log.got ≡ was.got = whole_front was.got log.got h.got g in
    let put : log.put ≡ was.put = whole_front was.put log.put h.put p in
    let runs : log.runs ≡ was.runs = whole_front was.runs log.runs h.runs r in
    let all : log_with log.got log.put log.runs log.closed log.dry log.blocked log.ended ≡ log_with was.got was.put was.runs was.closed was.dry was.blocked was.ended =
    rw (got, put, runs, h.closed, d, b, e) refl in
    all

-- ---- a read and a write

pub read_is_done : (was old log new : Log) (n : ℕ) (piece : List ℕ) → IsDoneAgain was old → IsNextRead was old (length piece) n
    → take n piece ≡ take n (drop (length old.got) was.got) → log ≡ old → new ≡ after_read (read.Got n) piece log → IsDoneAgain was new
read_is_done was old log new n piece h next same e f = rw (f, e) (record {
  got = more_front was.got old.got piece n h.got next.fits next.there same;
  put = h.put;
  runs = next_front was.runs old.runs _ h.runs next.run;
  closed = h.closed;
})

pub waiting_is_done : (was log new : Log) (piece : List ℕ) → IsDoneAgain was log → new ≡ after_read read.NotYet piece log → IsDoneAgain was new
waiting_is_done was log new piece h e = rw e (record { got = h.got; put = h.put; runs = h.runs; closed = h.closed })

pub write_is_done : (was old log new : Log) (n : ℕ) (piece : List ℕ) → IsDoneAgain was old → IsNextWrite was old piece n
    → log ≡ old → new ≡ after_write (write.Put n) piece log → IsDoneAgain was new
write_is_done was old log new n piece h next e f = rw (f, e) (record {
  got = h.got;
  put = more_front was.put old.put piece n h.put next.fits next.there next.same;
  runs = next_front was.runs old.runs _ h.runs next.run;
  closed = h.closed;
})

pub blocked_is_done : (was log new : Log) (piece : List ℕ) → IsDoneAgain was log → new ≡ after_write write.NotYet piece log → IsDoneAgain was new
blocked_is_done was log new piece h e = rw e (record { got = h.got; put = h.put; runs = h.runs; closed = h.closed })
