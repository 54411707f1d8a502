-- An end that is read, written or closed is the same end, later.
use Rattle.std.proofs.Common.{◌≡◌, ℕ, true, List, ◌++◌, take, drop, Option, Some, None, IfSome, refl, ap, ◌∙◌, append_assoc}
use Rattle.std.proofs.lemmas.List.{take-append-drop}
use Rattle.std.specs.Option.{option_map}
use Rattle.m2_fabric.specs.declared.end.EndRead.{EndRead}
use Rattle.m2_fabric.specs.declared.end.EndRead.TheVariants as read
use Rattle.m2_fabric.specs.declared.end.EndWrite.{EndWrite}
use Rattle.m2_fabric.specs.declared.end.EndWrite.TheVariants as write
use Rattle.m2_fabric.specs.End.{ComesFrom, Inflow, Reads, SeenEnd, Writes, after_closing, unread}
use Rattle.m2_growth.specs.Ends.{EndGrows, come_to}
use Rattle.m2_growth.proofs.Ends.{grows_same, on_by, on_same}

-- what it got and put is as it was, and so is what came to it
pub grows_by : (e f : SeenEnd) → f.id ≡ e.id → f.log.got ≡ e.log.got → f.log.put ≡ e.log.put → (e.log.closed ≡ true → f.log.closed ≡ true) → f.inflow ≡ e.inflow → EndGrows e f
grows_by e f id got put closed inflow = record {
  id = id;
  got = on_by e.log.got f.log.got got;
  put = on_by e.log.put f.log.put put;
  closed = closed;
  come = rw (got, inflow) refl;
}

pub grows_equal : (e f : SeenEnd) → f ≡ e → EndGrows e f
grows_equal e f h = rw h (grows_same e)

pub closing_grows : (e : SeenEnd) → EndGrows e (after_closing e)
closing_grows e = record { id = refl; got = on_same e.log.got; put = on_same e.log.put; closed = λ _. refl; come = refl }

-- ---- reading

-- the bytes that are read are the first ones that were readable
come_read : (left : Option ℕ) (n : ℕ) (got piece : List ℕ) (o : Option Inflow) → IfSome o (λ i. ComesFrom left i n piece) →
    option_map (λ (i : Inflow). (got ++ take n piece) ++ i.readable) (option_map (unread n) o) ≡ option_map (λ (i : Inflow). got ++ i.readable) o
come_read left n got piece (Some i) from =
    ap (λ l. Some l) (append_assoc got (take n piece) (drop n i.readable) ∙ ap (λ l. got ++ (l ++ drop n i.readable)) from.bytes ∙ ap (λ l. got ++ l) (take-append-drop n i.readable))
come_read left n got piece None from = refl

pub read_grows : (answer : EndRead) (piece : List ℕ) (old new : SeenEnd) → Reads answer piece old new → EndGrows old new
read_grows (read.Got n) piece old new (_, from, e) = record {
  id = ap (λ s. s.id) e;
  got = (take n piece, ap (λ s. s.log.got) e);
  put = on_by old.log.put new.log.put (ap (λ s. s.log.put) e);
  closed = λ h. ap (λ s. s.log.closed) e ∙ h;
  come = ap come_to e ∙ come_read old.left n old.log.got piece old.inflow from;
}
read_grows read.NotYet piece old new (_, e) = grows_by old new (ap (λ s. s.id) e) (ap (λ s. s.log.got) e) (ap (λ s. s.log.put) e) (λ h. ap (λ s. s.log.closed) e ∙ h) (ap (λ s. s.inflow) e)
read_grows read.Ended piece old new (_, e) = grows_by old new (ap (λ s. s.id) e) (ap (λ s. s.log.got) e) (ap (λ s. s.log.put) e) (λ h. ap (λ s. s.log.closed) e ∙ h) (ap (λ s. s.inflow) e)
read_grows read.Failed piece old new (_, e) = grows_by old new (ap (λ s. s.id) e) (ap (λ s. s.log.got) e) (ap (λ s. s.log.put) e) (λ h. ap (λ s. s.log.closed) e ∙ h) (ap (λ s. s.inflow) e)
read_grows read.NoMemory piece old new e = grows_equal old new e

-- ---- writing

pub write_grows : (answer : EndWrite) (piece : List ℕ) (old new : SeenEnd) → Writes answer piece old new → EndGrows old new
write_grows (write.Put n) piece old new (_, _, e) = record {
  id = ap (λ s. s.id) e;
  got = on_by old.log.got new.log.got (ap (λ s. s.log.got) e);
  put = (take n piece, ap (λ s. s.log.put) e);
  closed = λ h. ap (λ s. s.log.closed) e ∙ h;
  come = ap come_to e;
}
write_grows write.NotYet piece old new (_, e) = grows_by old new (ap (λ s. s.id) e) (ap (λ s. s.log.got) e) (ap (λ s. s.log.put) e) (λ h. ap (λ s. s.log.closed) e ∙ h) (ap (λ s. s.inflow) e)
write_grows write.Failed piece old new (_, e) = grows_by old new (ap (λ s. s.id) e) (ap (λ s. s.log.got) e) (ap (λ s. s.log.put) e) (λ h. ap (λ s. s.log.closed) e ∙ h) (ap (λ s. s.inflow) e)
write_grows write.NoMemory piece old new e = grows_equal old new e
