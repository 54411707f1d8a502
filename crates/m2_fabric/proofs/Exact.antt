-- Ends and ports in memory answer exactly so, but for want of memory.
use Rattle.std.proofs.Common.{◌≡◌, ℕ, ◌<◌, ◌≤◌, ◌||◌, Bool, true, false, if◌then◌else◌, List, [], ◌∷◌, length, min, take, Option, None, Some, refl, sym, ◌∙◌, ap, arith}
use Rattle.std.specs.Prelude.{◌≢◌}
use Rattle.std.specs.Option.{option_map}
use Rattle.std.proofs.lemmas.Bool.{or_from}
use Rattle.m2_edge.specs.Faults.{next_count}
use Rattle.m2_fabric.specs.Cuts.{allowance, is_cut}
use Rattle.m2_fabric.specs.End.{ComesFrom, Inflow, IsReadUp, IsWhole, SeenEnd, TakesBytes, unread, with_read}
use Rattle.m2_fabric.specs.Exact.{after_read_of, after_write_of, read_of, read_whole, write_of}
use Rattle.m2_fabric.specs.Laws.{ConnectsAreExact, MemoryIsExact, ReadsAreExact, WritesAreExact}
use Rattle.m2_fabric.specs.Port.{Accepts, OpensNext, SeenPort}
use Rattle.m2_fabric.specs.declared.end.EndRead.{EndRead}
use Rattle.m2_fabric.specs.declared.end.EndRead.TheVariants as read
use Rattle.m2_fabric.specs.declared.end.EndWrite.{EndWrite}
use Rattle.m2_fabric.specs.declared.end.EndWrite.TheVariants as write
use Rattle.m2_fabric.specs.declared.log.TheConstants.{MOST_MOVED}
use Rattle.m2_fabric.specs.declared.port.Connect.TheVariants as connect
use Rattle.m2_fabric.specs.declared.port.Taken.{Taken}
use Rattle.m2_fabric.specs.declared.port.Taken.TheVariants as accept
use Rattle.m2_bytes.proofs.m2_lemmas.Options.{of_some}

-- ---- reads

read_if_whole : (left : Option ℕ) (i : Inflow) (len : ℕ) → IsWhole left i → read_of left i len ≡ read_whole left i len i.readable
read_if_whole left i len w = rw (or_from (is_cut left) i.failed w.uncut w.whole) refl

read_if_up : (left : Option ℕ) (i : Inflow) (len : ℕ) (at_end : Bool) → IsReadUp at_end left i → read_of left i len ≡ (if at_end then read.Ended else read.NotYet)
read_if_up left i len at_end u = read_if_whole left i len u.whole ∙ ap (read_whole left i len) u.nothing ∙ ap (λ (b : Bool). if b then read.Ended else read.NotYet) u.ended

some_whole : (left : Option ℕ) (i : Inflow) (len n : ℕ) (bytes : List ℕ) → 0 < n → n ≤ length bytes
    → read_whole left i len bytes ≡ read.Got (min (allowance left len) (min (length i.readable) MOST_MOVED))
some_whole left i len n [] h k = absurd (omega (arith, h, k))
some_whole left i len n (b ∷ bs) h k = refl

read_got : (left : Option ℕ) (i : Inflow) (n : ℕ) (piece : List ℕ) → 0 < n → ComesFrom left i n piece → read.Got n ≡ read_of left i (length piece)
read_got left i n piece some c = ap (λ (k : ℕ). read.Got k) c.most ∙ sym (some_whole left i (length piece) n i.readable some c.fits) ∙ sym (read_if_whole left i (length piece) c.whole)

same_read : (e : SeenEnd) (i : Inflow) (n : ℕ) (piece : List ℕ) → e.inflow ≡ Some i → take n piece ≡ take n i.readable
    → record (with_read (read.Got n) piece e) { inflow = option_map (unread n) e.inflow } ≡ after_read_of (read.Got n) i e
same_read e i n piece is same = rw (is, same) refl

pub reads_are_exact : ReadsAreExact
reads_are_exact (read.Got n) piece i e new is memory r =
    let c = of_some (λ i. ComesFrom e.left i n piece) e.inflow i is r.1 in
    let answer = read_got e.left i n piece r.0.some c in
    (answer, r.2 ∙ same_read e i n piece is c.bytes ∙ ap (λ (a : EndRead). after_read_of a i e) answer)
reads_are_exact read.NotYet piece i e new is memory r =
    let answer = sym (read_if_up e.left i (length piece) false (of_some (IsReadUp false e.left) e.inflow i is r.0)) in
    (answer, r.1 ∙ ap (λ (a : EndRead). after_read_of a i e) answer)
reads_are_exact read.Ended piece i e new is memory r =
    let answer = sym (read_if_up e.left i (length piece) true (of_some (IsReadUp true e.left) e.inflow i is r.0)) in
    (answer, r.1 ∙ ap (λ (a : EndRead). after_read_of a i e) answer)
reads_are_exact read.Failed piece i e new is memory r =
    let cause = of_some (λ (i : Inflow). (is_cut e.left || i.failed) ≡ true) e.inflow i is r.0.cause in
    let once = of_some (λ (i : Inflow). new.faults ≡ next_count e.faults) e.inflow i is r.0.once in
    let answer : read.Failed ≡ read_of e.left i (length piece) = rw cause refl in
    (answer, r.1 ∙ ap (λ (n : ℕ). record e { faults = n }) once ∙ ap (λ (a : EndRead). after_read_of a i e) answer)
reads_are_exact read.NoMemory piece i e new is memory r = absurd (memory refl)

-- ---- writes

write_put : (left : Option ℕ) (i : Inflow) (n : ℕ) (piece : List ℕ) → TakesBytes left i n piece → write.Put n ≡ write_of left i (length piece)
write_put left i n piece t = ap (λ (k : ℕ). write.Put k) t.most ∙ rw (or_from (is_cut left) (i.failed || i.closed) t.whole.uncut (or_from i.failed i.closed t.whole.whole t.other_end)) refl

pub writes_are_exact : WritesAreExact
writes_are_exact (write.Put n) piece i e new is memory r =
    let answer = write_put e.left i n piece (of_some (λ i. TakesBytes e.left i n piece) e.inflow i is r.1) in
    (answer, r.2 ∙ ap (λ (a : EndWrite). after_write_of a piece e) answer)
writes_are_exact write.NotYet piece i e new is memory r = absurd (cc (is, r.0))
writes_are_exact write.Failed piece i e new is memory r =
    let cause = of_some (λ (i : Inflow). (is_cut e.left || (i.failed || i.closed)) ≡ true) e.inflow i is r.0.cause in
    let once = of_some (λ (i : Inflow). new.faults ≡ next_count e.faults) e.inflow i is r.0.once in
    let answer : write.Failed ≡ write_of e.left i (length piece) = rw cause refl in
    (answer, r.1 ∙ ap (λ (n : ℕ). record e { faults = n }) once ∙ ap (λ (a : EndWrite). after_write_of a piece e) answer)
writes_are_exact write.NoMemory piece i e new is memory r = absurd (memory refl)

-- ---- ports

pub connects_are_exact : ConnectsAreExact
connects_are_exact (connect.Made e) to waiting p new is memory r =
    let o = of_some (λ w. OpensNext to w p new e) p.waiting waiting is r.1.1 in
    (ap (λ (e : SeenEnd). connect.Made e) o.end, r.2 ∙ rw (o.cuts, o.end) refl)
connects_are_exact connect.Failed to waiting p new is memory r = absurd (cc (is, r.0.1))
connects_are_exact connect.NoMemory to waiting p new is memory r = absurd (memory refl)

none_accepted : (answer : Taken SeenEnd) (p new : SeenPort) → p.waiting ≡ Some [] → answer ≢ accept.NoMemory → Accepts answer p new → answer ≡ accept.NotYet
none_accepted (accept.Made e) p new is memory a = absurd (by new.waiting (sym is ∙ a.2.0))
  where
    by : (o : Option (List SeenEnd)) → Some [] ≡ option_map (λ rest. e ∷ rest) o → ⊥
    by None h = absurd (cc)
    by (Some rest) h = absurd (cc)
none_accepted accept.NotYet p new is memory a = refl
none_accepted accept.Failed p new is memory a = absurd (cc (is, a.0.1))
none_accepted accept.NoMemory p new is memory a = absurd (memory refl)

one_accepted : (answer : Taken SeenEnd) (e : SeenEnd) (rest : List SeenEnd) (p new : SeenPort) → p.waiting ≡ Some (e ∷ rest) → answer ≢ accept.NoMemory
    → Accepts answer p new → (answer ≡ accept.Made e) × (new.waiting ≡ Some rest)
one_accepted (accept.Made x) e rest p new is memory a = by new.waiting (sym is ∙ a.2.0)
  where
    by : (o : Option (List SeenEnd)) → Some (e ∷ rest) ≡ option_map (λ rest. x ∷ rest) o → (accept.Made x ≡ accept.Made e) × (o ≡ Some rest)
    by None h = absurd (cc)
    by (Some more) h = (cc, cc)
one_accepted accept.NotYet e rest p new is memory a = absurd (cc (is, of_some (λ w. w ≡ []) p.waiting (e ∷ rest) is a.0))
one_accepted accept.Failed e rest p new is memory a = absurd (cc (is, a.0.1))
one_accepted accept.NoMemory e rest p new is memory a = absurd (memory refl)

pub exact : MemoryIsExact
exact = record {
  reads = reads_are_exact;
  writes = writes_are_exact;
  connects = connects_are_exact;
  accepts = record { none = none_accepted; some = one_accepted };
}
