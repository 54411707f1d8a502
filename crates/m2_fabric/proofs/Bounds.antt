-- A call of an end inside, as it is seen outside.
use Rattle.std.proofs.Common.{◌≡◌, ℕ, ◌-◌, ◌≤◌, ◌||◌, Bool, true, false, List, length, min, take, Option, None, Some, refl, sym, ◌∙◌, ap, subst, arith, length-take}
use Rattle.std.proofs.lemmas.List.{take-take}
use Rattle.std.specs.Prelude.{IfSome}
use Rattle.m2_edge.specs.Faults.{HasRisen, next_count}
use Rattle.m2_fabric.specs.Cuts.{allowance, is_cut, least, passed}
use Rattle.m2_fabric.specs.Log.{IsPieceOf}
use Rattle.m2_fabric.specs.End.{ComesFrom, Fails, Inflow, IsReadUp, IsWhole, Reads, SeenEnd, TakesBytes, Writes, left_read, left_written}
use Rattle.m2_fabric.specs.declared.end.EndRead.{EndRead}
use Rattle.m2_fabric.specs.declared.end.EndRead.TheVariants as read
use Rattle.m2_fabric.specs.declared.end.EndWrite.{EndWrite}
use Rattle.m2_fabric.specs.declared.end.EndWrite.TheVariants as write
use Rattle.m2_fabric.specs.declared.log.TheConstants.{MOST_MOVED}
use Rattle.m2_fabric.specs.CutEnd.{allowed}

-- ---- two bounds

least-allows : (l k : Option ℕ) (n : ℕ) → allowance k (allowance l n) ≡ allowance (least l k) n
least-allows None k n = refl
least-allows (Some a) None n = refl
least-allows (Some a) (Some b) n = omega (arith)

least-passed : (l k : Option ℕ) (n : ℕ) → least (passed n l) (passed n k) ≡ passed n (least l k)
least-passed None k n = refl
least-passed (Some a) None n = refl
least-passed (Some a) (Some b) n = ap (λ (x : ℕ). Some x) (omega (arith))

least-uncut : (l k : Option ℕ) → is_cut l ≡ false → is_cut k ≡ false → is_cut (least l k) ≡ false
least-uncut None k h i = i
least-uncut (Some a) None h i = h
least-uncut (Some a) (Some b) h i = grind arith

least-cut : (l k : Option ℕ) → is_cut k ≡ true → is_cut (least l k) ≡ true
least-cut None k i = i
least-cut (Some a) None i = absurd (cc)
least-cut (Some a) (Some b) i = grind arith

cut-least : (l k : Option ℕ) → is_cut l ≡ true → is_cut (least l k) ≡ true
cut-least None k h = absurd (cc)
cut-least (Some a) None h = h
cut-least (Some a) (Some b) h = grind arith

allowed-length : (l : Option ℕ) (piece : List ℕ) → length (allowed l piece) ≡ allowance l (length piece)
allowed-length None piece = omega (arith, length-take (length piece) piece)
allowed-length (Some a) piece = omega (arith, length-take (min a (length piece)) piece)

-- ---- what is seen outside

within : (n m : ℕ) (piece : List ℕ) → n ≤ length (take m piece) → n ≤ m
within n m piece h = omega (arith, h, length-take m piece)

-- a count of bytes of the first part of a piece is one of the piece
piece_of : (n m : ℕ) (piece : List ℕ) → IsPieceOf n (take m piece) → IsPieceOf n piece
piece_of n m piece p = record { some = p.some; fits = omega (arith, p.fits, length-take m piece); most = p.most }

-- an end with another count of faults, and this bound too
abbrev pub bounding : Option ℕ → ℕ → SeenEnd → SeenEnd
bounding l f s = record s { faults = f; left = least l s.left }

whole_outside : (l k : Option ℕ) (i : Inflow) → is_cut l ≡ false → IsWhole k i → IsWhole (least l k) i
whole_outside l k i uncut w = record { uncut = least-uncut l k uncut w.uncut; whole = w.whole }

most_outside : (l k : Option ℕ) (n most : ℕ) (piece : List ℕ) → n ≡ min (allowance k (length (allowed l piece))) most → n ≡ min (allowance (least l k) (length piece)) most
most_outside l k n most piece h = h ∙ ap (λ (x : ℕ). min (allowance k x) most) (allowed-length l piece) ∙ ap (λ (x : ℕ). min x most) (least-allows l k (length piece))

comes_from : (o : Option Inflow) (l k : Option ℕ) (n : ℕ) (piece : List ℕ) → is_cut l ≡ false → n ≤ allowance l (length piece)
    → IfSome o (λ i. ComesFrom k i n (allowed l piece)) → IfSome o (λ i. ComesFrom (least l k) i n piece)
comes_from None l k n piece uncut h c = tt
comes_from (Some i) l k n piece uncut h c = record {
  whole = whole_outside l k i uncut c.whole;
  fits = c.fits;
  bytes = sym (take-take n (allowance l (length piece)) piece h) ∙ c.bytes;
  most = most_outside l k n (min (length i.readable) MOST_MOVED) piece c.most;
}

read_up : (o : Option Inflow) (l k : Option ℕ) (at_end : Bool) → is_cut l ≡ false → IfSome o (IsReadUp at_end k) → IfSome o (IsReadUp at_end (least l k))
read_up None l k at_end uncut c = tt
read_up (Some i) l k at_end uncut c = record { whole = whole_outside l k i uncut c.whole; nothing = c.nothing; ended = c.ended }

takes_bytes : (o : Option Inflow) (l k : Option ℕ) (n : ℕ) (piece : List ℕ) → is_cut l ≡ false
    → IfSome o (λ i. TakesBytes k i n (allowed l piece)) → IfSome o (λ i. TakesBytes (least l k) i n piece)
takes_bytes None l k n piece uncut c = tt
takes_bytes (Some i) l k n piece uncut c = record {
  whole = whole_outside l k i uncut c.whole;
  other_end = c.other_end;
  most = most_outside l k n MOST_MOVED piece c.most;
}

risen : (f : ℕ) → HasRisen f (next_count f)
risen f = omega arith

either : (c d e : Bool) → (c ≡ true → d ≡ true) → (c || e) ≡ true → (d || e) ≡ true
either true d e h o = rw (h refl) refl
either false true e h o = refl
either false false e h o = o

cause_outside : (o : Option Inflow) (l k : Option ℕ) (told : Inflow → Bool) → (is_cut k ≡ true → is_cut (least l k) ≡ true)
    → IfSome o (λ i. (is_cut k || told i) ≡ true) → IfSome o (λ i. (is_cut (least l k) || told i) ≡ true)
cause_outside None l k told h c = tt
cause_outside (Some i) l k told h c = either (is_cut k) (is_cut (least l k)) (told i) h c

cut_cause : (o : Option Inflow) (l k : Option ℕ) (told : Inflow → Bool) → is_cut l ≡ true → IfSome o (λ i. (is_cut (least l k) || told i) ≡ true)
cut_cause None l k told h = tt
cut_cause (Some i) l k told h = rw (cut-least l k h) refl

counts_once : (o : Option Inflow) (f : ℕ) → IfSome o (λ i. next_count f ≡ next_count f)
counts_once None f = tt
counts_once (Some i) f = refl

-- the same end, with this bound too
abbrev within_bound : Option ℕ → SeenEnd → SeenEnd
within_bound l s = bounding l s.faults s

-- one that failed inside
fails_outside : (told : Inflow → Bool) (l : Option ℕ) (old new : SeenEnd) → Fails told old new → Fails told (within_bound l old) (within_bound l new)
fails_outside told l old new h = record {
  risen = h.risen;
  cause = cause_outside old.inflow l old.left told (least-cut l old.left) h.cause;
  once = h.once;
}

-- one that failed by itself, being cut
fails_cut : (told : Inflow → Bool) (l : Option ℕ) (f : ℕ) (e : SeenEnd) → is_cut l ≡ true → Fails told (bounding l f e) (bounding l (next_count f) e)
fails_cut told l f e h = record { risen = risen f; cause = cut_cause e.inflow l e.left told h; once = counts_once e.inflow f }

pub reads_cut : (piece : List ℕ) (l : Option ℕ) (f : ℕ) (e : SeenEnd) → is_cut l ≡ true → Reads read.Failed piece (bounding l f e) (bounding l (next_count f) e)
reads_cut piece l f e h = (fails_cut (λ i. i.failed) l f e h, refl)

pub writes_cut : (piece : List ℕ) (l : Option ℕ) (f : ℕ) (e : SeenEnd) → is_cut l ≡ true → Writes write.Failed piece (bounding l f e) (bounding l (next_count f) e)
writes_cut piece l f e h = (fails_cut (λ i. i.failed || i.closed) l f e h, refl)

reads_within : (answer : EndRead) (l : Option ℕ) (piece : List ℕ) (old new : SeenEnd) → is_cut l ≡ false → Reads answer (allowed l piece) old new
    → Reads answer piece (within_bound l old) (within_bound (left_read answer l) new)
reads_within (read.Got n) l piece old new uncut r =
    let m = allowance l (length piece) in
    let h : n ≤ m = within n m piece r.0.fits in (
      piece_of n m piece r.0,
      comes_from old.inflow l old.left n piece uncut h r.1,
      rw (← least-passed l old.left n, ← take-take n m piece h) (ap (within_bound (passed n l)) r.2),
    )
reads_within read.NotYet l piece old new uncut r = (read_up old.inflow l old.left false uncut r.0, ap (within_bound l) r.1)
reads_within read.Ended l piece old new uncut r = (read_up old.inflow l old.left true uncut r.0, ap (within_bound l) r.1)
reads_within read.Failed l piece old new uncut r =
    (fails_outside (λ i. i.failed) l old new r.0, ap (within_bound l) r.1)
reads_within read.NoMemory l piece old new uncut r = ap (within_bound l) r

pub reads_outside : (answer : EndRead) (l : Option ℕ) (piece : List ℕ) (f : ℕ) (old new : SeenEnd) → is_cut l ≡ false → f ≡ old.faults
    → Reads answer (allowed l piece) old new → Reads answer piece (bounding l f old) (bounding (left_read answer l) new.faults new)
reads_outside answer l piece f old new uncut same r =
    subst (λ (x : ℕ). Reads answer piece (bounding l x old) (bounding (left_read answer l) new.faults new)) (sym same) (reads_within answer l piece old new uncut r)

writes_within : (answer : EndWrite) (l : Option ℕ) (piece : List ℕ) (old new : SeenEnd) → is_cut l ≡ false → Writes answer (allowed l piece) old new
    → Writes answer piece (within_bound l old) (within_bound (left_written answer l) new)
writes_within (write.Put n) l piece old new uncut r =
    let m = allowance l (length piece) in
    let h : n ≤ m = within n m piece r.0.fits in (
      piece_of n m piece r.0,
      takes_bytes old.inflow l old.left n piece uncut r.1,
      rw (← least-passed l old.left n, ← take-take n m piece h) (ap (within_bound (passed n l)) r.2),
    )
writes_within write.NotYet l piece old new uncut r = (r.0, ap (within_bound l) r.1)
writes_within write.Failed l piece old new uncut r =
    (fails_outside (λ i. i.failed || i.closed) l old new r.0, ap (within_bound l) r.1)
writes_within write.NoMemory l piece old new uncut r = ap (within_bound l) r

pub writes_outside : (answer : EndWrite) (l : Option ℕ) (piece : List ℕ) (f : ℕ) (old new : SeenEnd) → is_cut l ≡ false → f ≡ old.faults
    → Writes answer (allowed l piece) old new → Writes answer piece (bounding l f old) (bounding (left_written answer l) new.faults new)
writes_outside answer l piece f old new uncut same r =
    subst (λ (x : ℕ). Writes answer piece (bounding l x old) (bounding (left_written answer l) new.faults new)) (sym same) (writes_within answer l piece old new uncut r)
