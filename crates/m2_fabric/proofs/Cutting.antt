-- What an end keeps that breaks after so many bytes: what passed and what is left make up the bound.
use Rattle.std.proofs.Common.{◌≡◌, ℕ, ◌+◌, ◌-◌, ◌≤◌, Bool, true, false, List, length, ◌++◌, take, Option, None, Some, refl, sym, ◌∙◌, ap, subst, arith, length-take, length-append}
use Rattle.std.specs.Prelude.{IfSome, OnOk, OnErr, Result, Ok, Err}
use Rattle.m2_edge.specs.Faults.{next_count}
use Rattle.m2_fabric.specs.Cuts.{allowance, is_cut, passed}
use Rattle.m2_fabric.specs.CutEnd.{Bounded, IsCutRight, allowed, moved}
use Rattle.m2_fabric.specs.End.{Reads, SeenEnd, Writes, after_closing, after_news, left_read, left_written}
use Rattle.m2_fabric.specs.declared.end.EndRead.{EndRead}
use Rattle.m2_fabric.specs.declared.end.EndRead.TheVariants as read
use Rattle.m2_fabric.specs.declared.end.EndWrite.{EndWrite}
use Rattle.m2_fabric.specs.declared.end.EndWrite.TheVariants as write
use Rattle.m2_fabric.specs.declared.end.News.{News}

abbrev pub cut : Option ℕ → Option ℕ → ℕ → SeenEnd → Bounded
cut b l f e = record { inner = e; bound = b; left = l; faults = f }

passes_on : (o : Option ℕ) (m n k : ℕ) → k ≡ m + n → passed n (passed m o) ≡ passed k o
passes_on None m n k e = refl
passes_on (Some bound) m n k e = ap (λ (x : ℕ). Some x) (omega (arith, e))

allows : (l : Option ℕ) (k n : ℕ) → n ≤ allowance l k → IfSome l (λ left. n ≤ left)
allows None k n h = tt
allows (Some left) k n h = omega (arith, h)

is_within : (b : Option ℕ) (m n k : ℕ) → k ≡ m + n → IfSome b (λ bound. m ≤ bound) → IfSome (passed m b) (λ left. n ≤ left) → IfSome b (λ bound. k ≤ bound)
is_within None m n k e h i = tt
is_within (Some bound) m n k e h i = omega (arith, e, h, i)

-- so many more bytes moved, of those that may pass
moves : (b l : Option ℕ) (f n most : ℕ) (old new : SeenEnd) → moved new.log ≡ moved old.log + n → n ≤ allowance l most
    → IsCutRight (cut b l f old) → IsCutRight (cut b (passed n l) new.faults new)
moves b l f n most old new more fits h =
    let m = moved old.log in
    let left : IfSome (passed m b) (λ left. n ≤ left) = subst (λ (o : Option ℕ). IfSome o (λ left. n ≤ left)) h.left (allows l most n fits) in record {
      within = is_within b m n (moved new.log) more h.within left;
      left = ap (passed n) h.left ∙ passes_on b m n (moved new.log) more;
      faults = omega arith;
      uncut = λ uncut. refl;
    }

-- nothing more moved
stays : (b l : Option ℕ) (f : ℕ) (old new : SeenEnd) → moved new.log ≡ moved old.log → IsCutRight (cut b l f old) → IsCutRight (cut b l new.faults new)
stays b l f old new same h = record {
  within = subst (λ (n : ℕ). IfSome b (λ bound. n ≤ bound)) (sym same) h.within;
  left = h.left ∙ ap (λ (n : ℕ). passed n b) (sym same);
  faults = omega arith;
  uncut = λ uncut. refl;
}

fits_allowed : (l : Option ℕ) (piece : List ℕ) (n : ℕ) → n ≤ length (allowed l piece) → n ≤ allowance l (length piece)
fits_allowed l piece n h = omega (arith, h, length-take (allowance l (length piece)) piece)

joined : (xs piece : List ℕ) (n : ℕ) → n ≤ length piece → length (xs ++ take n piece) ≡ length xs + n
joined xs piece n h = omega (arith, h, length-append xs (take n piece), length-take n piece)

pub read_right : (answer : EndRead) (b l : Option ℕ) (piece : List ℕ) (f : ℕ) (old new : SeenEnd) → Reads answer (allowed l piece) old new
    → IsCutRight (cut b l f old) → IsCutRight (cut b (left_read answer l) new.faults new)
read_right (read.Got n) b l piece f old new r h =
    let more : moved new.log ≡ moved old.log + n =
    ap (λ (e : SeenEnd). moved e.log) r.2 ∙ omega (arith, joined old.log.got (allowed l piece) n r.0.fits) in
    moves b l f n (length piece) old new more (fits_allowed l piece n r.0.fits) h
read_right read.NotYet b l piece f old new r h = stays b l f old new (ap (λ (e : SeenEnd). moved e.log) r.1) h
read_right read.Ended b l piece f old new r h = stays b l f old new (ap (λ (e : SeenEnd). moved e.log) r.1) h
read_right read.Failed b l piece f old new r h = stays b l f old new (ap (λ (e : SeenEnd). moved e.log) r.1) h
read_right read.NoMemory b l piece f old new r h = stays b l f old new (ap (λ (e : SeenEnd). moved e.log) r) h

pub write_right : (answer : EndWrite) (b l : Option ℕ) (piece : List ℕ) (f : ℕ) (old new : SeenEnd) → Writes answer (allowed l piece) old new
    → IsCutRight (cut b l f old) → IsCutRight (cut b (left_written answer l) new.faults new)
write_right (write.Put n) b l piece f old new r h =
    let more : moved new.log ≡ moved old.log + n =
    ap (λ (e : SeenEnd). moved e.log) r.2 ∙ omega (arith, joined old.log.put (allowed l piece) n r.0.fits) in
    moves b l f n (length piece) old new more (fits_allowed l piece n r.0.fits) h
write_right write.NotYet b l piece f old new r h = stays b l f old new (ap (λ (e : SeenEnd). moved e.log) r.1) h
write_right write.Failed b l piece f old new r h = stays b l f old new (ap (λ (e : SeenEnd). moved e.log) r.1) h
write_right write.NoMemory b l piece f old new r h = stays b l f old new (ap (λ (e : SeenEnd). moved e.log) r) h

-- it failed by itself
pub cut_right : (b l : Option ℕ) (f g : ℕ) (e : SeenEnd) → is_cut l ≡ true → f ≤ g → IsCutRight (cut b l f e) → IsCutRight (cut b l g e)
cut_right b l f g e nothing more h = record {
  within = h.within;
  left = h.left;
  faults = omega (arith, h.faults, more);
  uncut = λ uncut. absurd (cc (nothing, uncut));
}

pub close_right : (b l : Option ℕ) (f : ℕ) (old new : SeenEnd) → new ≡ after_closing old → IsCutRight (cut b l f old) → IsCutRight (cut b l f new)
close_right b l f old new same h = subst (λ (e : SeenEnd). IsCutRight (cut b l f e)) (sym same) (record { within = h.within; left = h.left; faults = h.faults; uncut = h.uncut })

pub hear_right : {E : Type 0} (result : Result (Unit {0}) E) (news : News) (bytes : List ℕ) (b l : Option ℕ) (f : ℕ) (old new : SeenEnd)
    → OnOk result (new ≡ after_news news bytes old) → OnErr result (new ≡ old) → IsCutRight (cut b l f old) → IsCutRight (cut b l f new)
hear_right (Ok x) news bytes b l f old new ok err h =
    subst (λ (e : SeenEnd). IsCutRight (cut b l f e)) (sym ok) (record { within = h.within; left = h.left; faults = h.faults; uncut = h.uncut })
hear_right (Err x) news bytes b l f old new ok err h = subst (λ (e : SeenEnd). IsCutRight (cut b l f e)) (sym err) h
