-- A turn in which something is read: a side has opened a socket and put a byte there; in the turn a half at the other end reads
-- it.
use Rattle.std.proofs.Common.{◌≡◌, ℕ, zero, suc, Bool, true, false, List, [], ◌∷◌, take, refl, sym, subst, arith}
use Rattle.m2_fabric.specs.declared.socket.SocketId.{SocketId}
use Rattle.m2_journal.specs.declared.entry.Entry.TheVariants as entry
use Rattle.m2_weave.specs.declared.strand.StrandItem.TheVariants.{Noted}
use Rattle.m2_weave.specs.Strands.{StrandNow, handed_by, judged_by, total}
use Rattle.m2_weave.specs.Rule.{Woven, strand_at}
use Rattle.m2_weave.specs.Tidy.{AreTidy}
use Rattle.m2_weave.specs.Later.{GoesOn, HaveGot, IsLater, ReadsAt, StrandGoesOn, WasWritten, WasWrittenBefore}
use Rattle.m2_weave.specs.TurnLaws.{ATurnIsReadIn}

abbrev socket : SocketId
socket = record { from_ip = 1; from_port = 1; to_ip = 2; to_port = 2; turn = 0 }

abbrev journal : StrandNow
journal = record { of_half = false; items = Noted (entry.Opened socket) ∷ Noted (entry.Wrote socket 1) ∷ [] }

abbrev half : StrandNow
half = record { of_half = true; items = Noted (entry.Read socket 1) ∷ [] }

-- the opener's end has put it, and the other end gets it
abbrev put_by : Bool → List ℕ
put_by true = 7 ∷ []
put_by false = []

abbrev got_by : Bool → List ℕ
got_by true = []
got_by false = 7 ∷ []

abbrev before : Woven
before = record { strands = journal ∷ []; bytes = record { got = λ e. []; put = λ e. put_by e.opener } }

abbrev later_on : Woven
later_on = record { strands = journal ∷ half ∷ []; bytes = record { got = λ e. got_by e.opener; put = λ e. put_by e.opener } }

-- ---- what the strands do

unread : (n count : ℕ) (k : SocketId) → ReadsAt journal n k count → ⊥
unread zero count k e = cc
unread (suc zero) count k e = cc
unread (suc (suc n)) count k e = cc

same-read : (n count : ℕ) (k : SocketId) → ReadsAt half n k count → (n ≡ 0) × (k ≡ socket) × (count ≡ 1)
same-read zero count k e = (refl, cc, cc)
same-read (suc n) count k e = absurd (cc)

none-in : (k : SocketId) (n : ℕ) → total (handed_by k) (take n []) ≡ 0
none-in k zero = refl
none-in k (suc n) = refl

handed-none : (k : SocketId) (j n : ℕ) → total (handed_by k) (take n (strand_at later_on j).items) ≡ 0
handed-none k zero zero = refl
handed-none k zero (suc zero) = refl
handed-none k zero (suc (suc n)) = omega (arith, none-in k n)
handed-none k (suc zero) zero = refl
handed-none k (suc zero) (suc n) = omega (arith, none-in k n)
handed-none k (suc (suc j)) n = none-in k n

judged-none : (k : SocketId) (j : ℕ) → total (judged_by k) (strand_at later_on j).items ≡ 0
judged-none k zero = refl
judged-none k (suc zero) = refl
judged-none k (suc (suc j)) = refl

-- ---- the turn

puts-on : (b : Bool) → GoesOn (put_by b) (put_by b)
puts-on true = ([], refl)
puts-on false = ([], refl)

abbrev is-later : IsLater before later_on
is-later = record {
  place = λ i. i;
  apart = λ i j hi hj e. e;
  strands = λ i h.
      let first : 0 ≡ i = omega (arith, h) in
      subst (λ x. StrandGoesOn before later_on (strand_at before x) (strand_at later_on x)) first (record {
        items = ([], refl);
        reads = λ k e. refl;
        writes = λ k e. refl;
        begun = λ k e. absurd (omega (arith, e));
      });
  got = λ e. (got_by e.opener, refl);
  put = λ e. puts-on e.opener;
}

have-got : HaveGot before
have-got zero k e = absurd (omega (arith, e))
have-got (suc j) k e = absurd (omega (arith, e))

was-written : WasWritten before later_on half 0 socket 1
was-written zero h = refl
was-written (suc i) h = absurd (omega (arith, h))

all-written : WasWrittenBefore before later_on (λ i. i)
all-written zero n count k of_turn e = absurd (unread n count k e)
all-written (suc zero) n count k of_turn e =
    let same = same-read n count k e in
    subst (λ m. WasWritten before later_on half m k count) (sym same.0)
    (subst (λ x. WasWritten before later_on half 0 x count) (sym same.1)
    (subst (λ c. WasWritten before later_on half 0 socket c) (sym same.2) was-written))
all-written (suc (suc j)) n count k of_turn e = absurd (cc)

are-tidy : AreTidy later_on
are-tidy = record {
  strands = ((tt, (tt, tt)), ((socket, (tt, tt)), tt));
  judged = λ j k. omega (arith, judged-none k j);
  answered = λ j n count k e. omega (arith, handed-none k j n);
}

pub a_turn_is_read_in : ATurnIsReadIn
a_turn_is_read_in = record {
  old = before;
  new = later_on;
  order = (0 ∷ 0 ∷ [], record { lawful = (record { more = omega arith; met = refl }, (record { more = omega arith; met = refl }, tt)); whole = refl });
  turn = record { later = is-later; got = have-got; read = all-written; tidy = are-tidy };
  strand = 1;
  item = 0;
  of_turn = λ i h e. absurd (omega (arith, h, e));
  socket = socket;
  count = 1;
  some = omega arith;
  reads = refl;
}
