-- One more item listed, and a listing that breaks off.
use Rattle.std.proofs.Common.{◌≡◌, ℕ, ◌+◌, ◌≤◌, List, [], ◌∷◌, ◌++◌, length, take, drop, Result, Ok, Err, inl, inr, ◌<◌, sym, ap, ◌∙◌, subst, arith, append_assoc, length-drop}
use Rattle.std.proofs.lemmas.Grind.{flat_map-append}
use Rattle.std.specs.Prelude.{Bool}
use Rattle.std.specs.Result.{IsErrAnd}
use Rattle.std.proofs.lemmas.Bool.{cases_lt}
use Rattle.std.proofs.lemmas.List.{append-nil, append_cancel_left, drop-append-le, take_all, length-take}
use Rattle.std.proofs.lemmas.List.Concat.{flat_map-cons}
use Rattle.std.proofs.Math.Seq.{take-append-add, take-length, take-take}
use Rattle.m2_edge.specs.Sink.{SeenSink, TakesBytes, TakesPrefix}
use Rattle.m2_frame.specs.Decoder.{Passes}
use Rattle.m2_frame.specs.Position.{Position}
use Rattle.m2_frame.specs.Reading.{Item, text, judge}
use Rattle.m2_listing.specs.Listing.{Listed, Broken, line_of, lines_of}
use Rattle.m2_listing.specs.Stream.{Placed, SplitsAt}
use Rattle.m2_listing.specs.Passing.{with_taken, work_left, EndsPassing, PassesTo, PutsOut, StepsTo, StopsAt}
use Rattle.m2_listing.specs.SoFar.{FedTo, IsFedCause}
use Rattle.m2_listing.specs.declared.listing.Listing.{Listing}
use Rattle.m2_listing.specs.declared.listing.Listing.TheVariants as listing

Takes-join : (before mid after : SeenSink) (x y : List ℕ) → TakesBytes x before mid → TakesBytes y mid after → TakesBytes (x ++ y) before after
Takes-join before mid after x y a b = b ∙ ap (λ t. t ++ y) a ∙ append_assoc before.taken x y

pub Takes-nothing : (s : SeenSink) → TakesBytes [] s s
Takes-nothing s = sym (append-nil s.taken)

lines_of-push : (line : ℕ → Item → List ℕ) (items : List Placed) (p : Placed) → lines_of line (items ++ p ∷ []) ≡ lines_of line items ++ line_of line p
lines_of-push line items p =
    flat_map-append (line_of line) items (p ∷ []) ∙ ap (λ l. lines_of line items ++ l) (flat_map-cons (line_of line) p [] ∙ append-nil (line_of line p))

-- the laws of the grammar that a step needs
abbrev pub Stays : Type 0
Stays = (rest more : List ℕ) (item : Item) (n : ℕ) → judge rest ≡ text item n → judge (rest ++ more) ≡ text item n

abbrev pub IsWithin : Type 0
IsWithin = (rest : List ℕ) (item : Item) (n : ℕ) → judge rest ≡ text item n → n ≤ length rest

abbrev pub HasSome : Type 0
HasSome = (rest : List ℕ) (item : Item) (n : ℕ) → judge rest ≡ text item n → 32 ≤ n

-- what is fed adds to the rest and to nothing else
pub SplitsAt-fed : Stays → IsWithin → (items : List Placed) (at : ℕ) (stream rest more : List ℕ) → SplitsAt at stream items rest → SplitsAt at (stream ++ more) items (rest ++ more)
SplitsAt-fed stays within [] at stream rest more h = ap (λ s. s ++ more) h
SplitsAt-fed stays within (p ∷ items) at stream rest more (placed, judged, others) =
    let inside : p.size ≤ length stream = within stream p.item p.size judged in
    let P : List ℕ → Type 0 = λ s. SplitsAt (at + p.size) s items (rest ++ more) in
    (placed, stays stream more p.item p.size judged, subst P (sym (drop-append-le p.size stream more inside)) (SplitsAt-fed stays within items (at + p.size) (drop p.size stream) rest more others))

-- what is at the front of the rest is the next item
SplitsAt-next : IsWithin → (items : List Placed) (at place n : ℕ) (stream rest : List ℕ) (item : Item) → SplitsAt at stream items rest
    → place + length rest ≡ at + length stream → judge rest ≡ text item n → SplitsAt at stream (items ++ record { item = item; place = place; size = n } ∷ []) (drop n rest)
SplitsAt-next within [] at place n stream rest item h counted judged =
    let P : List ℕ → Type 0 = λ s. judge s ≡ text item n in
    let here : place ≡ at = omega (arith, counted, ap length h) in
    (here, subst P (sym h) judged, ap (drop n) h)
SplitsAt-next within (p ∷ items) at place n stream rest item (placed, told, others) counted judged =
    let left : place + length rest ≡ (at + p.size) + length (drop p.size stream) = omega (arith, counted, length-drop p.size stream, within stream p.item p.size told) in
    (placed, told, SplitsAt-next within items (at + p.size) place n (drop p.size stream) rest item others left judged)

-- an item is passed, and its line is written
pub Listed-more : IsWithin → (line : ℕ → Item → List ℕ) (bytes : List ℕ) (old new : Position) (i : Item) (before mid after : SeenSink)
    → Listed line bytes old.rest old.place before mid → Passes old i new → TakesBytes (line old.place i) mid after → Listed line bytes new.rest new.place before after
Listed-more within line bytes old new i before mid after l p w =
    let inside : p.0 ≤ length old.rest = within old.rest i p.0 p.1 in
    let next : Placed = record { item = i; place = old.place; size = p.0 } in
    let counted : old.place + length old.rest ≡ 0 + length bytes = omega (arith, l.counted) in
    let whole : TakesBytes (lines_of line (l.items ++ next ∷ [])) before after =
    subst (λ x. TakesBytes x before after) (sym (lines_of-push line l.items next)) (Takes-join before mid after (lines_of line l.items) (line old.place i) l.written w) in
    subst (λ (s : Position). Listed line bytes s.rest s.place before after) (sym p.2)
    (record {
      items = l.items ++ next ∷ [];
      splits = SplitsAt-next within l.items 0 old.place p.0 bytes old.rest i l.splits counted p.1;
      counted = omega (arith, l.counted, length-drop p.0 old.rest, inside);
      written = whole;
    })

-- it breaks off where the lines are written
pub Broken-here : (line : ℕ → Item → List ℕ) (bytes rest : List ℕ) (place : ℕ) (before after : SeenSink) → Listed line bytes rest place before after → Broken line bytes before after
Broken-here line bytes rest place before after l = record {
  items = l.items;
  rest = rest;
  splits = l.splits;
  written = (length (lines_of line l.items), subst (λ x. TakesBytes x before after) (sym (take-length (lines_of line l.items))) l.written);
}

-- the lines that waited were written
pub Listed-taken : (line : ℕ → Item → List ℕ) (bytes rest : List ℕ) (place : ℕ) (before s s' : SeenSink) (lines : List ℕ) → TakesBytes lines s s'
    → Listed line bytes rest place before (with_taken s lines) → Listed line bytes rest place before s'
Listed-taken line bytes rest place before s s' lines e l = record { items = l.items; splits = l.splits; counted = l.counted; written = e ∙ l.written }

pub Broken-taken : (line : ℕ → Item → List ℕ) (bytes : List ℕ) (before s s' : SeenSink) (lines : List ℕ) → TakesBytes lines s s'
    → Broken line bytes before (with_taken s lines) → Broken line bytes before s'
Broken-taken line bytes before s s' lines e b = record { items = b.items; rest = b.rest; splits = b.splits; written = (b.written.0, e ∙ b.written.1) }

-- no line waits
pub Listed-waiting : (line : ℕ → Item → List ℕ) (bytes rest : List ℕ) (place : ℕ) (before s : SeenSink) (lines : List ℕ) → lines ≡ []
    → Listed line bytes rest place before s → Listed line bytes rest place before (with_taken s lines)
Listed-waiting line bytes rest place before s lines e l =
    record { items = l.items; splits = l.splits; counted = l.counted; written = ap (λ x. s.taken ++ x) e ∙ append-nil s.taken ∙ l.written }

-- a prefix of the lines that waited was written
pub Broken-cut : (line : ℕ → Item → List ℕ) (bytes : List ℕ) (before s s' : SeenSink) (lines done : List ℕ) → TakesBytes done before s → TakesPrefix lines s s'
    → Broken line bytes before (with_taken s lines) → Broken line bytes before s'
Broken-cut line bytes before s s' lines done d w b =
    let all = lines_of line b.items in
    let k = b.written.0 in
    let at = length done + w.0 in
    let same : done ++ lines ≡ take k all = append_cancel_left before.taken (done ++ lines) (take k all) (sym (append_assoc before.taken done lines) ∙ ap (λ t. t ++ lines) (sym d) ∙ b.written.1) in
    let cut : s'.taken ≡ before.taken ++ take at (take k all) =
    w.1 ∙ ap (λ t. t ++ take w.0 lines) d ∙ append_assoc before.taken done (take w.0 lines)
    ∙ ap (λ t. before.taken ++ t) (sym (take-append-add done lines w.0) ∙ ap (take at) same) in
    record {
      items = b.items;
      rest = b.rest;
      splits = b.splits;
      written = elim (cases_lt at k) [
        | inl lt ↦ (at, cut ∙ ap (λ t. before.taken ++ t) (take-take at k all (omega arith)))
        | inr le ↦ (k, cut ∙ ap (λ t. before.taken ++ t) (take_all at (take k all) (omega (arith, length-take k all, le))))
      ];
    }

-- an item is passed, and its line waits
pub Listed-line : IsWithin → (line : ℕ → Item → List ℕ) (place : ℕ) (bytes lines lines' : List ℕ) (old new : Position) (i : Item) (before s : SeenSink)
    → place ≡ old.place → lines' ≡ lines ++ line place i
    → Listed line bytes old.rest old.place before (with_taken s lines) → Passes old i new → Listed line bytes new.rest new.place before (with_taken s lines')
Listed-line within line place bytes lines lines' old new i before s at e l p =
    let here : lines' ≡ lines ++ line old.place i = e ∙ ap (λ k. lines ++ line k i) at in
    Listed-more within line bytes old new i before (with_taken s lines) (with_taken s lines') l p (ap (λ x. s.taken ++ x) here ∙ sym (append_assoc s.taken lines (line old.place i)))

-- the lines that waited are written, after what was listed: what passed them says what it came to
pub FedTo-written : (line : ℕ → Item → List ℕ) (r : Result (Unit {0}) Listing) (bytes lines : List ℕ) (new : Position) (before s s' : SeenSink) → TakesBytes lines s s'
    → PassesTo r line bytes new before (with_taken s lines) → FedTo r line bytes new before s'
FedTo-written line (Ok _) bytes lines new before s s' w d = (d.0, Listed-taken line bytes new.rest new.place before s s' lines w d.1)
FedTo-written line (Err (listing.Bad place f)) bytes lines new before s s' w d = (d.0, d.1, Listed-taken line bytes new.rest new.place before s s' lines w d.2)
FedTo-written line (Err listing.NoMemory) bytes lines new before s s' w d = Broken-taken line bytes before s s' lines w d
FedTo-written line (Err listing.WriteFault) bytes lines new before s s' w d = absurd d
FedTo-written line (Err listing.ReadFault) bytes lines new before s s' w d = absurd d
FedTo-written line (Err listing.Whole) bytes lines new before s s' w d = absurd d
FedTo-written line (Err (listing.Cut _)) bytes lines new before s s' w d = absurd d
FedTo-written line (Err (listing.TooLong _)) bytes lines new before s s' w d = absurd d

-- a prefix of them is written
pub Broken-written : (line : ℕ → Item → List ℕ) (r : Result (Unit {0}) Listing) (bytes lines done : List ℕ) (new : Position) (before s s' : SeenSink) → TakesBytes done before s → TakesPrefix lines s s'
    → PassesTo r line bytes new before (with_taken s lines) → Broken line bytes before s'
Broken-written line (Ok _) bytes lines done new before s s' d w p = Broken-cut line bytes before s s' lines done d w (Broken-here line bytes new.rest new.place before (with_taken s lines) p.1)
Broken-written line (Err (listing.Bad place f)) bytes lines done new before s s' d w p = Broken-cut line bytes before s s' lines done d w (Broken-here line bytes new.rest new.place before (with_taken s lines) p.2)
Broken-written line (Err listing.NoMemory) bytes lines done new before s s' d w p = Broken-cut line bytes before s s' lines done d w p
Broken-written line (Err listing.WriteFault) bytes lines done new before s s' d w p = absurd p
Broken-written line (Err listing.ReadFault) bytes lines done new before s s' d w p = absurd p
Broken-written line (Err listing.Whole) bytes lines done new before s s' d w p = absurd p
Broken-written line (Err (listing.Cut _)) bytes lines done new before s s' d w p = absurd p
Broken-written line (Err (listing.TooLong _)) bytes lines done new before s s' d w p = absurd p

-- memory ran out before a line was added
pub StepsTo-no_memory : (line : ℕ → Item → List ℕ) (r : Result Bool Listing) (bytes rest lines lines' : List ℕ) (place : ℕ) (new : Position) (before s : SeenSink) → IsErrAnd r (λ e. e ≡ listing.NoMemory) → lines' ≡ lines
    → Listed line bytes rest place before (with_taken s lines) → StepsTo r line bytes new before (with_taken s lines')
StepsTo-no_memory line (Ok b) bytes rest lines lines' place new before s h e l = absurd h
StepsTo-no_memory line (Err x) bytes rest lines lines' place new before s h e l =
    subst (λ y. StopsAt y line bytes new before (with_taken s lines')) (sym h)
    (Broken-here line bytes rest place before (with_taken s lines') (subst (λ t. Listed line bytes rest place before (with_taken s t)) (sym e) l))

-- a text has bytes, so less is left when it is passed
pub passed_down : IsWithin → HasSome → (old new : Position) (i : Item) → Passes old i new → work_left new < work_left old
passed_down within some old new i p =
    subst (λ (s : Position). work_left s < work_left old) (sym p.2)
    (omega (arith, within old.rest i p.0 p.1, some old.rest i p.0 p.1, length-drop p.0 old.rest))

-- passing makes no fault of a source or a sink
pub IsFedCause-passed : (r : Result (Unit {0}) Listing) (old new : ℕ) → EndsPassing r → IsFedCause r old new
IsFedCause-passed (Ok _) old new e = tt
IsFedCause-passed (Err (listing.Bad place f)) old new e = tt
IsFedCause-passed (Err listing.NoMemory) old new e = tt
IsFedCause-passed (Err listing.WriteFault) old new e = absurd e
IsFedCause-passed (Err listing.ReadFault) old new e = absurd e
IsFedCause-passed (Err listing.Whole) old new e = absurd e
IsFedCause-passed (Err (listing.Cut _)) old new e = absurd e
IsFedCause-passed (Err (listing.TooLong _)) old new e = absurd e

-- the lines that waited could not all be written
pub FedTo-unwritten : (line : ℕ → Item → List ℕ) (r passed : Result (Unit {0}) Listing) (x : Listing) (bytes lines done : List ℕ) (new : Position) (before s s' : SeenSink) → IsErrAnd r (λ e. e ≡ x)
    → PutsOut (Err x) lines s s' → TakesBytes done before s → PassesTo passed line bytes new before (with_taken s lines) → FedTo r line bytes new before s'
FedTo-unwritten line (Ok _) passed x bytes lines done new before s s' h w d p = absurd h
FedTo-unwritten line (Err y) passed x bytes lines done new before s s' h w d p =
    subst (λ e. FedTo (Err e) line bytes new before s') (sym h) (by_cause x w)
  where
    by_cause : (x : Listing) → PutsOut (Err x) lines s s' → FedTo (Err x) line bytes new before s'
    by_cause listing.WriteFault w = Broken-written line passed bytes lines done new before s s' d w p
    by_cause (listing.Bad place f) w = absurd w
    by_cause listing.NoMemory w = absurd w
    by_cause listing.ReadFault w = absurd w
    by_cause listing.Whole w = absurd w
    by_cause (listing.Cut _) w = absurd w
    by_cause (listing.TooLong _) w = absurd w
