-- One more piece of the file listed, and the ends of a listing.
use Rattle.std.proofs.Common.{◌≡◌, ℕ, ◌-◌, ◌+◌, ◌<◌, ◌≤◌, List, [], ◌++◌, length, take, drop, Result, Ok, Err, refl, sym, ap, ◌∙◌, subst, arith, length-drop, append_assoc}
use Rattle.std.proofs.lemmas.List.{append-nil, length-append, nil_from_length, take-append-drop}
use Rattle.std.specs.Prelude.{IsTrue}
use Rattle.std.specs.Result.{IsErrAnd}
use Rattle.std.proofs.Math.Seq.{take-append_seam, take-length}
use Rattle.m2_edge.specs.Sink.{SeenSink}
use Rattle.m2_edge.specs.Source.{SeenSource, IsPrefixOf}
use Rattle.m2_frame.specs.Decoder.{IsSameButRoom, fed}
use Rattle.m2_frame.specs.Position.{Position}
use Rattle.m2_frame.specs.Reading.{Item, start, judge}
use Rattle.m2_listing.specs.Listing.{Terms, IsCutAtMost, Listed, Lists, ListsPrefix}
use Rattle.m2_listing.specs.Reading.{Fetches, Grows}
use Rattle.m2_listing.specs.SoFar.{HasFed, SoFar, EndsHere, FedTo, GoesOn}
use Rattle.m2_listing.specs.declared.listing.Listing.{Listing}
use Rattle.m2_listing.specs.declared.listing.Listing.TheVariants as listing
use Rattle.m2_listing.specs.declared.reading.Piece.TheVariants as piece
use Rattle.m2_listing.proofs.Steps.{Broken-here, IsWithin, SplitsAt-fed, Stays, Takes-nothing}

Listed-fed : Stays → IsWithin → (line : ℕ → Item → List ℕ) (bytes rest more : List ℕ) (place : ℕ) (before after : SeenSink)
    → Listed line bytes rest place before after → Listed line (bytes ++ more) (rest ++ more) place before after
Listed-fed stays within line bytes rest more place before after l = record {
  items = l.items;
  splits = SplitsAt-fed stays within l.items 0 bytes rest more l.splits;
  counted = omega (arith, l.counted, length-append rest more, length-append bytes more);
  written = l.written;
}

-- ---- what was read

all_prefix : (bytes : List ℕ) → IsPrefixOf bytes bytes
all_prefix bytes = (length bytes, sym (take-length bytes))

joined_prefix : (bytes more given : List ℕ) → given ≡ bytes ++ more → IsPrefixOf bytes given
joined_prefix bytes more given e = (length bytes, sym (ap (take (length bytes)) e ∙ take-append_seam bytes more))

-- more came behind what came behind the front
joined : (front bytes more given given' : List ℕ) → given ≡ front ++ bytes → given' ≡ given ++ more → given' ≡ front ++ (bytes ++ more)
joined front bytes more given given' e f = f ∙ ap (λ t. t ++ more) e ∙ append_assoc front bytes more

-- what came beyond the bytes that may come
gave_beyond : (x got : List ℕ) → x ≡ take (length x) got → got ≡ x ++ drop (length x) got
gave_beyond x got first = sym (take-append-drop (length x) got) ∙ ap (λ t. t ++ drop (length x) got) (sym first)

cut_at_most : (most : ℕ) (front bytes more : List ℕ) (src : SeenSource) → src.given ≡ front ++ (bytes ++ more) → length bytes ≡ most → 0 < length more → IsCutAtMost most front bytes src
cut_at_most most front bytes more src e len some = record {
  all = bytes ++ more;
  given = e;
  beyond = omega (arith, length-append bytes more, len, some);
  cut = sym (ap (λ n. take n (bytes ++ more)) (sym len) ∙ take-append_seam bytes more);
}

judge-nothing : judge [] ≡ start
unfolding judge
judge-nothing = refl

-- ---- a piece

at_fed : Stays → IsWithin → (line : ℕ → Item → List ℕ) (bytes more : List ℕ) (old new : Position) (before mid : SeenSink) → Listed line bytes old.rest old.place before mid
    → IsSameButRoom (fed old more) new → Listed line (bytes ++ more) new.rest new.place before mid
at_fed stays within line bytes more old new before mid l e =
    subst (λ (s : Position). Listed line (bytes ++ more) s.rest s.place before mid) (sym e) (Listed-fed stays within line bytes old.rest more old.place before mid l)

-- all frames that are there are listed
abbrev pub IsPassed : (ℕ → Item → List ℕ) → Result (Unit {0}) Listing → Position → Position → SeenSink → SeenSink → Type 0
IsPassed line end s new mid after = (bytes : List ℕ) (before : SeenSink) → Listed line bytes s.rest s.place before mid → FedTo end line bytes new before after

pub SoFar-came : Stays → IsWithin → (t : Terms) (src src' : SeenSource) (room n : ℕ) (old s new : Position) (before mid after : SeenSink)
    → SoFar t src room old before mid → Fetches (Ok (piece.Came n)) room old s src src' → IsPassed t.line (Ok tt) s new mid after
    → SoFar t src' (room - n) new before after
SoFar-came stays within t src src' room n old s new before mid after sofar f passes =
    let got = passes (sofar.bytes ++ f.0) before (at_fed stays within t.line sofar.bytes f.0 old s before mid sofar.listed f.4) in
    record {
      bytes = sofar.bytes ++ f.0;
      given = joined t.front sofar.bytes f.0 src.given src'.given sofar.given f.5;
      counted = omega (arith, sofar.counted, length-append sofar.bytes f.0, f.1, f.3);
      open_end = got.0;
      listed = got.1;
    }

Lists-stopped : (end : Listing) (t : Terms) (bytes : List ℕ) (src : SeenSource) (new : Position) (before after : SeenSink) → FedTo (Err end) t.line bytes new before after
    → IsPrefixOf (t.front ++ bytes) src.given → length bytes ≤ t.most → Lists end t src before after
Lists-stopped (listing.Bad place f) t bytes src new before after d prefix short =
    (bytes, new.rest, prefix, short, d.1, subst (λ p. Listed t.line bytes new.rest p before after) (sym d.0) d.2)
Lists-stopped listing.WriteFault t bytes src new before after d prefix short = (bytes, prefix, d)
Lists-stopped listing.NoMemory t bytes src new before after d prefix short = (bytes, prefix, d)
Lists-stopped listing.Whole t bytes src new before after d prefix short = absurd d
Lists-stopped (listing.Cut place) t bytes src new before after d prefix short = absurd d
Lists-stopped (listing.TooLong place) t bytes src new before after d prefix short = absurd d
Lists-stopped listing.ReadFault t bytes src new before after d prefix short = absurd d

pub Lists-came : Stays → IsWithin → (end : Listing) (t : Terms) (src src' : SeenSource) (room n : ℕ) (old s new : Position) (before mid after : SeenSink)
    → SoFar t src room old before mid → Fetches (Ok (piece.Came n)) room old s src src' → IsPassed t.line (Err end) s new mid after → Lists end t src' before after
Lists-came stays within end t src src' room n old s new before mid after sofar f passes =
    let got = passes (sofar.bytes ++ f.0) before (at_fed stays within t.line sofar.bytes f.0 old s before mid sofar.listed f.4) in
    Lists-stopped end t (sofar.bytes ++ f.0) src' new before after got
    (joined_prefix (t.front ++ (sofar.bytes ++ f.0)) [] src'.given (joined t.front sofar.bytes f.0 src.given src'.given sofar.given f.5 ∙ sym (append-nil (t.front ++ (sofar.bytes ++ f.0)))))
    (omega (arith, sofar.counted, length-append sofar.bytes f.0, f.1, f.3))

-- all that came when more came than may come
came_beyond : (t : Terms) (src src' : SeenSource) (room : ℕ) (old s : Position) (before mid : SeenSink) (sofar : SoFar t src room old before mid)
    (f : Fetches (Ok piece.TooLong) room old s src src') → src'.given ≡ t.front ++ ((sofar.bytes ++ f.0) ++ drop (length f.0) f.3.0)
came_beyond t src src' room old s before mid sofar f =
    joined t.front sofar.bytes f.3.0 src.given src'.given sofar.given f.3.3
    ∙ ap (λ g. t.front ++ (sofar.bytes ++ g)) (gave_beyond f.0 f.3.0 f.3.2)
    ∙ ap (λ g. t.front ++ g) (sym (append_assoc sofar.bytes f.0 (drop (length f.0) f.3.0)))

pub Lists-beyond : Stays → IsWithin → (t : Terms) (src src' : SeenSource) (room place : ℕ) (old s new : Position) (before mid after : SeenSink)
    → SoFar t src room old before mid → Fetches (Ok piece.TooLong) room old s src src' → IsPassed t.line (Ok tt) s new mid after → place ≡ new.place
    → Lists (listing.TooLong place) t src' before after
Lists-beyond stays within t src src' room place old s new before mid after sofar f passes e =
    let got = passes (sofar.bytes ++ f.0) before (at_fed stays within t.line sofar.bytes f.0 old s before mid sofar.listed f.2) in
    let cut = cut_at_most t.most t.front (sofar.bytes ++ f.0) (drop (length f.0) f.3.0) src' (came_beyond t src src' room old s before mid sofar f)
    (omega (arith, sofar.counted, length-append sofar.bytes f.0, f.1)) (omega (arith, length-drop (length f.0) f.3.0, f.3.1)) in
    (sofar.bytes ++ f.0, new.rest, cut, got.0, subst (λ p. Listed t.line (sofar.bytes ++ f.0) new.rest p before after) (sym e) got.1)

pub Lists-beyond_stopped : Stays → IsWithin → (end : Listing) (t : Terms) (src src' : SeenSource) (room : ℕ) (old s new : Position) (before mid after : SeenSink)
    → SoFar t src room old before mid → Fetches (Ok piece.TooLong) room old s src src' → IsPassed t.line (Err end) s new mid after → Lists end t src' before after
Lists-beyond_stopped stays within end t src src' room old s new before mid after sofar f passes =
    let got = passes (sofar.bytes ++ f.0) before (at_fed stays within t.line sofar.bytes f.0 old s before mid sofar.listed f.2) in
    Lists-stopped end t (sofar.bytes ++ f.0) src' new before after got
    (joined_prefix (t.front ++ (sofar.bytes ++ f.0)) (drop (length f.0) f.3.0) src'.given
    (came_beyond t src src' room old s before mid sofar f ∙ sym (append_assoc t.front (sofar.bytes ++ f.0) (drop (length f.0) f.3.0))))
    (omega (arith, sofar.counted, length-append sofar.bytes f.0, f.1))

Lists-broken : (t : Terms) (src src' : SeenSource) (more : List ℕ) (room : ℕ) (s : Position) (before after : SeenSink) → SoFar t src room s before after
    → src'.given ≡ src.given ++ more → ListsPrefix t src' before after
Lists-broken t src src' more room s before after sofar e =
    (sofar.bytes, joined_prefix (t.front ++ sofar.bytes) more src'.given (e ∙ ap (λ g. g ++ more) sofar.given), Broken-here t.line sofar.bytes s.rest s.place before after sofar.listed)

pub Lists-end : (end : Listing) (t : Terms) (src src' : SeenSource) (room : ℕ) (s : Position) (before after : SeenSink)
    → SoFar t src room s before after → EndsHere end t.most s room → src'.given ≡ src.given → IsTrue src'.ended → Lists end t src' before after
Lists-end listing.Whole t src src' room s before after sofar d same ended =
    let none : s.rest ≡ [] = nil_from_length s.rest (omega (arith, d, sofar.counted, sofar.listed.counted)) in
    (sofar.bytes, s.place, record { given = same ∙ sofar.given; ended = ended }, omega (arith, sofar.counted), subst (λ r. Listed t.line sofar.bytes r s.place before after) none sofar.listed)
Lists-end (listing.Cut place) t src src' room s before after sofar d same ended =
    let some : s.rest ≡ [] → ⊥ = λ (n : s.rest ≡ []). d.1 (omega (arith, ap length n, sofar.counted, sofar.listed.counted)) in
    (sofar.bytes, s.rest, record { given = same ∙ sofar.given; ended = ended }, omega (arith, sofar.counted), sofar.open_end, some, subst (λ p. Listed t.line sofar.bytes s.rest p before after) (sym d.0) sofar.listed)
Lists-end (listing.Bad place f) t src src' room s before after sofar d same ended = absurd d
Lists-end (listing.TooLong place) t src src' room s before after sofar d same ended = absurd d
Lists-end listing.ReadFault t src src' room s before after sofar d same ended = absurd d
Lists-end listing.WriteFault t src src' room s before after sofar d same ended = absurd d
Lists-end listing.NoMemory t src src' room s before after sofar d same ended = absurd d

-- of what was fed nothing is listed yet
pub Listed-begins : (line : ℕ → Item → List ℕ) (s : Position) (out : SeenSink) → s.place ≡ 0 → Listed line s.rest s.rest s.place out out
Listed-begins line s out first =
    record { items = []; splits = refl; counted = omega (arith, first); written = Takes-nothing out }

-- what was fed is listed, and a start is left
pub SoFar-begins : (t : Terms) (fed : ℕ) (src : SeenSource) (old new : Position) (before after : SeenSink) → HasFed t.front fed old src → fed ≤ t.most
    → FedTo (Ok tt) t.line old.rest new before after → SoFar t src (t.most - fed) new before after
SoFar-begins t fed src old new before after h most d =
    record { bytes = old.rest; given = h.given; counted = omega (arith, h.counted, most); open_end = d.0; listed = d.1 }

-- it ends before more is read
pub Lists-at_once : (end : Listing) (t : Terms) (fed : ℕ) (src : SeenSource) (old new : Position) (before after : SeenSink) → HasFed t.front fed old src → fed ≤ t.most
    → FedTo (Err end) t.line old.rest new before after → Lists end t src before after
Lists-at_once end t fed src old new before after h most d =
    Lists-stopped end t old.rest src new before after d (subst (λ g. IsPrefixOf (t.front ++ old.rest) g) (sym h.given) (all_prefix (t.front ++ old.rest))) (omega (arith, h.counted, most))

-- how a listing ended is answered on
pub GoesOn-ended : (r : Result ℕ Listing) (x : Listing) (t : Terms) (src : SeenSource) (s : Position) (before after : SeenSink) → IsErrAnd r (λ e. e ≡ x) → Lists x t src before after → GoesOn r t src s before after
GoesOn-ended (Ok n) x t src s before after h l = absurd h
GoesOn-ended (Err e) x t src s before after h l = subst (λ y. Lists y t src before after) (sym h) l

-- nothing more was fed
pub Lists-unfetched : (x : Listing) (t : Terms) (src src' : SeenSource) (room : ℕ) (old new : Position) (before after : SeenSink) → Fetches (Err x) room old new src src' → SoFar t src room old before after → Lists x t src' before after
Lists-unfetched listing.ReadFault t src src' room old new before after f l = Lists-broken t src src' [] room old before after l (f.1 ∙ sym (append-nil src.given))
Lists-unfetched listing.NoMemory t src src' room old new before after f l = Lists-broken t src src' f.1.0 room old before after l f.1.1
Lists-unfetched listing.WriteFault t src src' room old new before after f l = absurd f
Lists-unfetched listing.Whole t src src' room old new before after f l = absurd f
Lists-unfetched (listing.Bad place x) t src src' room old new before after f l = absurd f
Lists-unfetched (listing.Cut place) t src src' room old new before after f l = absurd f
Lists-unfetched (listing.TooLong place) t src src' room old new before after f l = absurd f

-- ---- what was read grows

pub Grows-none : (src : SeenSource) → Grows src src
Grows-none src = ([], sym (append-nil src.given))

pub Grows-joined : (old middle new : SeenSource) → Grows old middle → Grows middle new → Grows old new
Grows-joined old middle new a b = (a.0 ++ b.0, b.1 ∙ ap (λ t. t ++ b.0) a.1 ∙ append_assoc old.given a.0 b.0)

-- ---- where nothing is listed

pub Lists-unfed : (t : Terms) (src : SeenSource) (more : List ℕ) (out : SeenSink) → src.given ≡ t.front ++ more → ListsPrefix t src out out
Lists-unfed t src more out e =
    ([], joined_prefix (t.front ++ []) more src.given (e ∙ ap (λ f. f ++ more) (sym (append-nil t.front))), record { items = []; rest = []; splits = refl; written = (0, Takes-nothing out) })
