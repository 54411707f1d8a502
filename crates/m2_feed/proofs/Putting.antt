-- What may be put, and what is left of it: of the texts that go on with the bytes that were put, the code's is one, and all
-- of them are of its kind and end together with it.
use Rattle.std.proofs.Common.{◌≡◌, ◌≢◌, ℕ, zero, suc, ◌+◌, ◌-◌, ◌≤◌, ◌<◌, ◌==◌, ◌⊎◌, inl, inr, Bool, true, false, cond, not, List, [], ◌∷◌, ◌++◌, length, take, drop, map, Option, Some, None, refl, sym, ap, ◌∙◌, subst, arith, append_assoc, append-nil, length-drop}
use Rattle.std.specs.Prelude.{◌&&◌, if◌then◌else◌, nat_lt, slice_get}
use Rattle.std.specs.List.{AllByRecursion, filter, find, range_with_len, prefix_len}
use Rattle.std.specs.Option.{option_to_list}
use Rattle.std.proofs.lemmas.Bool.{cases_lt, lt-ltb}
use Rattle.std.proofs.lemmas.List.{length-append, take-append-drop}
use Rattle.std.proofs.Math.Seq.{drop-append_seam}
use Rattle.m2_control.specs.Banner.{begins}
use Rattle.m2_control.specs.Control.{tag_of}
use Rattle.m2_control.specs.declared.control.Control.{Control}
use Rattle.m2_control.specs.declared.control.Control.TheVariants as control
use Rattle.m2_control.specs.declared.keepalive.Keepalive.{Keepalive}
use Rattle.m2_frame.specs.Preamble.{preamble_text}
use Rattle.m2_frame.specs.Text.{text_of}
use Rattle.m2_frame.proofs.Lengths.{length-text_of}
use Rattle.m2_handshake.specs.Texts.{control_parts, frame_text}
use Rattle.m2_journal.specs.Feeds.{begun, narrowed, finished, without_first, texts_at, unnamed}
use Rattle.m2_journal.specs.OutFrames as out
use Rattle.m2_journal.specs.OutFrames.{OutFrame, acknowledgement, keepalive_answer}
use Rattle.m2_journal.specs.SideFacts.{SideFacts}
use Rattle.m2_journal.specs.State.{PartText, Feed, State}
use Rattle.m2_journal.specs.Steps.{puts_on, puts_whole, with_feed}
use Rattle.m2_frame.specs.Tags.{tag_number}
use Rattle.m2_feed.specs.Stands.{HasText, IsOfKind, IsAcknowledgement, IsKeepaliveAnswer}

-- ---- bytes that a text begins with

same_byte : (b : ℕ) → (b == b) ≡ true
same_byte b = grind arith

pub begins-append : (xs ys : List ℕ) → begins xs (xs ++ ys) ≡ true
begins-append [] ys = refl
begins-append (x ∷ xs) ys = ap (λ (b : Bool). b && begins xs (xs ++ ys)) (same_byte x) ∙ begins-append xs ys

-- ---- narrowing

pub narrowed-append : (bytes : List ℕ) (xs ys : List PartText) → narrowed bytes (xs ++ ys) ≡ narrowed bytes xs ++ narrowed bytes ys
narrowed-append bytes [] ys = refl
narrowed-append bytes (x ∷ xs) ys = one (begins bytes x.left) (narrowed-append bytes xs ys)
  where
    one : (b : Bool) → map (without_first (length bytes)) (filter (λ t. begins bytes t.left) (xs ++ ys)) ≡ narrowed bytes xs ++ narrowed bytes ys →
        map (without_first (length bytes)) (cond b (x ∷ filter (λ t. begins bytes t.left) (xs ++ ys)) (filter (λ t. begins bytes t.left) (xs ++ ys)))
        ≡ map (without_first (length bytes)) (cond b (x ∷ filter (λ t. begins bytes t.left) xs) (filter (λ t. begins bytes t.left) xs)) ++ narrowed bytes ys
    one true e = ap (λ (l : List PartText). without_first (length bytes) x ∷ l) e
    one false e = e

-- a text that goes on with these bytes
pub narrowed-there : (bytes left : List ℕ) (w : OutFrame) (ts : List PartText) →
    narrowed bytes (record { frame = w; left = bytes ++ left } ∷ ts) ≡ record { frame = w; left = left } ∷ narrowed bytes ts
narrowed-there bytes left w ts =
    ap (λ (b : Bool). map (without_first (length bytes)) (cond b (record { frame = w; left = bytes ++ left } ∷ filter (λ t. begins bytes t.left) ts) (filter (λ t. begins bytes t.left) ts)))
    (begins-append bytes left)
    ∙ ap (λ (l : List ℕ). record { frame = w; left = l } ∷ narrowed bytes ts) (drop-append_seam bytes left)

-- a text that begins otherwise
pub narrowed-other : (bytes : List ℕ) (t : PartText) (ts : List PartText) → begins bytes t.left ≡ false → narrowed bytes (t ∷ ts) ≡ narrowed bytes ts
narrowed-other bytes t ts e =
    ap (λ (b : Bool). map (without_first (length bytes)) (cond b (t ∷ filter (λ t. begins bytes t.left) ts) (filter (λ t. begins bytes t.left) ts))) e

pub record Narrows (kind : OutFrame → Type 0) (w : OutFrame) (left : List ℕ) (texts : List PartText) : Type 0 where
  pub one : HasText (record { frame = w; left = left }) texts
  pub all : AllByRecursion (IsOfKind kind (length left)) texts

all-narrowed : (kind : OutFrame → Type 0) (bytes : List ℕ) (len : ℕ) (ts : List PartText) → AllByRecursion (IsOfKind kind (length bytes + len)) ts →
    AllByRecursion (IsOfKind kind len) (narrowed bytes ts)
all-narrowed kind bytes len [] h = tt
all-narrowed kind bytes len (t ∷ ts) h = one (begins bytes t.left) (all-narrowed kind bytes len ts h.1)
  where
    one : (b : Bool) → AllByRecursion (IsOfKind kind len) (narrowed bytes ts) →
        AllByRecursion (IsOfKind kind len) (map (without_first (length bytes)) (cond b (t ∷ filter (λ t. begins bytes t.left) ts) (filter (λ t. begins bytes t.left) ts)))
    one true k = ((h.0.0, (let n = length-drop (length bytes) t.left in omega (arith, n, h.0.1))), k)
    one false k = k

pub narrows : (kind : OutFrame → Type 0) (w : OutFrame) (bytes left : List ℕ) (ts : List PartText) →
    HasText (record { frame = w; left = bytes ++ left }) ts → AllByRecursion (IsOfKind kind (length (bytes ++ left))) ts → Narrows kind w left (narrowed bytes ts)
narrows kind w bytes left ts one all = record {
  one = (
    narrowed bytes one.0,
    narrowed bytes one.1,
    ap (narrowed bytes) one.2 ∙ narrowed-append bytes one.0 (record { frame = w; left = bytes ++ left } ∷ one.1)
        ∙ ap (λ (l : List PartText). narrowed bytes one.0 ++ l) (narrowed-there bytes left w one.1),
  );
  all = all-narrowed kind bytes (length left) ts (subst (λ (n : ℕ). AllByRecursion (IsOfKind kind n) ts) (length-append bytes left) all);
}

-- ---- what is wholly put

pub has-some : (t : PartText) (ts : List PartText) → HasText t ts → nat_lt 0 (length ts) ≡ true
has-some t ts h = rw h.2 (some h.0)
  where
    some : (xs : List PartText) → nat_lt 0 (length (xs ++ t ∷ h.1)) ≡ true
    some [] = lt-ltb 0 (length (t ∷ h.1)) (omega arith)
    some (x ∷ xs) = lt-ltb 0 (length (x ∷ (xs ++ t ∷ h.1))) (omega arith)

pub suc_isnt_zero : (n : ℕ) → (suc n == 0) ≡ false
suc_isnt_zero n = grind arith

pub whole-put : (kind : OutFrame → Type 0) (w : OutFrame) (ts : List PartText) (d : Feed) (s : State) → Narrows kind w [] ts →
    (t : PartText) × kind t.frame × (puts_on (finished ts) ts d s ≡ puts_whole t d s)
whole-put kind w [] d s n = absurd (none n.one)
  where
    none : HasText (record { frame = w; left = [] }) [] → ⊥
    none ([], after, e) = cc
    none (x ∷ xs, after, e) = cc
whole-put kind w (t ∷ ts) d s n = (t, n.all.0.0, ap (λ (b : Bool). puts_on (cond b (Some t) (find (λ t. length t.left == 0) ts)) (t ∷ ts) d s) (ap (λ (k : ℕ). k == 0) n.all.0.1))

pub part-put : (kind : OutFrame → Type 0) (b : ℕ) (bs : List ℕ) (ts : List PartText) (d : Feed) (s : State) → AllByRecursion (IsOfKind kind (length (b ∷ bs))) ts →
    puts_on (finished ts) ts d s ≡ with_feed (record d { texts = ts }) s
part-put kind b bs ts d s all = ap (λ (o : Option PartText). puts_on o ts d s) (none ts all)
  where
    none : (xs : List PartText) → AllByRecursion (IsOfKind kind (length (b ∷ bs))) xs → find (λ t. length t.left == 0) xs ≡ None
    none [] h = refl
    none (x ∷ xs) h = ap (λ (c : Bool). cond c (Some x) (find (λ t. length t.left == 0) xs)) (ap (λ (k : ℕ). k == 0) h.0.1 ∙ suc_isnt_zero (length bs)) ∙ none xs h.1

-- ---- the texts that no entry names

pub text-head : (c : Control) → (more : List ℕ) × (frame_text c ≡ tag_number (tag_of c) ∷ more)
unfolding text_of preamble_text
text-head c = (_, refl)

pub ack-length : (f : SideFacts) (n : ℕ) → length (out.text_of f (acknowledgement n)) ≡ 44
ack-length f n = length-text_of (control_parts (control.Ack (record { seen = n })))

pub range-has : (a len n : ℕ) → a ≤ n → n < a + len → (before : List ℕ) × (after : List ℕ) × (range_with_len a len ≡ before ++ n ∷ after)
range-has a zero n h k = absurd (omega (arith, h, k))
range-has a (suc len) n h k = at (cases_lt a n) (λ l. range-has (a + 1) len n (omega (arith, l)) (omega (arith, k)))
  where
    at : (a < n) ⊎ (n ≤ a) → (a < n → (before : List ℕ) × (after : List ℕ) × (range_with_len (a + 1) len ≡ before ++ n ∷ after)) →
        (before : List ℕ) × (after : List ℕ) × (range_with_len a (suc len) ≡ before ++ n ∷ after)
    at (inl l) r = (a ∷ (r l).0, (r l).1, ap (λ (xs : List ℕ). a ∷ xs) (r l).2)
    at (inr e) r = ([], range_with_len (a + 1) len, (let same : a ≡ n = omega (arith, e, h) in ap (λ (m : ℕ). m ∷ range_with_len (a + 1) len) same))

-- of two texts that begin with other tags the one isn't begun by the other's bytes
apart : (a b : ℕ) → (a == b) ≡ false → (bytes more : List ℕ) → begins (a ∷ bytes) (b ∷ more) ≡ false
apart a b e bytes more = ap (λ (c : Bool). c && begins bytes more) e

-- some bytes of a text begin with its tag
first-bytes : (c : Control) (bytes left : List ℕ) → 0 < length bytes → frame_text c ≡ bytes ++ left → (more : List ℕ) × (bytes ≡ tag_number (tag_of c) ∷ more)
first-bytes c [] left h e = absurd (omega (arith, h))
first-bytes c (b ∷ bs) left h e = (bs, ap (λ (x : ℕ). x ∷ bs) (head b (tag_number (tag_of c)) (bs ++ left) (text-head c).0 (sym e ∙ (text-head c).1)))
  where
    head : (x y : ℕ) (xs ys : List ℕ) → x ∷ xs ≡ y ∷ ys → x ≡ y
    head x y xs ys e = cc

begins-other : (c e : Control) (bytes left : List ℕ) → 0 < length bytes → frame_text c ≡ bytes ++ left → (tag_number (tag_of c) == tag_number (tag_of e)) ≡ false → begins bytes (frame_text e) ≡ false
begins-other c e bytes left some is other =
    let mine = first-bytes c bytes left some is in
    let theirs = text-head e in
    ap (λ (l : List ℕ). begins l (frame_text e)) mine.1 ∙ ap (begins (tag_number (tag_of c) ∷ mine.0)) theirs.1
    ∙ apart (tag_number (tag_of c)) (tag_number (tag_of e)) other mine.0 theirs.0

ack : ℕ → Control
ack n = control.Ack (record { seen = n })

answer : Keepalive → Control
answer k = control.KeepaliveAck (record { seconds = k.seconds; nanos = k.nanos })

-- an acknowledgement's bytes leave no answer to a keepalive, and the other way round
pub no-answers : (f : SideFacts) (n : ℕ) (bytes left : List ℕ) (ks : List Keepalive) → 0 < length bytes → out.text_of f (acknowledgement n) ≡ bytes ++ left →
    narrowed bytes (map (λ k. begun f (keepalive_answer k)) ks) ≡ []
unfolding ack answer
no-answers f n bytes left [] some is = refl
no-answers f n bytes left (k ∷ ks) some is =
    narrowed-other bytes (begun f (keepalive_answer k)) (map (λ k. begun f (keepalive_answer k)) ks) (begins-other (ack n) (answer k) bytes left some is refl)
    ∙ no-answers f n bytes left ks some is

pub no-acks : (f : SideFacts) (k : Keepalive) (bytes left : List ℕ) (ns : List ℕ) → 0 < length bytes → out.text_of f (keepalive_answer k) ≡ bytes ++ left →
    narrowed bytes (map (λ n. begun f (acknowledgement n)) ns) ≡ []
unfolding ack answer
no-acks f k bytes left [] some is = refl
no-acks f k bytes left (n ∷ ns) some is =
    narrowed-other bytes (begun f (acknowledgement n)) (map (λ n. begun f (acknowledgement n)) ns) (begins-other (answer k) (ack n) bytes left some is refl)
    ∙ no-acks f k bytes left ns some is

map-append : (g : ℕ → PartText) (xs ys : List ℕ) → map g (xs ++ ys) ≡ map g xs ++ map g ys
map-append g [] ys = refl
map-append g (x ∷ xs) ys = ap (λ (l : List PartText). g x ∷ l) (map-append g xs ys)

all-acks : (f : SideFacts) (ns : List ℕ) → AllByRecursion (IsOfKind IsAcknowledgement 44) (map (λ n. begun f (acknowledgement n)) ns)
all-acks f [] = tt
all-acks f (n ∷ ns) = ((tt, ack-length f n), all-acks f ns)

-- the acknowledgements that go on with some bytes of one of them
pub acks-narrow : (f : SideFacts) (n : ℕ) (ns : List ℕ) (bytes left : List ℕ) → (before : List ℕ) × (after : List ℕ) × (ns ≡ before ++ n ∷ after) →
    out.text_of f (acknowledgement n) ≡ bytes ++ left → Narrows IsAcknowledgement (acknowledgement n) left (narrowed bytes (map (λ n. begun f (acknowledgement n)) ns))
acks-narrow f n ns bytes left there is =
    let g : ℕ → PartText = λ n. begun f (acknowledgement n) in
    let one : HasText (record { frame = acknowledgement n; left = bytes ++ left }) (map g ns) = (
      map g there.0,
      map g there.1,
      ap (map g) there.2 ∙ map-append g there.0 (n ∷ there.1) ∙ ap (λ (l : List ℕ). map g there.0 ++ record { frame = acknowledgement n; left = l } ∷ map g there.1) is,
    ) in
    let len : length (bytes ++ left) ≡ 44 = ap length (sym is) ∙ ack-length f n in
    narrows IsAcknowledgement (acknowledgement n) bytes left (map g ns) one (subst (λ (k : ℕ). AllByRecursion (IsOfKind IsAcknowledgement k) (map g ns)) (sym len) (all-acks f ns))

-- the one answer to a keepalive that does
pub answer-narrows : (f : SideFacts) (k : Keepalive) (bytes left : List ℕ) → out.text_of f (keepalive_answer k) ≡ bytes ++ left →
    Narrows IsKeepaliveAnswer (keepalive_answer k) left (narrowed bytes (begun f (keepalive_answer k) ∷ []))
answer-narrows f k bytes left is =
    narrows IsKeepaliveAnswer (keepalive_answer k) bytes left (begun f (keepalive_answer k) ∷ [])
    ([], [], ap (λ (l : List ℕ). record { frame = keepalive_answer k; left = l } ∷ []) is)
    ((tt, ap length is), tt)
