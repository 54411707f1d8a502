-- What stands at the front of the unread bytes: a MESSAGE by its preamble, and else what the decoder finds.
use Rattle.std.proofs.Common.{◌≡◌, ℕ, ◌+◌, ◌<◌, ◌≤◌, ◌⊎◌, inl, inr, Bool, true, false, if◌then◌else◌, List, [], ◌++◌, length, take, drop, Option, Some, None, refl, sym, ap, ◌∙◌, arith, append_assoc}
use Rattle.std.specs.Prelude.{◌==◌}
use Rattle.std.proofs.lemmas.Bool.{cases_lt, eqb-true, eq-eqb}
use Rattle.std.proofs.lemmas.List.{length-append, take-append-drop, take_at}
use Rattle.m2_bytes.specs.Blob.{Contents}
use Rattle.m2_bytes.proofs.m2_lemmas.Options.{some_isnt_none}
use Rattle.m2_control.specs.declared.control.Control.{Control}
use Rattle.m2_control.specs.declared.control.Control.TheVariants as control
use Rattle.m2_control.specs.Control.{tag_of}
use Rattle.m2_frame.specs.declared.encoding.TheConstants.{ABORTED, COMPLETE}
use Rattle.m2_frame.specs.declared.fault.FrameFault.{FrameFault}
use Rattle.m2_frame.specs.declared.frame.TheConstants.{MOST_SEGMENTS}
use Rattle.m2_frame.specs.declared.preamble.Preamble.{Preamble}
use Rattle.m2_frame.specs.declared.preamble.TheConstants.{PREAMBLE_BYTES}
use Rattle.m2_frame.specs.Decoder.{IsAtStart, owed}
use Rattle.m2_frame.specs.Frame.{Parts, Fits, count_of, message_tag, most_segments}
use Rattle.m2_frame.specs.Grammar.{AreBytes, IsText}
use Rattle.m2_frame.specs.Position.{Position}
use Rattle.m2_frame.specs.Preamble.{preamble_of, read_preamble}
use Rattle.m2_frame.specs.Reading.{whole, dropped, Front, start, bad, text, asked_by, judge, size_in, size_of}
use Rattle.m2_frame.specs.Tags.{tag_number}
use Rattle.m2_frame.specs.Text as frame
use Rattle.m2_frame.proofs.Cutting.{fault_stays, start_isnt_bad, start_isnt_text, text_long, text_stays, text_within}
use Rattle.m2_frame.proofs.Judge.{judge-short, size_of-begins, size_of-settled, size_of-short}
use Rattle.m2_frame.proofs.Parsed.{judged-item_text}
use Rattle.m2_frame.proofs.Preambles.{allowed-fits, read_preamble-text}
use Rattle.m2_frame.proofs.Spelled.{item_text-judged}
use Rattle.m2_frame.proofs.Written.{text_of-written}
use Rattle.m2_handshake.specs.declared.fault.HalfFault.{HalfFault}
use Rattle.m2_handshake.specs.declared.fault.HalfFault.TheVariants as fault
use Rattle.m2_handshake.specs.declared.stage.Stage.{Stage}
use Rattle.m2_handshake.specs.declared.stage.Stage.TheVariants.{Opening, Banner, Waits, Authed, Asked, Ended, Faulty}
use Rattle.m2_handshake.specs.Half.{IsReading}
use Rattle.m2_handshake.specs.Reading.{Found, begun, refused, framed, found_by, found_in}
use Rattle.m2_handshake.specs.Standing.{unread_of}

-- ---- which size a text asks for

-- that of its preamble
pub text_asks : (low : ℕ) (f : Parts) (t more : List ℕ) → IsText low f t → size_of (t ++ more) ≡ size_in (preamble_of f)
text_asks low f t more i =
    let behind : List ℕ = i.first ++ (i.later ++ more) in
    let cut : t ++ more ≡ i.preamble ++ behind =
    ap (λ (l : List ℕ). l ++ more) i.cut ∙ append_assoc (i.preamble ++ i.first) i.later more ∙ append_assoc i.preamble i.first (i.later ++ more) in
    let front : take PREAMBLE_BYTES (t ++ more) ≡ i.preamble = ap (λ (l : List ℕ). take PREAMBLE_BYTES l) cut ∙ take_at i.preamble behind PREAMBLE_BYTES i.is_preamble.long in
    let long : length (t ++ more) ≡ length i.preamble + length behind = ap (λ (l : List ℕ). length l) cut ∙ length-append i.preamble behind in
    size_of-begins (t ++ more) (preamble_of f) (record {
      there = omega (arith, long, i.is_preamble.long);
      read = ap read_preamble front ∙ read_preamble-text (preamble_of f) i.preamble i.is_preamble (allowed-fits f i.fits);
    })

-- a message's preamble asks for the bytes of its parts
pub message_asks : (p : Preamble) → p.tag ≡ message_tag → size_in p ≡ Some (asked_by p)
message_asks p e = ap (λ (b : Bool). if b then Some (asked_by p) else None) (eq-eqb p.tag message_tag e)

-- only a message has several segments
several : (tag n : ℕ) → 1 < n → n ≤ most_segments tag → tag ≡ message_tag
several tag n more most = at (tag == message_tag) refl most
  where
    at : (b : Bool) → (tag == message_tag) ≡ b → n ≤ (if b then MOST_SEGMENTS else 1) → tag ≡ message_tag
    at true e h = eqb-true tag message_tag e
    at false e h = absurd (omega (arith, h, more))

-- so what its sender gave up asks for a size
pub dropped_asks : (rest : List ℕ) (tag n : ℕ) → judge rest ≡ text (dropped tag) n → (size : ℕ) × (size_of rest ≡ Some size)
dropped_asks rest tag n j =
    let a = judged-item_text rest (dropped tag) n j in
    let p = preamble_of a.0 in (
      asked_by p,
      ap size_of (sym (take-append-drop n rest)) ∙ text_asks ABORTED a.0 (take n rest) (drop n rest) a.3
          ∙ message_asks p (several a.0.tag (count_of a.0) a.2 a.3.fits.count),
    )

-- a size that is asked for is asked for as more comes
asked_stays : (rest more : List ℕ) (n : ℕ) → size_of rest ≡ Some n → size_of (rest ++ more) ≡ Some n
asked_stays rest more n e = by_length (cases_lt (length rest) 32)
  where
    by_length : (length rest < 32) ⊎ (32 ≤ length rest) → size_of (rest ++ more) ≡ Some n
    by_length (inl short) = absurd (some_isnt_none n (sym e ∙ size_of-short rest short))
    by_length (inr long) = size_of-settled rest more long ∙ e

-- ---- what is found, taken apart

pub begun_isnt_refused : (f : HalfFault) → begun ≡ refused f → ⊥
begun_isnt_refused f e = cc

pub begun_isnt_framed : (f : Parts) (n : ℕ) → begun ≡ framed f n → ⊥
begun_isnt_framed f n e = cc

pub refused_isnt_framed : (f : HalfFault) (g : Parts) (n : ℕ) → refused f ≡ framed g n → ⊥
refused_isnt_framed f g n e = cc

same_framed : (f g : Parts) (n m : ℕ) → framed f n ≡ framed g m → (f ≡ g) × (n ≡ m)
same_framed f g n m e = (cc, cc)

framed_from : (size : Option ℕ) (front : Front) (f : Parts) (n : ℕ) → found_by size front ≡ framed f n → front ≡ text (whole f) n
framed_from (Some k) front f n e = absurd (refused_isnt_framed (fault.Unexpected message_tag) f n e)
framed_from None start f n e = absurd (begun_isnt_framed f n e)
framed_from None (bad x) f n e = absurd (refused_isnt_framed (fault.Frame x) f n e)
framed_from None (text (dropped tag) k) f n e = absurd (refused_isnt_framed (fault.Unexpected tag) f n e)
framed_from None (text (whole g) k) f n e =
    let same = same_framed g f k n e in
    ap (λ (x : Parts). text (whole x) k) same.0 ∙ ap (λ (m : ℕ). text (whole f) m) same.1

-- the text of a frame that is found
pub framed_judged : (rest : List ℕ) (f : Parts) (n : ℕ) → found_in rest ≡ framed f n → judge rest ≡ text (whole f) n
framed_judged rest f n e = framed_from (size_of rest) (judge rest) f n e

pub framed_long : (rest : List ℕ) (f : Parts) (n : ℕ) → found_in rest ≡ framed f n → 32 ≤ n
framed_long rest f n e = text_long rest (whole f) n (framed_judged rest f n e)

pub framed_within : (rest : List ℕ) (f : Parts) (n : ℕ) → found_in rest ≡ framed f n → n ≤ length rest
framed_within rest f n e = text_within rest (whole f) n (framed_judged rest f n e)

-- ---- what is found stays as more comes

started_long : (rest : List ℕ) (front : Front) → judge rest ≡ front → (start ≡ front → ⊥) → 32 ≤ length rest
started_long rest front e n = by_length (cases_lt (length rest) 32)
  where
    by_length : (length rest < 32) ⊎ (32 ≤ length rest) → 32 ≤ length rest
    by_length (inl short) = absurd (n (sym (judge-short rest short) ∙ e))
    by_length (inr long) = long

stays_by : (rest more : List ℕ) (size : Option ℕ) (front : Front) (x : Found) → size_of rest ≡ size → judge rest ≡ front → found_by size front ≡ x → (begun ≡ x → ⊥) →
    found_in (rest ++ more) ≡ x
stays_by rest more (Some n) front x s j e b = ap (λ (k : Option ℕ). found_by k (judge (rest ++ more))) (asked_stays rest more n s) ∙ e
stays_by rest more None start x s j e b = absurd (b e)
stays_by rest more None (bad f) x s j e b =
    ap (λ (k : Option ℕ). found_by k (judge (rest ++ more))) (size_of-settled rest more (started_long rest (bad f) j (start_isnt_bad f)) ∙ s)
    ∙ ap (found_by None) (fault_stays rest more f j) ∙ e
stays_by rest more None (text i n) x s j e b =
    ap (λ (k : Option ℕ). found_by k (judge (rest ++ more))) (size_of-settled rest more (started_long rest (text i n) j (start_isnt_text i n)) ∙ s)
    ∙ ap (found_by None) (text_stays rest more i n j) ∙ e

pub found_stays : (rest more : List ℕ) (x : Found) → found_in rest ≡ x → (begun ≡ x → ⊥) → found_in (rest ++ more) ≡ x
found_stays rest more x e b = stays_by rest more (size_of rest) (judge rest) x refl refl e b

-- ---- what is found of what was sent

pub found_nothing : found_in [] ≡ begun
unfolding judge size_of
found_nothing = refl

-- a message is refused, and every other frame is whole
abbrev pub as_sent : Parts → ℕ → Found
as_sent f n = if f.tag == message_tag then refused (fault.Unexpected message_tag) else framed f n

by_tag : (b : Bool) (size : ℕ) (f : Parts) (n : ℕ) → found_by (if b then Some size else None) (text (whole f) n) ≡ (if b then refused (fault.Unexpected message_tag) else framed f n)
by_tag true size f n = refl
by_tag false size f n = refl

pub found_sent : (f : Parts) (more : List ℕ) → Fits f → AreBytes f → found_in (frame.text_of f ++ more) ≡ as_sent f (length (frame.text_of f))
found_sent f more fits bytes =
    let t = frame.text_of f in
    let written = text_of-written f fits bytes in
    ap (λ (k : Option ℕ). found_by k (judge (t ++ more))) (text_asks COMPLETE f t more written)
    ∙ ap (found_by (size_in (preamble_of f))) (item_text-judged (whole f) t more written)
    ∙ by_tag (f.tag == message_tag) (asked_by (preamble_of f)) f (length t)

-- no control frame is a message
pub isnt_message : (c : Control) → (tag_number (tag_of c) == message_tag) ≡ false
isnt_message (control.Hello p) = refl
isnt_message (control.AuthRequest p) = refl
isnt_message (control.AuthBadMethod p) = refl
isnt_message (control.AuthDone p) = refl
isnt_message (control.AuthSignature p) = refl
isnt_message (control.ClientIdent p) = refl
isnt_message (control.ServerIdent p) = refl
isnt_message (control.IdentMissingFeatures p) = refl
isnt_message (control.SessionReconnect p) = refl
isnt_message (control.SessionReset p) = refl
isnt_message (control.SessionRetry p) = refl
isnt_message (control.SessionRetryGlobal p) = refl
isnt_message (control.SessionReconnectOk p) = refl
isnt_message (control.Wait p) = refl
isnt_message (control.Keepalive p) = refl
isnt_message (control.KeepaliveAck p) = refl
isnt_message (control.Ack p) = refl

-- ---- what a decoder answers that has granted nothing

owed_is : (s : Position) → s.granted ≡ false → owed s ≡ size_of s.rest
owed_is s g = ap (λ (b : Bool). if b then None else size_of s.rest) g

found_is : (s : Position) (size : Option ℕ) (front : Front) → s.granted ≡ false → owed s ≡ size → judge s.rest ≡ front → found_in s.rest ≡ found_by size front
found_is s size front g o j = ap (λ (k : Option ℕ). found_by k (judge s.rest)) (sym (owed_is s g) ∙ o) ∙ ap (found_by size) j

pub taken_frame : (s : Position) (f : Parts) (n : ℕ) → s.granted ≡ false → owed s ≡ None → judge s.rest ≡ text (whole f) n →
    (found_in s.rest ≡ framed f n) × (32 ≤ n) × (n ≤ length s.rest)
taken_frame s f n g o j = (found_is s None (text (whole f) n) g o j, text_long s.rest (whole f) n j, text_within s.rest (whole f) n j)

pub taken_start : (s : Position) → s.granted ≡ false → owed s ≡ None → judge s.rest ≡ start → found_in s.rest ≡ begun
taken_start s g o j = found_is s None start g o j

pub taken_bad : (s : Position) (f : FrameFault) → s.granted ≡ false → owed s ≡ None → judge s.rest ≡ bad f → found_in s.rest ≡ refused (fault.Frame f)
taken_bad s f g o j = found_is s None (bad f) g o j

pub taken_size : (s : Position) (n : ℕ) → s.granted ≡ false → owed s ≡ Some n → found_in s.rest ≡ refused (fault.Unexpected message_tag)
taken_size s n g o = found_is s (Some n) (judge s.rest) g o refl

pub taken_none : (s : Position) (tag n : ℕ) → s.granted ≡ false → owed s ≡ None → judge s.rest ≡ text (dropped tag) n → ⊥
taken_none s tag n g o j =
    let asked = dropped_asks s.rest tag n j in
    some_isnt_none asked.0 (sym asked.1 ∙ sym (owed_is s g) ∙ o)

-- it rests exactly where the front is the start of a frame
pub begun_from : (size : Option ℕ) (front : Front) → found_by size front ≡ begun → (size ≡ None) × (front ≡ start)
begun_from (Some k) front e = absurd (begun_isnt_refused (fault.Unexpected message_tag) (sym e))
begun_from None start e = (refl, refl)
begun_from None (bad x) e = absurd (begun_isnt_refused (fault.Frame x) (sym e))
begun_from None (text (dropped tag) k) e = absurd (begun_isnt_refused (fault.Unexpected tag) (sym e))
begun_from None (text (whole g) k) e = absurd (begun_isnt_framed g k (sym e))

pub begun_rests : (s : Position) → s.granted ≡ false → found_in s.rest ≡ begun → IsAtStart s
begun_rests s g e = let two = begun_from (size_of s.rest) (judge s.rest) e in (owed_is s g ∙ two.0, two.1)

-- ---- whose bytes they are

pub reads_decoder : (stage : Stage) (early : Contents) (decoder : Position) → IsReading stage → unread_of stage early decoder ≡ decoder
reads_decoder (Waits awaited) early decoder r = refl
reads_decoder Authed early decoder r = refl
reads_decoder Ended early decoder r = refl
reads_decoder Opening early decoder r = absurd r
reads_decoder Banner early decoder r = absurd r
reads_decoder Asked early decoder r = absurd r
reads_decoder (Faulty f) early decoder r = absurd r
