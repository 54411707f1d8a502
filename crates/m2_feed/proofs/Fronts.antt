-- What a decoder answers, seen as what a feed reads.
use Rattle.std.proofs.Common.{◌≡◌, ℕ, ◌+◌, ◌≤◌, Option, None, Some, Ok, List, length, drop, refl, sym, ap, ◌∙◌, subst, arith, length-drop}
use Rattle.m2_frame.specs.declared.got.Got.{Got}
use Rattle.m2_frame.specs.declared.got.Got.TheVariants as got
use Rattle.m2_frame.specs.Decoder.{Answers, IsAtFront, Passes, passed}
use Rattle.m2_frame.specs.Frame.{Parts, message_tag, parts}
use Rattle.m2_frame.specs.Position.{Position}
use Rattle.m2_frame.specs.Reading.{Item, whole, dropped, judge, text}
use Rattle.m2_frame.proofs.Cutting.{same_text, text_within}
use Rattle.m2_message.specs.declared.header_text.TheConstants.{HEADER_BYTES}
use Rattle.m2_message.specs.declared.message.Message.{Message}
use Rattle.m2_message.specs.Message.{content_of}
use Rattle.m2_message.specs.MessageFrame.{message_in}
use Rattle.m2_feed.specs.Calls as calls
use Rattle.m2_feed.specs.Calls.{HasFrame, HasMessage, IsFront, IsInFront, OnlyReads, PassesFrame, TakesMessage}
use Rattle.m2_feed.specs.FeedNow.{FeedNow, Reading, framing, shaking}

pub not_front : (p : Position) → ((f : Parts) → ¬ IsAtFront p f) → (f : Parts) (len : ℕ) → ¬ IsFront (framing p.rest p.granted) (whole f) len
not_front p absent f len h = absent f (record { settled = h.0; len = len; there = h.1 })

-- a text that is passed is counted, and no longer read
passes_keep : (old new : Position) (item : Item) → Passes old item new → (n : ℕ) → old.place + length old.rest ≤ n → new.place + length new.rest ≤ n
passes_keep old new item p n h =
    let within = text_within old.rest item p.0 p.1 in
    let left = length-drop p.0 old.rest in
    rw p.2 (omega (arith, within, left, h))

pub answers_keep : (old new : Position) (g : Got) → Answers old g new → (base heard : ℕ) → old.place + length old.rest ≤ base + heard → new.place + length new.rest ≤ base + heard
answers_keep old new (got.Frame f) a base heard h = passes_keep old new (whole (parts f)) a.1 (base + heard) h
answers_keep old new (got.Aborted tag) a base heard h = passes_keep old new (dropped tag) a.1 (base + heard) h
answers_keep old new (got.Size n) a base heard h = rw a.1 h
answers_keep old new got.NotYet a base heard h = rw a.1 h
answers_keep old new (got.Fault f) a base heard h = rw a.2 h
answers_keep old new got.NoMemory a base heard h = rw a.2 h

pub at_front : (p : Position) → (f : Parts) (len : ℕ) → IsFront (framing p.rest p.granted) (whole f) len → IsAtFront p f
at_front p f len h = record { settled = h.0; len = len; there = h.1 }

pub passes_frame : (old new : Position) → HasFrame (framing old.rest old.granted) → ((f : Parts) → IsAtFront old f → Passes old (whole f) new) →
    PassesFrame (framing old.rest old.granted) (framing new.rest new.granted)
passes_frame old new has passes =
    let p = passes has.0 (at_front old has.0 has.1 has.2) in
    (has.0, (p.0, (has.2.0, p.1), ap (λ (s : Position). framing s.rest s.granted) p.2))

pub frame_keeps : (old new : Position) → HasFrame (framing old.rest old.granted) → ((f : Parts) → IsAtFront old f → Passes old (whole f) new) →
    (base heard : ℕ) → old.place + length old.rest ≤ base + heard → new.place + length new.rest ≤ base + heard
frame_keeps old new has passes base heard h = passes_keep old new (whole has.0) (passes has.0 (at_front old has.0 has.1 has.2)) (base + heard) h

-- one frame alone stands at a front
same_whole : (f g : Parts) → whole f ≡ whole g → f ≡ g
same_whole f g e = cc

one_frame : (r : Reading) (f g : Parts) (n m : ℕ) → IsFront r (whole f) n → IsFront r (whole g) m → f ≡ g
one_frame (framing rest granted) f g n m h k = same_whole f g (same_text (whole f) (whole g) n m (sym h.1 ∙ k.1)).0
one_frame (shaking s) f g n m h k = absurd h

-- where a MESSAGE with a whole header stands there, each frame that stands there is one
pub has_frame : (r : Reading) → HasMessage r → HasFrame r
has_frame r h = (h.frame, h.len, h.front)

pub has_tag : (r : Reading) (f : Parts) → HasMessage r → ((len : ℕ) × IsFront r (whole f) len) → f.tag ≡ message_tag
has_tag r f h k = ap (λ (x : Parts). x.tag) (one_frame r f h.frame k.0 h.len k.1 h.front) ∙ h.tag

pub has_header : (r : Reading) (f : Parts) → HasMessage r → ((len : ℕ) × IsFront r (whole f) len) → length f.first ≡ HEADER_BYTES
has_header r f h k = ap (λ (x : Parts). length x.first) (one_frame r f h.frame k.0 h.len k.1 h.front) ∙ h.header

pub shows_some : (r : Reading) → HasMessage r → ((f : Parts) (len : ℕ) → ¬ IsFront r (whole f) len) → ⊥
shows_some r h none = none h.frame h.len h.front

pub is_in_front : (m : Message) (f : Parts) (r : Reading) → ((len : ℕ) × IsFront r (whole f) len) → content_of m ≡ message_in f → IsInFront m r
is_in_front m f r k e = (f, k.0, k.1, e)

-- the message of the frame that is passed
pub takes : (m : Message) (old new : FeedNow) → IsInFront m old.reading → PassesFrame old.reading new.reading → OnlyReads old new → TakesMessage (Ok m) old new
takes m old new i p o =
    let same = one_frame old.reading p.0 i.0 p.1.0 i.1 p.1.1 i.2 in
    ((p.0, p.1, i.3 ∙ ap message_in (sym same)), o)
