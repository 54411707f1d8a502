-- A frame carries one message at most.
use Rattle.std.proofs.Common.{◌≡◌, ℕ, ◌<◌, ◌≤◌, length, List, sym, ap, ◌∙◌, arith}
use Rattle.m2_message.specs.declared.header.Header.{Header}
use Rattle.m2_message.specs.Message.{Content}
use Rattle.std.specs.List.{All}
use Rattle.m2_frame.specs.declared.frame.TheConstants.{MESSAGE_LIMIT}
use Rattle.m2_frame.specs.Frame.{Parts, message_tag, Fits, count_by_lengths}
use Rattle.m2_message.specs.HeaderText.{header_text, header_in, FieldsFit}
use Rattle.m2_message.specs.MessageFrame.{parts_of, message_in, Carries}
use Rattle.m2_message.proofs.Headers.{header_text-once, length-header_text, header_in-header_text, header_text-header_in, header_in-fits}

content_is : (header : Header) (front middle tail : List ℕ) (m : Content)
    → header ≡ m.header → front ≡ m.front → middle ≡ m.middle → tail ≡ m.tail
    → record { header = header; front = front; middle = middle; tail = tail } ≡ m
content_is header front middle tail m e1 e2 e3 e4 = rw (e1, e2, e3, e4)

pub Carries-once : (f : Parts) (m n : Content) → Carries f m → Carries f n → m ≡ n
Carries-once f m n a b =
    let same : parts_of m ≡ parts_of n = sym a.parts ∙ b.parts in
    content_is m.header m.front m.middle m.tail n
    (header_text-once m.header n.header a.fields b.fields (ap (λ (p : Parts). p.first) same))
    (ap (λ (p : Parts). p.second) same)
    (ap (λ (p : Parts). p.third) same)
    (ap (λ (p : Parts). p.fourth) same)

-- a frame whose first segment is the text of a header carries the message with its other segments
pub Carries-made : (f : Parts) (h : Header) → f.tag ≡ message_tag → FieldsFit h → f.first ≡ header_text h
    → Carries f (record { header = h; front = f.second; middle = f.third; tail = f.fourth })
Carries-made f h tag fields text = record { fields = fields; parts = rw (← tag, ← text) }

pub message_in-carried : (f : Parts) (m : Content) → Carries f m → m ≡ message_in f
message_in-carried f m a =
    content_is m.header m.front m.middle m.tail (message_in f)
    (sym (header_in-header_text m.header a.fields) ∙ ap (λ (p : Parts). header_in p.first) (sym a.parts))
    (ap (λ (p : Parts). p.second) (sym a.parts))
    (ap (λ (p : Parts). p.third) (sym a.parts))
    (ap (λ (p : Parts). p.fourth) (sym a.parts))

-- a message with the header that a frame's first segment says, and with copies of its other segments
pub message_in-copied : (f : Parts) (header : Header) (front middle tail : List ℕ) → FieldsFit header → f.first ≡ header_text header
    → front ≡ f.second → middle ≡ f.third → tail ≡ f.fourth → record { header = header; front = front; middle = middle; tail = tail } ≡ message_in f
message_in-copied f header front middle tail fields text e2 e3 e4 =
    content_is header front middle tail (message_in f) (sym (header_in-header_text header fields) ∙ ap header_in (sym text)) e2 e3 e4

pub message_in-carries : (f : Parts) → f.tag ≡ message_tag → length f.first ≡ 41 → All (λ b. b < 256) f.first → Carries f (message_in f)
message_in-carries f tag l a =
    Carries-made f (header_in f.first) tag (header_in-fits f.first (omega (arith, l)) a) (sym (header_text-header_in f.first l a))

-- the header of a frame that carries a message
pub Carries-len : (f : Parts) (m : Content) → Carries f m → length f.first ≡ 41
Carries-len f m a = ap (λ (p : Parts). length p.first) a.parts ∙ length-header_text m.header

count-le : (second third fourth : ℕ) → count_by_lengths second third fourth ≤ 4
count-le second third fourth = grind arith

-- a MESSAGE frame can be written where its segments keep their bound
pub MESSAGE-fits : (first second third fourth : List ℕ)
    → length first ≤ MESSAGE_LIMIT → length second ≤ MESSAGE_LIMIT → length third ≤ MESSAGE_LIMIT → length fourth ≤ MESSAGE_LIMIT
    → Fits (record { tag = message_tag; first = first; second = second; third = third; fourth = fourth })
MESSAGE-fits first second third fourth a b c d = record {
  tag_from = omega arith;
  tag_to = omega arith;
  count = count-le (length second) (length third) (length fourth);
  first = a;
  second = b;
  third = c;
  fourth = d;
}
