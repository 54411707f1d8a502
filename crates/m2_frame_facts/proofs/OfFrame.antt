-- What a frame says is read back from it.
use Rattle.std.proofs.Common.{◌≡◌, ◌==◌, ℕ, List, length, Bool, true, false, cond, Option, Some, None, Result, Ok, Err, refl, sym, ap, subst}
use Rattle.std.proofs.lemmas.Bool.{eqb-true}
use Rattle.m2_addr.specs.Grammar.{IsBytes}
use Rattle.m2_frame.specs.declared.tag.Tag.{Tag}
use Rattle.m2_frame.specs.Frame.{message_tag}
use Rattle.m2_frame.specs.Tags.{tag_in}
use Rattle.m2_control.specs.declared.control.Control.{Control}
use Rattle.m2_control.specs.declared.fault.ControlFault.{ControlFault}
use Rattle.m2_control.specs.Control.{Spells, payload_of, tag_of}
use Rattle.m2_control.proofs.Payloads.{payload_found}
use Rattle.m2_message.specs.declared.header_text.TheConstants.{HEADER_BYTES}
use Rattle.m2_message.specs.HeaderText.{header_in}
use Rattle.m2_message.proofs.Headers.{header_text-header_in}
use Rattle.m2_frame_facts.specs.declared.facts.Facts.{Facts}
use Rattle.m2_frame_facts.specs.declared.facts.Facts.TheVariants as facts
use Rattle.m2_frame_facts.specs.declared.facts.MessageFacts.{MessageFacts}
use Rattle.m2_frame_facts.specs.Facts.{control_facts, message_facts, read_facts}
use Rattle.m2_frame_facts.specs.Laws.{IsOfMessage, MessagesAreReadBack, PayloadsAreReadBack}

-- ---- which case it is

abbrev message_or : MessageFacts → Facts → MessageFacts
message_or d (facts.Message m) = m
message_or d _ = d

abbrev control_or : Control → Facts → Control
control_or d (facts.Control c) = c
control_or d _ = d

taken : (b : Bool) (x y z : Facts) → (y ≡ z → ⊥) → cond b x y ≡ z → (b ≡ true) × (x ≡ z)
taken true x y z never e = (refl, e)
taken false x y z never e = absurd (never e)

passed : (b : Bool) (x y z : Facts) → (x ≡ z → ⊥) → cond b x y ≡ z → y ≡ z
passed true x y z never e = absurd (never e)
passed false x y z never e = e

read_no_message : (r : Result Control ControlFault) (m : MessageFacts) → read_facts r ≡ facts.Message m → ⊥
read_no_message (Ok c) m e = cc
read_no_message (Err x) m e = cc

control_no_message : (t : Option Tag) (payload : List ℕ) (m : MessageFacts) → control_facts t payload ≡ facts.Message m → ⊥
control_no_message (Some t) payload m e = read_no_message (payload_of t payload) m e
control_no_message None payload m e = cc

sized_no_control : (b : Bool) (h : MessageFacts) (c : Control) → cond b (facts.Message h) facts.NoHeader ≡ facts.Control c → ⊥
sized_no_control true h c e = cc
sized_no_control false h c e = cc

-- ---- messages

pub messages_are_read_back : MessagesAreReadBack
messages_are_read_back f m bytes e =
    let sized = taken (f.tag == message_tag) (message_facts f) (control_facts (tag_in f.tag) f.first) (facts.Message m) (control_no_message (tag_in f.tag) f.first m) e in
    let here : MessageFacts = record { header = header_in f.first; front = length f.second; middle = length f.third; data_bytes = length f.fourth } in
    let whole = taken (length f.first == HEADER_BYTES) (facts.Message here) facts.NoHeader (facts.Message m) (λ (n : facts.NoHeader ≡ facts.Message m). cc) sized.1 in
    let same : here ≡ m = ap (message_or here) whole.1 in
    subst (λ x. IsOfMessage f x) same (record {
      tag = eqb-true f.tag message_tag sized.0;
      header = sym (header_text-header_in f.first (eqb-true (length f.first) HEADER_BYTES whole.0) bytes);
      front = refl;
      middle = refl;
      data_bytes = refl;
    })

-- ---- payloads

read_ok : (r : Result Control ControlFault) (c : Control) → read_facts r ≡ facts.Control c → r ≡ Ok c
read_ok (Ok d) c e = ap (λ x. Ok (control_or d x)) e
read_ok (Err x) c e = absurd cc

read_back : (t : Option Tag) (payload : List ℕ) (c : Control) → IsBytes payload → control_facts t payload ≡ facts.Control c → (t ≡ Some (tag_of c)) × Spells c payload
read_back (Some t) payload c bytes e =
    let found = payload_found t payload c bytes (read_ok (payload_of t payload) c e) in (ap Some (sym found.1), found.0)
read_back None payload c bytes e = absurd cc

pub payloads_are_read_back : PayloadsAreReadBack
payloads_are_read_back f c bytes e =
    let other = passed (f.tag == message_tag) (message_facts f) (control_facts (tag_in f.tag) f.first) (facts.Control c)
    (sized_no_control (length f.first == HEADER_BYTES) (record { header = header_in f.first; front = length f.second; middle = length f.third; data_bytes = length f.fourth }) c) e in
    let back = read_back (tag_in f.tag) f.first c bytes other in
    record { tag = back.0; spelled = back.1 }
