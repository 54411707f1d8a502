-- A reset that stands next is heard at the front, so that it may be obeyed.
use Rattle.std.proofs.Common.{◌≡◌, ℕ, Bool, Option, Some, None, Result, Ok, Err, sym, ap, subst, ◌∙◌}
use Rattle.std.specs.Prelude.{if◌then◌else◌, option_map}
use Rattle.m2_control.specs.declared.control.Control.{Control}
use Rattle.m2_control.specs.declared.control.Control.TheVariants as control
use Rattle.m2_control.specs.declared.fault.ControlFault.{ControlFault}
use Rattle.m2_control.specs.Control.{payload_of}
use Rattle.m2_feed.specs.Calls.{IsFront}
use Rattle.m2_feed.specs.FeedNow.{FeedNow, Reading, framing, shaking}
use Rattle.m2_frame.specs.Frame.{Parts}
use Rattle.m2_frame.specs.Reading.{judge, whole}
use Rattle.m2_feed.specs.declared.frame_heard.FrameHeard.{FrameHeard}
use Rattle.m2_feed.specs.declared.frame_heard.FrameHeard.TheVariants.{Resets}
use Rattle.m2_feed.specs.declared.hearer.Hearer.{Hearer}
use Rattle.m2_feed.specs.FrameHeard.{heard_as_answer, heard_if, heard_of, heard_payload}
use Rattle.m2_feed.specs.FrameLaws.{IsAsReplayed, IsHeardAsReplayed, IsReset}
use Rattle.m2_feed.specs.declared.heard.Heard.{Heard}
use Rattle.m2_feed.specs.declared.heard.Heard.TheVariants as answer
use Rattle.m2_feed.specs.Front.{frame_at, frame_of, heard_at}
use Rattle.m2_feed.specs.Heard.{heard_in, of_control, of_payload, of_tag}
use Rattle.m2_journal.specs.Said.{said}
use Rattle.m2_session.specs.declared.session.Phase.{Phase}
use Rattle.m2_session.specs.declared.session.Phase.TheVariants.{ReconnectSent, Ready}
use Rattle.m2_session.specs.Phases as phase
use Rattle.m2_frame.specs.declared.tag.Tag.{Tag}
use Rattle.m2_frame.specs.declared.tag.Tag.TheVariants as tag
use Rattle.m2_frame.specs.Tags.{tag_in}
use Rattle.m2_core.specs.LiveNow.{OnFeedNow}
use Rattle.m2_core.specs.OnFeed.{Hears}
use Rattle.m2_core.specs.LiveHearing.{heard_on}
use Rattle.m2_core.specs.CoreNow.{CoreNow}
use Rattle.m2_core.specs.Front.{HearsOn, hearer_of}
use Rattle.m2_core.specs.Next.{IsResetHeard}

-- ---- a frame, where a reconnect was sent

abbrev awaiting : Hearer → Hearer
awaiting h = record h { phase = ReconnectSent }

by_control : (h : Hearer) (c : Control) (full : Bool) → heard_as_answer (awaiting h) c ≡ Resets full → of_control h.peer h.policy c ≡ answer.Reset full
by_control h (control.SessionReset p) full e = cc
by_control h c full e = let never : ⊥ = cc in absurd never

by_payload : (h : Hearer) (r : Result Control ControlFault) (full : Bool) → heard_payload (awaiting h) r ≡ Resets full → of_payload h.peer h.policy r ≡ answer.Reset full
by_payload h (Ok c) full e = by_control h c full e
by_payload h (Err f) full e = let never : ⊥ = cc in absurd never

by_tag : (h : Hearer) (o : Option Tag) (x : Parts) (full : Bool) → heard_if (awaiting h) o x ≡ Resets full → of_tag h.peer h.policy ReconnectSent o x ≡ answer.Reset full
by_tag h (Some tag.SessionReset) x full e = by_payload h (payload_of tag.SessionReset x.first) full e
by_tag h (Some tag.SessionRetry) x full e = by_payload h (payload_of tag.SessionRetry x.first) full e
by_tag h (Some tag.SessionRetryGlobal) x full e = by_payload h (payload_of tag.SessionRetryGlobal x.first) full e
by_tag h (Some tag.SessionReconnectOk) x full e = by_payload h (payload_of tag.SessionReconnectOk x.first) full e
by_tag h (Some tag.Wait) x full e = by_payload h (payload_of tag.Wait x.first) full e
by_tag h (Some t) x full e = let never : ⊥ = cc in absurd never
by_tag h None x full e = let never : ⊥ = cc in absurd never

by_phase : (h : Hearer) (x : Parts) (full : Bool) → h.phase ≡ ReconnectSent → heard_of h (whole x) ≡ Resets full → heard_in h.peer h.policy ReconnectSent x ≡ answer.Reset full
by_phase h x full p e = by_tag h (tag_in x.tag) x full (subst (λ (q : Phase). heard_of (record h { phase = q }) (whole x) ≡ Resets full) p e)

-- ---- the front

framed : (r : Reading) (x : Parts) (len : ℕ) → IsFront r (whole x) len → frame_of r ≡ Some x
framed (framing rest granted) x len i = ap (λ (o : Option ℕ). frame_at o (judge rest)) i.0 ∙ ap (frame_at None) i.1
framed (shaking s) x len i = absurd i

reset_on : IsHeardAsReplayed → (h : Hearer) (full : Bool) (x : Option FeedNow) → OnFeedNow x (λ v. Hears h (Resets full) v.reading) →
    (if phase.is h.phase Ready then None else heard_on h.peer h.policy h.phase x) ≡ Some (answer.Reset full)
reset_on law h full (Some v) k =
    let is : IsReset h full (said (whole k.frame)) = subst (λ (y : FrameHeard). IsAsReplayed y h (said (whole k.frame))) k.says (law h (whole k.frame)) in
    let there : heard_at h.peer h.policy ReconnectSent v.reading ≡ Some (answer.Reset full) =
    ap (option_map (heard_in h.peer h.policy ReconnectSent)) (framed v.reading k.frame k.len k.front) ∙ ap (λ (y : Heard). Some y) (by_phase h k.frame full is.phase k.says) in
    subst (λ (p : Phase). (if phase.is p Ready then None else heard_on h.peer h.policy p (Some v)) ≡ Some (answer.Reset full)) (sym is.phase) there
reset_on law h full None k = absurd k

pub reset_heard : IsHeardAsReplayed → (c : CoreNow) (full : Bool) → HearsOn c (Resets full) → IsResetHeard full c
reset_heard law c full h = reset_on law (hearer_of c) full c.live.feed h
