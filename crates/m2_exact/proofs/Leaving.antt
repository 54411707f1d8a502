-- What is composed leaves the end of a feed as it is, and what is read there.
use Rattle.std.proofs.Common.{◌≡◌, ℕ, List, true, Option, None, Some, Ok, refl, sym, subst, ◌∙◌, ap}
use Rattle.std.specs.Prelude.{◌≢◌, IfSome}
use Rattle.std.specs.Option.{is_some}
use Rattle.m2_dispatch.specs.m2_message.Message.{Content}
use Rattle.m2_fabric.specs.Kinds.{IsInMemory}
use Rattle.m2_script.specs.m2_center.m2_core.Asking.{LeavesAsk}
use Rattle.m2_script.specs.m2_center.m2_core.CoreNow.{CoreNow}
use Rattle.m2_script.specs.m2_center.m2_core.OnFeed.{AnswersStamp, ChangesRoom, ComposesAsk, ComposesFeed, ComposesMessage}
use Rattle.m2_script.specs.m2_center.m2_core.ToCompose.{to_compose}
use Rattle.m2_script.specs.m2_center.m2_core.declared.asking.CoreAsk.{CoreAsk}
use Rattle.m2_script.specs.m2_center.m2_core.declared.asking.CoreAsk.TheVariants as ask
use Rattle.m2_script.specs.m2_center.m2_core.declared.to_compose.CoreText.{CoreText}
use Rattle.m2_script.specs.m2_center.m2_core.declared.to_compose.CoreText.TheVariants as text
use Rattle.m2_script.specs.m2_center.m2_feed.FeedNow.{FeedNow}
use Rattle.m2_script.specs.m2_center.m2_feed.declared.writing.Writing.{Writing}
use Rattle.m2_script.specs.m2_center.m2_record.Calls.{ComposesAs}
use Rattle.m2_script.specs.m2_center.m2_record.RecordNow.{RecordNow}
use Rattle.m2_script.specs.m2_center.m2_record.Stepping.{StepsCompose, Worked, answer_composed}
use Rattle.m2_script.specs.m2_center.m2_record.declared.composing.Composed.{Composed}
use Rattle.m2_script.specs.m2_center.m2_record.declared.composing.Composed.TheVariants as composed
use Rattle.m2_script.specs.m2_center.m2_record.declared.stepped.Stepped.TheVariants as stepped
use Rattle.m2_exact.specs.Cores.{OnMemory}

abbrev pub IsLeft : Option FeedNow → Option FeedNow → Type 0
IsLeft (Some v) (Some w) = (w.end ≡ v.end) × (w.reading ≡ v.reading)
IsLeft (Some v) None = ⊥
IsLeft None y = ⊥

pub stays_in_memory : (x y : Option FeedNow) → IsLeft x y → OnMemory x → OnMemory y
stays_in_memory (Some v) (Some w) h m = subst IsInMemory (sym h.0) m
stays_in_memory (Some v) None h m = absurd h
stays_in_memory None y h m = absurd h

-- ---- feeds

composes : (w : Writing) (t : List ℕ) (x y : Option FeedNow) → ComposesFeed (Ok tt) w t x y → IsLeft x y
composes w t (Some v) (Some z) g = (ap (λ (z : FeedNow). z.end) g, ap (λ (z : FeedNow). z.reading) g)
composes w t (Some v) None g = absurd g
composes w t None y g = absurd g

asked : (t : List ℕ) (x y : Option FeedNow) → ComposesAsk t x y → IsLeft x y
asked t (Some v) (Some z) g = (ap (λ (z : FeedNow). z.end) g, ap (λ (z : FeedNow). z.reading) g)
asked t (Some v) None g = absurd g
asked t None y g = absurd g

numbered : (n last : ℕ) (c : Content) (x y : Option FeedNow) → ComposesMessage n last c x y → IsLeft x y
numbered n last c (Some v) (Some z) g = (ap (λ (z : FeedNow). z.end) g, ap (λ (z : FeedNow). z.reading) g)
numbered n last c (Some v) None g = absurd g
numbered n last c None y g = absurd g

answered : (x y : Option FeedNow) → AnswersStamp (Ok tt) x y → IsLeft x y
answered (Some v) (Some z) g = (ap (λ (z : FeedNow). z.end) g, ap (λ (z : FeedNow). z.reading) g)
answered (Some v) None g = absurd g
answered None y g = absurd g

roomed : (x y : Option FeedNow) → ChangesRoom x y → IsLeft x y
roomed (Some v) (Some z) g = (ap (λ (z : FeedNow). z.end) g, ap (λ (z : FeedNow). z.reading) g)
roomed (Some v) None g = absurd g
roomed None y g = absurd g

-- ---- records

leaves_ask : (a : CoreAsk) (c new : CoreNow) → LeavesAsk a c new → IsLeft c.live.feed new.live.feed
leaves_ask (ask.Asked ident n) c new h = asked _ c.live.feed new.live.feed h.text
leaves_ask ask.Spent c new h = roomed c.live.feed new.live.feed h.0
leaves_ask (ask.Again seen now) c new h = roomed c.live.feed new.live.feed h.0
leaves_ask ask.NoMemory c new h = roomed c.live.feed new.live.feed h.0

composes_as : (t : CoreText) (c : Composed) (r new : RecordNow) → c ≢ composed.NoMemory → ComposesAs t c r new → IsLeft r.core.live.feed new.core.live.feed
composes_as text.Ask (composed.Asked ident n) r new k h = leaves_ask (ask.Asked ident n) r.core new.core h.1
composes_as text.Ask composed.Spent r new k h = leaves_ask ask.Spent r.core new.core h.1
composes_as text.Ask (composed.Again seen now) r new k h = leaves_ask (ask.Again seen now) r.core new.core h.1
composes_as text.KeepaliveAnswer composed.Answered r new k h = answered r.core.live.feed new.core.live.feed h.0.composes
composes_as text.Message (composed.Numbered n) r new k h = numbered n r.core.live.last h.0.numbers.message r.core.live.feed new.core.live.feed h.0.numbers.composes
composes_as text.Acknowledgement composed.Acknowledged r new k h = composes _ _ r.core.live.feed new.core.live.feed h.0.composes
composes_as text.Ask composed.NoMemory r new k h = absurd (k refl)
composes_as text.KeepaliveAnswer composed.NoMemory r new k h = absurd (k refl)
composes_as text.Message composed.NoMemory r new k h = absurd (k refl)
composes_as text.Acknowledgement composed.NoMemory r new k h = absurd (k refl)
composes_as t c r new k h = absurd h

pub composed_so : (w : Worked) (r new : RecordNow) → w.answer ≢ stepped.NoMemory → is_some (to_compose r.core) ≡ true → StepsCompose w r new → IsLeft r.core.live.feed new.core.live.feed
composed_so w r new k some h = by (to_compose r.core) some h.composes
  where
    by : (o : Option CoreText) → is_some o ≡ true → IfSome o (λ t. ComposesAs t h.composed r new) → IsLeft r.core.live.feed new.core.live.feed
    by (Some t) e c = composes_as t h.composed r new (λ e. k (h.answers ∙ ap answer_composed e)) c
    by None e c = absurd (cc e)
