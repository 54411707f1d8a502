-- What is known of a record of which a step is due.
use Rattle.std.proofs.Common.{◌≡◌, ℕ, ◌≤◌, ◌&&◌, not, if◌then◌else◌, Bool, true, false, ◌++◌, length, Option, Some, None, refl, sym, ap, subst, ◌∙◌}
use Rattle.std.specs.Prelude.{nat_lt}
use Rattle.std.specs.List.{list_any}
use Rattle.std.specs.Option.{is_none, is_some, option_to_list}
use Rattle.std.proofs.lemmas.Bool.{ltb-false, ltb-true}
use Rattle.std.proofs.lemmas.List.Folds.{list_any-append}
use Rattle.m2_handshake.specs.m2_control.declared.fields.TheConstants.{GREATEST_NUMBER}
use Rattle.m2_core.specs.LiveNow.{OnFeedNow, is_ready}
use Rattle.m2_core.specs.OnFeed.{CanAsk, CanWrite, HasStamp}
use Rattle.m2_core.specs.LiveNumbering.{HasNumber}
use Rattle.m2_core.specs.Asking.{MayAskNow}
use Rattle.m2_core.specs.Calls.{is_exhausted}
use Rattle.m2_core.specs.Composing.{OwesOne}
use Rattle.m2_core.specs.CoreNow.{CoreNow, may_dial}
use Rattle.m2_core.specs.ToCompose.{text_on, text_rows, to_compose}
use Rattle.m2_core.specs.declared.to_compose.CoreText.{CoreText}
use Rattle.m2_core.specs.declared.to_compose.CoreText.TheVariants as text
use Rattle.m2_feed.specs.Calls.{Rests, is_empty}
use Rattle.m2_feed.specs.FeedNow.{FeedNow, Reading, framing, is_framing, shaking}
use Rattle.m2_handshake.specs.m2_frame.Reading.{Front, owed_at, start}
use Rattle.m2_journal.specs.Lawful.{dial_connect, where_so}
use Rattle.m2_dispatch.specs.m2_queues.OutQueues.{next_number}
use Rattle.m2_session.specs.declared.session.Phase.{Phase}
use Rattle.m2_session.specs.declared.session.Phase.TheVariants.{Absent, Connecting, IdentSent, ReconnectSent, Ready, Standby, Wait}
use Rattle.m2_session.specs.Phases as phase
use Rattle.m2_session.specs.Table.{first_that_holds}
use Rattle.m2_record.specs.Calls.{ConnectIsDue}
use Rattle.m2_record.specs.Due.{due_step, feed_rows, has_frame, has_parcel, has_plan, is_start, may_compose, may_connect, may_read, may_write, on_feed, rests}
use Rattle.m2_record.specs.IsRecord.{IsRecord}
use Rattle.m2_record.specs.RecordNow.{RecordNow}
use Rattle.m2_record.specs.declared.due.Due.{Due}
use Rattle.m2_record.specs.declared.due.Due.TheVariants as due
use Rattle.m2_bytes.proofs.m2_lemmas.Options.{none_isnt_some, some_same}
use Rattle.m2_bytes.proofs.m2_lemmas.Booleans.{negated_is_false, negated_is_true, neither_of_or, both_of_and, false_isnt_true}

abbrev is_connect : Due → Bool
is_connect (due.Connect at) = true
is_connect _ = false

not-of-feed : (a b c d : Bool) → is_connect (if a then due.Write else (if b then due.Frame else (if c then due.Read else (if d then due.Compose else due.Nothing)))) ≡ false
not-of-feed true b c d = refl
not-of-feed false true c d = refl
not-of-feed false false true d = refl
not-of-feed false false false true = refl
not-of-feed false false false false = refl

only-connect : (a b c : Bool) (at : ℕ) (rest : Due) → is_connect rest ≡ false →
    is_connect (if a then due.Plan else (if b then due.Hand else (if c then due.Connect at else rest))) ≡ true → (a ≡ false) × (c ≡ true)
only-connect true b c at rest h e = absurd (false_isnt_true e)
only-connect false true c at rest h e = absurd (false_isnt_true e)
only-connect false false true at rest h e = (refl, refl)
only-connect false false false at rest h e = absurd (false_isnt_true (sym h ∙ e))

-- where a connect is due, a dial is wanted, and its number fits
pub connects : (now : ℕ) (r : RecordNow) → ConnectIsDue now r → (may_dial r.core ≡ true) × (is_exhausted r.core ≡ false)
connects now r h =
    let two = only-connect (has_plan r) (has_parcel r.parcels) (may_connect now r) r.waits.next_dial (first_that_holds (feed_rows r) due.Nothing)
    (not-of-feed (may_write r) (has_frame r) (may_read r) (may_compose r)) (ap is_connect h) in
    ((both_of_and (may_dial r.core) _ two.1).0, (neither_of_or _ (is_exhausted r.core) two.0).1)

-- ---- what is to be composed

abbrev HoldsFor : (p q x y : Bool) → CoreText → Type 0
HoldsFor p q x y text.Ask = p ≡ true
HoldsFor p q x y text.KeepaliveAnswer = q ≡ true
HoldsFor p q x y text.Message = x ≡ true
HoldsFor p q x y text.Acknowledgement = y ≡ true

row-of : (p q x y : Bool) (t : CoreText) →
    (if p then Some text.Ask else (if q then Some text.KeepaliveAnswer else (if x then Some text.Message else (if y then Some text.Acknowledgement else None)))) ≡ Some t →
    HoldsFor p q x y t
row-of true q x y t e = subst (HoldsFor true q x y) (some_same text.Ask t e) refl
row-of false true x y t e = subst (HoldsFor false true x y) (some_same text.KeepaliveAnswer t e) refl
row-of false false true y t e = subst (HoldsFor false false true y) (some_same text.Message t e) refl
row-of false false false true t e = subst (HoldsFor false false false true) (some_same text.Acknowledgement t e) refl
row-of false false false false t e = absurd (none_isnt_some t e)

may-write-if : (a : Bool) (o : Option CoreText) (t : CoreText) → (if a then o else None) ≡ Some t → (a ≡ true) × (o ≡ Some t)
may-write-if true o t e = (refl, e)
may-write-if false o t e = absurd (none_isnt_some t e)

-- the feed can take a text, and the text's row holds
pub record IsTextOf (c : CoreNow) (t : CoreText) (v : FeedNow) : Type 0 where
  pub write : CanWrite v
  pub row : HoldsFor (phase.is c.live.session.phase Connecting) (is_ready c.live && nat_lt 0 (length v.stamps)) (is_ready c.live && is_some (next_number c.live.out.queue)) (is_ready c.live && (c.owes && not c.facts.policy.lossy)) t

text-of-feed : (c : CoreNow) (t : CoreText) (o : Option FeedNow) → text_on o c ≡ Some t → OnFeedNow o (IsTextOf c t)
text-of-feed c t (Some v) e =
    let two = may-write-if (is_framing v.reading && is_empty v.composed) (first_that_holds (text_rows v c) None) t e in
    let feed = both_of_and (is_framing v.reading) (is_empty v.composed) two.0 in
    record { write = record { signed = feed.0; put = feed.1 }; row = row-of _ _ _ _ t two.1 }
text-of-feed c t None e = absurd (none_isnt_some t e)

pub text-of : (c : CoreNow) (t : CoreText) → to_compose c ≡ Some t → OnFeedNow c.live.feed (IsTextOf c t)
text-of c t e = text-of-feed c t c.live.feed e

on-feed-so : {P Q : FeedNow → Type 0} (o : Option FeedNow) → ((v : FeedNow) → P v → Q v) → OnFeedNow o P → OnFeedNow o Q
on-feed-so (Some v) f h = f v h
on-feed-so None f h = h

pub can_write : (c : CoreNow) (t : CoreText) → to_compose c ≡ Some t → OnFeedNow c.live.feed CanWrite
can_write c t e = on-feed-so c.live.feed (λ v h. h.write) (text-of c t e)

-- its row, whatever the feed is
row-on : {A : Type 0} (c : CoreNow) (t : CoreText) (o : Option FeedNow) → ((v : FeedNow) → IsTextOf c t v → A) → OnFeedNow o (IsTextOf c t) → A
row-on c t (Some v) f h = f v h
row-on c t None f h = absurd h

-- ---- a message

pub message_ready : (c : CoreNow) → to_compose c ≡ Some text.Message → is_ready c.live ≡ true
message_ready c e = row-on c text.Message c.live.feed (λ v h. (both_of_and (is_ready c.live) _ h.row).0) (text-of c text.Message e)

is-there : (o : Option ℕ) → is_some o ≡ true → (n : ℕ) × (o ≡ Some n)
is-there (Some n) h = (n, refl)
is-there None h = absurd (false_isnt_true h)

number-there : (c : CoreNow) → to_compose c ≡ Some text.Message → (n : ℕ) × (next_number c.live.out.queue ≡ Some n)
number-there c e = is-there (next_number c.live.out.queue) (row-on c text.Message c.live.feed (λ v h. (both_of_and (is_ready c.live) _ h.row).1) (text-of c text.Message e))

first-fits : (n : ℕ) (o : Option ℕ) → o ≡ Some n → list_any (nat_lt GREATEST_NUMBER) (option_to_list o) ≡ false → n ≤ GREATEST_NUMBER
first-fits n o e h = ltb-false GREATEST_NUMBER n (neither_of_or (nat_lt GREATEST_NUMBER n) false (subst (λ (x : Option ℕ). list_any (nat_lt GREATEST_NUMBER) (option_to_list x) ≡ false) e h)).0

-- none of the numbers that are needed is above the greatest
parts-fit : (c : CoreNow) → is_exhausted c ≡ false →
    (list_any (nat_lt GREATEST_NUMBER) (option_to_list (next_number c.live.out.queue)) ≡ false) × (list_any (nat_lt GREATEST_NUMBER) (where_so (phase.is c.live.session.phase Connecting) c.live.session.connect) ≡ false)
parts-fit c h =
    let numbers = option_to_list (next_number c.live.out.queue) in
    let dials = where_so (may_dial c) (dial_connect c.live.session) in
    let asks = where_so (phase.is c.live.session.phase Connecting) c.live.session.connect in
    let first = neither_of_or _ _ (sym (list_any-append (nat_lt GREATEST_NUMBER) (numbers ++ dials) asks) ∙ h) in
    let second = neither_of_or _ _ (sym (list_any-append (nat_lt GREATEST_NUMBER) numbers dials) ∙ first.0) in
    (second.0, first.1)

pub message_number : (c : CoreNow) → to_compose c ≡ Some text.Message → is_exhausted c ≡ false → HasNumber c.live.out.queue
message_number c e h = let there = number-there c e in (there.0, there.1, first-fits there.0 (next_number c.live.out.queue) there.1 (parts-fit c h).0)

-- ---- the other texts

pub stamp_due : (c : CoreNow) → to_compose c ≡ Some text.KeepaliveAnswer → (is_ready c.live ≡ true) × OnFeedNow c.live.feed HasStamp
stamp_due c e = (
  row-on c text.KeepaliveAnswer c.live.feed (λ v h. (both_of_and (is_ready c.live) _ h.row).0) (text-of c text.KeepaliveAnswer e),
  on-feed-so c.live.feed (λ v h. record { can = h.write; some = ltb-true 0 (length v.stamps) (both_of_and (is_ready c.live) _ h.row).1 }) (text-of c text.KeepaliveAnswer e),
)

pub acknowledgement_due : (c : CoreNow) → to_compose c ≡ Some text.Acknowledgement → OwesOne c
acknowledgement_due c e = row-on c text.Acknowledgement c.live.feed owes (text-of c text.Acknowledgement e)
  where
    owes : (v : FeedNow) → IsTextOf c text.Acknowledgement v → OwesOne c
    owes v h = let two = both_of_and (is_ready c.live) _ h.row in let both_of = both_of_and c.owes _ two.1 in record { ready = two.0; owes = both_of.0; kept = negated_is_false c.facts.policy.lossy both_of.1 }

is-connecting : (p : Phase) → phase.is p Connecting ≡ true → p ≡ Connecting
is-connecting Connecting h = refl
is-connecting Absent h = absurd (false_isnt_true h)
is-connecting IdentSent h = absurd (false_isnt_true h)
is-connecting ReconnectSent h = absurd (false_isnt_true h)
is-connecting Ready h = absurd (false_isnt_true h)
is-connecting Standby h = absurd (false_isnt_true h)
is-connecting Wait h = absurd (false_isnt_true h)

is-a-start : (x : Front) → is_start x ≡ true → x ≡ start
is-a-start start h = refl
is-a-start _ h = absurd (false_isnt_true h)

is-nothing : (o : Option ℕ) → is_none o ≡ true → o ≡ None
is-nothing None h = refl
is-nothing (Some n) h = absurd (false_isnt_true h)

pub rests-so : (x : Reading) → rests x ≡ true → Rests x
rests-so (shaking s) h = h
rests-so (framing rest granted) h = let two = both_of_and (is_none (owed_at rest granted)) _ h in (is-nothing _ two.0, is-a-start _ two.1)

ask-feed : (c : CoreNow) (o : Option FeedNow) → on_feed (λ v. not (rests v.reading)) o ≡ false → OnFeedNow o (IsTextOf c text.Ask) → OnFeedNow o CanAsk
ask-feed c (Some v) h t = record { write = t.write; rests = rests-so v.reading (negated_is_true (rests v.reading) h) }
ask-feed c None h t = t

pub may_ask : (r : RecordNow) → to_compose r.core ≡ Some text.Ask → has_frame r ≡ false → is_exhausted r.core ≡ false → MayAskNow r.core
may_ask r e quiet h =
    let row = row-on r.core text.Ask r.core.live.feed (λ v x. x.row) (text-of r.core text.Ask e) in
    record {
      phase = is-connecting r.core.live.session.phase row;
      fits = asked-fits (phase.is r.core.live.session.phase Connecting) r.core.live.session.connect row (parts-fit r.core h).1;
      feed = ask-feed r.core r.core.live.feed (neither_of_or _ _ quiet).0 (text-of r.core text.Ask e);
    }
  where
    asked-fits : (b : Bool) (n : ℕ) → b ≡ true → list_any (nat_lt GREATEST_NUMBER) (where_so b n) ≡ false → n ≤ GREATEST_NUMBER
    asked-fits true n e h = ltb-false GREATEST_NUMBER n (neither_of_or (nat_lt GREATEST_NUMBER n) false h).0
    asked-fits false n e h = absurd (false_isnt_true e)

-- ---- where composing is due

abbrev is_compose : Due → Bool
is_compose due.Compose = true
is_compose _ = false

composes-only : (a b c d : Bool) → is_compose (if a then due.Write else (if b then due.Frame else (if c then due.Read else (if d then due.Compose else due.Nothing)))) ≡ true → (b ≡ false) × (c ≡ false) × (d ≡ true)
composes-only true b c d e = absurd (false_isnt_true e)
composes-only false true c d e = absurd (false_isnt_true e)
composes-only false false true d e = absurd (false_isnt_true e)
composes-only false false false true e = (refl, refl, refl)
composes-only false false false false e = absurd (false_isnt_true e)

composes-last : (a b c : Bool) (at : ℕ) (rest : Due) → is_compose (if a then due.Plan else (if b then due.Hand else (if c then due.Connect at else rest))) ≡ true → (a ≡ false) × (is_compose rest ≡ true)
composes-last true b c at rest e = absurd (false_isnt_true e)
composes-last false true c at rest e = absurd (false_isnt_true e)
composes-last false false true at rest e = absurd (false_isnt_true e)
composes-last false false false at rest e = (refl, e)

-- no frame has come, no number is used up, and a text is to be composed
pub composing : (now : ℕ) (r : RecordNow) → due_step now r ≡ due.Compose → (is_exhausted r.core ≡ false) × (has_frame r ≡ false) × (is_some (to_compose r.core) ≡ true)
composing now r h =
    let two = composes-last (has_plan r) (has_parcel r.parcels) (may_connect now r) r.waits.next_dial (first_that_holds (feed_rows r) due.Nothing) (ap is_compose h) in
    let three = composes-only (may_write r) (has_frame r) (may_read r) (may_compose r) two.1 in
    ((neither_of_or _ (is_exhausted r.core) two.0).1, three.0, three.2)

-- ---- as the code comes to it

pub ask-may : (r old : RecordNow) → IsRecord r → r ≡ old → to_compose old.core ≡ Some text.Ask → has_frame old ≡ false → is_exhausted old.core ≡ false → MayAskNow r.core
ask-may r old h e due quiet fits = subst (λ (x : RecordNow). MayAskNow x.core) (sym e) (may_ask old due quiet fits)

pub none-composed : (now : ℕ) (r old : RecordNow) (o : Option CoreText) → IsRecord r → r ≡ old → due_step now old ≡ due.Compose → o ≡ to_compose r.core → o ≡ None → ⊥
none-composed now r old o h e d a b = false_isnt_true (sym (ap is_some (ap (λ (x : RecordNow). to_compose x.core) (sym e) ∙ sym a ∙ b)) ∙ (composing now old d).2)
