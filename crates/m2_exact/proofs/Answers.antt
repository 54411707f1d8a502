-- Halves that were asked the same, beside records that are alike, come to the same, but for want of memory.
use Rattle.std.proofs.Common.{◌≡◌, ℕ, ◌-◌, ◌++◌, List, Bool, true, false, Option, None, Some, inl, inr, refl, sym, subst, ◌∙◌, ap}
use Rattle.std.proofs.Math.Path.{fun_ext}
use Rattle.std.specs.Prelude.{◌⊎◌, IfSome, IsSome}
use Rattle.std.proofs.lemmas.List.{same_from_push}
use Rattle.std.specs.Option.{option_map}
use Rattle.m2_fabric.proofs.m2_lemmas.Options.{some_same}
use Rattle.m2_dispatch.specs.m2_shared.Numbers.{SeenNumberPass}
use Rattle.m2_dispatch.specs.m2_shared.declared.draw.Draw.{Draw}
use Rattle.m2_dispatch.specs.m2_shared.declared.draw.Draw.TheVariants as draw
use Rattle.m2_dispatch.specs.m2_shared.Gates.{Gate, words}
use Rattle.m2_dispatch.specs.m2_shared.declared.peer_grants.PeerGrants.{PeerGrants}
use Rattle.m2_fabric.specs.Kinds.{IsInMemory}
use Rattle.m2_trail.specs.Arrivals.{LooseNow, closed_of}
use Rattle.m2_trail.specs.Asks.{check_of, facts_of_ask}
use Rattle.m2_trail.specs.Incoming.{IncomingNow, after_refusing, after_replying, item_of, items_of}
use Rattle.m2_trail.specs.Replies.{first_reply, refusal}
use Rattle.m2_script.specs.m2_center.m2_turn.Answering.{AnswersBy, AnswersHalf, FindsSo, HearsHalf, IsFound, RefusesHalf, RejectsHalf, RepliesHalf}
use Rattle.m2_script.specs.m2_center.m2_turn.Judging as turns
use Rattle.m2_script.specs.m2_center.m2_turn.Judging.{IsUndrawn, Judging}
use Rattle.m2_script.specs.m2_center.m2_turn.RecordTurn.{Means}
use Rattle.m2_script.specs.m2_center.m2_turn.declared.answering.HalfAnswered.{HalfAnswered}
use Rattle.m2_script.specs.m2_center.m2_turn.declared.answering.HalfAnswered.TheVariants as answered
use Rattle.m2_script.specs.m2_center.m2_core.Asking.{IsDraw}
use Rattle.m2_script.specs.m2_center.m2_core.Judging.{verdict_on}
use Rattle.m2_script.specs.m2_center.m2_feed.m2_control.declared.control.Control.{Control}
use Rattle.m2_script.specs.m2_center.m2_feed.m2_journal.declared.entry.JudgedItem.{JudgedItem}
use Rattle.m2_script.specs.m2_center.m2_feed.m2_session.declared.answer.Answer.{Answer}
use Rattle.m2_script.specs.m2_center.m2_turn.m2_handshake.Asks.{bare_ask}
use Rattle.m2_script.specs.m2_center.m2_turn.m2_handshake.declared.ask.Ask.{Ask}
use Rattle.m2_script.specs.m2_center.m2_turn.m2_handshake.declared.ask.Ask.TheVariants.{Ident, Reconnect}
use Rattle.m2_script.specs.m2_center.m2_turn.m2_handshake.declared.ident.IdentCheck.{IdentCheck}
use Rattle.m2_script.specs.m2_center.m2_turn.m2_handshake.declared.ident.IdentCheck.TheVariants.{Fine, Missing, Fault}
use Rattle.m2_script.specs.m2_center.m2_record.Judging.{JudgesAs, given_back}
use Rattle.m2_script.specs.m2_center.m2_record.RecordNow.{RecordNow}
use Rattle.m2_script.specs.m2_center.m2_record.declared.judging.Judged.{Judged}
use Rattle.m2_script.specs.m2_center.m2_record.declared.judging.Judged.TheVariants as judged
use Rattle.m2_exact.proofs.Composing as composing
use Rattle.m2_exact.proofs.Judgements as judgements
use Rattle.m2_exact.specs.Answers.{LikeHalvesAreAnsweredAlike, PlainJudging, StaysInMemory, bare_answered, lacks, plain_judging}
use Rattle.m2_exact.specs.Halves as half
use Rattle.m2_exact.specs.Judgements as judging
use Rattle.m2_exact.specs.Judgements.{BackInMemory, bare_judged}
use Rattle.m2_exact.specs.Records.{bare_numbers, plain}
use Rattle.m2_exact.specs.RecordTurns.{HasAlone, IsFit}

-- ---- a reply

abbrev open_so : {E : Type 0} → IncomingNow → HalfAnswered E
open_so a = answered.Open a

abbrev closed_so : {E : Type 0} → LooseNow → HalfAnswered E
closed_so l = answered.Closed l

abbrev by_reply : {E : Type 0} → Option Control → IncomingNow → HalfAnswered E
by_reply (Some c) a = answered.Open (after_replying c a)
by_reply None a = answered.Closed (closed_of a)

abbrev taken_by : {E : Type 0} → Answer → HalfAnswered E
taken_by answer = answered.Taken answer

abbrev undrawn_so : {E : Type 0} → IncomingNow → HalfAnswered E
undrawn_so a = answered.Undrawn a

-- a reply that was given, to this answer
record Replied {E : Type 0} (one : HalfAnswered E) (a : IncomingNow) : Type 0 where
  pub answer : Answer
  pub before : List JudgedItem
  pub last : a.trail.judged ≡ before ++ items_of a.ask answer
  pub is : bare_answered one ≡ by_reply (first_reply answer) (half.plain a)

replied : {E : Type 0} (one : HalfAnswered E) (a : IncomingNow) → lacks one ≡ false → RepliesHalf one a → Replied one a
replied (answered.Taken answer) a m h = absurd h
replied {E} (answered.Open goes_on) a m (answer, (judged, (before, last)), some, each) = record { answer = answer; before = before; last = last; is = by (first_reply answer) some each }
  where
    by : (o : Option Control) → IsSome o → IfSome o (λ c. goes_on ≡ after_replying c a) → bare_answered (open_so {E = E} goes_on) ≡ by_reply o (half.plain a)
    by (Some c) some is = ap (λ (x : IncomingNow). open_so (half.plain x)) is
    by None some is = absurd (cc some)
replied (answered.Closed loose) a m (answer, (judged, (before, last)), none, is) =
    record { answer = answer; before = before; last = last; is = ap (λ (x : LooseNow). closed_so x) is ∙ ap (λ (o : Option Control). by_reply o (half.plain a)) (sym none) }
replied (answered.Undrawn back) a m h = absurd h
replied (answered.NoMemory back) a m h = absurd (cc m)

same_answer : (o p : Option Ask) (x y : Answer) (before earlier : List JudgedItem) → IsSome o → option_map bare_ask o ≡ option_map bare_ask p → before ++ items_of o x ≡ earlier ++ items_of p y → x ≡ y
same_answer (Some o) (Some p) x y before earlier some like e = ap (λ (i : JudgedItem). i.answer) (same_from_push before earlier (item_of o x) (item_of p y) e).1
same_answer (Some o) None x y before earlier some like e = absurd (cc like)
same_answer None p x y before earlier some like e = absurd (cc some)

replies_one : {E : Type 0} (one other : HalfAnswered E) (a b : IncomingNow) → IsSome a.ask → half.plain a ≡ half.plain b → lacks one ≡ false → lacks other ≡ false → RepliesHalf one a → RepliesHalf other b →
    bare_answered one ≡ bare_answered other
replies_one one other a b some like m k h g =
    let x = replied one a m h in
    let y = replied other b k g in
    let same = same_answer a.ask b.ask x.answer y.answer x.before y.before some (ap (λ (z : IncomingNow). z.ask) like) (sym x.last ∙ ap (λ (z : IncomingNow). z.trail.judged) like ∙ y.last) in
    x.is ∙ ap (λ (z : Answer). by_reply (first_reply z) (half.plain a)) same ∙ ap (λ (z : IncomingNow). by_reply (first_reply y.answer) z) like ∙ sym y.is

-- ---- a judgement

given_bare : {E : Type 0} (j : Judged E) (g : PeerGrants) (gate : Gate) → given_back j g gate ≡ given_back (bare_judged j) g gate
given_bare (judged.Taken answer) g gate = refl
given_bare (judged.Back answer arrival) g gate = refl
given_bare (judged.NoMemory arrival) g gate = refl

judging_of : (old new : Judging) → plain old.side ≡ plain new.side → words old.bytes ≡ words new.bytes → bare_numbers old.numbers ≡ bare_numbers new.numbers → plain_judging old ≡ plain_judging new
judging_of old new side word numbers =
    ap (λ (r : RecordNow). record (plain_judging old) { side = r }) side
    ∙ ap (λ (n : Gate → ℕ). record { side = plain new.side; bytes = n; numbers = bare_numbers old.numbers }) word
    ∙ ap (λ (n : SeenNumberPass). record (plain_judging new) { numbers = n }) numbers

asked_too : (o p : Option Ask) → IsSome o → option_map bare_ask o ≡ option_map bare_ask p → IsSome p
asked_too (Some o) (Some p) h e = refl
asked_too (Some o) None h e = absurd (cc e)
asked_too None p h e = absurd (cc h)

module _ {E : Type 0} (m : Means) (alone : HasAlone m) (a b : IncomingNow) (some : IsSome a.ask) (like : half.plain a ≡ half.plain b) (old last new behind : Judging)
    (same : plain_judging old ≡ plain_judging last) where
  judges_one : (j k : Judged E) → judging.lacks j ≡ false → judging.lacks k ≡ false → turns.Judges j a m old new → turns.Judges k b m last behind →
      (bare_judged j ≡ bare_judged k) × (plain_judging new ≡ plain_judging behind)
  judges_one j k p q h g =
      let drawn = composing.draws_one m.counter m.counter old.numbers new.numbers last.numbers behind.numbers alone.counter alone.counter (ap (λ (x : PlainJudging). x.numbers) same) (draw.Number h.number) (draw.Number g.number) h.draws g.draws in
      let number = composing.one_number h.number g.number drawn.0 in
      let both = judgements.alike.judges j k a b h.number m.now old.side last.side new.side behind.side like (ap (λ (x : PlainJudging). x.side) same)
      (record { asked = some; judges = h.judges; memory = p })
      (record { asked = asked_too a.ask b.ask some (ap (λ (x : IncomingNow). x.ask) like); judges = subst (λ (n : ℕ). IfSome b.ask (λ ask. JudgesAs k (verdict_on (facts_of_ask ask) n last.side.core.live) b m.now last.side behind.side)) (sym number) g.judges; memory = q }) in
      let word : words new.bytes ≡ words behind.bytes =
      fun_ext (λ gate. h.gives gate (alone.throttles gate)
      ∙ ap (λ (n : ℕ). words old.bytes gate - n) (given_bare j old.side.core.live.granted gate)
      ∙ ap (λ (x : Judged E). words old.bytes gate - given_back x old.side.core.live.granted gate) both.0
      ∙ ap (λ (x : PlainJudging). x.bytes gate - given_back (bare_judged k) x.side.core.live.granted gate) same
      ∙ sym (ap (λ (n : ℕ). words last.bytes gate - n) (given_bare k last.side.core.live.granted gate))
      ∙ sym (g.gives gate (alone.throttles gate))) in
      (both.0, judging_of new behind both.1 word drawn.1)

-- ---- what was heard

-- the socket was taken; the ask was judged, and replied to; or no number was left
record Took {E : Type 0} (one : HalfAnswered E) (a : IncomingNow) (m : Means) (old new : Judging) : Type 0 where
  pub answer : Answer
  pub is : one ≡ answered.Taken answer
  pub judges : turns.Judges {E = E} (judged.Taken answer) a m old new

record Owed {E : Type 0} (one : HalfAnswered E) (a : IncomingNow) (m : Means) (old new : Judging) : Type 0 where
  pub answer : Answer
  pub arrival : IncomingNow
  pub judges : turns.Judges {E = E} (judged.Back answer arrival) a m old new
  pub replies : RepliesHalf one arrival

record Undrew {E : Type 0} (one : HalfAnswered E) (a : IncomingNow) (m : Means) (old new : Judging) : Type 0 where
  pub is : one ≡ answered.Undrawn a
  pub side : new.side ≡ old.side
  pub bytes : new.bytes ≡ old.bytes
  pub draw : Draw
  pub none : IsUndrawn draw
  pub draws : IsDraw m.counter draw old.numbers new.numbers

hears : {E : Type 0} (one : HalfAnswered E) (a : IncomingNow) (m : Means) (old new : Judging) → lacks one ≡ false → HearsHalf one a m old new → Took one a m old new ⊎ (Owed one a m old new ⊎ Undrew one a m old new)
hears (answered.Taken answer) a m old new k h = inl (record { answer = answer; is = refl; judges = h })
hears (answered.Open goes_on) a m old new k (arrival, (answer, judges), replies) = inr (inl (record { answer = answer; arrival = arrival; judges = judges; replies = replies }))
hears (answered.Closed loose) a m old new k (arrival, (answer, judges), replies) = inr (inl (record { answer = answer; arrival = arrival; judges = judges; replies = replies }))
hears (answered.Undrawn back) a m old new k (is, side, bytes, (d, none, draws)) =
    inr (inr (record { is = ap (λ (x : IncomingNow). answered.Undrawn x) is; side = side; bytes = bytes; draw = d; none = none; draws = draws }))
hears (answered.NoMemory back) a m old new k h = absurd (cc k)

-- an arrival that came back has its ask
asks_still : {E : Type 0} (answer : Answer) (arrival a : IncomingNow) (m : Means) (old new : Judging) → IsSome a.ask → turns.Judges {E = E} (judged.Back answer arrival) a m old new → IsSome arrival.ask
asks_still {E} answer arrival a m old new some h = by a.ask refl some h.judges
  where
    by : (o : Option Ask) → a.ask ≡ o → IsSome o → IfSome o (λ ask. JudgesAs {E = E} (judged.Back answer arrival) (verdict_on (facts_of_ask ask) h.number old.side.core.live) a m.now old.side new.side) → IsSome arrival.ask
    by (Some ask) is some j = subst IsSome (sym (ap (λ (x : IncomingNow). x.ask) j.2)) (subst IsSome (sym is) some)
    by None is some j = absurd (cc some)

module _ {E : Type 0} (m : Means) (alone : HasAlone m) (one other : HalfAnswered E) (a b : IncomingNow) (some : IsSome a.ask) (like : half.plain a ≡ half.plain b) (old last new behind : Judging)
    (same : plain_judging old ≡ plain_judging last) (p : lacks one ≡ false) (q : lacks other ≡ false) where
  abbrev Agree : Type 0
  Agree = (bare_answered one ≡ bare_answered other) × (plain_judging new ≡ plain_judging behind)

  drawn_or_not : (n : ℕ) (d : Draw) (before left earlier late : SeenNumberPass) → bare_numbers before ≡ bare_numbers earlier → IsDraw m.counter (draw.Number n) before left → IsDraw m.counter d earlier late →
      IsUndrawn d → ⊥
  drawn_or_not n d before left earlier late like h g none =
      subst IsUndrawn (sym (composing.draws_one m.counter m.counter before left earlier late alone.counter alone.counter like (draw.Number n) d h g).0) none

  hears_one : Took one a m old new ⊎ (Owed one a m old new ⊎ Undrew one a m old new) → Took other b m last behind ⊎ (Owed other b m last behind ⊎ Undrew other b m last behind) → Agree
  hears_one (inl h) (inl g) =
      let both = judges_one m alone a b some like old last new behind same (judged.Taken h.answer) (judged.Taken g.answer) refl refl h.judges g.judges in
      (ap bare_answered h.is ∙ taken_same h.answer g.answer both.0 ∙ sym (ap bare_answered g.is), both.1)
    where
      taken_same : (x y : Answer) → judgements.taken_so {E = E} x ≡ judgements.taken_so {E = E} y → taken_by {E = E} x ≡ taken_by {E = E} y
      taken_same x y e = cc e
  hears_one (inr (inl h)) (inr (inl g)) =
      let both = judges_one m alone a b some like old last new behind same (judged.Back h.answer h.arrival) (judged.Back g.answer g.arrival) refl refl h.judges g.judges in
      (replies_one one other h.arrival g.arrival (asks_still h.answer h.arrival a m old new some h.judges) (back_same h.answer g.answer (half.plain h.arrival) (half.plain g.arrival) both.0) p q h.replies g.replies, both.1)
    where
      back_same : (x y : Answer) (v w : IncomingNow) → judgements.back_so {E = E} x v ≡ judgements.back_so {E = E} y w → v ≡ w
      back_same x y v w e = cc e
  hears_one (inr (inr h)) (inr (inr g)) =
      let drawn = composing.draws_one m.counter m.counter old.numbers new.numbers last.numbers behind.numbers alone.counter alone.counter (ap (λ (x : PlainJudging). x.numbers) same) h.draw g.draw h.draws g.draws in (
        ap bare_answered h.is ∙ ap (λ (x : IncomingNow). undrawn_so {E = E} x) like ∙ sym (ap bare_answered g.is),
        judging_of new behind
            (ap plain h.side ∙ ap (λ (x : PlainJudging). x.side) same ∙ sym (ap plain g.side))
            (ap words h.bytes ∙ ap (λ (x : PlainJudging). x.bytes) same ∙ sym (ap words g.bytes))
            drawn.1,
      )
  hears_one (inl h) (inr (inl g)) =
      absurd (cc (judges_one m alone a b some like old last new behind same (judged.Taken h.answer) (judged.Back g.answer g.arrival) refl refl h.judges g.judges).0)
  hears_one (inr (inl h)) (inl g) =
      absurd (cc (judges_one m alone a b some like old last new behind same (judged.Back h.answer h.arrival) (judged.Taken g.answer) refl refl h.judges g.judges).0)
  hears_one (inl h) (inr (inr g)) = absurd (drawn_or_not h.judges.number g.draw old.numbers new.numbers last.numbers behind.numbers (ap (λ (x : PlainJudging). x.numbers) same) h.judges.draws g.draws g.none)
  hears_one (inr (inl h)) (inr (inr g)) = absurd (drawn_or_not h.judges.number g.draw old.numbers new.numbers last.numbers behind.numbers (ap (λ (x : PlainJudging). x.numbers) same) h.judges.draws g.draws g.none)
  hears_one (inr (inr h)) (inl g) = absurd (drawn_or_not g.judges.number h.draw last.numbers behind.numbers old.numbers new.numbers (sym (ap (λ (x : PlainJudging). x.numbers) same)) g.judges.draws h.draws h.none)
  hears_one (inr (inr h)) (inr (inl g)) = absurd (drawn_or_not g.judges.number h.draw last.numbers behind.numbers old.numbers new.numbers (sym (ap (λ (x : PlainJudging). x.numbers) same)) g.judges.draws h.draws h.none)

  stay_so : new ≡ old → behind ≡ last → plain_judging new ≡ plain_judging behind
  stay_so h g = ap plain_judging h ∙ same ∙ sym (ap plain_judging g)

  refused : (bits : ℕ) (one : HalfAnswered E) (a : IncomingNow) → lacks one ≡ false → RefusesHalf one bits a → bare_answered one ≡ open_so (after_refusing (refusal bits) bits (half.plain a))
  refused bits (answered.Open goes_on) a k h = ap (λ (x : IncomingNow). open_so (half.plain x)) h
  refused bits (answered.NoMemory back) a k h = absurd (cc k)
  refused bits one a k h = absurd h

  rejected : (one : HalfAnswered E) (a : IncomingNow) → RejectsHalf one a → bare_answered one ≡ closed_so (closed_of (half.plain a))
  rejected (answered.Closed loose) a h = ap (λ (l : LooseNow). closed_so l) h
  rejected one a h = absurd h

  finds_one : (f : IdentCheck) → FindsSo f one a m old new → FindsSo f other b m last behind → Agree
  finds_one Fine h g = hears_one (hears one a m old new p h) (hears other b m last behind q g)
  finds_one (Missing bits) (h, stays) (g, stay) =
      (refused bits one a p h ∙ ap (λ (x : IncomingNow). open_so (after_refusing (refusal bits) bits x)) like ∙ sym (refused bits other b q g), stay_so stays stay)
  finds_one (Fault f) (h, stays) (g, stay) = (rejected one a h ∙ ap (λ (x : IncomingNow). closed_so (closed_of x)) like ∙ sym (rejected other b g), stay_so stays stay)

  -- what is found in an ask is found in what it says
  found_one : (f g : IdentCheck) → IsFound f a old.side → IsFound g b last.side → f ≡ g
  found_one f g h k = by a.ask b.ask some (ap (λ (x : IncomingNow). x.ask) like) h k
    where
      check_bare : (ask : Ask) (r : RecordNow) → check_of ask r.core.facts.mine r.core.facts.policy r.core.facts.node.requires_ ≡ check_of (bare_ask ask) r.core.facts.mine r.core.facts.policy r.core.facts.node.requires_
      check_bare (Ident i) r = refl
      check_bare (Reconnect i) r = refl

      by : (o x : Option Ask) → IsSome o → option_map bare_ask o ≡ option_map bare_ask x →
          IfSome o (λ ask. f ≡ check_of ask old.side.core.facts.mine old.side.core.facts.policy old.side.core.facts.node.requires_) →
          IfSome x (λ ask. g ≡ check_of ask last.side.core.facts.mine last.side.core.facts.policy last.side.core.facts.node.requires_) → f ≡ g
      by (Some o) (Some x) some asks h k =
          h ∙ check_bare o old.side
          ∙ ap (λ (y : PlainJudging). check_of (bare_ask o) y.side.core.facts.mine y.side.core.facts.policy y.side.core.facts.node.requires_) same
          ∙ ap (λ (y : Ask). check_of y last.side.core.facts.mine last.side.core.facts.policy last.side.core.facts.node.requires_) (some_same (bare_ask o) (bare_ask x) asks)
          ∙ sym (check_bare x last.side) ∙ sym k
      by (Some o) None some asks h k = absurd (cc asks)
      by None x some asks h k = absurd (cc some)

  by_judged : (j : Bool) → AnswersBy j one a m old new → AnswersBy j other b m last behind → Agree
  by_judged true (h, stays) (g, stay) = (replies_one one other a b some like p q h g, stay_so stays stay)
  by_judged false (f, is, h) (g, are, k) = finds_one f h (subst (λ (x : IdentCheck). FindsSo x other b m last behind) (sym (found_one f g is are)) k)

answers : {E : Type 0} (m : Means) (one other : HalfAnswered E) (a b : IncomingNow) (old last new behind : Judging) → HasAlone m → IsSome a.ask → half.plain a ≡ half.plain b →
    plain_judging old ≡ plain_judging last → lacks one ≡ false → lacks other ≡ false → AnswersHalf one a m old new → AnswersHalf other b m last behind →
    (bare_answered one ≡ bare_answered other) × (plain_judging new ≡ plain_judging behind)
answers m one other a b old last new behind alone some like same p q h g =
    by_judged m alone one other a b some like old last new behind same p q a.is_judged h
    (subst (λ (j : Bool). AnswersBy j other b m last behind) (sym (ap (λ (x : IncomingNow). x.is_judged) like)) g)

-- ---- what stays

module _ {E : Type 0} (m : Means) (a : IncomingNow) (some : IsSome a.ask) (there : IsInMemory a.end) (old new : Judging) (fit : IsFit old.side) where
  judging_stays : (j : Judged E) → judging.lacks j ≡ false → turns.Judges j a m old new → IsFit new.side × BackInMemory j
  judging_stays j p h = judgements.alike.stays j a h.number m.now old.side new.side there fit (record { asked = some; judges = h.judges; memory = p })

  replied_stays : (one : HalfAnswered E) (arrival : IncomingNow) → IsInMemory arrival.end → lacks one ≡ false → RepliesHalf one arrival → StaysInMemory one
  replied_stays (answered.Taken answer) arrival there k h = absurd h
  replied_stays (answered.Open goes_on) arrival there k (answer, judged, some, each) = by (first_reply answer) some each
    where
      by : (o : Option Control) → IsSome o → IfSome o (λ c. goes_on ≡ after_replying c arrival) → IsInMemory goes_on.end
      by (Some c) some is = subst (λ (x : IncomingNow). IsInMemory x.end) (sym is) there
      by None some is = absurd (cc some)
  replied_stays (answered.Closed loose) arrival there k h = tt
  replied_stays (answered.Undrawn back) arrival there k h = absurd h
  replied_stays (answered.NoMemory back) arrival there k h = absurd (cc k)

  heard_stays : (one : HalfAnswered E) → lacks one ≡ false → Took one a m old new ⊎ (Owed one a m old new ⊎ Undrew one a m old new) → IsFit new.side × StaysInMemory one
  heard_stays one k (inl h) = ((judging_stays (judged.Taken h.answer) refl h.judges).0, subst StaysInMemory (sym h.is) tt)
  heard_stays one k (inr (inl h)) = let both = judging_stays (judged.Back h.answer h.arrival) refl h.judges in (both.0, replied_stays one h.arrival both.1 k h.replies)
  heard_stays one k (inr (inr h)) = (subst IsFit (sym h.side) fit, subst StaysInMemory (sym h.is) there)

  refused_stays : (bits : ℕ) (one : HalfAnswered E) → lacks one ≡ false → RefusesHalf one bits a → StaysInMemory one
  refused_stays bits (answered.Open goes_on) k h = subst (λ (x : IncomingNow). IsInMemory x.end) (sym h) there
  refused_stays bits (answered.NoMemory back) k h = absurd (cc k)
  refused_stays bits one k h = absurd h

  rejected_stays : (one : HalfAnswered E) → RejectsHalf one a → StaysInMemory one
  rejected_stays (answered.Closed loose) h = tt
  rejected_stays one h = absurd h

  found_stays : (f : IdentCheck) (one : HalfAnswered E) → lacks one ≡ false → FindsSo f one a m old new → IsFit new.side × StaysInMemory one
  found_stays Fine one k h = heard_stays one k (hears one a m old new k h)
  found_stays (Missing bits) one k (h, same) = (subst (λ (x : Judging). IsFit x.side) (sym same) fit, refused_stays bits one k h)
  found_stays (Fault f) one k (h, same) = (subst (λ (x : Judging). IsFit x.side) (sym same) fit, rejected_stays one h)

  answer_stays : (j : Bool) (one : HalfAnswered E) → lacks one ≡ false → AnswersBy j one a m old new → IsFit new.side × StaysInMemory one
  answer_stays true one k (h, same) = (subst (λ (x : Judging). IsFit x.side) (sym same) fit, replied_stays one a there k h)
  answer_stays false one k (f, is, h) = found_stays f one k h

pub alike : {E : Type 0} → LikeHalvesAreAnsweredAlike E
alike = record { answers = answers; stays = λ m result a old new some there fit. answer_stays m a some there old new fit a.is_judged result }
