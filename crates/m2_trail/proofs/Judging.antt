-- Judging, replying and refusing keep what an incoming socket keeps.
use Rattle.std.proofs.Common.{◌≡◌, ℕ, suc, ◌<◌, ◌≤◌, ◌^◌, ◌⊎◌, inl, inr, Bool, true, false, is_some, List, [], ◌∷◌, ◌++◌, length, take, slice_index, Option, Some, None, Ok, refl, sym, ap, ◌∙◌, subst, append_assoc, append-nil, arith}
use Rattle.std.proofs.lemmas.Bool.{cases_lt}
use Rattle.std.proofs.lemmas.List.{map-append, take-append-le, take_all, length-append, get_or_append_left}
use Rattle.std.proofs.Math.Seq.{get_or-append_seam}
use Rattle.m2_session.specs.declared.ask.AskFacts.{AskFacts}
use Rattle.m2_control.specs.declared.control.Control.{Control}
use Rattle.m2_fabric.specs.declared.log.Run.{Run}
use Rattle.m2_fabric.specs.Log.{Log}
use Rattle.m2_handshake.specs.declared.ask.Ask.{Ask}
use Rattle.m2_handshake.specs.Asking.{Replies}
use Rattle.m2_handshake.specs.Course.{Exchange, Reaches}
use Rattle.m2_handshake.specs.Laws.{IsPrefix}
use Rattle.m2_handshake.specs.Standing.{Standing}
use Rattle.m2_handshake.specs.Texts.{frame_text}
use Rattle.m2_handshake.proofs.Reaching.{leads_on}
use Rattle.m2_journal.specs.declared.entry.JudgedItem.{JudgedItem}
use Rattle.m2_journal.specs.Lawful.{may_ask_again}
use Rattle.m2_session.specs.declared.answer.Answer.{Answer}
use Rattle.m2_trail.specs.Asks.{facts_of_ask}
use Rattle.m2_trail.specs.Incoming.{IncomingNow, Asking, IsOwed, StandsAt, Keeps, exchange_of, facts_asked, facts_judged, given_by, is_over, item_of, items_of, with_judged}
use Rattle.m2_trail.specs.Replies.{reply_to, replies_to, refusal, refusal_of, all_replies}
use Rattle.m2_trail.specs.Trails.{TrailNow, begins, judged_by, replies_by, IsAsked}
use Rattle.m2_trail.specs.Unput.{behind}
use Rattle.m2_trail.proofs.Bytes.{owed_stays}
use Rattle.m2_trail.proofs.Given.{entries_count}
use Rattle.m2_trail.proofs.Judged.{below_grows, first_grows, first_refused, rises_push}
use Rattle.m2_trail.proofs.Points.{all_got, point_replies}
use Rattle.m2_trail.proofs.Replying.{replies_to-append, is_reply, asks_again}
use Rattle.m2_bytes.proofs.m2_lemmas.Lists.{all_last}

differ : true ≡ false → ⊥
differ e = cc

-- ---- noting an answer

note_stands : (ask : Ask) (answer : Answer) (had : Option Ask) (judged : Bool) (v w : IncomingNow) (a : Asking) → had ≡ Some ask → judged ≡ false →
    w.half ≡ v.half → w.left ≡ v.left → w.refused ≡ v.refused → StandsAt had judged v a → StandsAt had true w (record a { this = item_of ask answer ∷ [] })
note_stands ask answer None judged v w a h j half left refused s = absurd cc
note_stands ask answer (Some other) true v w a h j half left refused s = absurd (differ j)
note_stands ask answer (Some other) false v w a h j half left refused s =
    (owed_stays other a.asks v w half left refused s.0, (answer, ap (λ (k : Ask). item_of k answer ∷ []) (let same : ask ≡ other = cc in same)), s.2)

-- an ask in hand that isn't judged is the next one, and none was refused
pub record IsNext (ask : Ask) (v : IncomingNow) (a : Asking) : Type 0 where
  pub unrefused : v.refused ≡ None
  pub this : a.this ≡ []
  pub facts : facts_asked a.asks ≡ facts_judged a.before ++ facts_of_ask ask ∷ []

note_at : (ask : Ask) (had : Option Ask) (judged : Bool) (v : IncomingNow) (a : Asking) → had ≡ Some ask → judged ≡ false → StandsAt had judged v a → IsNext ask v a
note_at ask None judged v a h j s = absurd cc
note_at ask (Some other) true v a h j s = absurd (differ j)
note_at ask (Some other) false v a h j s =
    let same : other ≡ ask = cc in
    record { unrefused = s.0.unrefused; this = s.1; facts = s.2 ∙ ap (λ (k : Ask). facts_judged a.before ++ facts_of_ask k ∷ []) same }

pub facts_push : (before : List JudgedItem) (item : JudgedItem) → facts_judged (before ++ item ∷ []) ≡ facts_judged before ++ item.ask ∷ []
facts_push before item = map-append (λ (i : JudgedItem). i.ask) before (item ∷ [])

-- the trail of an end whose ask is judged
abbrev noted : Ask → Answer → TrailNow → TrailNow
noted ask answer t = with_judged (item_of ask answer ∷ []) t

-- the ask that is judged now: all that was got was got before
asked_now : (ask : Ask) (answer : Answer) (v : IncomingNow) (k : Keeps v) → IsNext ask v k.asking → v.trail.judged ≡ k.asking.before →
    IsAsked (noted ask answer v.trail) v.end.log (length v.trail.judged) v.end.log.runs
asked_now ask answer v k next before =
    let judged = v.trail.judged in
    let item = item_of ask answer in
    let earlier : take (length judged) (judged ++ item ∷ []) ≡ judged = take-append-le (length judged) judged (item ∷ []) (omega arith) ∙ take_all (length judged) judged (omega arith) in
    let all : take (suc (length judged)) (judged ++ item ∷ []) ≡ judged ++ item ∷ [] =
    take_all (suc (length judged)) (judged ++ item ∷ []) (omega (arith, length-append judged (item ∷ []))) in
    let given : given_by v k.asking ≡ replies_to judged =
    ap (all_replies k.asking.before) next.unrefused ∙ (append-nil (replies_to k.asking.before) ∙ ap replies_to (sym before)) in
    let asks : facts_asked k.asking.asks ≡ facts_judged (judged ++ item ∷ []) =
    next.facts ∙ (ap (λ l. facts_judged l ++ facts_of_ask ask ∷ []) (sym before) ∙ sym (facts_push judged item)) in
    record {
      exchange = exchange_of (given_by v k.asking) k.asking.asks v;
      standing = v.half;
      comes = k.comes;
      fed = sym (all_got v.end.log k.counted);
      given = ([], ap replies_to earlier ∙ (sym given ∙ sym (append-nil (given_by v k.asking))));
      first = ([], asks ∙ (ap facts_judged (sym all) ∙ sym (append-nil (facts_judged (take (suc (length judged)) (judged ++ item ∷ []))))));
    }

-- one that was judged before
asked_before : (ask : Ask) (answer : Answer) (t : TrailNow) (log : Log) (place : ℕ) (runs : List Run) → place < length t.judged → IsAsked t log place runs →
    IsAsked (noted ask answer t) log place runs
asked_before ask answer t log place runs h a =
    let item = item_of ask answer in
    record {
      exchange = a.exchange;
      standing = a.standing;
      comes = a.comes;
      fed = a.fed;
      given = subst (λ l. IsPrefix a.exchange.replies (replies_to l)) (sym (take-append-le place t.judged (item ∷ []) (omega (arith, h)))) a.given;
      first = subst (λ l. IsPrefix (facts_judged l) (facts_asked a.exchange.asks)) (sym (take-append-le (suc place) t.judged (item ∷ []) (omega (arith, h)))) a.first;
    }

note_asked : (ask : Ask) (answer : Answer) (v : IncomingNow) (k : Keeps v) → IsNext ask v k.asking → v.trail.judged ≡ k.asking.before → (place : ℕ) →
    place < length (v.trail.judged ++ item_of ask answer ∷ []) →
    IsAsked (noted ask answer v.trail) v.end.log place (take (slice_index (v.trail.judged_after ++ length v.trail.entries ∷ []) place) v.end.log.runs)
note_asked ask answer v k next before place h = by_place (cases_lt place (length v.trail.judged))
  where
    after : List ℕ
    after = v.trail.judged_after

    runs : List Run
    runs = v.end.log.runs

    entries : length v.trail.entries ≡ length runs
    entries = entries_count v.trail.socket v.end.log v.trail.entries k.unclosed k.entries

    by_place : (place < length v.trail.judged) ⊎ (length v.trail.judged ≤ place) →
        IsAsked (noted ask answer v.trail) v.end.log place (take (slice_index (after ++ length v.trail.entries ∷ []) place) runs)
    by_place (inl b) =
        let same : slice_index (after ++ length v.trail.entries ∷ []) place ≡ slice_index after place = get_or_append_left after (length v.trail.entries ∷ []) 0 place (omega (arith, b, k.many)) in
        subst (λ n. IsAsked (noted ask answer v.trail) v.end.log place (take n runs)) (sym same) (asked_before ask answer v.trail v.end.log place (take (slice_index after place) runs) b (k.asked place b))
    by_place (inr b) =
        let here : place ≡ length v.trail.judged = omega (arith, b, h, length-append v.trail.judged (item_of ask answer ∷ [])) in
        let last : slice_index (after ++ length v.trail.entries ∷ []) place ≡ length v.trail.entries =
        ap (slice_index (after ++ length v.trail.entries ∷ [])) (here ∙ sym k.many) ∙ get_or-append_seam after (length v.trail.entries) [] 0 in
        let all : take (slice_index (after ++ length v.trail.entries ∷ []) place) runs ≡ runs = take_all _ runs (omega (arith, last, entries)) in
        subst (λ n. IsAsked (noted ask answer v.trail) v.end.log n (take (slice_index (after ++ length v.trail.entries ∷ []) place) runs)) (sym here)
        (subst (IsAsked (noted ask answer v.trail) v.end.log (length v.trail.judged)) (sym all) (asked_now ask answer v k next before))

-- more replies may have been written
note_points : (ask : Ask) (answer : Answer) (v : IncomingNow) (k : Keeps v) → v.refused ≡ None → (n : ℕ) →
    IsPrefix (replies_by v.trail v.refused n) (replies_by (noted ask answer v.trail) v.refused n)
note_points ask answer v k unrefused n =
    rw unrefused (first_grows v.trail.judged (item_of ask answer) (judged_by v.trail n) (judged_by (noted ask answer v.trail) n) (below_grows n v.trail.judged_after (length v.trail.entries)))

pub note_kept : (ask : Ask) (answer : Answer) (room : ℕ) (v : IncomingNow) → v.ask ≡ Some ask → v.is_judged ≡ false → Keeps v →
    Keeps (record v { trail = with_judged (item_of ask answer ∷ []) v.trail; is_judged = true; room = room })
note_kept ask answer room v had j k =
    let w : IncomingNow = record v { trail = with_judged (item_of ask answer ∷ []) v.trail; is_judged = true; room = room } in
    let item = item_of ask answer ∷ [] in
    let next : IsNext ask v k.asking = note_at ask v.ask v.is_judged v k.asking had j k.stands in
    let before : v.trail.judged ≡ k.asking.before = k.judged ∙ (ap (λ l. k.asking.before ++ l) next.this ∙ append-nil k.asking.before) in
    let entries : length v.trail.entries ≡ length v.end.log.runs = entries_count v.trail.socket v.end.log v.trail.entries k.unclosed k.entries in
    record {
      unclosed = k.unclosed;
      socket = k.socket;
      entries = k.entries;
      counted = k.counted;
      asking = record k.asking { this = item };
      judged = ap (λ l. l ++ item) before;
      comes = k.comes;
      stands = note_stands ask answer v.ask v.is_judged v w k.asking had j refl refl refl k.stands;
      again = k.again;
      refused_ends = k.refused_ends;
      refused_fits = k.refused_fits;
      many = omega (arith, k.many, length-append v.trail.judged item, length-append v.trail.judged_after (length v.trail.entries ∷ []));
      rising = rw entries (rises_push 0 v.trail.judged_after (length v.end.log.runs) k.rising);
      asked = note_asked ask answer v k next before;
      points = λ n. point_replies (begins v.trail) v.end.log (replies_by v.trail v.refused n) (replies_by (noted ask answer v.trail) v.refused n) (take n v.end.log.runs)
          (note_points ask answer v k next.unrefused n) (k.points n);
    }

-- as the call leaves the fields
pub note_left : (ask : Ask) (answer : Answer) (facts : AskFacts) (judged : List JudgedItem) (after : List ℕ) (room : ℕ) (v : IncomingNow) → facts ≡ facts_of_ask ask →
    judged ≡ v.trail.judged ++ record { ask = facts; answer = answer } ∷ [] → after ≡ v.trail.judged_after ++ length v.trail.entries ∷ [] →
    v.ask ≡ Some ask → v.is_judged ≡ false → Keeps v →
    Keeps (record v { trail = record v.trail { judged = judged; judged_after = after }; is_judged = true; room = room })
note_left ask answer facts judged after room v f e places had j k =
    let items : judged ≡ v.trail.judged ++ item_of ask answer ∷ [] = e ∙ ap (λ (a : AskFacts). v.trail.judged ++ record { ask = a; answer = answer } ∷ []) f in
    rw (items, places) (note_kept ask answer room v had j k)

-- ---- what is owed

-- an ask that is judged, by this answer
pub record Owes (ask : Ask) (answer : Answer) (v : IncomingNow) (a : Asking) : Type 0 where
  pub owed : IsOwed ask a.asks v
  pub this : a.this ≡ item_of ask answer ∷ []
  pub facts : facts_asked a.asks ≡ facts_judged a.before ++ facts_of_ask ask ∷ []

last_same : {A : Type 0} (xs ys : List A) (x y : A) → xs ++ x ∷ [] ≡ ys ++ y ∷ [] → x ≡ y
last_same [] [] x y e = cc
last_same [] (b ∷ []) x y e = absurd (omega (arith, ap length e))
last_same [] (b ∷ c ∷ ys) x y e = absurd (omega (arith, ap length e))
last_same (a ∷ []) [] x y e = absurd (omega (arith, ap length e))
last_same (a ∷ c ∷ xs) [] x y e = absurd (omega (arith, ap length e))
last_same (a ∷ xs) (b ∷ ys) x y e = last_same xs ys x y (let same : xs ++ x ∷ [] ≡ ys ++ y ∷ [] = cc in same)

pub owes_at : (answer : Answer) (had : Option Ask) (judged : Bool) (v : IncomingNow) (a : Asking) (items before : List JudgedItem) → judged ≡ true → StandsAt had judged v a →
    items ≡ a.before ++ a.this → items ≡ before ++ items_of had answer → (ask : Ask) × (had ≡ Some ask) × Owes ask answer v a
owes_at answer None judged v a items before j s k e = absurd (differ (sym j ∙ s.0))
owes_at answer (Some ask) false v a items before j s k e = absurd (differ (sym j))
owes_at answer (Some ask) true v a items before j s k e =
    let one : a.before ++ item_of ask s.1.0 ∷ [] ≡ before ++ item_of ask answer ∷ [] = sym (k ∙ ap (λ l. a.before ++ l) s.1.1) ∙ e in
    let same : s.1.0 ≡ answer = ap (λ (i : JudgedItem). i.answer) (last_same a.before before (item_of ask s.1.0) (item_of ask answer) one) in
    (ask, refl, record { owed = s.0; this = s.1.1 ∙ ap (λ r. item_of ask r ∷ []) same; facts = s.2 })

-- ---- replying

replies_more : (before : List JudgedItem) (ask : Ask) (answer : Answer) (c : Control) → reply_to answer ≡ c ∷ [] →
    all_replies (before ++ item_of ask answer ∷ []) None ≡ all_replies before None ++ c ∷ []
replies_more before ask answer c r =
    append-nil (replies_to (before ++ item_of ask answer ∷ []))
    ∙ (replies_to-append before (item_of ask answer ∷ [])
    ∙ (ap (λ l. replies_to before ++ l) (append-nil (reply_to answer) ∙ r)
    ∙ ap (λ l. l ++ c ∷ []) (sym (append-nil (replies_to before)))))

-- the half has replied
pub reply_kept : (answer : Answer) (c : Control) (v : IncomingNow) (half : Standing) (left : List ℕ) (before : List JudgedItem) → v.is_judged ≡ true →
    v.trail.judged ≡ before ++ items_of v.ask answer → reply_to answer ≡ c ∷ [] → (k : Keeps v) → Replies (Ok tt) c (behind v.half v.left) (behind half left) →
    Keeps (record v { half = half; left = left; ask = None; is_judged = false })
reply_kept answer c v half left before j items r k h =
    let found = owes_at answer v.ask v.is_judged v k.asking v.trail.judged before j k.stands k.judged items in
    let ask = found.0 in
    let owes = found.2 in
    let begin = begins v.trail in
    let given : List Control = given_by v k.asking in
    let done : List JudgedItem = k.asking.before ++ item_of ask answer ∷ [] in
    let replies : all_replies done v.refused ≡ given ++ c ∷ [] =
    ap (all_replies done) owes.owed.unrefused ∙ (replies_more k.asking.before ask answer c r ∙ ap (λ l. all_replies k.asking.before l ++ c ∷ []) (sym owes.owed.unrefused)) in
    let x : Exchange = exchange_of given k.asking.asks v in
    let on = leads_on.replies c begin (behind v.half v.left) (behind half left) x k.comes owes.owed.stage (is_reply answer c r) h in
    let text : (v.end.log.put ++ v.left) ++ frame_text c ≡ v.end.log.put ++ left = append_assoc v.end.log.put v.left (frame_text c) ∙ ap (λ l. v.end.log.put ++ l) (sym h.1) in
    let told : Reaches begin (record { bytes = v.end.log.got; replies = all_replies done v.refused; text = v.end.log.put ++ left; asks = k.asking.asks }) half =
    subst (λ words. Reaches begin (record { bytes = v.end.log.got; replies = all_replies done v.refused; text = words; asks = k.asking.asks }) half) text
    (subst (λ cs. Reaches begin (record { bytes = v.end.log.got; replies = cs; text = (v.end.log.put ++ v.left) ++ frame_text c; asks = k.asking.asks }) half) (sym replies) on) in
    record {
      unclosed = k.unclosed;
      socket = k.socket;
      entries = k.entries;
      counted = k.counted;
      asking = record { before = done; this = []; asks = k.asking.asks };
      judged = k.judged ∙ (ap (λ l. k.asking.before ++ l) owes.this ∙ sym (append-nil done));
      comes = told;
      stands = (refl, refl, ([], owes.facts ∙ (sym (facts_push k.asking.before (item_of ask answer)) ∙ sym (append-nil (facts_judged done))), ap (λ l. length (refusal_of l)) (sym owes.owed.unrefused)));
      again = λ o. all_last (λ (i : JudgedItem). may_ask_again i.answer ≡ true) k.asking.before (item_of ask answer)
          (k.again (ap is_over owes.owed.stage)) (asks_again answer c r (sym (ap (λ (s : Standing). is_over s.stage) h.0) ∙ o));
      refused_ends = λ s. absurd (differ (sym s ∙ ap is_some owes.owed.unrefused));
      refused_fits = k.refused_fits;
      many = k.many;
      rising = k.rising;
      asked = k.asked;
      points = k.points;
    }

-- ---- refusing

-- an ask in hand that isn't judged
pub next_at : (had : Option Ask) (judged : Bool) (v : IncomingNow) (a : Asking) → is_some had ≡ true → judged ≡ false → StandsAt had judged v a →
    (ask : Ask) × IsOwed ask a.asks v × (a.this ≡ []) × (facts_asked a.asks ≡ facts_judged a.before ++ facts_of_ask ask ∷ [])
next_at None judged v a h j s = absurd (differ (sym h))
next_at (Some ask) true v a h j s = absurd (differ j)
next_at (Some ask) false v a h j s = (ask, s.0, s.1, s.2)

-- the half has refused the ask
pub refusal_kept : (bits : ℕ) (v : IncomingNow) (half : Standing) (left : List ℕ) → bits < 2 ^ 64 → is_some v.ask ≡ true → v.is_judged ≡ false → (k : Keeps v) →
    Replies (Ok tt) (refusal bits) (behind v.half v.left) (behind half left) → Keeps (record v { half = half; left = left; ask = None; refused = Some bits })
refusal_kept bits v half left fits had j k h =
    let found = next_at v.ask v.is_judged v k.asking had j k.stands in
    let ask = found.0 in
    let owed : IsOwed ask k.asking.asks v = found.1 in
    let begin = begins v.trail in
    let c : Control = refusal bits in
    let given : List Control = given_by v k.asking in
    let now : List Control = all_replies k.asking.before (Some bits) in
    let replies : now ≡ given ++ c ∷ [] = ap (λ l. l ++ c ∷ []) (sym (append-nil (replies_to k.asking.before)) ∙ ap (all_replies k.asking.before) (sym owed.unrefused)) in
    let x : Exchange = exchange_of given k.asking.asks v in
    let on = leads_on.replies c begin (behind v.half v.left) (behind half left) x k.comes owed.stage tt h in
    let text : (v.end.log.put ++ v.left) ++ frame_text c ≡ v.end.log.put ++ left = append_assoc v.end.log.put v.left (frame_text c) ∙ ap (λ l. v.end.log.put ++ l) (sym h.1) in
    let over : is_over half.stage ≡ true = ap (λ (s : Standing). is_over s.stage) h.0 in
    record {
      unclosed = k.unclosed;
      socket = k.socket;
      entries = k.entries;
      counted = k.counted;
      asking = k.asking;
      judged = k.judged;
      comes = subst (λ words. Reaches begin (record { bytes = v.end.log.got; replies = now; text = words; asks = k.asking.asks }) half) text
          (subst (λ cs. Reaches begin (record { bytes = v.end.log.got; replies = cs; text = (v.end.log.put ++ v.left) ++ frame_text c; asks = k.asking.asks }) half) (sym replies) on);
      stands = (j, found.2, (facts_of_ask ask ∷ [], found.3, refl));
      again = λ o. absurd (differ (sym over ∙ o));
      refused_ends = λ _. over;
      refused_fits = fits;
      many = k.many;
      rising = k.rising;
      asked = k.asked;
      points = λ n. point_replies begin v.end.log (replies_by v.trail v.refused n) (replies_by v.trail (Some bits) n) (take n v.end.log.runs)
          (rw owed.unrefused (first_refused v.trail.judged (judged_by v.trail n) bits)) (k.points n);
    }

-- as the call leaves the fields
pub refusal_left : (bits : ℕ) (v : IncomingNow) (half : Standing) (left : List ℕ) (had : Option Ask) → bits < 2 ^ 64 → had ≡ None → is_some v.ask ≡ true → v.is_judged ≡ false → Keeps v →
    Replies (Ok tt) (refusal bits) (behind v.half v.left) (behind half left) → Keeps (record v { half = half; left = left; ask = had; refused = Some bits })
refusal_left bits v half left had fits none asked j k h = rw none (refusal_kept bits v half left fits asked j k h)
