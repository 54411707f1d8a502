-- What a half leaves to the record that takes it.
use Rattle.std.proofs.Common.{◌≡◌, ℕ, true, is_some, List, [], ◌∷◌, ◌++◌, Option, Some, None, refl, sym, ap, ◌∙◌, append-nil}
use Rattle.std.proofs.lemmas.List.{map-append}
use Rattle.m2_control.specs.declared.control.Control.{Control}
use Rattle.m2_fabric.specs.Log.{Log}
use Rattle.m2_handshake.specs.declared.ask.Ask.{Ask}
use Rattle.m2_handshake.specs.declared.stage.Stage.TheVariants.{Asked}
use Rattle.m2_handshake.specs.Course.{Exchange, course_of}
use Rattle.m2_handshake.specs.Standing.{Standing, fed}
use Rattle.m2_handshake.proofs.Course.{owing}
use Rattle.m2_handshake.proofs.Prefixes.{unread_is_the_end, faulty_isnt_asked}
use Rattle.m2_handshake.proofs.Reaching.{at_its_course}
use Rattle.m2_journal.specs.declared.entry.JudgedItem.{JudgedItem}
use Rattle.m2_journal.specs.Items.{runs_on}
use Rattle.m2_session.specs.declared.answer.Answer.{Answer}
use Rattle.m2_session.specs.SessionLaws.{takes}
use Rattle.m2_trail.specs.Arrivals.{IsEndOf}
use Rattle.m2_trail.specs.Incoming.{IncomingNow, Keeps, IsAnswered, exchange_of, facts_judged, given_by, item_of, items_of, with_judged}
use Rattle.m2_trail.specs.Replies.{reply_to, replies_to, all_replies}
use Rattle.m2_trail.specs.Trails.{begins, got_by, put_by, runs_of, unread_of, half_bytes, IsTaken, IsTakenTrail, TrailNow}
use Rattle.m2_trail.proofs.Judging.{owes_at}
use Rattle.m2_trail.proofs.Points.{all_got, all_put}
use Rattle.m2_trail.proofs.Replying.{replies_to-append, none_where_taken}
use Rattle.m2_trail.proofs.Runs.{runs_on-all}

-- the unread bytes are the end of what was got
pub is_end : (v : IncomingNow) → Keeps v → v.half.stage ≡ Asked → IsEndOf v.half.rest v.end.log.got
is_end v k q =
    let x : Exchange = exchange_of (given_by v k.asking) k.asking.asks v in
    let u = unread_is_the_end.used (begins v.trail) v.half x k.comes (λ f e. faulty_isnt_asked f (sym q ∙ e)) in
    (u.bytes, u.before)

-- where the half is taken the last answer has no reply
same_replies : (before : List JudgedItem) (ask : Ask) (answer : Answer) (this : List JudgedItem) (refused : Option ℕ) → takes answer ≡ true → this ≡ item_of ask answer ∷ [] → refused ≡ None →
    all_replies before refused ≡ replies_to (before ++ this)
same_replies before ask answer this refused t e r =
    ap (all_replies before) r
    ∙ (ap (λ l. replies_to before ++ l) (sym (append-nil (reply_to answer) ∙ none_where_taken answer t))
    ∙ (sym (replies_to-append before (item_of ask answer ∷ [])) ∙ ap (λ l. replies_to (before ++ l)) (sym e)))

-- they are what its course leaves
pub is_unread : (v : IncomingNow) (answer : Answer) → Keeps v → IsAnswered answer v → takes answer ≡ true → v.half.rest ≡ unread_of v.trail v.end.log
unfolding unread_of
is_unread v answer k a t =
    let found = owes_at answer v.ask v.is_judged v k.asking v.trail.judged a.1.0 a.0 k.stands k.judged a.1.1 in
    let owes = found.2 in
    let begin = begins v.trail in
    let given : List Control = given_by v k.asking in
    let x : Exchange = exchange_of given k.asking.asks v in
    let bytes : v.end.log.got ≡ got_by (runs_of v.trail) v.end.log =
    sym (ap (λ rs. got_by rs v.end.log) (ap (λ l. runs_of (record v.trail { entries = l })) k.entries ∙ runs_on-all v.trail.socket v.end.log) ∙ all_got v.end.log k.counted) in
    let replies : given ≡ replies_to v.trail.judged =
    same_replies k.asking.before found.0 answer k.asking.this v.refused t owes.this owes.owed.unrefused ∙ ap replies_to (sym k.judged) in
    let there = at_its_course begin v.half x k.comes (owing v.half owes.owed.stage) in
    ap (λ (s : Standing). s.rest) there.standing
    ∙ (ap (λ l. (course_of (fed begin l) given).standing.rest) bytes
    ∙ ap (λ cs. (course_of (fed begin (got_by (runs_of v.trail) v.end.log)) cs).standing.rest) replies)

-- the half owes the reply to its last ask, and all that it wrote is put
pub is_taken : (v : IncomingNow) (answer : Answer) → Keeps v → IsAnswered answer v → takes answer ≡ true →
    IsTaken (begins v.trail) (half_bytes v.trail v.end.log) v.trail.judged (unread_of v.trail v.end.log)
is_taken v answer k a t =
    let found = owes_at answer v.ask v.is_judged v k.asking v.trail.judged a.1.0 a.0 k.stands k.judged a.1.1 in
    let owes = found.2 in
    let given : List Control = given_by v k.asking in
    let runs : runs_of v.trail ≡ v.end.log.runs = ap (runs_on v.trail.socket) k.entries ∙ runs_on-all v.trail.socket v.end.log in
    let judged : v.trail.judged ≡ k.asking.before ++ item_of found.0 answer ∷ [] = k.judged ∙ ap (λ l. k.asking.before ++ l) owes.this in
    record {
      exchange = exchange_of given k.asking.asks v;
      standing = v.half;
      comes = k.comes;
      got = sym (ap (λ rs. got_by rs v.end.log) runs ∙ all_got v.end.log k.counted);
      put = ap (λ l. v.end.log.put ++ l) owes.owed.put ∙ (append-nil v.end.log.put ∙ sym (ap (λ rs. put_by rs v.end.log) runs ∙ all_put v.end.log k.counted));
      replies = same_replies k.asking.before found.0 answer k.asking.this v.refused t owes.this owes.owed.unrefused ∙ ap replies_to (sym k.judged);
      asks = owes.facts ∙ (sym (map-append (λ (i : JudgedItem). i.ask) k.asking.before (item_of found.0 answer ∷ [])) ∙ ap facts_judged (sym judged));
      stage = owes.owed.stage;
      unread = is_unread v answer k a t;
    }

-- the last ask was judged behind all entries
pub taken_now : (had : Option Ask) (answer : Answer) (t : TrailNow) (log : Log) → is_some had ≡ true → (let w : TrailNow = with_judged (items_of had answer) t in
    IsTaken (begins w) (half_bytes w log) w.judged (unread_of w log) → IsTakenTrail w log)
taken_now None answer t log some half = absurd cc
taken_now (Some ask) answer t log some half = record { half = half; earlier = t.judged_after; last = refl }
