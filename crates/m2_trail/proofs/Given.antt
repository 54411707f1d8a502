-- The replies that a half has given are those to its judged asks, and behind them at most one refusal.
use Rattle.std.proofs.Common.{◌≡◌, ℕ, ◌<◌, ◌≤◌, Bool, true, false, List, [], ◌++◌, length, map, Option, Some, None, sym, ap, ◌∙◌, subst, arith, append-nil}
use Rattle.std.proofs.lemmas.List.{length-append, length-map}
use Rattle.m2_control.specs.declared.control.Control.{Control}
use Rattle.m2_fabric.specs.declared.socket.SocketId.{SocketId}
use Rattle.m2_fabric.specs.Log.{Log}
use Rattle.m2_handshake.specs.declared.ask.Ask.{Ask}
use Rattle.m2_handshake.specs.Laws.{IsPrefix}
use Rattle.m2_journal.specs.declared.entry.Entry.{Entry}
use Rattle.m2_journal.specs.declared.entry.JudgedItem.{JudgedItem}
use Rattle.m2_trail.specs.Incoming.{IncomingNow, Asking, StandsAt, Keeps, given_by}
use Rattle.m2_trail.specs.Replies.{replies_to, all_replies, first_replies}
use Rattle.m2_trail.specs.Trails.{entry_of, closing, entries_of, judged_by, replies_by}
use Rattle.m2_trail.proofs.Judged.{all_below, all_first}
use Rattle.m2_trail.proofs.Replying.{replies_to-append}

-- ---- the replies that were given, and those to all judged asks

-- one reply more may be owed, where none was refused
owed_replies : (before this : List JudgedItem) (refused : Option ℕ) → refused ≡ None → IsPrefix (all_replies before refused) (all_replies (before ++ this) refused)
owed_replies before this (Some bits) r = absurd cc
owed_replies before this None r =
    (replies_to this, append-nil (replies_to (before ++ this)) ∙ (replies_to-append before this ∙ ap (λ l. l ++ replies_to this) (sym (append-nil (replies_to before)))))

no_more : (before this : List JudgedItem) (refused : Option ℕ) → this ≡ [] → IsPrefix (all_replies before refused) (all_replies (before ++ this) refused)
no_more before this refused e =
    ([], ap (λ l. all_replies l refused) (ap (λ l. before ++ l) e ∙ append-nil before) ∙ sym (append-nil (all_replies before refused)))

given_first : (ask : Option Ask) (judged : Bool) (v : IncomingNow) (a : Asking) → StandsAt ask judged v a → IsPrefix (all_replies a.before v.refused) (all_replies (a.before ++ a.this) v.refused)
given_first None judged v a s = no_more a.before a.this v.refused s.1
given_first (Some ask) false v a s = no_more a.before a.this v.refused s.1
given_first (Some ask) true v a s = owed_replies a.before a.this v.refused s.0.unrefused

-- ---- behind all runs they are first among the replies to all that were judged by then

pub given_by_then : (v : IncomingNow) (k : Keeps v) (n : ℕ) → length v.end.log.runs < n → IsPrefix (given_by v k.asking) (replies_by v.trail v.refused n)
given_by_then v k n h =
    let count : judged_by v.trail n ≡ length v.trail.judged_after = all_below 0 v.trail.judged_after (length v.end.log.runs) n h k.rising in
    let all : replies_by v.trail v.refused n ≡ all_replies v.trail.judged v.refused = all_first v.trail.judged (judged_by v.trail n) v.refused (omega (arith, count, k.many)) in
    let given : IsPrefix (given_by v k.asking) (all_replies v.trail.judged v.refused) =
    subst (λ l. IsPrefix (given_by v k.asking) (all_replies l v.refused)) (sym k.judged) (given_first v.ask v.is_judged v k.asking k.stands) in
    subst (IsPrefix (given_by v k.asking)) (sym all) given

-- ---- as many entries as runs, and one more where the end is closed

pub entries_at_least : (k : SocketId) (log : Log) → length log.runs ≤ length (entries_of k log)
entries_at_least k log = omega (arith, length-append (map (entry_of k) log.runs) (closing k log.closed), length-map log.runs (entry_of k))

pub entries_count : (k : SocketId) (log : Log) (entries : List Entry) → log.closed ≡ false → entries ≡ entries_of k log → length entries ≡ length log.runs
entries_count k log entries c e =
    ap length (e ∙ ap (λ b. map (entry_of k) log.runs ++ closing k b) c)
    ∙ (ap length (append-nil (map (entry_of k) log.runs)) ∙ length-map log.runs (entry_of k))
