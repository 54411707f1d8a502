-- Halves that are alike but for room and for where the parts of their asks lie move alike, but for want of memory.
use Rattle.std.proofs.Common.{◌≡◌, ℕ, ◌<◌, Bool, true, false, List, [], ◌∷◌, length, Option, None, Some, refl, sym, subst, ◌∙◌, ap, arith}
use Rattle.std.specs.Prelude.{◌≢◌, MatchBool}
use Rattle.std.specs.Option.{option_map}
use Rattle.m2_fabric.proofs.Exact as exact
use Rattle.m2_fabric.specs.m2_addr.Addr as address
use Rattle.m2_fabric.specs.m2_addr.Vector.{bares}
use Rattle.m2_fabric.specs.m2_addr.declared.addr.AnyAddr.{AnyAddr}
use Rattle.m2_fabric.specs.End.{ComesFrom, Inflow, Reads, SeenEnd}
use Rattle.m2_fabric.specs.Kinds.{IsInMemory}
use Rattle.m2_fabric.specs.Exact.{after_read_of, after_write_of, read_of, write_of}
use Rattle.m2_fabric.specs.declared.end.EndRead.{EndRead}
use Rattle.m2_fabric.specs.declared.end.EndRead.TheVariants as read
use Rattle.m2_fabric.specs.declared.end.EndWrite.{EndWrite}
use Rattle.m2_fabric.specs.declared.end.EndWrite.TheVariants as write
use Rattle.m2_fabric.proofs.m2_lemmas.Options.{of_some}
use Rattle.m2_fabric.proofs.m2_addr.Shape.{bare_twice}
use Rattle.m2_script.specs.m2_center.m2_turn.m2_handshake.declared.answer.HalfStep.{HalfStep}
use Rattle.m2_script.specs.m2_center.m2_turn.m2_handshake.declared.answer.HalfStep.TheVariants as half
use Rattle.m2_script.specs.m2_center.m2_turn.m2_handshake.declared.ask.Ask.{Ask}
use Rattle.m2_script.specs.m2_center.m2_turn.m2_handshake.declared.ask.Ask.TheVariants.{Ident, Reconnect}
use Rattle.m2_script.specs.m2_center.m2_turn.m2_handshake.declared.ask.AskStep.{AskStep}
use Rattle.m2_script.specs.m2_center.m2_turn.m2_handshake.declared.ask.AskStep.TheVariants as asked
use Rattle.m2_script.specs.m2_center.m2_turn.m2_handshake.Asking.{AskAnswers}
use Rattle.m2_script.specs.m2_center.m2_turn.m2_handshake.Asks.{bare_ask}
use Rattle.m2_script.specs.m2_center.m2_turn.m2_handshake.m2_control.ClientIdent.{bare_client_ident}
use Rattle.m2_script.specs.m2_center.m2_turn.m2_handshake.m2_control.SessionReconnect.{bare_session_reconnect}
use Rattle.m2_script.specs.m2_center.m2_turn.m2_handshake.Half.{Answers, Writer}
use Rattle.m2_script.specs.m2_center.m2_turn.m2_handshake.Moves.{asks, can_ask}
use Rattle.m2_script.specs.m2_center.m2_turn.m2_handshake.Standing.{Standing, fed}
use Rattle.m2_trail.specs.declared.incoming.TheConstants.{MOST_READ}
use Rattle.m2_trail.specs.declared.step.IncomingStep.{IncomingStep}
use Rattle.m2_trail.specs.declared.step.IncomingStep.TheVariants as step
use Rattle.m2_trail.specs.Incoming.{IncomingNow, ReadsOn, StepsOn, WritesOn, after_read, after_write, fed_of, noted_read, writer_of}
use Rattle.m2_trail.specs.TurnMoves.{Makes, Move, answers, outcome_of, reads, writes}
use Rattle.m2_exact.proofs.Handshakes as handshakes
use Rattle.m2_exact.proofs.InMemory as memory
use Rattle.m2_exact.specs.Halves.{LikeHalvesMoveAlike, bare, given, lacks, plain, told}
use Rattle.m2_exact.specs.Handshakes as asking

-- ---- bytes

module _ (v : IncomingNow) (i : Inflow) (is : v.end.inflow ≡ Some i) where
  abbrev write_now : EndWrite
  write_now = write_of v.end.left i (length v.left)

  abbrev read_now : EndRead
  read_now = read_of v.end.left i MOST_READ

  write_makes : (answer : EndWrite) (new : IncomingNow) → answer ≢ write.NoMemory → WritesOn answer v new →
      (answer ≡ write_now) × (new ≡ after_write write_now (after_write_of write_now v.left v.end) v)
  write_makes answer new memory (w, only) =
      let e = exact.writes_are_exact answer v.left i v.end new.end is memory w in
      (e.0, only ∙ ap (λ (x : SeenEnd). after_write answer x v) e.1 ∙ ap (λ (a : EndWrite). after_write a (after_write_of write_now v.left v.end) v) e.0)

  same_fed : (answer : EndRead) (piece : List ℕ) (new : SeenEnd) → Reads answer piece v.end new → fed_of answer piece v.half ≡ fed_of answer i.readable v.half
  same_fed (read.Got n) piece new r = ap (λ (bytes : List ℕ). fed v.half bytes) (of_some (λ i. ComesFrom v.end.left i n piece) v.end.inflow i is r.1).bytes
  same_fed read.NotYet piece new r = refl
  same_fed read.Ended piece new r = refl
  same_fed read.Failed piece new r = refl
  same_fed read.NoMemory piece new r = refl

  same_given : (answer : EndRead) (piece : List ℕ) (new : SeenEnd) → Reads answer piece v.end new → given answer piece ≡ given answer i.readable
  same_given (read.Got n) piece new r = (of_some (λ i. ComesFrom v.end.left i n piece) v.end.inflow i is r.1).bytes
  same_given read.NotYet piece new r = refl
  same_given read.Ended piece new r = refl
  same_given read.Failed piece new r = refl
  same_given read.NoMemory piece new r = refl

  read_makes : (answer : EndRead) (piece : List ℕ) (new : IncomingNow) → answer ≢ read.NoMemory → length piece ≡ MOST_READ → ReadsOn answer piece v new →
      (told (reads answer piece) ≡ told (reads read_now i.readable)) × (new ≡ after_read read_now i.readable (after_read_of read_now i v.end) v)
  read_makes answer piece new memory long (r, only) =
      let e = exact.reads_are_exact answer piece i v.end new.end is memory r in
      let same : answer ≡ read_now = e.0 ∙ ap (λ n. read_of v.end.left i n) long in
      let end : new.end ≡ after_read_of read_now i v.end = e.1 ∙ ap (λ n. after_read_of (read_of v.end.left i n) i v.end) long in (
        ap (λ (bytes : List ℕ). reads answer bytes) (same_given answer piece new.end r) ∙ ap (λ (a : EndRead). reads a (given a i.readable)) same,
        only ∙ ap (λ (s : Standing). record v { end = new.end; half = s; trail = noted_read answer v.trail }) (same_fed answer piece new.end r)
            ∙ ap (λ (x : SeenEnd). after_read answer i.readable x v) end
            ∙ ap (λ (a : EndRead). after_read a i.readable (after_read_of read_now i v.end) v) same,
      )

-- ---- steps of a half that can't be asked

-- the step of an answer
abbrev step_half : HalfStep → IncomingStep
step_half half.NotYet = step.Rests
step_half half.Wrote = step.Wrote
step_half half.Authed = step.Signed
step_half (half.Fault f) = step.Fault f
step_half half.NoMemory = step.NoMemory

record Handshakes (a : IncomingStep) (v new : IncomingNow) : Type 0 where
  pub answer : HalfStep
  pub memory : answer ≢ half.NoMemory
  pub answers : Answers answer (writer_of v) (writer_of new)
  pub only : new ≡ record v { half = new.half; left = new.left }
  pub step : a ≡ step_half answer

by_false : (b : Bool) (A B : Type 0) → b ≡ false → MatchBool b A B → B
by_false b A B q h = subst (λ (b : Bool). MatchBool b A B) q h

by_true : (b : Bool) (A B : Type 0) → b ≡ true → MatchBool b A B → A
by_true b A B q h = subst (λ (b : Bool). MatchBool b A B) q h

kept_left : (v new : IncomingNow) → new ≡ record v { half = new.half } → new ≡ record v { half = new.half; left = new.left }
kept_left v new only = only ∙ ap (λ l. record v { half = new.half; left = l }) (sym (ap (λ (x : IncomingNow). x.left) only))

handshakes_on : (a : IncomingStep) (v new : IncomingNow) → can_ask v.half ≡ false → lacks (answers a) ≡ false → StepsOn a v new → Handshakes a v new
handshakes_on step.Wrote v new q memory (_, h, only) = record { answer = half.Wrote; memory = λ e. cc e; answers = h; only = only; step = refl }
handshakes_on step.Signed v new q memory (_, h, only) = record { answer = half.Authed; memory = λ e. cc e; answers = h; only = kept_left v new only; step = refl }
handshakes_on step.Rests v new q memory (h, only) =
    record { answer = half.NotYet; memory = λ e. cc e; answers = by_false (can_ask v.half) _ _ q h; only = kept_left v new only; step = refl }
handshakes_on step.Asked v new q memory (ask, can, h, only) = absurd (cc (q, can))
handshakes_on (step.Fault f) v new q memory (h, only) =
    record { answer = half.Fault f; memory = λ e. cc e; answers = by_false (can_ask v.half) _ _ q h; only = kept_left v new only; step = refl }
handshakes_on step.NoMemory v new q memory h = absurd (cc memory)

shakes_one : (a b : IncomingStep) (v new behind : IncomingNow) → Handshakes a v new → Handshakes b v behind →
    (a ≡ b) × (new ≡ behind)
shakes_one a b v new behind h k =
    let one = handshakes.answers h.answer k.answer (writer_of v) (writer_of new) (writer_of behind) h.memory k.memory h.answers k.answers in
    (h.step ∙ ap (λ (x : HalfStep). step_half x) one.0 ∙ sym k.step, h.only ∙ ap (λ (w : Writer). record v { half = w.standing; left = w.out }) one.1 ∙ sym k.only)

-- ---- steps of a half that can

abbrev step_ask : AskStep → IncomingStep
step_ask asked.NotYet = step.Rests
step_ask (asked.Asked ask) = step.Asked
step_ask (asked.Fault f) = step.Fault f
step_ask asked.NoMemory = step.NoMemory

abbrev left_asked : AskStep → Standing → IncomingNow → IncomingNow
left_asked (asked.Asked ask) s v = record v { half = s; ask = Some ask }
left_asked _ s v = record v { half = s; ask = option_map bare_ask v.ask }

record Asks (a : IncomingStep) (v new : IncomingNow) : Type 0 where
  pub answer : AskStep
  pub memory : answer ≢ asked.NoMemory
  pub answers : AskAnswers answer v.half new.half
  pub left : bare new ≡ left_asked (asking.bare answer) new.half v
  pub step : a ≡ step_ask (asking.bare answer)

asks_on : (a : IncomingStep) (v new : IncomingNow) → can_ask v.half ≡ true → lacks (answers a) ≡ false → StepsOn a v new → Asks a v new
asks_on step.Wrote v new q memory (not, h, only) = absurd (cc (q, not))
asks_on step.Signed v new q memory (not, h, only) = absurd (cc (q, not))
asks_on step.Rests v new q memory (h, only) =
    record { answer = asked.NotYet; memory = λ e. cc e; answers = by_true (can_ask v.half) _ _ q h; left = ap bare only; step = refl }
asks_on step.Asked v new q memory (ask, can, h, only) = record { answer = asked.Asked ask; memory = λ e. cc e; answers = h; left = ap bare only; step = refl }
asks_on (step.Fault f) v new q memory (h, only) =
    record { answer = asked.Fault f; memory = λ e. cc e; answers = by_true (can_ask v.half) _ _ q h; left = ap bare only; step = refl }
asks_on step.NoMemory v new q memory h = absurd (cc memory)

asks_one : (a b : IncomingStep) (v new behind : IncomingNow) → Asks a v new → Asks b v behind →
    (a ≡ b) × (bare new ≡ bare behind)
asks_one a b v new behind h k =
    let one = handshakes.asks_one h.answer k.answer v.half new.half behind.half h.memory k.memory h.answers k.answers in (
      h.step ∙ ap (λ (x : AskStep). step_ask x) one.0 ∙ sym k.step,
      h.left ∙ ap (λ (s : Standing). left_asked (asking.bare h.answer) s v) one.1 ∙ ap (λ (x : AskStep). left_asked x behind.half v) one.0 ∙ sym k.left,
    )

steps_one : (a b : IncomingStep) (v new behind : IncomingNow) → lacks (answers a) ≡ false → lacks (answers b) ≡ false → StepsOn a v new → StepsOn b v behind →
    (a ≡ b) × (bare new ≡ bare behind)
steps_one a b v new behind m n h k = by (can_ask v.half) refl
  where
    by : (c : Bool) → can_ask v.half ≡ c → (a ≡ b) × (bare new ≡ bare behind)
    by true q = asks_one a b v new behind (asks_on a v new q m h) (asks_on b v behind q n k)
    by false q =
        let one = shakes_one a b v new behind (handshakes_on a v new q m h) (handshakes_on b v behind q n k) in
        (one.0, ap bare one.1)

-- ---- moves

write_memory : (answer : EndWrite) → lacks (writes answer) ≡ false → answer ≢ write.NoMemory
write_memory answer m e = absurd (cc (subst (λ (a : EndWrite). lacks (writes a) ≡ false) e m))

read_memory : (answer : EndRead) (piece : List ℕ) → lacks (reads answer piece) ≡ false → answer ≢ read.NoMemory
read_memory answer piece m e = absurd (cc (subst (λ (a : EndRead). lacks (reads a piece) ≡ false) e m))

none_left : (bytes : List ℕ) → 0 < length bytes → bytes ≡ [] → ⊥
none_left bytes some none = absurd (omega (arith, some, ap (λ (l : List ℕ). length l) none))

moves_one : (one other : Move) (i : Inflow) (v new behind : IncomingNow) → v.end.inflow ≡ Some i → lacks one ≡ false → lacks other ≡ false →
    Makes one v new → Makes other v behind → (told one ≡ told other) × (bare new ≡ bare behind)
moves_one (writes a) (writes b) i v new behind is m n (_, h) (_, k) =
    let one = write_makes v i is a new (write_memory a m) h in
    let other = write_makes v i is b behind (write_memory b n) k in
    (ap (λ (x : EndWrite). writes x) (one.0 ∙ sym other.0), ap bare (one.1 ∙ sym other.1))
moves_one (answers a) (answers b) i v new behind is m n (_, _, h) (_, _, k) =
    let one = steps_one a b v new behind m n h k in
    (ap (λ (x : IncomingStep). answers x) one.0, one.1)
moves_one (reads a piece) (reads b last) i v new behind is m n ((_, long), _, h) ((_, wide), _, k) =
    let one = read_makes v i is a piece new (read_memory a piece m) long h in
    let other = read_makes v i is b last behind (read_memory b last n) wide k in
    (one.0 ∙ sym other.0, ap bare (one.1 ∙ sym other.1))
moves_one (writes a) (answers b) i v new behind is m n (some, _) (none, _, _) = absurd (none_left v.left some none)
moves_one (writes a) (reads b last) i v new behind is m n (some, _) ((none, _), _, _) = absurd (none_left v.left some none)
moves_one (answers a) (writes b) i v new behind is m n (none, _, _) (some, _) = absurd (none_left v.left some none)
moves_one (answers a) (reads b last) i v new behind is m n (_, busy, _) (_, rests, _) = absurd (cc (busy, rests))
moves_one (reads a piece) (writes b) i v new behind is m n ((none, _), _, _) (some, _) = absurd (none_left v.left some none)
moves_one (reads a piece) (answers b) i v new behind is m n (_, rests, _) (_, busy, _) = absurd (cc (busy, rests))

-- ---- where the parts of an ask lie

addresses_twice : (addrs : List AnyAddr) → bares (bares addrs) ≡ bares addrs
addresses_twice [] = refl
addresses_twice (a ∷ addrs) = ap (λ (x : AnyAddr). x ∷ bares (bares addrs)) (bare_twice a) ∙ ap (λ (xs : List AnyAddr). address.bare a ∷ xs) (addresses_twice addrs)

ask_twice : (ask : Ask) → bare_ask (bare_ask ask) ≡ bare_ask ask
ask_twice (Ident i) = ap (λ (addrs : List AnyAddr). Ident (record (bare_client_ident i) { addrs = addrs })) (addresses_twice i.addrs)
ask_twice (Reconnect r) = ap (λ (addrs : List AnyAddr). Reconnect (record (bare_session_reconnect r) { addrs = addrs })) (addresses_twice r.addrs)

asks_twice : (ask : Option Ask) → option_map bare_ask (option_map bare_ask ask) ≡ option_map bare_ask ask
asks_twice None = refl
asks_twice (Some ask) = ap (λ (a : Ask). Some a) (ask_twice ask)

bare_plain : (v : IncomingNow) → bare (plain v) ≡ plain v
bare_plain v = ap (λ (ask : Option Ask). record v { ask = ask; room = 0 }) (asks_twice v.ask)

-- a move is one of the half without these places and room too
plain_step : (a : IncomingStep) (v new : IncomingNow) → StepsOn a v new → StepsOn a (plain v) (plain new)
plain_step step.Wrote v new (can, h, only) = (can, h, ap plain only)
plain_step step.Signed v new (can, h, only) = (can, h, ap plain only)
plain_step step.Rests v new (h, only) = (h, ap plain only)
plain_step step.Asked v new (ask, can, h, only) =
    (bare_ask ask, can, record { passed = h.passed; mid = h.mid; quietly = h.quietly; ends = h.ends ∙ ap (λ (a : Ask). asks a new.half) (sym (ask_twice ask)) }, ap plain only)
plain_step (step.Fault f) v new (h, only) = (h, ap plain only)
plain_step step.NoMemory v new (h, only) = (h, ap plain only)

plain_move : (move : Move) (v new : IncomingNow) → Makes move v new → Makes move (plain v) (plain new)
plain_move (writes a) v new (some, h) = (some, (h.0, ap plain h.1))
plain_move (answers a) v new (none, busy, h) = (none, busy, plain_step a v new h)
plain_move (reads a piece) v new (none, rests, h) = (none, rests, (h.0, ap plain h.1))

moves_alike : (one other : Move) (v w new behind : IncomingNow) → IsInMemory v.end → plain v ≡ plain w → lacks one ≡ false → lacks other ≡ false →
    Makes one v new → Makes other w behind → (told one ≡ told other) × (plain new ≡ plain behind)
moves_alike one other v w new behind here like m n h k =
    let (i, is) = memory.told_of v.end here in
    let last : Makes other (plain v) (plain behind) = subst (λ (x : IncomingNow). Makes other x (plain behind)) (sym like) (plain_move other w behind k) in
    let both = moves_one one other i (plain v) (plain new) (plain behind) is m n (plain_move one v new h) last in
    (both.0, sym (bare_plain new) ∙ both.1 ∙ bare_plain behind)

-- moves of which the same is told have one outcome
outcome_told : (move : Move) → outcome_of (told move) ≡ outcome_of move
outcome_told (writes a) = refl
outcome_told (answers a) = refl
outcome_told (reads (read.Got n) piece) = refl
outcome_told (reads read.NotYet piece) = refl
outcome_told (reads read.Ended piece) = refl
outcome_told (reads read.Failed piece) = refl
outcome_told (reads read.NoMemory piece) = refl

one_outcome : (one other : Move) → told one ≡ told other → outcome_of one ≡ outcome_of other
one_outcome one other same = sym (outcome_told one) ∙ ap outcome_of same ∙ outcome_told other

-- a move leaves the room
move_room : (move : Move) (v new : IncomingNow) → Makes move v new → new.room ≡ v.room
move_room (writes a) v new (some, h) = ap (λ (x : IncomingNow). x.room) h.1
move_room (answers a) v new (none, busy, h) = (memory.step_leaves a v new h).1
move_room (reads a piece) v new (none, rests, h) = ap (λ (x : IncomingNow). x.room) h.1

pub alike : LikeHalvesMoveAlike
alike = record { moves = moves_alike; outcomes = one_outcome; room = move_room; stays = memory.moved }
