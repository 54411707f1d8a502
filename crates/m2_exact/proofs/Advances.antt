-- Halves that are alike get as far in their turns, but for want of memory.
use Rattle.std.proofs.Common.{◌≡◌, ℕ, ◌-◌, ◌<◌, ◌≤◌, List, [], ◌∷◌, length, true, false, Option, None, Some, inl, inr, refl, sym, subst, ◌∙◌, ap, arith}
use Rattle.std.specs.Prelude.{◌≢◌, ◌⊎◌, IsSome}
use Rattle.std.specs.Option.{is_some, option_map}
use Rattle.m2_fabric.specs.Kinds.{IsInMemory}
use Rattle.m2_fabric.specs.declared.end.EndRead.TheVariants as read
use Rattle.m2_fabric.specs.declared.end.EndWrite.TheVariants as write
use Rattle.m2_trail.specs.Incoming.{IncomingNow}
use Rattle.m2_trail.specs.Turn.{AdvancesAs, Moves}
use Rattle.m2_trail.specs.TurnMoves.{MakesMove, Move, answers, outcome_of, reads, writes}
use Rattle.m2_trail.specs.declared.step.IncomingStep.TheVariants as step
use Rattle.m2_trail.specs.declared.turn.HalfTurn.{HalfTurn}
use Rattle.m2_trail.specs.declared.turn.HalfTurn.TheVariants as turn
use Rattle.m2_trail.specs.declared.turn.TheConstants.{MOST_MOVES}
use Rattle.m2_script.specs.m2_center.m2_turn.m2_handshake.Asks.{bare_ask}
use Rattle.m2_script.specs.m2_center.m2_turn.m2_handshake.declared.ask.Ask.{Ask}
use Rattle.m2_exact.proofs.Halves as halves
use Rattle.m2_exact.specs.Advances.{LikeHalvesAdvanceAlike}
use Rattle.m2_exact.specs.Halves.{lacks, plain}

-- ---- one move

-- what comes of a move that found memory, each by one with that outcome
data Kind : Type 0 where
  goes : Kind
  waits : Kind
  ends : Kind

abbrev of_kind : Kind → Move
of_kind goes = writes (write.Put 0)
of_kind waits = writes write.NotYet
of_kind ends = writes write.Failed

-- what a half is said to have come to by its last move
abbrev turn_by : Kind → HalfTurn
turn_by goes = turn.Busy
turn_by waits = turn.Waits
turn_by ends = turn.Over

same_kind : (k l : Kind) → outcome_of (of_kind k) ≡ outcome_of (of_kind l) → k ≡ l
same_kind goes goes e = refl
same_kind waits waits e = refl
same_kind ends ends e = refl
same_kind goes waits e = absurd (cc e)
same_kind goes ends e = absurd (cc e)
same_kind waits goes e = absurd (cc e)
same_kind waits ends e = absurd (cc e)
same_kind ends goes e = absurd (cc e)
same_kind ends waits e = absurd (cc e)

memory_of : (k : Kind) → outcome_of (writes write.NoMemory) ≡ outcome_of (of_kind k) → ⊥
memory_of goes e = cc e
memory_of waits e = cc e
memory_of ends e = cc e

found : (move : Move) (k : Kind) → outcome_of move ≡ outcome_of (of_kind k) → lacks move ≡ false
found (writes write.NoMemory) k e = absurd (memory_of k e)
found (answers step.NoMemory) k e = absurd (memory_of k e)
found (reads read.NoMemory piece) k e = absurd (memory_of k e)
found move k e = refl

abbrev MakesSo : Kind → IncomingNow → IncomingNow → Type 0
MakesSo k old new = MakesMove (outcome_of (of_kind k)) old new

makes_one : (k l : Kind) (v w new behind : IncomingNow) → IsInMemory v.end → plain v ≡ plain w → MakesSo k v new → MakesSo l w behind → (k ≡ l) × (plain new ≡ plain behind)
makes_one k l v w new behind m like h g =
    let both = halves.alike.moves h.move g.move v w new behind m like (found h.move k h.leads) (found g.move l g.leads) h.makes g.makes in
    (same_kind k l (sym h.leads ∙ halves.alike.outcomes h.move g.move both.0 ∙ g.leads), both.1)

makes_stay : (k : Kind) (v new : IncomingNow) → IsInMemory v.end → MakesSo k v new → IsInMemory new.end
makes_stay k v new m h = halves.alike.stays h.move v new m h.makes

-- a half that is alike was asked too
same_asked : (v w : IncomingNow) → plain v ≡ plain w → is_some v.ask ≡ is_some w.ask
same_asked v w like = by v.ask ∙ ap (λ (x : IncomingNow). is_some x.ask) like ∙ sym (by w.ask)
  where
    by : (o : Option Ask) → is_some o ≡ is_some (option_map bare_ask o)
    by (Some ask) = refl
    by None = refl

asked_or_not : (v w : IncomingNow) → plain v ≡ plain w → IsSome v.ask → w.ask ≡ None → ⊥
asked_or_not v w like some none = absurd (cc (is_there v.ask some, same_asked v w like, ap is_some none))
  where
    is_there : (o : Option Ask) → IsSome o → is_some o ≡ true
    is_there (Some ask) h = refl
    is_there None h = absurd (cc h)

-- ---- moves, one after another

-- it was asked; it made its last move, with this outcome; or it may make none more
record IsAsked (one : HalfTurn) (old new : IncomingNow) : Type 0 where
  pub is : one ≡ turn.Asked
  pub same : old ≡ new
  pub some : IsSome new.ask

record IsEnded (one : HalfTurn) (most : ℕ) (old new : IncomingNow) : Type 0 where
  pub kind : Kind
  pub is : one ≡ turn_by kind
  pub makes : MakesSo kind old new
  pub stops : kind ≢ goes
  pub unasked : old.ask ≡ None
  pub some : 0 < most

record HasNoMore (one : HalfTurn) (most : ℕ) (old new : IncomingNow) : Type 0 where
  pub is : one ≡ turn.Busy
  pub same : old ≡ new
  pub unasked : new.ask ≡ None
  pub none : most ≡ 0

abbrev Last : HalfTurn → (most : ℕ) → IncomingNow → IncomingNow → Type 0
Last one most old new = IsAsked one old new ⊎ (IsEnded one most old new ⊎ HasNoMore one most old new)

-- a move that goes on
record Goes (most : ℕ) (old new : IncomingNow) : Type 0 where
  pub unasked : old.ask ≡ None
  pub makes : MakesSo goes old new
  pub some : 0 < most

abbrev Walks : HalfTurn → List IncomingNow → (most : ℕ) → IncomingNow → IncomingNow → Type 0
Walks one [] most old new = Last one most old new
Walks one (v ∷ vs) most old new = Goes most old v × Walks one vs (most - 1) v new

asked : (vs : List IncomingNow) (most : ℕ) (old new : IncomingNow) → length vs ≤ most → Moves vs old new → IsSome new.ask → Walks turn.Asked vs most old new
asked [] most old new few same some = inl (record { is = refl; same = same; some = some })
asked (v ∷ vs) most old new few (none, makes, rest) some =
    (record { unasked = none; makes = makes; some = omega (arith, few) }, asked vs (most - 1) v new (omega (arith, few)) rest some)

busy : (vs : List IncomingNow) (most : ℕ) (old new : IncomingNow) → length vs ≡ most → Moves vs old new → new.ask ≡ None → Walks turn.Busy vs most old new
busy [] most old new many same none = inr (inr (record { is = refl; same = same; unasked = none; none = omega (arith, many) }))
busy (v ∷ vs) most old new many (none, makes, rest) unasked =
    (record { unasked = none; makes = makes; some = omega (arith, many) }, busy vs (most - 1) v new (omega (arith, many)) rest unasked)

ended : (k : Kind) (vs : List IncomingNow) (most : ℕ) (old before new : IncomingNow) → k ≢ goes → length vs < most → Moves vs old before → before.ask ≡ None → MakesSo k before new →
    Walks (turn_by k) vs most old new
ended k [] most old before new stops few same none h = inr (inl (record {
  kind = k;
  is = refl;
  makes = subst (λ (x : IncomingNow). MakesSo k x new) (sym same) h;
  stops = stops;
  unasked = ap (λ (x : IncomingNow). x.ask) same ∙ none;
  some = omega (arith, few);
}))
ended k (v ∷ vs) most old before new stops few (unasked, makes, rest) none h =
    (record { unasked = unasked; makes = makes; some = omega (arith, few) }, ended k vs (most - 1) v before new stops (omega (arith, few)) rest none h)

walks : (one : HalfTurn) (old new : IncomingNow) → one ≢ turn.NoMemory → AdvancesAs one old new → (vs : List IncomingNow) × Walks one vs MOST_MOVES old new
walks turn.Asked old new k h = (h.stood, asked h.stood MOST_MOVES old new h.within h.moves h.asked)
walks turn.Waits old new k h = (h.stood, ended waits h.stood MOST_MOVES old h.before new (λ e. cc e) h.within h.moves h.unasked h.last)
walks turn.Busy old new k h = (h.stood, busy h.stood MOST_MOVES old new h.many h.moves h.unasked)
walks turn.Over old new k h = (h.stood, ended ends h.stood MOST_MOVES old h.before new (λ e. cc e) h.within h.moves h.unasked h.last)
walks turn.NoMemory old new k h = absurd (k refl)

-- ---- two of them

goes_or_ends : (one : HalfTurn) (most : ℕ) (v w new x : IncomingNow) → IsInMemory v.end → plain v ≡ plain w → Last one most v new → Goes most w x → ⊥
goes_or_ends one most v w new x m like (inl h) g = asked_or_not v w like (subst (λ (y : IncomingNow). IsSome y.ask) (sym h.same) h.some) g.unasked
goes_or_ends one most v w new x m like (inr (inl h)) g = h.stops (makes_one h.kind goes v w new x m like h.makes g.makes).0
goes_or_ends one most v w new x m like (inr (inr h)) g = absurd (omega (arith, h.none, g.some))

both_end : (one other : HalfTurn) (most : ℕ) (v w new behind : IncomingNow) → IsInMemory v.end → plain v ≡ plain w → Last one most v new → Last other most w behind → (one ≡ other) × (plain new ≡ plain behind)
both_end one other most v w new behind m like (inl h) (inl g) = (h.is ∙ sym g.is, sym (ap plain h.same) ∙ like ∙ ap plain g.same)
both_end one other most v w new behind m like (inr (inl h)) (inr (inl g)) =
    let both = makes_one h.kind g.kind v w new behind m like h.makes g.makes in
    (h.is ∙ ap turn_by both.0 ∙ sym g.is, both.1)
both_end one other most v w new behind m like (inr (inr h)) (inr (inr g)) = (h.is ∙ sym g.is, sym (ap plain h.same) ∙ like ∙ ap plain g.same)
both_end one other most v w new behind m like (inl h) (inr (inl g)) = absurd (asked_or_not v w like (subst (λ (y : IncomingNow). IsSome y.ask) (sym h.same) h.some) g.unasked)
both_end one other most v w new behind m like (inl h) (inr (inr g)) =
    absurd (asked_or_not v w like (subst (λ (y : IncomingNow). IsSome y.ask) (sym h.same) h.some) (ap (λ (y : IncomingNow). y.ask) g.same ∙ g.unasked))
both_end one other most v w new behind m like (inr (inl h)) (inl g) = absurd (asked_or_not w v (sym like) (subst (λ (y : IncomingNow). IsSome y.ask) (sym g.same) g.some) h.unasked)
both_end one other most v w new behind m like (inr (inr h)) (inl g) =
    absurd (asked_or_not w v (sym like) (subst (λ (y : IncomingNow). IsSome y.ask) (sym g.same) g.some) (ap (λ (y : IncomingNow). y.ask) h.same ∙ h.unasked))
both_end one other most v w new behind m like (inr (inl h)) (inr (inr g)) = absurd (omega (arith, h.some, g.none))
both_end one other most v w new behind m like (inr (inr h)) (inr (inl g)) = absurd (omega (arith, g.some, h.none))

both_walk : (one other : HalfTurn) (vs ws : List IncomingNow) (most : ℕ) (v w new behind : IncomingNow) → IsInMemory v.end → plain v ≡ plain w → Walks one vs most v new → Walks other ws most w behind →
    (one ≡ other) × (plain new ≡ plain behind)
both_walk one other [] [] most v w new behind m like h g = both_end one other most v w new behind m like h g
both_walk one other [] (y ∷ ys) most v w new behind m like h (second, rest) = absurd (goes_or_ends one most v w new y m like h second)
both_walk one other (x ∷ xs) [] most v w new behind m like (first, rest) g =
    absurd (goes_or_ends other most w v behind x (subst (λ (z : IncomingNow). IsInMemory z.end) like m) (sym like) g first)
both_walk one other (x ∷ xs) (y ∷ ys) most v w new behind m like (first, rest) (second, others) =
    both_walk one other xs ys (most - 1) x y new behind (makes_stay goes v x m first.makes) (makes_one goes goes v w x y m like first.makes second.makes).1 rest others

advances : (one other : HalfTurn) (v w new behind : IncomingNow) → IsInMemory v.end → plain v ≡ plain w → one ≢ turn.NoMemory → other ≢ turn.NoMemory → AdvancesAs one v new → AdvancesAs other w behind →
    (one ≡ other) × (plain new ≡ plain behind)
advances one other v w new behind m like k l h g =
    let (vs, first) = walks one v new k h in
    let (ws, second) = walks other w behind l g in
    both_walk one other vs ws MOST_MOVES v w new behind m like first second

-- ---- they stay over ends in memory

moves_stay : (vs : List IncomingNow) (old new : IncomingNow) → IsInMemory old.end → Moves vs old new → IsInMemory new.end
moves_stay [] old new m same = subst (λ (x : IncomingNow). IsInMemory x.end) same m
moves_stay (v ∷ vs) old new m (none, makes, rest) = moves_stay vs v new (makes_stay goes old v m makes) rest

stays : (one : HalfTurn) (old new : IncomingNow) → IsInMemory old.end → AdvancesAs one old new → IsInMemory new.end
stays turn.Asked old new m h = moves_stay h.stood old new m h.moves
stays turn.Waits old new m h = halves.alike.stays h.last.move h.before new (moves_stay h.stood old h.before m h.moves) h.last.makes
stays turn.Busy old new m h = moves_stay h.stood old new m h.moves
stays turn.Over old new m h = halves.alike.stays h.last.move h.before new (moves_stay h.stood old h.before m h.moves) h.last.makes
stays turn.NoMemory old new m h = halves.alike.stays h.last.move h.before new (moves_stay h.stood old h.before m h.moves) h.last.makes

pub alike : LikeHalvesAdvanceAlike
alike = record { advances = advances; stays = stays }
