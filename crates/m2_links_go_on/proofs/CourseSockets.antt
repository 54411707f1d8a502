-- Of each socket that a port made there is an end still: none is lost in a turn.
use Rattle.std.proofs.Common.{◌≡◌, ◌⊎◌, inl, inr, true, List, ◌++◌, Option, Some, None, IsSome, Ok, Err, refl, sym, ap, subst, ◌∙◌}
use Rattle.std.specs.Option.{is_some}
use Rattle.m2_dispatch.specs.Heard.{Heard}
use Rattle.m2_fabric.specs.declared.socket.SocketId.{SocketId}
use Rattle.m2_fabric.specs.End.{SeenEnd}
use Rattle.m2_fabric.specs.Port.{SeenPort}
use Rattle.m2_fabric.specs.Sockets.{is_among}
use Rattle.m2_fabric.proofs.m2_lemmas.Booleans.{false_isnt_true}
use Rattle.m2_cluster.specs.m2_center.Center.{CenterNow}
use Rattle.m2_cluster.specs.m2_center.CenterTurn.{AcceptsSo, AndThen, Answer, AnswersSo, DeliversSo, Part, StepsSo, TakesTurn, accepting_in, all_amid_in, callers_of}
use Rattle.m2_cluster.specs.m2_center.m2_record.RecordNow.{ids_of}
use Rattle.m2_cluster.specs.m2_center.m2_record.Sources.{end_at}
use Rattle.m2_cluster.specs.m2_center.m2_turn.RecordTurn.{Means}
use Rattle.m2_growth.specs.Holding.{AreOwn, Grows, Holding, all_ends, ends_held, waiting_at}
use Rattle.m2_growth.proofs.Accepts.{accepts_grow, accepts_stand}
use Rattle.m2_growth.proofs.Dialled.{records_stand}
use Rattle.m2_growth.proofs.Ends.{end_append, first_of}
use Rattle.m2_growth.proofs.Growing.{still_there}
use Rattle.m2_growth.proofs.Going.{grows_by, grows_then}
use Rattle.m2_growth.proofs.HalfTurns.{halves_grow}
use Rattle.m2_growth.proofs.InStepStanding.{is_end, some_end}
use Rattle.m2_growth.proofs.Owned.{waiting_unmade}
use Rattle.m2_growth.proofs.RecordTurns.{record_turns}
use Rattle.m2_links_go_on.specs.Course.{MadeAreHeld, holding_in}

-- ---- the end of a socket among others

-- an end of a socket that the port made isn't one that waits
held_end : (h : Holding) → AreOwn h → (k : SocketId) → is_among k h.port.made ≡ true → IsSome (end_at (all_ends h) k) → is_among k (ids_of (ends_held h)) ≡ true
held_end h own k made some =
    is_end k (ends_held h) (at (end_at (ends_held h) k) (end_at (waiting_at h.port) k) (sym (ap is_some (end_append (ends_held h) (waiting_at h.port) k)) ∙ some)
    (waiting_unmade h.port (waiting_at h.port) k own.to_come made))
  where
    at : (o w : Option SeenEnd) → IsSome (first_of o w) → w ≡ None → IsSome o
    at (Some e) w some none = refl
    at None w some none = absurd (false_isnt_true (sym (ap is_some none) ∙ some))

-- where all ends grow, and each socket that is made has its end, none is lost
none_lost : (old new : Holding) → Grows old new → MadeAreHeld old → ((k : SocketId) → is_among k new.port.made ≡ true → (is_among k old.port.made ≡ true) ⊎ IsSome (end_at (all_ends new) k)) →
    MadeAreHeld new
none_lost old new g held more k made = at (more k made)
  where
    front : (xs ys : List SeenEnd) → IsSome (end_at xs k) → IsSome (end_at (xs ++ ys) k)
    front xs ys some = ap is_some (end_append xs ys k) ∙ by (end_at xs k) some
      where
        by : (o : Option SeenEnd) → IsSome o → IsSome (first_of o (end_at ys k))
        by (Some e) some = refl
        by None some = absurd (false_isnt_true some)

    at : (is_among k old.port.made ≡ true) ⊎ IsSome (end_at (all_ends new) k) → is_among k (ids_of (ends_held new)) ≡ true
    at (inr some) = held_end new g.own k made some
    at (inl was) = held_end new g.own k made (still_there (end_at (all_ends old) k) (end_at (all_ends new) k) (g.grows.ends k)
        (front (ends_held old) (waiting_at old.port) (some_end k (ends_held old) (held k was))))

-- ---- a turn

module _ {D : Type 0} where
  -- it grows, and no socket is lost
  pub record KeepsSockets (old new : CenterNow D) : Type 0 where
    pub grows : Grows (holding_in old) (holding_in new)
    pub held : MadeAreHeld (holding_in old) → MadeAreHeld (holding_in new)

  abbrev KeptIn : CenterNow D → CenterNow D → Type 0
  KeptIn old new = AreOwn (holding_in old) → KeepsSockets old new

  abbrev AllKeep : Part D → Type 0
  AllKeep part = (a : Answer) (old new : CenterNow D) → part a old new → KeptIn old new

  chain : (a b c : CenterNow D) → KeptIn a b → KeptIn b c → KeptIn a c
  chain a b c f s own =
      let first = f own in
      let second = s first.grows.own in
      record { grows = grows_then (holding_in a) (holding_in b) (holding_in c) first.grows second.grows; held = λ h. second.held (first.held h) }

  and_then : (first second : Part D) → AllKeep first → AllKeep second → AllKeep (AndThen first second)
  and_then first second f s (Ok done) old new h = chain old h.0 new (f (Ok tt) old h.0 h.1) (s (Ok tt) h.0 new h.2)
  and_then first second f s (Err e) old new h =
      elim h [ inl g ↦ f (Err e) old new g | inr g ↦ chain old g.0 new (f (Ok tt) old g.0 g.1) (s (Err e) g.0 new g.2) ]

  accepting : AllKeep AcceptsSo
  accepting a old new h own = record { grows = grown; held = λ held. none_lost (holding_in old) (holding_in new) grown held more }
    where
      same : new.records ≡ old.records
      same = ap (λ (c : CenterNow D). c.records) h.2.only

      grown : Grows (holding_in old) (holding_in new)
      grown = subst (λ rs. Grows (holding_in old) (record { port = new.port; records = rs; halves = new.halves })) (sym same)
          (accepts_grow old.entity h.0 old.records (accepting_in old) (accepting_in new) h.2.accepts own)

      more : (k : SocketId) → is_among k new.port.made ≡ true → (is_among k old.port.made ≡ true) ⊎ IsSome (end_at (all_ends (holding_in new)) k)
      more = subst (λ rs. (k : SocketId) → is_among k new.port.made ≡ true →
          (is_among k old.port.made ≡ true) ⊎ IsSome (end_at (all_ends (record { port = new.port; records = rs; halves = new.halves })) k)) (sym same)
          (accepts_stand old.entity h.0 old.records (accepting_in old) (accepting_in new) h.2.accepts own).made

  answering : (E : Type 0) (m : Means) → AllKeep (AnswersSo E m)
  answering E m a old new h own = record { grows = grown; held = λ held. none_lost (holding_in old) (holding_in new) grown held (λ k made. inl (ap (λ (p : SeenPort). is_among k p.made) (sym same) ∙ made)) }
    where
      same : new.port ≡ old.port
      same = ap (λ (c : CenterNow D). c.port) h.2.only

      grown : Grows (holding_in old) (holding_in new)
      grown = subst (λ p. Grows (holding_in old) (record { port = p; records = new.records; halves = new.halves })) (sym same)
          (halves_grow E h.0 m old.port (callers_of old) (callers_of new) h.2.turns own)

  stepping : (heard : D → List Heard) (m : Means) → AllKeep (StepsSo heard m)
  stepping heard m a old new h own = record { grows = grown; held = λ held. none_lost (holding_in old) (holding_in new) grown held more }
    where
      same : new.halves ≡ old.halves
      same = ap (λ (c : CenterNow D). c.halves) h.2.only

      grown : Grows (holding_in old) (holding_in new)
      grown = subst (λ g. Grows (holding_in old) (record { port = new.port; records = new.records; halves = g })) (sym same)
          (record_turns heard m h.0 old.halves (all_amid_in old) (all_amid_in new) h.2.turns own)

      more : (k : SocketId) → is_among k new.port.made ≡ true → (is_among k old.port.made ≡ true) ⊎ IsSome (end_at (all_ends (holding_in new)) k)
      more = subst (λ g. (k : SocketId) → is_among k new.port.made ≡ true →
          (is_among k old.port.made ≡ true) ⊎ IsSome (end_at (all_ends (record { port = new.port; records = new.records; halves = g })) k)) (sym same)
          (records_stand heard m h.0 old.halves (all_amid_in old) (all_amid_in new) h.2.turns own).made

  delivering : (heard : D → List Heard) (m : Means) → AllKeep (DeliversSo heard m)
  delivering heard m a old new h own =
      let same = ap holding_in h.2.only in
      record { grows = grows_by (holding_in old) (holding_in new) same own; held = λ held. subst MadeAreHeld (sym same) held }

  pub keeps_sockets : (E : Type 0) (heard : D → List Heard) (m : Means) (answer : Answer) (old new : CenterNow D) → TakesTurn E heard m answer old new →
      AreOwn (holding_in old) → KeepsSockets old new
  keeps_sockets E heard m =
      and_then AcceptsSo (AndThen (AnswersSo E m) (AndThen (StepsSo heard m) (DeliversSo heard m))) accepting
      (and_then (AnswersSo E m) (AndThen (StepsSo heard m) (DeliversSo heard m)) (answering E m)
      (and_then (StepsSo heard m) (DeliversSo heard m) (stepping heard m) (delivering heard m)))
