-- Of any record, what dispatchers are called with is of each key one piece of each of its lives. A lossy one throws messages away in the
-- middle of a life, but accepts no more in it.
use Rattle.std.proofs.Common.{◌≡◌, ℕ, ◌⊎◌, inl, inr, Bool, true, false, not, ◌&&◌, if◌then◌else◌, List, [], ◌∷◌, ◌++◌, map, Option, Some, None, refl, sym, ap, subst, ◌∙◌, append-nil, append_assoc}
use Rattle.std.proofs.lemmas.List.{map-append}
use Rattle.std.proofs.lemmas.List.Elements.{filter-append}
use Rattle.m2_channel.specs.Observed.{all_of, brought_on}
use Rattle.m2_channel.specs.m2_dispatch.Heard.{is_key}
use Rattle.m2_journal.specs.Items as item
use Rattle.m2_journal.specs.Items.{JournalItem}
use Rattle.m2_journal.specs.Lawful.{Lawful, MayAccept, OnFeedAt}
use Rattle.m2_journal.specs.Replay.{AreLawful, after_items}
use Rattle.m2_journal.specs.SideFacts.{SideFacts}
use Rattle.m2_journal.specs.State as state
use Rattle.m2_journal.specs.State.{Delivery, Feed, State, start}
use Rattle.m2_journal.specs.Steps.{after, event_at}
use Rattle.m2_journal.specs.m2_message.Message.{Content}
use Rattle.m2_journal.specs.m2_policy.declared.path.Key.{Key}
use Rattle.m2_journal.specs.m2_session.SessionLaws as session
use Rattle.m2_journal.specs.m2_session.declared.event.Effects.{Effects}
use Rattle.m2_journal.specs.m2_session.declared.event.Event.{Event}
use Rattle.m2_journal.specs.m2_session.declared.event.Event.TheVariants as event
use Rattle.m2_journal.specs.m2_session.declared.session.Phase.{Phase}
use Rattle.m2_journal.specs.m2_session.declared.session.Phase.TheVariants as phase
use Rattle.m2_journal.specs.m2_session.declared.session.Session.{Session}
use Rattle.m2_journal.specs.m2_session.Phases.{is}
use Rattle.m2_journal.specs.m2_session.Steps as step
use Rattle.m2_journal.specs.m2_session.Steps.{step_of, fault}
use Rattle.m2_journal.proofs.Eventful.{EventIsFine, each_is_fine}
use Rattle.m2_journal.proofs.Fed.{stands}
use Rattle.m2_journal.proofs.Growing.{after-append, lawful-append}
use Rattle.m2_journal.proofs.Sessions.{goes}
use Rattle.m2_journal.proofs.m2_lemmas.Booleans.{from_false_true}
use Rattle.m2_lives.specs.Lives.{LifeMessage}
use Rattle.m2_lives.specs.LivesLaws.{ArePiecesOf}
use Rattle.m2_lives.specs.LifeForLife.{DispatchedLifeForLife, accepted_at, in_front, life_for_life, sets_back}
use Rattle.m2_lives.specs.Observed.{handed_in_lives, heard_in_lives, into_first, stretches}
use Rattle.m2_lives.specs.ObservedRun.{with_key}
use Rattle.m2_lives.proofs.Bringing.{handed-append}
use Rattle.m2_lives.proofs.Delivered.{one}
use Rattle.m2_lives.proofs.Dividing.{cuts, joined}
use Rattle.m2_lives.proofs.Turns.{DoesAsTold, IsPlain, MovesMessages, Told, letters_by, moves_hand, moves_or_told, thrown_by}
use Rattle.m2_journal.proofs.m2_lemmas.Lists.{cons_same}

-- ---- a session that has lost its cookie

-- neither in Ready nor on the way to resume
abbrev IsOut : Phase → Type 0
IsOut phase.Ready = ⊥
IsOut phase.ReconnectSent = ⊥
IsOut _ = Unit {0}

abbrev IsLost : Session → Type 0
IsLost q = (q.server_cookie ≡ 0) × IsOut q.phase

out_by : (p : Phase) → p ≡ phase.Ready → IsOut p → ⊥
out_by p e h = subst IsOut e h

either_out : (b : Bool) → IsOut (if b then phase.Standby else phase.Wait)
either_out true = tt
either_out false = tt

fault_lost : (q : Session) (waits : Bool) → q.server_cookie ≡ 0 → ((fault q waits).0.server_cookie ≡ 0) × IsOut (fault q waits).0.phase
fault_lost q waits e = at q.policy.lossy q.policy.server (q.policy.standby && not waits)
  where
    at : (a b c : Bool) → let r : Session × Effects =
        if a then (record q { phase = phase.Absent; client_cookie = 0; server_cookie = 0 }, record step.closes { discard = true })
        else if b then (record q { phase = phase.Standby }, step.closes)
        else if c then (record q { phase = phase.Standby }, step.closes) else (record q { phase = phase.Wait }, step.closes) in
        (r.0.server_cookie ≡ 0) × IsOut r.0.phase
    at true b c = (refl, tt)
    at false true c = (e, tt)
    at false false true = (e, tt)
    at false false false = (e, tt)

-- it stays so until numbers are set back
lost_stays : (f : SideFacts) (q : Session) (o : Option Event) → EventIsFine f q o → sets_back o q ≡ false → IsLost q → IsLost (session.told q o)
lost_stays f q None fine none h = h
lost_stays f q (Some event.Dialled) fine none h = (h.0, tt)
lost_stays f q (Some (event.AskedIdent cookie)) fine none h = (h.0, tt)
lost_stays f q (Some event.AskedReconnect) fine none h = absurd (fine.fit h.0)
lost_stays f q (Some (event.GotServerIdent cookie global)) fine none h = from_false_true (sym none)
lost_stays f q (Some event.GotReconnectOk) fine none h = absurd (fine.fit h.0)
lost_stays f q (Some (event.GotReset true)) fine none h = from_false_true (sym none)
lost_stays f q (Some (event.GotReset false)) fine none h = from_false_true (sym none)
lost_stays f q (Some (event.GotRetry number)) fine none h = (h.0, tt)
lost_stays f q (Some (event.GotRetryGlobal number)) fine none h = (h.0, tt)
lost_stays f q (Some event.GotWait) fine none h = (h.0, tt)
lost_stays f q (Some (event.TookIdent full client server global)) fine none h = from_false_true (sym none)
lost_stays f q (Some (event.TookReconnect global connect)) fine none h = absurd (fine.fit h.0)
lost_stays f q (Some event.Pending) fine none h = (h.0, either_out (is q.phase phase.Standby))
lost_stays f q (Some (event.Faulted waits)) fine none h = fault_lost q waits h.0
lost_stays f q (Some event.MarkedDown) fine none h = from_false_true (sym none)

-- what throws messages away and sets nothing back loses the cookie
abbrev ThrowsOrNot : Session → Event → Type 0
ThrowsOrNot q e = let o = (step_of q e).effects in (o.remote_reset ≡ false) × ((o.discard ≡ false) ⊎ ((o.discard ≡ true) × IsLost (step_of q e).session))

fault_throws : (q : Session) (waits : Bool) → let r = fault q waits in (r.1.remote_reset ≡ false) × ((r.1.discard ≡ false) ⊎ ((r.1.discard ≡ true) × IsLost r.0))
fault_throws q waits = at q.policy.lossy q.policy.server (q.policy.standby && not waits)
  where
    at : (a b c : Bool) → let r : Session × Effects =
        if a then (record q { phase = phase.Absent; client_cookie = 0; server_cookie = 0 }, record step.closes { discard = true })
        else if b then (record q { phase = phase.Standby }, step.closes)
        else if c then (record q { phase = phase.Standby }, step.closes) else (record q { phase = phase.Wait }, step.closes) in
        (r.1.remote_reset ≡ false) × ((r.1.discard ≡ false) ⊎ ((r.1.discard ≡ true) × IsLost r.0))
    at true b c = (refl, inr (refl, (refl, tt)))
    at false true c = (refl, inl refl)
    at false false true = (refl, inl refl)
    at false false false = (refl, inl refl)

throws_or_not : (q : Session) (e : Event) → (step_of q e).effects.set_back ≡ false → ThrowsOrNot q e
throws_or_not q event.Dialled b = (refl, inl refl)
throws_or_not q (event.AskedIdent cookie) b = (refl, inl refl)
throws_or_not q event.AskedReconnect b = (refl, inl refl)
throws_or_not q (event.GotServerIdent cookie global) b = (refl, inl refl)
throws_or_not q event.GotReconnectOk b = (refl, inl refl)
throws_or_not q (event.GotReset true) b = from_false_true (sym b)
throws_or_not q (event.GotReset false) b = (refl, inl refl)
throws_or_not q (event.GotRetry number) b = (refl, inl refl)
throws_or_not q (event.GotRetryGlobal number) b = (refl, inl refl)
throws_or_not q event.GotWait b = (refl, inl refl)
throws_or_not q (event.TookIdent full client server global) b = from_false_true (sym b)
throws_or_not q (event.TookReconnect global connect) b = (refl, inl refl)
throws_or_not q event.Pending b = (refl, inl refl)
throws_or_not q (event.Faulted waits) b = fault_throws q waits
throws_or_not q event.MarkedDown b = from_false_true (sym b)

-- ---- what an entry hands on

-- messages alone
record HandsMessages (f : SideFacts) (i : JournalItem) (s : State) : Type 0 where
  none : sets_back (event_at f i s) s.session ≡ false
  deliveries : (after f i s).deliveries ≡ s.deliveries ++ letters_by i s

-- a life ends
record EndsALife (f : SideFacts) (i : JournalItem) (s : State) : Type 0 where
  back : sets_back (event_at f i s) s.session ≡ true
  thrown : Bool
  told : Bool
  deliveries : (after f i s).deliveries ≡ s.deliveries ++ thrown_by thrown told

-- messages are thrown away in the middle of one
record ThrowsAway (f : SideFacts) (i : JournalItem) (s : State) : Type 0 where
  none : sets_back (event_at f i s) s.session ≡ false
  plain : IsPlain i s
  deliveries : (after f i s).deliveries ≡ s.deliveries ++ state.discarded ∷ []
  lost : IsLost (after f i s).session

abbrev Hands : SideFacts → JournalItem → State → Type 0
Hands f i s = HandsMessages f i s ⊎ EndsALife f i s ⊎ ThrowsAway f i s

moves_none : (f : SideFacts) (i : JournalItem) (s : State) → MovesMessages i → sets_back (event_at f i s) s.session ≡ false
moves_none f (item.post place planned) s m = refl
moves_none f (item.numbered n) s m = refl
moves_none f (item.accepted n key) s m = refl
moves_none f (item.acked n) s m = refl
moves_none f (item.dial planned) s m = absurd m
moves_none f (item.opened k) s m = absurd m
moves_none f (item.read k bytes) s m = absurd m
moves_none f (item.wrote k bytes) s m = absurd m
moves_none f (item.closed k broken) s m = absurd m
moves_none f (item.judged k a n answer unread trail) s m = absurd m
moves_none f (item.asked ident n) s m = absurd m
moves_none f (item.obeyed full) s m = absurd m
moves_none f (item.down planned step) s m = absurd m

entry_hands : (f : SideFacts) (i : JournalItem) (s : State) → Hands f i s
entry_hands f i s = at (moves_or_told f s i)
  where
    t : State
    t = after f i s

    no_more : IsPlain i s → t.deliveries ≡ s.deliveries → t.deliveries ≡ s.deliveries ++ letters_by i s
    no_more p e = e ∙ sym (append-nil s.deliveries) ∙ ap (λ l. s.deliveries ++ l) (sym p.letters)

    by : (p : IsPlain i s) (o : Option Event) → event_at f i s ≡ o → Told o s.session s t → Hands f i s
    by p None e h = inl (record { none = ap (λ w. sets_back w s.session) e; deliveries = no_more p h.4 })
    by p (Some w) e h = flag (step_of s.session w).effects.set_back refl
      where
        thrown : Bool
        thrown = (step_of s.session w).effects.discard

        told : Bool
        told = (step_of s.session w).effects.remote_reset

        now : t.session ≡ (step_of s.session w).session
        now = goes f i s ∙ ap (session.told s.session) e

        flag : (b : Bool) → (step_of s.session w).effects.set_back ≡ b → Hands f i s
        flag true z = inr (inl (record { back = ap (λ o. sets_back o s.session) e ∙ z; thrown = thrown; told = told; deliveries = h.1 }))
        flag false z = kind (throws_or_not s.session w z)
          where
            none : sets_back (event_at f i s) s.session ≡ false
            none = ap (λ o. sets_back o s.session) e ∙ z

            kind : ThrowsOrNot s.session w → Hands f i s
            kind (quiet, inl kept) = inl (record { none = none; deliveries = no_more p (h.1 ∙ ap (λ x. s.deliveries ++ thrown_by x told) kept ∙ ap (λ x. s.deliveries ++ thrown_by false x) quiet ∙ append-nil s.deliveries) })
            kind (quiet, inr (away, lost)) = inr (inr (record {
              none = none;
              plain = p;
              deliveries = h.1 ∙ ap (λ x. s.deliveries ++ thrown_by x told) away ∙ ap (λ x. s.deliveries ++ thrown_by true x) quiet;
              lost = subst IsLost (sym now) lost;
            }))

    at : MovesMessages i ⊎ DoesAsTold f i s → Hands f i s
    at (inl m) = inl (record { none = moves_none f i s m; deliveries = moves_hand f s i m })
    at (inr d) = by d.plain (event_at f i s) refl d.told

-- what it accepts is what it hands on
accepted_is : (i : JournalItem) (s : State) → handed_in_lives (letters_by i s) ≡ accepted_at i s
accepted_is (item.accepted n key) s = at (brought_on s.last s.feed)
  where
    at : (ms : List Content) → handed_in_lives (map (λ m. state.letter n s.life key m) ms) ≡ map (λ m. one s.life key m) ms
    at [] = refl
    at (m ∷ ms) = ap (λ l. one s.life key m ∷ l) (at ms)
accepted_is (item.post place planned) s = refl
accepted_is (item.acked n) s = refl
accepted_is (item.dial planned) s = refl
accepted_is (item.opened k) s = refl
accepted_is (item.read k bytes) s = refl
accepted_is (item.wrote k bytes) s = refl
accepted_is (item.closed k broken) s = refl
accepted_is (item.judged k ask n answer unread trail) s = refl
accepted_is (item.asked ident n) s = refl
accepted_is (item.numbered n) s = refl
accepted_is (item.obeyed full) s = refl
accepted_is (item.down planned step) s = refl

-- ---- groups of lists

-- each is the lists of a group together, one group after the other
abbrev AreGroups : {X : Type 0} → List (List X) → List (List X) → Type 0
AreGroups [] ls = ls ≡ []
AreGroups {X} (s ∷ ss) ls = (front rest : List (List X)) × (ls ≡ front ++ rest) × (s ≡ joined front) × AreGroups ss rest

-- of which the first has one at least
record AreGrouped {X : Type 0} (ss ls : List (List X)) : Type 0 where
  first : List X
  more : List (List X)
  rest : List (List X)
  others : List (List X)
  lists : ls ≡ first ∷ (more ++ rest)
  stretched : ss ≡ (first ++ joined more) ∷ others
  grouped : AreGroups others rest

groups_of : {X : Type 0} (ss ls : List (List X)) → AreGrouped ss ls → AreGroups ss ls
groups_of ss ls h = subst (λ l. AreGroups l ls) (sym h.stretched) (h.first ∷ h.more, h.rest, h.lists, refl, h.grouped)

-- messages come in front of the first of both
grouped_front : (ss : List Delivery) (ls : List (List LifeMessage)) (n life : ℕ) (key : Key) (ms : List Content) → AreGrouped (stretches ss) ls →
    AreGrouped (stretches (map (λ m. state.letter n life key m) ms ++ ss)) (in_front (map (λ m. one life key m) ms) ls)
grouped_front ss ls n life key [] h = subst (AreGrouped (stretches ss)) (sym (ap (in_front []) h.lists ∙ sym h.lists)) h
grouped_front ss ls n life key (m ∷ ms) h =
    let it = grouped_front ss ls n life key ms h in
    let x = one life key m in
    let xs = map (λ c. one life key c) ms in
    record {
      first = x ∷ it.first;
      more = it.more;
      rest = it.rest;
      others = it.others;
      lists = front x xs ls it.first (it.more ++ it.rest) it.lists;
      stretched = ap (into_first x) it.stretched;
      grouped = it.grouped;
    }
  where
    front : (x : LifeMessage) (xs : List LifeMessage) (ks : List (List LifeMessage)) (l : List LifeMessage) (more : List (List LifeMessage)) → in_front xs ks ≡ l ∷ more → in_front (x ∷ xs) ks ≡ (x ∷ l) ∷ more
    front x xs [] l more q = let it = cons_same xs l [] more q in ap (λ z. (x ∷ z) ∷ []) it.0 ∙ ap (λ z. (x ∷ l) ∷ z) it.1
    front x xs (k ∷ ks) l more q = let it = cons_same (xs ++ k) l ks more q in ap (λ z. (x ∷ z) ∷ ks) it.0 ∙ ap (λ z. (x ∷ l) ∷ z) it.1

-- ---- from some state on

record Divides (f : SideFacts) (is : List JournalItem) (s : State) : Type 0 where
  handed : List Delivery
  deliveries : (after_items f is s).deliveries ≡ s.deliveries ++ handed
  grouped : AreGrouped (stretches handed) (life_for_life f is s)
  all : joined (life_for_life f is s) ≡ handed_in_lives handed
  -- where the cookie is lost, the life accepts nothing more
  lost : IsLost s.session → (rest : List (List LifeMessage)) × (life_for_life f is s ≡ [] ∷ rest)

joined_front : (xs : List LifeMessage) (ls : List (List LifeMessage)) → joined (in_front xs ls) ≡ xs ++ joined ls
joined_front xs [] = refl
joined_front xs (l ∷ ls) = append_assoc xs l (joined ls)

-- a life ends: what is behind is a stretch of its own, or not
grouped_anew : (thrown told : Bool) (ds : List Delivery) (ls : List (List LifeMessage)) → AreGrouped (stretches ds) ls → AreGrouped (stretches (thrown_by thrown told ++ ds)) ([] ∷ ls)
grouped_anew true told ds ls h = record { first = []; more = []; rest = ls; others = stretches ds; lists = refl; stretched = at told; grouped = groups_of (stretches ds) ls h }
  where
    at : (b : Bool) → stretches (thrown_by true b ++ ds) ≡ [] ∷ stretches ds
    at true = refl
    at false = refl
grouped_anew false told ds ls h = subst (λ l. AreGrouped l ([] ∷ ls)) (sym (at told)) (record { first = []; more = h.first ∷ h.more; rest = h.rest; others = h.others; lists = ap (λ l. [] ∷ l) h.lists; stretched = h.stretched; grouped = h.grouped })
  where
    at : (b : Bool) → stretches (thrown_by false b ++ ds) ≡ stretches ds
    at true = refl
    at false = refl

none_handed : (thrown told : Bool) (ds : List Delivery) → handed_in_lives (thrown_by thrown told ++ ds) ≡ handed_in_lives ds
none_handed true true ds = refl
none_handed true false ds = refl
none_handed false true ds = refl
none_handed false false ds = refl

-- the first life ends with a stretch of its own, since it accepts nothing more
grouped_thrown : (ds : List Delivery) (ls rest : List (List LifeMessage)) → ls ≡ [] ∷ rest → AreGrouped (stretches ds) ls → AreGrouped ([] ∷ stretches ds) ls
grouped_thrown ds ls rest e h =
    let it = cons_same h.first [] (h.more ++ h.rest) rest (sym h.lists ∙ e) in
    record {
      first = [];
      more = [];
      rest = rest;
      others = stretches ds;
      lists = e;
      stretched = refl;
      grouped = subst (λ l. AreGroups l rest) (sym h.stretched) (h.more, h.rest, sym it.1, ap (λ z. z ++ joined h.more) it.0, h.grouped);
    }

module _ (f : SideFacts) (before : List JournalItem) (law : AreLawful f before (start f)) (i : JournalItem) (is : List JournalItem) (lawful : Lawful f i (after_items f before (start f))) where
  abbrev s : State
  s = after_items f before (start f)

  abbrev t : State
  t = after f i s

  abbrev lives : List (List LifeMessage)
  lives = life_for_life f is t

  fine : EventIsFine f s.session (event_at f i s)
  fine = let h = stands f before law in each_is_fine f i s lawful h.keeps h.fed

  -- a record whose cookie is lost accepts nothing
  accepts_none : (j : JournalItem) → Lawful f j s → IsLost s.session → accepted_at j s ≡ []
  accepts_none (item.accepted n key) l lost = at s.feed l
    where
      at : (o : Option Feed) → OnFeedAt o (MayAccept f s n key) → accepted_at (item.accepted n key) s ≡ []
      at (Some d) may = absurd (out_by s.session.phase may.phase lost.1)
      at None may = absurd may
  accepts_none (item.post place planned) l lost = refl
  accepts_none (item.acked n) l lost = refl
  accepts_none (item.dial planned) l lost = refl
  accepts_none (item.opened k) l lost = refl
  accepts_none (item.read k bytes) l lost = refl
  accepts_none (item.wrote k bytes) l lost = refl
  accepts_none (item.closed k broken) l lost = refl
  accepts_none (item.judged k ask n answer unread trail) l lost = refl
  accepts_none (item.asked ident n) l lost = refl
  accepts_none (item.numbered n) l lost = refl
  accepts_none (item.obeyed full) l lost = refl
  accepts_none (item.down planned step) l lost = refl

  goes_on : sets_back (event_at f i s) s.session ≡ false → life_for_life f (i ∷ is) s ≡ in_front (accepted_at i s) lives
  goes_on none = ap (λ b. if b then [] ∷ lives else in_front (accepted_at i s) lives) none

  ends_so : sets_back (event_at f i s) s.session ≡ true → life_for_life f (i ∷ is) s ≡ [] ∷ lives
  ends_so back = ap (λ b. if b then [] ∷ lives else in_front (accepted_at i s) lives) back

  lost_on : sets_back (event_at f i s) s.session ≡ false → IsLost s.session → IsLost t.session
  lost_on none h = subst IsLost (sym (goes f i s)) (lost_stays f s.session (event_at f i s) fine none h)

  still_lost : Divides f is t → sets_back (event_at f i s) s.session ≡ false → IsLost s.session → (rest : List (List LifeMessage)) × (life_for_life f (i ∷ is) s ≡ [] ∷ rest)
  still_lost h none lost = let it = h.lost (lost_on none lost) in (it.0, goes_on none ∙ ap (λ l. in_front l lives) (accepts_none i lawful lost) ∙ ap (in_front []) it.1)

  none_front : (ds : List Delivery) → AreGrouped (stretches ds) lives → AreGrouped (stretches ds) (in_front [] lives)
  none_front ds h = subst (AreGrouped (stretches ds)) (sym (ap (in_front []) h.lists ∙ sym h.lists)) h

  messages_front : (j : JournalItem) (ds : List Delivery) → AreGrouped (stretches ds) lives → AreGrouped (stretches (letters_by j s ++ ds)) (in_front (accepted_at j s) lives)
  messages_front (item.accepted n key) ds h = grouped_front ds lives n s.life key (brought_on s.last s.feed) h
  messages_front (item.post place planned) ds h = none_front ds h
  messages_front (item.acked n) ds h = none_front ds h
  messages_front (item.dial planned) ds h = none_front ds h
  messages_front (item.opened k) ds h = none_front ds h
  messages_front (item.read k bytes) ds h = none_front ds h
  messages_front (item.wrote k bytes) ds h = none_front ds h
  messages_front (item.closed k broken) ds h = none_front ds h
  messages_front (item.judged k ask n answer unread trail) ds h = none_front ds h
  messages_front (item.asked ident n) ds h = none_front ds h
  messages_front (item.numbered n) ds h = none_front ds h
  messages_front (item.obeyed full) ds h = none_front ds h
  messages_front (item.down planned step) ds h = none_front ds h

  by_kind : Divides f is t → Hands f i s → Divides f (i ∷ is) s
  by_kind h (inl m) = record {
    handed = letters_by i s ++ h.handed;
    deliveries = h.deliveries ∙ ap (λ l. l ++ h.handed) m.deliveries ∙ append_assoc s.deliveries (letters_by i s) h.handed;
    grouped = subst (AreGrouped (stretches (letters_by i s ++ h.handed))) (sym (goes_on m.none)) (messages_front i h.handed h.grouped);
    all = ap joined (goes_on m.none) ∙ joined_front (accepted_at i s) lives ∙ ap (λ l. accepted_at i s ++ l) h.all ∙ ap (λ l. l ++ handed_in_lives h.handed) (sym (accepted_is i s)) ∙ sym (handed-append (letters_by i s) h.handed);
    lost = still_lost h m.none;
  }
  by_kind h (inr (inl m)) = record {
    handed = thrown_by m.thrown m.told ++ h.handed;
    deliveries = h.deliveries ∙ ap (λ l. l ++ h.handed) m.deliveries ∙ append_assoc s.deliveries (thrown_by m.thrown m.told) h.handed;
    grouped = subst (AreGrouped (stretches (thrown_by m.thrown m.told ++ h.handed))) (sym (ends_so m.back)) (grouped_anew m.thrown m.told h.handed lives h.grouped);
    all = ap joined (ends_so m.back) ∙ h.all ∙ sym (none_handed m.thrown m.told h.handed);
    lost = λ lost. (lives, ends_so m.back);
  }
  by_kind h (inr (inr m)) =
      let it = h.lost m.lost in
      let same : life_for_life f (i ∷ is) s ≡ lives = goes_on m.none ∙ ap (λ l. in_front l lives) (sym (accepted_is i s) ∙ ap handed_in_lives m.plain.letters) ∙ ap (in_front []) it.1 ∙ sym it.1 in
      record {
        handed = state.discarded ∷ h.handed;
        deliveries = h.deliveries ∙ ap (λ l. l ++ h.handed) m.deliveries ∙ append_assoc s.deliveries (state.discarded ∷ []) h.handed;
        grouped = subst (AreGrouped ([] ∷ stretches h.handed)) (sym same) (grouped_thrown h.handed lives it.0 it.1 h.grouped);
        all = ap joined same ∙ h.all;
        lost = still_lost h m.none;
      }

divides : (f : SideFacts) (is before : List JournalItem) → AreLawful f before (start f) → AreLawful f is (after_items f before (start f)) → Divides f is (after_items f before (start f))
divides f [] before law h = record {
  handed = [];
  deliveries = sym (append-nil (after_items f before (start f)).deliveries);
  grouped = record { first = []; more = []; rest = []; others = []; lists = refl; stretched = refl; grouped = refl };
  all = refl;
  lost = λ lost. ([], refl);
}
divides f (i ∷ is) before law h =
    let s = after_items f before (start f) in
    let on = after-append f before (i ∷ []) (start f) in
    let rest = divides f is (before ++ i ∷ []) (lawful-append f before (i ∷ []) (start f) law (h.0, tt)) (subst (AreLawful f is) (sym on) h.1) in
    by_kind f before law i is h.0 (subst (Divides f is) on rest) (entry_hands f i s)

-- ---- pieces

group_pieces : (cut : List LifeMessage → List LifeMessage) → cut [] ≡ [] → ((xs ys : List LifeMessage) → cut (xs ++ ys) ≡ cut xs ++ cut ys) → (ss ls : List (List LifeMessage)) (given : List LifeMessage) → AreGroups ss ls →
    ArePiecesOf given (map cut ss) → ArePiecesOf given (map cut ls)
group_pieces cut none alike [] ls given h p = subst (λ l. ArePiecesOf given (map cut l)) (sym h) p
group_pieces cut none alike (s ∷ ss) ls given (front, rest, e, g, more) (piece, behind, left, q, k, p) =
    subst (λ l. ArePiecesOf given (map cut l)) (sym e)
    (subst (ArePiecesOf given) (sym (map-append cut front rest))
    (subst (λ l. ArePiecesOf l (map cut front ++ map cut rest)) (sym q)
    (cuts cut none alike (λ l. l) front (map cut rest) piece left behind (sym (ap cut g) ∙ k) (group_pieces cut none alike ss rest behind more p))))

pub dispatched_so : DispatchedLifeForLife
dispatched_so f is peer logs law log =
    let it = divides f is [] tt law in
    record {
      all = it.all ∙ ap handed_in_lives (sym it.deliveries);
      pieces = λ key. group_pieces (with_key key) refl (filter-append (λ (x : LifeMessage). is_key x.message.key key)) (stretches it.handed) (life_for_life f is (start f)) (with_key key (heard_in_lives peer (all_of logs)))
          (groups_of (stretches it.handed) (life_for_life f is (start f)) it.grouped)
          (subst (λ ds. ArePiecesOf (with_key key (heard_in_lives peer (all_of logs))) (map (with_key key) (stretches ds))) it.deliveries (log key));
    }
