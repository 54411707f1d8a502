-- Runs of the channel with lives: what holds wherever they lead.
use Rattle.std.proofs.Common.{◌≡◌, ℕ, ◌+◌, ◌<◌, ◌≤◌, ◌⊎◌, inl, inr, Bool, true, false, ◌==◌, if◌then◌else◌, List, [], ◌∷◌, ◌++◌, length, length-append, map, refl, sym, ap, subst, ◌∙◌, arith, append-nil, le_refl}
use Rattle.std.specs.List.{AllByRecursion}
use Rattle.std.proofs.lemmas.List.{map-append}
use Rattle.std.proofs.lemmas.Bool.{eqb-true}
use Rattle.m2_channel.specs.Channel.{KeyedMessage, of_key, keyed}
use Rattle.m2_channel.specs.m2_dispatch.Heard.{is_key}
use Rattle.m2_channel.specs.m2_dispatch.m2_message.Message.{Content, unnumbered}
use Rattle.m2_channel.specs.m2_dispatch.m2_policy.declared.path.Key.{Key}
use Rattle.m2_channel.proofs.Keys.{same_key, of_key-append}
use Rattle.m2_channel.proofs.m2_never_reset.m2_journal.m2_lemmas.Lists.{all_front, all_back, all_append, all_last, all_so_of, all_map}
use Rattle.m2_lives.specs.Lives.{Counts, none, one_more, SendingLife, ReceivingLife, LivesChannel, new_lives, sending_lives, receiving_lives, Has, IsNewName, Holds, HasAccepted, MayBeAccepted, MayBeAcknowledged, MayBeDispatched, LivesStep, post, begins_sending, begins_receiving, accept, acknowledge, dispatch, mark, reset, IsLawfulInLives, next_life, one_dispatched, changed_in_lives, after_in_lives, IsRunOfLives}
use Rattle.m2_lives.specs.LivesLaws.{AreNames, IsWithin, IsHeldBy, HasSeen, IsOrderedInLives, RunsKeepLives}
use Rattle.m2_lives.proofs.Among.{has_so, has_front, has_back, has_last, has_map, names_last, names_map, names_more, only_last, all_named}

abbrev pub sending_name : SendingLife → ℕ
sending_name l = l.name

abbrev pub receiving_name : ReceivingLife → ℕ
receiving_name l = l.name

abbrev pub count_of : List KeyedMessage → Counts
count_of ms = λ key. length (of_key key ms)

-- ---- counts

pub one_more_is : (key other : Key) (m : Content) (ms : List KeyedMessage) (n : ℕ) → n ≡ length (of_key other ms) →
    (if is_key key other then n + 1 else n) ≡ length (of_key other (ms ++ keyed key m ∷ []))
one_more_is key other m ms n e = at (is_key key other) ∙ ap length (sym (of_key-append other ms (keyed key m ∷ [])))
  where
    at : (b : Bool) → (if b then n + 1 else n) ≡ length (of_key other ms ++ (if b then unnumbered m ∷ [] else []))
    at true = ap (λ k. k + 1) e ∙ sym (length-append (of_key other ms) (unnumbered m ∷ []))
    at false = e ∙ ap length (sym (append-nil (of_key other ms)))

more_of_key : (other : Key) (ms more : List KeyedMessage) → length (of_key other ms) ≤ length (of_key other (ms ++ more))
more_of_key other ms more =
    let e = ap length (of_key-append other ms more) in let l = length-append (of_key other ms) (of_key other more) in omega (arith, e, l)

no_less : (key other : Key) (n : ℕ) → n ≤ one_more key (λ k. n) other
no_less key other n = at (is_key key other)
  where
    at : (b : Bool) → n ≤ (if b then n + 1 else n)
    at true = omega arith
    at false = omega arith

-- ---- the parts of a state

abbrev IsAccepted : List SendingLife → ReceivingLife → Type 0
IsAccepted lives l = (key : Key) → (l.accepted key ≡ 0) ⊎ Has (IsHeldBy key l) lives

abbrev IsSeen : List ReceivingLife → SendingLife → Type 0
IsSeen lives s = (key : Key) → (s.acknowledged key ≡ 0) ⊎ Has (HasSeen key s) lives

abbrev IsDispatched : ReceivingLife → Type 0
IsDispatched l = (key : Key) → l.dispatched key ≤ l.accepted key

either : {A B C : Type 0} → (B → C) → A ⊎ B → A ⊎ C
either so (inl a) = inl a
either so (inr b) = inr (so b)

-- what holds of the last one
pub last_of : {X : Type 0} (P : X → Type 0) (xs : List X) (x : X) → AllByRecursion P (xs ++ x ∷ []) → P x
last_of P xs x h = (all_back P xs (x ∷ []) h).0

-- the last one is another
pub all_last_so : {X : Type 0} (P Q : X → Type 0) (xs : List X) (x y : X) → ((z : X) → P z → Q z) → (P x → Q y) → AllByRecursion P (xs ++ x ∷ []) → AllByRecursion Q (xs ++ y ∷ [])
all_last_so P Q xs x y so last h =
    all_append Q xs (y ∷ []) (all_so_of P Q xs so (all_front P xs (x ∷ []) h)) (last (last_of P xs x h), tt)

-- ---- each step

posts_so : (key : Key) (m : Content) (c : LivesChannel) → IsOrderedInLives c → IsOrderedInLives (changed_in_lives (post key m) c)
posts_so key m c h = record {
  sending_names = subst AreNames (names_last sending_name c.sent c.sends sends refl) h.sending_names;
  receiving_names = h.receiving_names;
  end = end;
  within = all_last_so (IsWithin (count_of c.posted)) (IsWithin (count_of posted)) c.sent c.sends sends
      (λ l w. record { acknowledged = w.acknowledged; end = λ other. further (l.end other) (w.end other) (more_of_key other c.posted (keyed key m ∷ [])) })
      (λ w. record { acknowledged = λ other. longer other (w.acknowledged other); end = λ other. equal (end other) })
      h.within;
  accepted = all_so_of (IsAccepted (sending_lives c)) (IsAccepted (c.sent ++ sends ∷ [])) (receiving_lives c)
      (λ l a other. either (has_last (IsHeldBy other l) c.sent c.sends sends (λ p. (p.0, longer other p.1))) (a other)) h.accepted;
  dispatched = h.dispatched;
  acknowledged = all_last_so (IsSeen (receiving_lives c)) (IsSeen (receiving_lives c)) c.sent c.sends sends (λ s p. p) (λ p. p) h.acknowledged;
}
  where
    posted : List KeyedMessage
    posted = c.posted ++ keyed key m ∷ []

    sends : SendingLife
    sends = record c.sends { end = one_more key c.sends.end }

    end : (other : Key) → one_more key c.sends.end other ≡ length (of_key other posted)
    end other = one_more_is key other m c.posted (c.sends.end other) (h.end other)

    further : (n : ℕ) {k l : ℕ} → n ≤ k → k ≤ l → n ≤ l
    further n a b = omega (arith, a, b)

    equal : {k l : ℕ} → k ≡ l → k ≤ l
    equal e = omega (arith, e)

    longer : (other : Key) {n : ℕ} → n ≤ c.sends.end other → n ≤ one_more key c.sends.end other
    longer other {n} a = at (is_key key other)
      where
        at : (b : Bool) → n ≤ (if b then c.sends.end other + 1 else c.sends.end other)
        at true = omega (arith, a)
        at false = a

begins_sending_so : (name : ℕ) (thrown : Bool) (c : LivesChannel) → IsNewName name (map sending_name (sending_lives c)) → IsOrderedInLives c →
    IsOrderedInLives (changed_in_lives (begins_sending name thrown) c)
begins_sending_so name thrown c new h = record {
  sending_names = subst AreNames (sym (map-append sending_name (sending_lives c) (sends ∷ []))) (names_more (map sending_name (sending_lives c)) name h.sending_names new);
  receiving_names = h.receiving_names;
  end = h.end;
  within = all_last (IsWithin (count_of c.posted)) (sending_lives c) sends h.within (record { acknowledged = λ key. begins key thrown; end = λ key. equal (h.end key) });
  accepted = all_so_of (IsAccepted (sending_lives c)) (IsAccepted (sending_lives c ++ sends ∷ [])) (receiving_lives c)
      (λ l a key. either (has_front (IsHeldBy key l) (sending_lives c) (sends ∷ [])) (a key)) h.accepted;
  dispatched = h.dispatched;
  acknowledged = all_last (IsSeen (receiving_lives c)) (sending_lives c) sends h.acknowledged (λ key. inl refl);
}
  where
    sends : SendingLife
    sends = next_life c.sends name thrown

    equal : {k l : ℕ} → k ≡ l → k ≤ l
    equal e = omega (arith, e)

    begins : (key : Key) (b : Bool) → (if b then c.sends.end key else c.sends.start key + c.sends.acknowledged key) + 0 ≤ c.sends.end key
    begins key true = omega arith
    begins key false = let w = (last_of (IsWithin (count_of c.posted)) c.sent c.sends h.within).acknowledged key in omega (arith, w)

begins_receiving_so : (name : ℕ) (c : LivesChannel) → IsNewName name (map receiving_name (receiving_lives c)) → IsOrderedInLives c →
    IsOrderedInLives (changed_in_lives (begins_receiving name) c)
begins_receiving_so name c new h = record {
  sending_names = h.sending_names;
  receiving_names = subst AreNames (sym (map-append receiving_name (receiving_lives c) (receives ∷ []))) (names_more (map receiving_name (receiving_lives c)) name h.receiving_names new);
  end = h.end;
  within = h.within;
  accepted = all_last (IsAccepted (sending_lives c)) (receiving_lives c) receives h.accepted (λ key. inl refl);
  dispatched = all_last IsDispatched (receiving_lives c) receives h.dispatched (λ key. le_refl 0);
  acknowledged = all_so_of (IsSeen (receiving_lives c)) (IsSeen (receiving_lives c ++ receives ∷ [])) (sending_lives c)
      (λ s a key. either (has_front (HasSeen key s) (receiving_lives c) (receives ∷ [])) (a key)) h.acknowledged;
}
  where
    receives : ReceivingLife
    receives = record { name = name; accepted = none; dispatched = none }

accepts_so : (key : Key) (m : Content) (c : LivesChannel) → MayBeAccepted key m c → IsOrderedInLives c → IsOrderedInLives (changed_in_lives (accept key m) c)
accepts_so key m c may h = record {
  sending_names = h.sending_names;
  receiving_names = subst AreNames (names_last receiving_name c.received c.receives receives refl) h.receiving_names;
  end = h.end;
  within = h.within;
  accepted = all_last_so (IsAccepted (sending_lives c)) (IsAccepted (sending_lives c)) c.received c.receives receives (λ l a. a)
      (λ a other. one (is_key key other) (λ e. same_key key other e) (a other)) h.accepted;
  dispatched = all_last_so IsDispatched IsDispatched c.received c.receives receives (λ l a. a) (λ a other. longer other (a other)) h.dispatched;
  acknowledged = all_so_of (IsSeen (receiving_lives c)) (IsSeen (c.received ++ receives ∷ [])) (sending_lives c)
      (λ s a other. either (has_last (HasSeen other s) c.received c.receives receives (λ p. (p.0, longer other p.1))) (a other)) h.acknowledged;
}
  where
    receives : ReceivingLife
    receives = record c.receives { accepted = one_more key c.receives.accepted }

    longer : (other : Key) {n : ℕ} → n ≤ c.receives.accepted other → n ≤ one_more key c.receives.accepted other
    longer other {n} a = at (is_key key other)
      where
        at : (b : Bool) → n ≤ (if b then c.receives.accepted other + 1 else c.receives.accepted other)
        at true = omega (arith, a)
        at false = a

    held : Has (λ (s : SendingLife). (s.name ≡ c.receives.name) × (s.start key + (c.receives.accepted key + 1) ≤ s.end key)) (sending_lives c)
    held = has_so (Holds c.receives.name key m (c.receives.accepted key) c.posted) _ (λ s p. (p.named, one_behind s (c.receives.accepted key) p.below)) (sending_lives c) may.held
      where
        one_behind : (s : SendingLife) (n : ℕ) → s.start key + n < s.end key → s.start key + (n + 1) ≤ s.end key
        one_behind s n b = omega (arith, b)

    one : {other : Key} (b : Bool) → (b ≡ true → key ≡ other) → (c.receives.accepted other ≡ 0) ⊎ Has (IsHeldBy other c.receives) (sending_lives c) →
        let n = (if b then c.receives.accepted other + 1 else c.receives.accepted other) in
        (n ≡ 0) ⊎ Has (λ (s : SendingLife). (s.name ≡ c.receives.name) × (s.start other + n ≤ s.end other)) (sending_lives c)
    one {other} true e a =
        inr (subst (λ k. Has (λ (s : SendingLife). (s.name ≡ c.receives.name) × (s.start k + (c.receives.accepted k + 1) ≤ s.end k)) (sending_lives c)) (e refl) held)
    one {other} false e a = a

acknowledges_so : (key : Key) (c : LivesChannel) → MayBeAcknowledged key c → IsOrderedInLives c → IsOrderedInLives (changed_in_lives (acknowledge key) c)
acknowledges_so key c may h = record {
  sending_names = subst AreNames (names_last sending_name c.sent c.sends sends refl) h.sending_names;
  receiving_names = h.receiving_names;
  end = h.end;
  within = all_last_so (IsWithin (count_of c.posted)) (IsWithin (count_of c.posted)) c.sent c.sends sends (λ l w. w)
      (λ w. record { acknowledged = λ other. inside other (is_key key other) (λ e. same_key key other e) (w.acknowledged other); end = w.end }) h.within;
  accepted = all_so_of (IsAccepted (sending_lives c)) (IsAccepted (c.sent ++ sends ∷ [])) (receiving_lives c)
      (λ l a other. either (has_last (IsHeldBy other l) c.sent c.sends sends (λ p. p)) (a other)) h.accepted;
  dispatched = h.dispatched;
  acknowledged = all_last_so (IsSeen (receiving_lives c)) (IsSeen (receiving_lives c)) c.sent c.sends sends (λ s p. p)
      (λ p other. one other (is_key key other) (λ e. same_key key other e) (p other)) h.acknowledged;
}
  where
    sends : SendingLife
    sends = record c.sends { acknowledged = one_more key c.sends.acknowledged }

    -- the receiving life that has accepted more, and so what the current sending life holds
    within_end : (lives : List ReceivingLife) → AllByRecursion (IsAccepted (sending_lives c)) lives → Has (HasAccepted c.sends.name key (c.sends.acknowledged key)) lives →
        c.sends.start key + (c.sends.acknowledged key + 1) ≤ c.sends.end key
    within_end [] all has = absurd has
    within_end (l ∷ lives) all (inr has) = within_end lives all.1 has
    within_end (l ∷ lives) all (inl p) = at (all.0 key)
      where
        far_enough : (n k s e : ℕ) → n < k → s + k ≤ e → s + (n + 1) ≤ e
        far_enough n k s e a b = omega (arith, a, b)

        nothing : (n k : ℕ) → n < k → k ≡ 0 → ⊥
        nothing n k a b = omega (arith, a, b)

        at : (l.accepted key ≡ 0) ⊎ Has (IsHeldBy key l) (sending_lives c) → c.sends.start key + (c.sends.acknowledged key + 1) ≤ c.sends.end key
        at (inl z) = absurd (nothing (c.sends.acknowledged key) (l.accepted key) p.1 z)
        at (inr held) =
            far_enough (c.sends.acknowledged key) (l.accepted key) (c.sends.start key) (c.sends.end key) p.1
            (only_last sending_name (IsHeldBy key l) c.sent c.sends may.kept h.sending_names (λ s q. q.0 ∙ p.0) held).1

    inside : (other : Key) (b : Bool) → (b ≡ true → key ≡ other) → c.sends.start other + c.sends.acknowledged other ≤ c.sends.end other →
        c.sends.start other + (if b then c.sends.acknowledged other + 1 else c.sends.acknowledged other) ≤ c.sends.end other
    inside other true e w = subst (λ k. c.sends.start k + (c.sends.acknowledged k + 1) ≤ c.sends.end k) (e refl) (within_end (receiving_lives c) h.accepted may.accepted)
    inside other false e w = w

    one : (other : Key) (b : Bool) → (b ≡ true → key ≡ other) → (c.sends.acknowledged other ≡ 0) ⊎ Has (HasSeen other c.sends) (receiving_lives c) →
        let n = (if b then c.sends.acknowledged other + 1 else c.sends.acknowledged other) in
        (n ≡ 0) ⊎ Has (λ (l : ReceivingLife). (l.name ≡ c.sends.name) × (n ≤ l.accepted other)) (receiving_lives c)
    one other true e a =
        inr (subst (λ k. Has (λ (l : ReceivingLife). (l.name ≡ c.sends.name) × (c.sends.acknowledged k + 1 ≤ l.accepted k)) (receiving_lives c)) (e refl)
        (has_so (HasAccepted c.sends.name key (c.sends.acknowledged key)) _ (λ l p. (p.0, above (c.sends.acknowledged key) (l.accepted key) p.1)) (receiving_lives c) may.accepted))
      where
        above : (n k : ℕ) → n < k → n + 1 ≤ k
        above n k a = omega (arith, a)
    one other false e a = a

-- ---- a dispatch

pub one_name : (name : ℕ) (key : Key) (l : ReceivingLife) → (one_dispatched name key l).name ≡ l.name
one_name name key l = at (l.name == name)
  where
    at : (b : Bool) → (if b then record l { dispatched = one_more key l.dispatched } else l).name ≡ l.name
    at true = refl
    at false = refl

one_accepts : (name : ℕ) (key : Key) (l : ReceivingLife) → (one_dispatched name key l).accepted ≡ l.accepted
one_accepts name key l = at (l.name == name)
  where
    at : (b : Bool) → (if b then record l { dispatched = one_more key l.dispatched } else l).accepted ≡ l.accepted
    at true = refl
    at false = refl

dispatches_so : (name : ℕ) (key : Key) (m : Content) (c : LivesChannel) → MayBeDispatched name key m c → IsOrderedInLives c → IsOrderedInLives (changed_in_lives (dispatch name key m) c)
dispatches_so name key m c may h = record {
  sending_names = h.sending_names;
  receiving_names = subst (λ l. AreNames (map receiving_name l)) mapped (subst AreNames (sym (names_map receiving_name f (one_name name key) (receiving_lives c))) h.receiving_names);
  end = h.end;
  within = h.within;
  accepted = subst (AllByRecursion (IsAccepted (sending_lives c))) mapped
      (all_map (IsAccepted (sending_lives c)) f (receiving_lives c) (all_so_of (IsAccepted (sending_lives c)) (λ l. IsAccepted (sending_lives c) (f l)) (receiving_lives c) still h.accepted));
  dispatched = subst (AllByRecursion IsDispatched) mapped (all_map IsDispatched f (receiving_lives c) (each (receiving_lives c) h.dispatched one_of));
  acknowledged = all_so_of (IsSeen (receiving_lives c)) (IsSeen (map f c.received ++ f c.receives ∷ [])) (sending_lives c)
      (λ s a other. either (λ p. subst (Has (HasSeen other s)) mapped (has_map (HasSeen other s) f (seen other s) (receiving_lives c) p)) (a other)) h.acknowledged;
}
  where
    f : ReceivingLife → ReceivingLife
    f = one_dispatched name key

    mapped : map f (receiving_lives c) ≡ map f c.received ++ f c.receives ∷ []
    mapped = map-append f c.received (c.receives ∷ [])

    still : (l : ReceivingLife) → IsAccepted (sending_lives c) l → IsAccepted (sending_lives c) (f l)
    still l a other = at (l.name == name)
      where
        at : (b : Bool) → let k : ReceivingLife = if b then record l { dispatched = one_more key l.dispatched } else l in
            (k.accepted other ≡ 0) ⊎ Has (IsHeldBy other k) (sending_lives c)
        at true = a other
        at false = a other

    seen : (other : Key) (s : SendingLife) (l : ReceivingLife) → HasSeen other s l → HasSeen other s (f l)
    seen other s l p = (one_name name key l ∙ p.0, subst (λ n. s.acknowledged other ≤ n other) (sym (one_accepts name key l)) p.1)

    -- each life of the name has accepted more of the key than is dispatched
    one_of : AllByRecursion (λ (l : ReceivingLife). l.name ≡ name → l.dispatched key < l.accepted key) (receiving_lives c)
    one_of = all_named receiving_name (λ (l : ReceivingLife). l.dispatched key < l.accepted key) name (receiving_lives c) may.kept h.receiving_names
        (subst (Has (λ (l : ReceivingLife). (l.name ≡ name) × (l.dispatched key < l.accepted key))) (sym may.lives) (has_back _ may.before (may.life ∷ may.later) (inl (may.named, may.accepted))))

    each : (lives : List ReceivingLife) → AllByRecursion IsDispatched lives → AllByRecursion (λ (l : ReceivingLife). l.name ≡ name → l.dispatched key < l.accepted key) lives →
        AllByRecursion (λ l. IsDispatched (f l)) lives
    each [] all some = tt
    each (l ∷ lives) all some = (λ other. at (l.name == name) (λ e. some.0 (eqb-true l.name name e)) other, each lives all.1 some.1)
      where
        more : (other : Key) (b : Bool) → (b ≡ true → key ≡ other) → l.dispatched key < l.accepted key → (if b then l.dispatched other + 1 else l.dispatched other) ≤ l.accepted other
        more other true e p = subst (λ k. l.dispatched k + 1 ≤ l.accepted k) (e refl) (omega (arith, p))
        more other false e p = all.0 other

        at : (b : Bool) → (b ≡ true → l.dispatched key < l.accepted key) → (other : Key) → let k : ReceivingLife = if b then record l { dispatched = one_more key l.dispatched } else l in k.dispatched other ≤ k.accepted other
        at true p other = more other (is_key key other) (λ e. same_key key other e) (p refl)
        at false p other = all.0 other

-- ---- runs

pub changes_so : (x : LivesStep) (c : LivesChannel) → IsOrderedInLives c → IsLawfulInLives x c → IsOrderedInLives (changed_in_lives x c)
changes_so (post key m) c h may = posts_so key m c h
changes_so (begins_sending name thrown) c h may = begins_sending_so name thrown c may h
changes_so (begins_receiving name) c h may = begins_receiving_so name c may h
changes_so (accept key m) c h may = accepts_so key m c may h
changes_so (acknowledge key) c h may = acknowledges_so key c may h
changes_so (dispatch name key m) c h may = dispatches_so name key m c may h
changes_so mark c h may = record {
  sending_names = h.sending_names;
  receiving_names = h.receiving_names;
  end = h.end;
  within = h.within;
  accepted = h.accepted;
  dispatched = h.dispatched;
  acknowledged = h.acknowledged;
}
changes_so reset c h may = h

runs_so : (xs : List LivesStep) (c : LivesChannel) → IsOrderedInLives c → IsRunOfLives xs c → IsOrderedInLives (after_in_lives xs c)
runs_so [] c h run = h
runs_so (x ∷ xs) c h run = runs_so xs (changed_in_lives x c) (changes_so x c h run.0) run.1

pub new_so : IsOrderedInLives new_lives
new_so = record {
  sending_names = (inl refl, tt);
  receiving_names = (inl refl, tt);
  end = λ key. refl;
  within = (record { acknowledged = λ key. le_refl 0; end = λ key. le_refl 0 }, tt);
  accepted = (λ key. inl refl, tt);
  dispatched = (λ key. le_refl 0, tt);
  acknowledged = (λ key. inl refl, tt);
}

pub keep_lives : RunsKeepLives
keep_lives xs run = runs_so xs new_lives new_so run
