-- Where the channel with lives stands by what both sides have done so far, and that each step which an entry shows may be taken there
-- and leads to where it stands behind the entry.
use Rattle.std.proofs.Common.{◌≡◌, ◌≢◌, ℕ, ◌+◌, ◌<◌, ◌≤◌, ◌⊎◌, inl, inr, Bool, true, false, ◌==◌, if◌then◌else◌, List, [], ◌∷◌, ◌++◌, length, length-append, map, Some, refl, sym, ap, subst, ◌∙◌, arith, append-nil, append_assoc}
use Rattle.std.specs.Prelude.{slice_get}
use Rattle.std.specs.List.{AllByRecursion, filter}
use Rattle.std.proofs.lemmas.Bool.{eqb-true, eq-eqb}
use Rattle.std.proofs.lemmas.List.{map-append}
use Rattle.m2_channel.specs.Channel.{KeyedMessage, of_key, keyed}
use Rattle.m2_channel.specs.ObservedLaws.{posted_to}
use Rattle.m2_channel.specs.m2_dispatch.Heard.{is_key}
use Rattle.m2_channel.proofs.Keys.{key_self}
use Rattle.m2_channel.proofs.Through.{posted_keys}
use Rattle.m2_journal.specs.Lawful.{key_of}
use Rattle.m2_journal.specs.SideFacts.{SideFacts}
use Rattle.m2_journal.specs.m2_message.Message.{Content, unnumbered}
use Rattle.m2_journal.specs.m2_policy.declared.path.Key.{Key}
use Rattle.m2_journal.proofs.m2_lemmas.Booleans.{from_false_true}
use Rattle.m2_journal.proofs.m2_lemmas.Lists.{all_append, all_back, all_front, all_last}
use Rattle.m2_never_reset.specs.Order.{AreFirstOf}
use Rattle.m2_never_reset.specs.Orders as orders
use Rattle.m2_lives.specs.Lives.{none, one_more, ReceivingLife, LivesChannel, sending_lives, receiving_lives, Has, IsNewName, Holds, HasAccepted, MayBeAccepted, MayBeAcknowledged, LivesStep, post, begins_sending, begins_receiving, accept, acknowledge, dispatch, mark, reset, IsLawfulInLives, changed_in_lives, after_in_lives, LifeMessage, of_life, acceptances_from}
use Rattle.m2_lives.specs.LivesLaws.{AreNames}
use Rattle.m2_lives.specs.ObservedLaws.{NumberedLife}
use Rattle.m2_lives.specs.ObservedRun.{count_of_key}
use Rattle.m2_lives.proofs.Among.{none_or_some, has_so}
use Rattle.m2_lives.proofs.Backing.{Backs, AreBacked, backed_has, backed_last, backed_more, backed_names, count-append, count_unnumbered, first_backed, get_next, key-append}
use Rattle.m2_lives.proofs.Delivered.{told, one, told_more, of_another, of_its_own}
use Rattle.m2_lives.proofs.Runs.{one_more_is, one_name, receiving_name, sending_name}

-- ---- names

-- one of them is it, or none
pub among_or_not : (n : ℕ) (ns : List ℕ) → Has (λ k. k ≡ n) ns ⊎ AllByRecursion (λ k. k ≢ n) ns
among_or_not n [] = inr tt
among_or_not n (k ∷ ns) = at (k == n) refl (among_or_not n ns)
  where
    at : (b : Bool) → (k == n) ≡ b → Has (λ i. i ≡ n) ns ⊎ AllByRecursion (λ i. i ≢ n) ns → Has (λ i. i ≡ n) (k ∷ ns) ⊎ AllByRecursion (λ i. i ≢ n) (k ∷ ns)
    at true e rest = inl (inl (eqb-true k n e))
    at false e (inl h) = inl (inr h)
    at false e (inr all) = inr (λ z. from_false_true (sym e ∙ eq-eqb k n z), all)

-- the last one is new
pub last_is_new : (ns : List ℕ) (m : ℕ) → AreNames (ns ++ m ∷ []) → IsNewName m ns
last_is_new ns m h = at (none_or_some m)
  where
    apart : (ks : List ℕ) → m ≢ 0 → AreNames (ks ++ m ∷ []) → AllByRecursion (λ k. k ≢ m) ks
    apart [] some a = tt
    apart (k ∷ ks) some a = (by a.0, apart ks some a.1)
      where
        by : IsNewName k (ks ++ m ∷ []) → k ≢ m
        by (inl z) = λ e. some (sym e ∙ z)
        by (inr all) = λ e. (all_back (λ i. i ≢ k) ks (m ∷ []) all).0 (sym e)

    at : (m ≡ 0) ⊎ (m ≢ 0) → IsNewName m ns
    at (inl z) = inl z
    at (inr some) = inr (apart ns some h)

-- one of a list whose name is so
pub has_of_map : {X Y : Type 0} (f : X → Y) (P : Y → Type 0) (Q : X → Type 0) (xs : List X) → Has P (map f xs) → AllByRecursion Q xs → Has (λ x. P (f x) × Q x) xs
has_of_map f P Q [] h all = h
has_of_map f P Q (x ∷ xs) (inl p) all = inl (p, all.0)
has_of_map f P Q (x ∷ xs) (inr h) all = inr (has_of_map f P Q xs h all.1)

-- ---- steps, of which a reset may always be taken

abbrev pub MayStep : LivesStep → LivesChannel → Type 0
MayStep (post key m) c = Unit {0}
MayStep (begins_sending name thrown) c = IsNewName name (map sending_name (sending_lives c))
MayStep (begins_receiving name) c = IsNewName name (map receiving_name (receiving_lives c))
MayStep (accept key m) c = MayBeAccepted key m c
MayStep (acknowledge key) c = MayBeAcknowledged key c
MayStep (dispatch name key m) c = IsLawfulInLives (dispatch name key m) c
MayStep mark c = Unit {0}
MayStep reset c = Unit {0}

abbrev pub AreSteps : List LivesStep → LivesChannel → Type 0
AreSteps [] c = Unit {0}
AreSteps (x ∷ xs) c = MayStep x c × AreSteps xs (changed_in_lives x c)

pub after_append : (xs ys : List LivesStep) (c : LivesChannel) → after_in_lives (xs ++ ys) c ≡ after_in_lives ys (after_in_lives xs c)
after_append [] ys c = refl
after_append (x ∷ xs) ys c = after_append xs ys (changed_in_lives x c)

pub steps_append : (xs ys : List LivesStep) (c : LivesChannel) → AreSteps xs c → AreSteps ys (after_in_lives xs c) → AreSteps (xs ++ ys) c
steps_append [] ys c h k = k
steps_append (x ∷ xs) ys c h k = (h.0, steps_append xs ys (changed_in_lives x c) h.1 k)

pub acceptances_append : (xs ys : List LivesStep) (c : LivesChannel) → acceptances_from c.receives.name (xs ++ ys) ≡ acceptances_from c.receives.name xs ++ acceptances_from (after_in_lives xs c).receives.name ys
acceptances_append [] ys c = refl
acceptances_append (post key m ∷ xs) ys c = acceptances_append xs ys (changed_in_lives (post key m) c)
acceptances_append (begins_sending name thrown ∷ xs) ys c = acceptances_append xs ys (changed_in_lives (begins_sending name thrown) c)
acceptances_append (begins_receiving name ∷ xs) ys c = acceptances_append xs ys (changed_in_lives (begins_receiving name) c)
acceptances_append (accept key m ∷ xs) ys c = ap (λ l. one c.receives.name key m ∷ l) (acceptances_append xs ys (changed_in_lives (accept key m) c))
acceptances_append (acknowledge key ∷ xs) ys c = acceptances_append xs ys (changed_in_lives (acknowledge key) c)
acceptances_append (dispatch name key m ∷ xs) ys c =
    subst (λ n. acceptances_from n (xs ++ ys) ≡ acceptances_from n xs ++ acceptances_from (after_in_lives (dispatch name key m ∷ xs) c).receives.name ys) (one_name name key c.receives) (acceptances_append xs ys (changed_in_lives (dispatch name key m) c))
acceptances_append (mark ∷ xs) ys c = acceptances_append xs ys (changed_in_lives mark c)
acceptances_append (reset ∷ xs) ys c = acceptances_append xs ys c

-- ---- where the channel stands

-- what both sides have done
pub record Course : Type 0 where
  -- what the near side has posted, and the part of it before messages were last thrown away
  pub posts : List Content
  pub earlier : List Content
  -- behind that part, what is dropped of ended lives, and in this one acknowledged
  pub dropped : List Content
  pub acked : List Content
  -- the name of its life, and the lives that have ended
  pub life : ℕ
  pub ended : List NumberedLife
  -- the names of the far side's lives, and what it has accepted
  pub names : List ℕ
  pub accepted : List LifeMessage

abbrev pub IsCounted : List LifeMessage → ReceivingLife → Type 0
IsCounted xs l = (key : Key) → (l.accepted key ≡ length (told key l.name xs)) × (l.dispatched key ≡ 0)

-- accepted with the key that it was posted with
abbrev pub IsKeyed : SideFacts → LifeMessage → Type 0
IsKeyed g x = x.message.key ≡ key_of g x.message.message

pub record Shows (g : SideFacts) (w : Course) (c : LivesChannel) : Type 0 where
  pub posted : c.posted ≡ posted_to g w.posts
  pub name : c.sends.name ≡ w.life
  pub start : (key : Key) → c.sends.start key ≡ count_of_key g key w.earlier + count_of_key g key w.dropped
  pub end : (key : Key) → c.sends.end key ≡ length (of_key key c.posted)
  pub acknowledged : (key : Key) → c.sends.acknowledged key ≡ count_of_key g key w.acked
  pub backed : AreBacked g c.posted c.sent w.ended
  pub receives : map receiving_name (receiving_lives c) ≡ w.names
  pub counted : AllByRecursion (IsCounted w.accepted) (receiving_lives c)
  pub keyed : AllByRecursion (IsKeyed g) w.accepted

-- steps that lead there
pub record Leads (g : SideFacts) (xs : List LivesStep) (c : LivesChannel) (v w : Course) : Type 0 where
  pub steps : AreSteps xs c
  pub shows : Shows g w (after_in_lives xs c)
  pub accepts : w.accepted ≡ v.accepted ++ acceptances_from c.receives.name xs

pub leads_none : (g : SideFacts) (c : LivesChannel) (w : Course) → Shows g w c → Leads g [] c w w
leads_none g c w h = record { steps = tt; shows = h; accepts = sym (append-nil w.accepted) }

pub leads_append : (g : SideFacts) (xs ys : List LivesStep) (c : LivesChannel) (u v w : Course) → Leads g xs c u v → Leads g ys (after_in_lives xs c) v w → Leads g (xs ++ ys) c u w
leads_append g xs ys c u v w h k = record {
  steps = steps_append xs ys c h.steps k.steps;
  shows = subst (Shows g w) (sym (after_append xs ys c)) k.shows;
  accepts =
      k.accepts ∙ ap (λ l. l ++ acceptances_from (after_in_lives xs c).receives.name ys) h.accepts
      ∙ append_assoc u.accepted (acceptances_from c.receives.name xs) (acceptances_from (after_in_lives xs c).receives.name ys)
      ∙ ap (λ l. u.accepted ++ l) (sym (acceptances_append xs ys c));
}

-- ---- a mark and a reset

pub mark_leads : (g : SideFacts) (c : LivesChannel) (w : Course) → Shows g w c → Leads g (mark ∷ []) c w w
mark_leads g c w h = record {
  steps = (tt, tt);
  shows = record { posted = h.posted; name = h.name; start = h.start; end = h.end; acknowledged = h.acknowledged; backed = h.backed; receives = h.receives; counted = h.counted; keyed = h.keyed };
  accepts = sym (append-nil w.accepted);
}

pub reset_leads : (g : SideFacts) (c : LivesChannel) (w : Course) → Shows g w c → Leads g (reset ∷ []) c w w
reset_leads g c w h = record { steps = (tt, tt); shows = h; accepts = sym (append-nil w.accepted) }

-- ---- a post

pub post_leads : (g : SideFacts) (m : Content) (c : LivesChannel) (w : Course) → Shows g w c → Leads g (post (key_of g m) m ∷ []) c w (record w { posts = w.posts ++ m ∷ [] })
post_leads g m c w h = record {
  steps = (tt, tt);
  shows = record {
    posted = ap (λ l. l ++ keyed (key_of g m) m ∷ []) h.posted ∙ sym (map-append (λ n. keyed (key_of g n) n) w.posts (m ∷ []));
    name = h.name;
    start = h.start;
    end = λ key. one_more_is (key_of g m) key m c.posted (c.sends.end key) (h.end key);
    acknowledged = h.acknowledged;
    backed = backed_more g c.posted (keyed (key_of g m) m ∷ []) c.sent w.ended h.backed;
    receives = h.receives;
    counted = h.counted;
    keyed = h.keyed;
  };
  accepts = sym (append-nil w.accepted);
}

-- ---- a life begins

posted_count : (g : SideFacts) (c : LivesChannel) (w : Course) → Shows g w c → (key : Key) → length (of_key key c.posted) ≡ count_of_key g key w.posts
posted_count g c w h key = ap (λ l. length (of_key key l)) h.posted ∙ ap length (posted_keys g key w.posts) ∙ count_unnumbered g key w.posts

abbrev pub sending_anew : (name : ℕ) (thrown : Bool) → NumberedLife → Course → Course
sending_anew name true n w = record w { earlier = w.posts; dropped = []; acked = []; life = name; ended = w.ended ++ n ∷ [] }
sending_anew name false n w = record w { dropped = w.dropped ++ w.acked; acked = []; life = name; ended = w.ended ++ n ∷ [] }

pub sending_leads : (g : SideFacts) (name : ℕ) (thrown : Bool) (n : NumberedLife) (c : LivesChannel) (w : Course) → IsNewName name (map (λ (l : NumberedLife). l.name) (w.ended ++ n ∷ [])) → Backs g c.posted c.sends n → Shows g w c →
    Leads g (begins_sending name thrown ∷ []) c w (sending_anew name thrown n w)
sending_leads g name thrown n c w new backs h = by thrown
  where
    backed : AreBacked g c.posted (sending_lives c) (w.ended ++ n ∷ [])
    backed = backed_last g c.posted c.sent w.ended c.sends n h.backed backs

    fresh : IsNewName name (map sending_name (sending_lives c))
    fresh = subst (IsNewName name) (sym (backed_names g c.posted (sending_lives c) (w.ended ++ n ∷ []) backed)) new

    with_none : (n : ℕ) → n ≡ n + 0
    with_none n = omega arith

    goes_on : (key : Key) → c.sends.start key + c.sends.acknowledged key ≡ count_of_key g key w.earlier + count_of_key g key (w.dropped ++ w.acked)
    goes_on key = let a = h.start key in let b = h.acknowledged key in let d = count-append g key w.dropped w.acked in omega (arith, a, b, d)

    by : (t : Bool) → Leads g (begins_sending name t ∷ []) c w (sending_anew name t n w)
    by true = record {
      steps = (fresh, tt);
      shows = record {
        posted = h.posted;
        name = refl;
        start = λ key. h.end key ∙ posted_count g c w h key ∙ with_none (count_of_key g key w.posts);
        end = h.end;
        acknowledged = λ key. refl;
        backed = backed;
        receives = h.receives;
        counted = h.counted;
        keyed = h.keyed;
      };
      accepts = sym (append-nil w.accepted);
    }
    by false = record {
      steps = (fresh, tt);
      shows = record { posted = h.posted; name = refl; start = goes_on; end = h.end; acknowledged = λ key. refl; backed = backed; receives = h.receives; counted = h.counted; keyed = h.keyed };
      accepts = sym (append-nil w.accepted);
    }

pub receiving_leads : (g : SideFacts) (name : ℕ) (c : LivesChannel) (w : Course) → IsNewName name w.names → of_life name w.accepted ≡ [] → Shows g w c → Leads g (begins_receiving name ∷ []) c w (record w { names = w.names ++ name ∷ [] })
receiving_leads g name c w new unheard h = record {
  steps = (subst (IsNewName name) (sym h.receives) new, tt);
  shows = record {
    posted = h.posted;
    name = h.name;
    start = h.start;
    end = h.end;
    acknowledged = h.acknowledged;
    backed = h.backed;
    receives = map-append receiving_name (receiving_lives c) (record { name = name; accepted = none; dispatched = none } ∷ []) ∙ ap (λ l. l ++ name ∷ []) h.receives;
    counted = all_last (IsCounted w.accepted) (receiving_lives c) (record { name = name; accepted = none; dispatched = none }) h.counted (λ key. (sym (ap (λ l. length (of_key key l)) unheard), refl));
    keyed = h.keyed;
  };
  accepts = sym (append-nil w.accepted);
}

-- ---- what was accepted

abbrev pub said_in : ℕ → List LifeMessage → List Content
said_in n xs = map (λ (m : KeyedMessage). m.message) (of_life n xs)

-- of each key, by the key that the entries name and by that of the messages
pub told_keys : (g : SideFacts) (key : Key) (n : ℕ) (xs : List LifeMessage) → AllByRecursion (IsKeyed g) xs → told key n xs ≡ orders.of_key g key (said_in n xs)
told_keys g key n [] h = refl
told_keys g key n (x ∷ xs) h = at (x.life == n) (told_keys g key n xs h.1)
  where
    rest : List KeyedMessage
    rest = of_life n xs

    says : List KeyedMessage → List Content
    says ms = map (λ (m : KeyedMessage). m.message) ms

    by_key : (b : Bool) → of_key key rest ≡ orders.of_key g key (says rest) → (if b then x.message.message ∷ of_key key rest else of_key key rest) ≡ (if b then x.message.message ∷ orders.of_key g key (says rest) else orders.of_key g key (says rest))
    by_key true e = ap (λ l. x.message.message ∷ l) e
    by_key false e = e

    at : (b : Bool) → of_key key rest ≡ orders.of_key g key (says rest) →
        of_key key (map (λ (y : LifeMessage). y.message) (if b then x ∷ filter (λ (y : LifeMessage). y.life == n) xs else filter (λ (y : LifeMessage). y.life == n) xs))
        ≡ orders.of_key g key (says (map (λ (y : LifeMessage). y.message) (if b then x ∷ filter (λ (y : LifeMessage). y.life == n) xs else filter (λ (y : LifeMessage). y.life == n) xs)))
    at false e = e
    at true e =
        by_key (is_key x.message.key key) e
        ∙ ap (λ k. if is_key k key then x.message.message ∷ orders.of_key g key (says rest) else orders.of_key g key (says rest)) h.0

own_count : (g : SideFacts) (ms : List Content) (m : Content) → count_of_key g (key_of g m) (ms ++ m ∷ []) ≡ count_of_key g (key_of g m) ms + 1
own_count g ms m =
    count-append g (key_of g m) ms (m ∷ []) ∙ ap (λ b. count_of_key g (key_of g m) ms + length (if b then m ∷ [] else [])) (key_self (key_of g m))

pub first_counts : (g : SideFacts) (key : Key) (first all : List Content) → AreFirstOf first all → count_of_key g key first ≤ count_of_key g key all
first_counts g key first all (more, e) = let s = ap (count_of_key g key) e in let d = count-append g key first more in omega (arith, s, d)

-- ---- an acknowledgement

pub record Acknowledges (g : SideFacts) (m : Content) (w : Course) : Type 0 where
  pub kept : w.life ≢ 0
  -- the far side has accepted it in its life of that name, behind those that are acknowledged
  pub first : AreFirstOf (map unnumbered (w.acked ++ m ∷ [])) (said_in w.life w.accepted)
  pub known : (n : ℕ) → AllByRecursion (λ k. k ≢ n) w.names → of_life n w.accepted ≡ []

pub ack_leads : (g : SideFacts) (m : Content) (c : LivesChannel) (w : Course) → Acknowledges g m w → Shows g w c → Leads g (acknowledge (key_of g m) ∷ []) c w (record w { acked = w.acked ++ m ∷ [] })
ack_leads g m c w a h = record {
  steps = (may, tt);
  shows = record { posted = h.posted; name = h.name; start = h.start; end = h.end; acknowledged = raised; backed = h.backed; receives = h.receives; counted = h.counted; keyed = h.keyed };
  accepts = sym (append-nil w.accepted);
}
  where
    k : Key
    k = key_of g m

    raised : (key : Key) → one_more k c.sends.acknowledged key ≡ count_of_key g key (w.acked ++ m ∷ [])
    raised key = by (is_key k key) ∙ sym (count-append g key w.acked (m ∷ []))
      where
        by : (b : Bool) → (if b then c.sends.acknowledged key + 1 else c.sends.acknowledged key) ≡ count_of_key g key w.acked + length (if b then m ∷ [] else [])
        by true = ap (λ n. n + 1) (h.acknowledged key)
        by false = let e = h.acknowledged key in omega (arith, e)

    more : c.sends.acknowledged k + 1 ≤ length (told k w.life w.accepted)
    more =
        let few = first_counts g k (map unnumbered (w.acked ++ m ∷ [])) (said_in w.life w.accepted) a.first in
        let plain = count_unnumbered g k (w.acked ++ m ∷ []) in
        let own = own_count g w.acked m in
        let all = ap length (told_keys g k w.life w.accepted h.keyed) in
        let now = h.acknowledged k in
        omega (arith, few, plain, own, all, now)

    empty_less : (n : ℕ) (xs : List Content) → n + 1 ≤ length xs → xs ≡ [] → ⊥
    empty_less n xs l e = let z = ap length e in omega (arith, l, z)

    there : Has (λ n. n ≡ w.life) w.names
    there = at (among_or_not w.life w.names)
      where
        at : Has (λ n. n ≡ w.life) w.names ⊎ AllByRecursion (λ n. n ≢ w.life) w.names → Has (λ n. n ≡ w.life) w.names
        at (inl p) = p
        at (inr all) = absurd (empty_less (c.sends.acknowledged k) (told k w.life w.accepted) more (ap (of_key k) (a.known w.life all)))

    may : MayBeAcknowledged k c
    may = record {
      kept = λ e. a.kept (sym h.name ∙ e);
      accepted = has_so (λ (l : ReceivingLife). (l.name ≡ w.life) × IsCounted w.accepted l) (HasAccepted c.sends.name k (c.sends.acknowledged k))
          (λ l p. (p.0 ∙ sym h.name, fewer l p.0 (p.1 k).0)) (receiving_lives c)
          (has_of_map receiving_name (λ n. n ≡ w.life) (IsCounted w.accepted) (receiving_lives c) (subst (Has (λ n. n ≡ w.life)) (sym h.receives) there) h.counted);
    }
      where
        below : (x y z : ℕ) → x + 1 ≤ y → z ≡ y → x < z
        below x y z l e = omega (arith, l, e)

        fewer : (l : ReceivingLife) → l.name ≡ w.life → l.accepted k ≡ length (told k l.name w.accepted) → c.sends.acknowledged k < l.accepted k
        fewer l e is = below (c.sends.acknowledged k) (length (told k w.life w.accepted)) (l.accepted k) more (is ∙ ap (λ n. length (told k n w.accepted)) e)

-- ---- an acceptance

pub record Accepts (g : SideFacts) (key : Key) (m : Content) (n : NumberedLife) (c : LivesChannel) (w : Course) : Type 0 where
  -- `n` is the near side's current life
  pub backs : Backs g c.posted c.sends n
  pub kept : c.receives.name ≢ 0
  pub named : AreNames w.names
  pub own : key ≡ key_of g m
  -- with it, what was accepted in the life are the first ones that the near side has numbered in its life of that name
  pub first : Has (λ (l : NumberedLife). (l.name ≡ c.receives.name) × AreFirstOf (said_in c.receives.name w.accepted ++ unnumbered m ∷ []) l.numbered) (w.ended ++ n ∷ [])

pub accept_leads : (g : SideFacts) (key : Key) (m : Content) (n : NumberedLife) (c : LivesChannel) (w : Course) → Accepts g key m n c w → Shows g w c →
    Leads g (accept key m ∷ []) c w (record w { accepted = w.accepted ++ one c.receives.name key m ∷ [] })
accept_leads g key m n c w a h = record {
  steps = (may, tt);
  shows = record {
    posted = h.posted;
    name = h.name;
    start = h.start;
    end = h.end;
    acknowledged = h.acknowledged;
    backed = h.backed;
    receives = map-append receiving_name c.received (receives' ∷ []) ∙ sym (map-append receiving_name c.received (c.receives ∷ [])) ∙ h.receives;
    counted = all_append (IsCounted accepted') c.received (receives' ∷ []) (others c.received apart (all_front (IsCounted w.accepted) c.received (c.receives ∷ []) h.counted)) (current, tt);
    keyed = all_last (IsKeyed g) w.accepted (one name key m) h.keyed a.own;
  };
  accepts = refl;
}
  where
    name : ℕ
    name = c.receives.name

    receives' : ReceivingLife
    receives' = record c.receives { accepted = one_more key c.receives.accepted }

    accepted' : List LifeMessage
    accepted' = w.accepted ++ one name key m ∷ []

    now : IsCounted w.accepted c.receives
    now = (all_back (IsCounted w.accepted) c.received (c.receives ∷ []) h.counted).0

    apart : AllByRecursion (λ k. k ≢ name) (map receiving_name c.received)
    apart = at (last_is_new (map receiving_name c.received) name (subst AreNames (sym h.receives ∙ map-append receiving_name c.received (c.receives ∷ [])) a.named))
      where
        at : IsNewName name (map receiving_name c.received) → AllByRecursion (λ k. k ≢ name) (map receiving_name c.received)
        at (inl z) = absurd (a.kept z)
        at (inr all) = all

    others : (ls : List ReceivingLife) → AllByRecursion (λ k. k ≢ name) (map receiving_name ls) → AllByRecursion (IsCounted w.accepted) ls → AllByRecursion (IsCounted accepted') ls
    others [] p q = tt
    others (l ∷ ls) p q = (
      λ other. (
        (q.0 other).0
            ∙ ap length (sym (append-nil (told other l.name w.accepted)) ∙ ap (λ z. told other l.name w.accepted ++ z) (sym (of_another name l.name key other m (λ e. p.0 (sym e))))
            ∙ sym (told_more other l.name name key m w.accepted)),
        (q.0 other).1,
      ),
      others ls p.1 q.1,
    )

    current : IsCounted accepted' receives'
    current other = (
      by (is_key key other)
          ∙ sym (length-append (told other name w.accepted) (if is_key key other then unnumbered m ∷ [] else []))
          ∙ ap length (ap (λ z. told other name w.accepted ++ z) (sym (of_its_own name key other m)) ∙ sym (told_more other name name key m w.accepted)),
      (now other).1,
    )
      where
        by : (b : Bool) → (if b then c.receives.accepted other + 1 else c.receives.accepted other) ≡ length (told other name w.accepted) + length (if b then unnumbered m ∷ [] else [])
        by true = ap (λ k. k + 1) (now other).0
        by false = let e = (now other).0 in omega (arith, e)

    -- it is there behind those that were accepted
    its_place : slice_get (orders.of_key g key (said_in name w.accepted ++ unnumbered m ∷ [])) (c.receives.accepted key) ≡ Some (unnumbered m)
    its_place =
        ap (λ l. slice_get l (c.receives.accepted key)) (key-append g key (said_in name w.accepted) (unnumbered m ∷ []) ∙ ap (λ b. orders.of_key g key (said_in name w.accepted) ++ (if b then unnumbered m ∷ [] else [])) (subst (λ k. is_key k key ≡ true) a.own (key_self key)))
        ∙ ap (slice_get (orders.of_key g key (said_in name w.accepted) ++ unnumbered m ∷ [])) ((now key).0 ∙ ap length (told_keys g key name w.accepted h.keyed))
        ∙ get_next (orders.of_key g key (said_in name w.accepted)) [] (unnumbered m)

    may : MayBeAccepted key m c
    may = record {
      kept = a.kept;
      held = backed_has g c.posted (λ (l : NumberedLife). (l.name ≡ name) × AreFirstOf (said_in name w.accepted ++ unnumbered m ∷ []) l.numbered)
          (Holds name key m (c.receives.accepted key) c.posted)
          (λ s l b p.
          let it = first_backed g c.posted s l (said_in name w.accepted ++ unnumbered m ∷ []) b p.1 key (c.receives.accepted key) (unnumbered m) its_place in
          record { named = b.named ∙ p.0; below = it.1; same = it.0 })
          (sending_lives c) (w.ended ++ n ∷ []) (backed_last g c.posted c.sent w.ended c.sends n h.backed a.backs) a.first;
    }
