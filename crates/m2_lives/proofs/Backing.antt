-- What a sending life of the channel holds of a life in which a side has numbered messages, key for key.
use Rattle.std.proofs.Common.{◌≡◌, ℕ, suc, ◌+◌, ◌<◌, ◌≤◌, inl, inr, Bool, true, false, ◌==◌, if◌then◌else◌, List, [], ◌∷◌, ◌++◌, length, length-append, map, Some, refl, sym, ap, subst, ◌∙◌, arith, append_assoc}
use Rattle.std.specs.Prelude.{slice_get}
use Rattle.std.specs.List.{filter}
use Rattle.std.proofs.lemmas.List.{length-map, map-append}
use Rattle.std.proofs.lemmas.List.Elements.{filter-append}
use Rattle.std.proofs.lemmas.Option.{slice_get_within}
use Rattle.m2_channel.specs.Channel.{KeyedMessage, of_key}
use Rattle.m2_channel.specs.ObservedLaws.{posted_to}
use Rattle.m2_channel.specs.m2_dispatch.Heard.{is_key}
use Rattle.m2_channel.proofs.Keys.{of_key-append}
use Rattle.m2_channel.proofs.Through.{posted_keys}
use Rattle.m2_journal.specs.Lawful.{key_of}
use Rattle.m2_journal.specs.Laws.{IsOfCalls}
use Rattle.m2_journal.specs.SideFacts.{SideFacts}
use Rattle.m2_journal.specs.m2_message.Message.{Content, unnumbered, priority_of}
use Rattle.m2_journal.specs.m2_policy.declared.path.Key.{Key}
use Rattle.m2_journal.specs.m2_queues.QueueLaws.{EachPriorityKeepsItsOrder, History, of_priority}
use Rattle.m2_journal.proofs.m2_lemmas.Lists.{finer_filter}
use Rattle.m2_never_reset.specs.Order.{AreFirstOf}
use Rattle.m2_never_reset.specs.Orders as orders
use Rattle.m2_never_reset.proofs.Posted.{has_priority}
use Rattle.m2_lives.specs.Lives.{SendingLife, Has}
use Rattle.m2_lives.specs.ObservedLaws.{NumberedLife}
use Rattle.m2_lives.specs.ObservedRun.{count_of_key}
use Rattle.m2_lives.proofs.Noting.{get_more}

-- ---- lists

pub get_behind : {X : Type 0} (xs ys : List X) (i : ℕ) → slice_get (xs ++ ys) (length xs + i) ≡ slice_get ys i
get_behind [] ys i = ap (slice_get ys) (let e : 0 + i ≡ i = omega arith in e)
get_behind (x ∷ xs) ys i = ap (slice_get (x ∷ (xs ++ ys))) (let e : suc (length xs) + i ≡ suc (length xs + i) = omega arith in e) ∙ get_behind xs ys i

pub get_next : {X : Type 0} (xs ys : List X) (m : X) → slice_get (xs ++ m ∷ ys) (length xs) ≡ Some m
get_next [] ys m = refl
get_next (x ∷ xs) ys m = get_next xs ys m

-- ---- the messages of a key

pub key-append : (g : SideFacts) (key : Key) (xs ys : List Content) → orders.of_key g key (xs ++ ys) ≡ orders.of_key g key xs ++ orders.of_key g key ys
key-append g key xs ys = filter-append (λ m. is_key (key_of g m) key) xs ys

pub key_unnumbered : (g : SideFacts) (key : Key) (ms : List Content) → orders.of_key g key (map unnumbered ms) ≡ map unnumbered (orders.of_key g key ms)
key_unnumbered g key [] = refl
key_unnumbered g key (m ∷ ms) = at (is_key (key_of g m) key) (key_unnumbered g key ms)
  where
    at : (b : Bool) → orders.of_key g key (map unnumbered ms) ≡ map unnumbered (orders.of_key g key ms) →
        (if b then unnumbered m ∷ orders.of_key g key (map unnumbered ms) else orders.of_key g key (map unnumbered ms)) ≡ map unnumbered (if b then m ∷ orders.of_key g key ms else orders.of_key g key ms)
    at true more = ap (λ l. unnumbered m ∷ l) more
    at false more = more

pub count_unnumbered : (g : SideFacts) (key : Key) (ms : List Content) → count_of_key g key (map unnumbered ms) ≡ count_of_key g key ms
count_unnumbered g key ms = ap length (key_unnumbered g key ms) ∙ length-map (orders.of_key g key ms) unnumbered

pub count-append : (g : SideFacts) (key : Key) (xs ys : List Content) → count_of_key g key (xs ++ ys) ≡ count_of_key g key xs + count_of_key g key ys
count-append g key xs ys = ap length (key-append g key xs ys) ∙ length-append (orders.of_key g key xs) (orders.of_key g key ys)

-- of a key, a queue's history has what was dropped, what is numbered and what waits, in this order
history_of_key : EachPriorityKeepsItsOrder → (g : SideFacts) (key : Key) (keeps : Bool) (h : History) → IsOfCalls keeps h →
    orders.of_key g key h.posted ≡ (orders.of_key g key h.dropped ++ orders.of_key g key h.numbered) ++ orders.of_key g key h.queue.waiting
history_of_key law g key keeps h (calls, e) =
    sym (finer h.posted) ∙ ap (filter test) (sym all)
    ∙ filter-append test (of_priority p h.dropped ++ of_priority p h.numbered) (of_priority p h.queue.waiting)
    ∙ ap (λ l. l ++ filter test (of_priority p h.queue.waiting)) (filter-append test (of_priority p h.dropped) (of_priority p h.numbered)
    ∙ ap (λ l. l ++ filter test (of_priority p h.numbered)) (finer h.dropped) ∙ ap (λ l. orders.of_key g key h.dropped ++ l) (finer h.numbered))
    ∙ ap (λ l. (orders.of_key g key h.dropped ++ orders.of_key g key h.numbered) ++ l) (finer h.queue.waiting)
  where
    p : ℕ
    p = key.priority

    test : Content → Bool
    test m = is_key (key_of g m) key

    of_p : Content → Bool
    of_p m = priority_of m == p

    finer : (ms : List Content) → filter test (of_priority p ms) ≡ orders.of_key g key ms
    finer ms = finer_filter test of_p (has_priority g key) ms

    all : of_priority p h.dropped ++ of_priority p h.numbered ++ of_priority p h.queue.waiting ≡ of_priority p h.posted
    all = subst (λ (k : History). of_priority p k.dropped ++ of_priority p k.numbered ++ of_priority p k.queue.waiting ≡ of_priority p k.posted) (sym e) (law keeps calls p)

-- ---- a life

-- It holds what was numbered in a life, from its first message on.
pub record Backs (g : SideFacts) (posted : List KeyedMessage) (s : SendingLife) (n : NumberedLife) : Type 0 where
  pub named : s.name ≡ n.name
  pub same : (key : Key) (i : ℕ) (m : Content) → slice_get (orders.of_key g key n.numbered) i ≡ Some m → slice_get (of_key key posted) (s.start key + i) ≡ Some m
  pub below : (key : Key) → s.start key + count_of_key g key n.numbered ≤ s.end key

abbrev pub AreBacked : SideFacts → List KeyedMessage → List SendingLife → List NumberedLife → Type 0
AreBacked g posted [] [] = Unit {0}
AreBacked g posted (s ∷ ss) (n ∷ ns) = Backs g posted s n × AreBacked g posted ss ns
AreBacked g posted _ _ = ⊥

-- also where more is posted
backs_more : (g : SideFacts) (posted more : List KeyedMessage) (s : SendingLife) (n : NumberedLife) → Backs g posted s n → Backs g (posted ++ more) s n
backs_more g posted more s n h = record {
  named = h.named;
  same = λ key i m e. ap (λ l. slice_get l (s.start key + i)) (of_key-append key posted more) ∙ get_more (of_key key posted) (of_key key more) (s.start key + i) m (h.same key i m e);
  below = h.below;
}

pub backed_more : (g : SideFacts) (posted more : List KeyedMessage) (ss : List SendingLife) (ns : List NumberedLife) → AreBacked g posted ss ns → AreBacked g (posted ++ more) ss ns
backed_more g posted more [] [] h = tt
backed_more g posted more [] (n ∷ ns) h = h
backed_more g posted more (s ∷ ss) [] h = h
backed_more g posted more (s ∷ ss) (n ∷ ns) h = (backs_more g posted more s n h.0, backed_more g posted more ss ns h.1)

pub backed_last : (g : SideFacts) (posted : List KeyedMessage) (ss : List SendingLife) (ns : List NumberedLife) (s : SendingLife) (n : NumberedLife) → AreBacked g posted ss ns → Backs g posted s n → AreBacked g posted (ss ++ s ∷ []) (ns ++ n ∷ [])
backed_last g posted [] [] s n h k = (k, tt)
backed_last g posted [] (m ∷ ns) s n h k = absurd h
backed_last g posted (r ∷ ss) [] s n h k = absurd h
backed_last g posted (r ∷ ss) (m ∷ ns) s n h k = (h.0, backed_last g posted ss ns s n h.1 k)

pub backed_names : (g : SideFacts) (posted : List KeyedMessage) (ss : List SendingLife) (ns : List NumberedLife) → AreBacked g posted ss ns → map (λ (s : SendingLife). s.name) ss ≡ map (λ (n : NumberedLife). n.name) ns
backed_names g posted [] [] h = refl
backed_names g posted [] (n ∷ ns) h = absurd h
backed_names g posted (s ∷ ss) [] h = absurd h
backed_names g posted (s ∷ ss) (n ∷ ns) h = ap (λ l. s.name ∷ l) (backed_names g posted ss ns h.1) ∙ ap (λ k. k ∷ map (λ (n : NumberedLife). n.name) ns) h.0.named

-- what holds of one that was numbered holds of the one that backs it
pub backed_has : (g : SideFacts) (posted : List KeyedMessage) (P : NumberedLife → Type 0) (Q : SendingLife → Type 0) → ((s : SendingLife) (n : NumberedLife) → Backs g posted s n → P n → Q s) →
    (ss : List SendingLife) (ns : List NumberedLife) → AreBacked g posted ss ns → Has P ns → Has Q ss
backed_has g posted P Q so [] [] h p = absurd p
backed_has g posted P Q so [] (n ∷ ns) h p = absurd h
backed_has g posted P Q so (s ∷ ss) [] h p = absurd p
backed_has g posted P Q so (s ∷ ss) (n ∷ ns) h (inl p) = inl (so s n h.0 p)
backed_has g posted P Q so (s ∷ ss) (n ∷ ns) h (inr p) = inr (backed_has g posted P Q so ss ns h.1 p)

-- ---- the current one

module _ (law : EachPriorityKeepsItsOrder) (g : SideFacts) (keeps : Bool) (h : History) (calls : IsOfCalls keeps h) (earlier : List Content) where
  abbrev front : Key → List Content
  front key = orders.of_key g key earlier ++ orders.of_key g key h.dropped

  abbrev behind : Key → List Content
  behind key = orders.of_key g key h.numbered ++ orders.of_key g key h.queue.waiting

  all_of_key : (key : Key) → of_key key (posted_to g (earlier ++ h.posted)) ≡ map unnumbered (front key) ++ (map unnumbered (orders.of_key g key h.numbered) ++ map unnumbered (orders.of_key g key h.queue.waiting))
  all_of_key key =
      posted_keys g key (earlier ++ h.posted) ∙ key_unnumbered g key (earlier ++ h.posted)
      ∙ ap (map unnumbered) (key-append g key earlier h.posted ∙ ap (λ l. orders.of_key g key earlier ++ l) (history_of_key law g key keeps h calls ∙ append_assoc (orders.of_key g key h.dropped) (orders.of_key g key h.numbered) (orders.of_key g key h.queue.waiting))
      ∙ sym (append_assoc (orders.of_key g key earlier) (orders.of_key g key h.dropped) (behind key)))
      ∙ map-append unnumbered (front key) (behind key)
      ∙ ap (λ l. map unnumbered (front key) ++ l) (map-append unnumbered (orders.of_key g key h.numbered) (orders.of_key g key h.queue.waiting))

  pub current_backs : (posted : List KeyedMessage) (s : SendingLife) (name : ℕ) → posted ≡ posted_to g (earlier ++ h.posted) → s.name ≡ name →
      ((key : Key) → s.start key ≡ count_of_key g key earlier + count_of_key g key h.dropped) → ((key : Key) → s.end key ≡ length (of_key key posted)) →
      Backs g posted s (record { name = name; numbered = map unnumbered h.numbered })
  current_backs posted s name is named start end = record { named = named; same = same; below = below }
    where
      own : Key → List Content
      own key = map unnumbered (orders.of_key g key h.numbered)

      wait : Key → List Content
      wait key = map unnumbered (orders.of_key g key h.queue.waiting)

      whole : (key : Key) → of_key key posted ≡ map unnumbered (front key) ++ (own key ++ wait key)
      whole key = ap (of_key key) is ∙ all_of_key key

      starts : (key : Key) → s.start key ≡ length (map unnumbered (front key))
      starts key = start key ∙ sym (length-map (front key) unnumbered ∙ length-append (orders.of_key g key earlier) (orders.of_key g key h.dropped))

      same : (key : Key) (i : ℕ) (m : Content) → slice_get (orders.of_key g key (map unnumbered h.numbered)) i ≡ Some m → slice_get (of_key key posted) (s.start key + i) ≡ Some m
      same key i m e =
          ap (λ l. slice_get l (s.start key + i)) (whole key) ∙ ap (λ n. slice_get (map unnumbered (front key) ++ (own key ++ wait key)) (n + i)) (starts key)
          ∙ get_behind (map unnumbered (front key)) (own key ++ wait key) i ∙ get_more (own key) (wait key) i m (ap (λ l. slice_get l i) (sym (key_unnumbered g key h.numbered)) ∙ e)

      below : (key : Key) → s.start key + count_of_key g key (map unnumbered h.numbered) ≤ s.end key
      below key =
          let a = starts key in
          let b = end key ∙ ap length (whole key) ∙ length-append (map unnumbered (front key)) (own key ++ wait key) in
          let c = length-append (own key) (wait key) in
          let d : count_of_key g key (map unnumbered h.numbered) ≡ length (own key) = ap length (key_unnumbered g key h.numbered) in
          omega (arith, a, b, c, d)

-- ---- the first ones of what was numbered

-- the message behind the first ones of its key is there
pub first_backed : (g : SideFacts) (posted : List KeyedMessage) (s : SendingLife) (n : NumberedLife) (first : List Content) → Backs g posted s n → AreFirstOf first n.numbered →
    (key : Key) (i : ℕ) (m : Content) → slice_get (orders.of_key g key first) i ≡ Some m → (slice_get (of_key key posted) (s.start key + i) ≡ Some m) × (s.start key + i < s.end key)
first_backed g posted s n first h (more, e) key i m at =
    let all : orders.of_key g key n.numbered ≡ orders.of_key g key first ++ orders.of_key g key more = ap (orders.of_key g key) e ∙ key-append g key first more in
    let there : slice_get (orders.of_key g key n.numbered) i ≡ Some m = ap (λ l. slice_get l i) all ∙ get_more (orders.of_key g key first) (orders.of_key g key more) i m at in
    let within = slice_get_within (orders.of_key g key n.numbered) i m there in
    let below = h.below key in
    (h.same key i m there, omega (arith, within, below))
