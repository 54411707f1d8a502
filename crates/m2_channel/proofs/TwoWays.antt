-- What two dispatchers are called with together: messages of fast keys at once, and all else through the queue.
use Rattle.std.proofs.Common.{◌≡◌, ℕ, inl, Bool, true, false, ◌&&◌, ◌==◌, if◌then◌else◌, List, [], ◌∷◌, ◌++◌, map, refl, sym, ap, subst, ◌∙◌, append-nil}
use Rattle.std.specs.List.{AllByRecursion}
use Rattle.std.proofs.lemmas.Bool.{eq-eqb}
use Rattle.std.proofs.lemmas.List.{map-append}
use Rattle.m2_dispatch.specs.Heard as heard
use Rattle.m2_dispatch.specs.Heard.{Heard, is_key, is_path}
use Rattle.m2_dispatch.specs.Laws.{Call, IsSublist, start}
use Rattle.m2_dispatch.specs.m2_message.Message.{Content, unnumbered}
use Rattle.m2_dispatch.specs.m2_policy.declared.path.Key.{Key}
use Rattle.m2_dispatch.specs.m2_policy.declared.path.Path.{Path}
use Rattle.m2_dispatch.specs.m2_policy.declared.path.Path.TheVariants.{Fast, Queued}
use Rattle.m2_never_reset.specs.Order.{AreFirstOf}
use Rattle.m2_never_reset.specs.m2_journal.State as state
use Rattle.m2_never_reset.specs.m2_journal.State.{Delivery, State}
use Rattle.m2_channel.specs.Channel as channel
use Rattle.m2_channel.specs.Observed.{handed, IsLetter, IsNoDiscard}
use Rattle.m2_channel.specs.Handing.{heard_at_once, queued_of, calls_of, AreFirstCalls, AreParcelsOf, IsNoResetOf, parcels_of, heard_by_calls, IsHeardOf, LogsAreLogs}
use Rattle.m2_channel.proofs.Handing.{DispatchesInOrder, heard-append, queue_logs, some_of_more}
use Rattle.m2_dispatch.proofs.m2_lemmas.Booleans.{if_false, from_false_true}
use Rattle.m2_dispatch.proofs.m2_lemmas.Lists.{all_append}

-- ---- keys

-- keys of two paths from_false_true
apart : (k key : Key) → is_path k.path key.path ≡ false → is_key k key ≡ false
apart k key e = at (k.priority == key.priority) (is_path k.path key.path) e
  where
    at : (b c : Bool) → c ≡ false → (b && c) ≡ false
    at true c e = e
    at false c e = refl

-- one that is heard of its peer, or isn't of the key
one_heard : (peer : ℕ) (k key : Key) (m : Content) (hs ms : List Content) → map unnumbered hs ≡ ms →
    map unnumbered (if (peer == peer) && is_key k key then m ∷ hs else hs) ≡ (if is_key k key then unnumbered m ∷ ms else ms)
one_heard peer k key m hs ms e = at (peer == peer) (eq-eqb peer peer refl) (is_key k key)
  where
    at : (b : Bool) → b ≡ true → (c : Bool) → map unnumbered (if b && c then m ∷ hs else hs) ≡ (if c then unnumbered m ∷ ms else ms)
    at true p true = ap (λ l. unnumbered m ∷ l) e
    at true p false = e
    at false p c = absurd (from_false_true p)

-- ---- of a fast key: all is dispatched at once

pub record AtOnce (peer : ℕ) (key : Key) (ds : List Delivery) : Type 0 where
  pub heard : map unnumbered (heard.of_key peer key (heard_at_once peer ds)) ≡ channel.of_key key (handed ds)
  pub queued : channel.of_key key (handed (queued_of ds)) ≡ []

at_once : (peer : ℕ) (key : Key) (ds : List Delivery) → key.path ≡ Fast → AtOnce peer key ds
at_once peer key [] e = record { heard = refl; queued = refl }
at_once peer key (state.discarded ∷ ds) e = let it = at_once peer key ds e in record { heard = it.heard; queued = it.queued }
at_once peer key (state.remote_reset ∷ ds) e = let it = at_once peer key ds e in record { heard = it.heard; queued = it.queued }
at_once peer key (state.letter n life k m ∷ ds) e = by_path (at_once peer key ds e) k.path refl
  where
    by_path : AtOnce peer key ds → (p : Path) → k.path ≡ p → AtOnce peer key (state.letter n life k m ∷ ds)
    by_path it Fast f = record {
      heard = ap (λ (p : Path). map unnumbered (heard.of_key peer key (if is_path p Fast then heard.message peer k n life m ∷ heard_at_once peer ds else heard_at_once peer ds))) f
          ∙ one_heard peer k key m (heard.of_key peer key (heard_at_once peer ds)) (channel.of_key key (handed ds)) it.heard;
      queued = ap (λ (p : Path). channel.of_key key (handed (if is_path p Fast then queued_of ds else state.letter n life k m ∷ queued_of ds))) f ∙ it.queued;
    }
    by_path it Queued f =
        let other : is_key k key ≡ false = apart k key (ap (λ (p : Path). is_path p key.path) f ∙ ap (is_path Queued) e) in
        record {
          heard = ap (λ (p : Path). map unnumbered (heard.of_key peer key (if is_path p Fast then heard.message peer k n life m ∷ heard_at_once peer ds else heard_at_once peer ds))) f
              ∙ (it.heard ∙ sym (if_false (is_key k key) (unnumbered m ∷ channel.of_key key (handed ds)) (channel.of_key key (handed ds)) other));
          queued = ap (λ (p : Path). channel.of_key key (handed (if is_path p Fast then queued_of ds else state.letter n life k m ∷ queued_of ds))) f
              ∙ (if_false (is_key k key) (unnumbered m ∷ channel.of_key key (handed (queued_of ds))) (channel.of_key key (handed (queued_of ds))) other ∙ it.queued);
        }

-- ---- of another key: all goes through the queue

pub record ThroughTheQueue (peer : ℕ) (key : Key) (ds : List Delivery) : Type 0 where
  pub heard : heard.of_key peer key (heard_at_once peer ds) ≡ []
  pub queued : channel.of_key key (handed (queued_of ds)) ≡ channel.of_key key (handed ds)

through : (peer : ℕ) (key : Key) (ds : List Delivery) → key.path ≡ Queued → ThroughTheQueue peer key ds
through peer key [] e = record { heard = refl; queued = refl }
through peer key (state.discarded ∷ ds) e = let it = through peer key ds e in record { heard = it.heard; queued = it.queued }
through peer key (state.remote_reset ∷ ds) e = let it = through peer key ds e in record { heard = it.heard; queued = it.queued }
through peer key (state.letter n life k m ∷ ds) e = by_path (through peer key ds e) k.path refl
  where
    both : (b c : Bool) → c ≡ false → (b && c) ≡ false
    both true c p = p
    both false c p = refl

    by_path : ThroughTheQueue peer key ds → (p : Path) → k.path ≡ p → ThroughTheQueue peer key (state.letter n life k m ∷ ds)
    by_path it Fast f =
        let other : is_key k key ≡ false = apart k key (ap (λ (p : Path). is_path p key.path) f ∙ ap (is_path Fast) e) in
        record {
          heard = ap (λ (p : Path). heard.of_key peer key (if is_path p Fast then heard.message peer k n life m ∷ heard_at_once peer ds else heard_at_once peer ds)) f
              ∙ (if_false ((peer == peer) && is_key k key) (m ∷ heard.of_key peer key (heard_at_once peer ds)) (heard.of_key peer key (heard_at_once peer ds))
              (both (peer == peer) (is_key k key) other) ∙ it.heard);
          queued = ap (λ (p : Path). channel.of_key key (handed (if is_path p Fast then queued_of ds else state.letter n life k m ∷ queued_of ds))) f
              ∙ (it.queued ∙ sym (if_false (is_key k key) (unnumbered m ∷ channel.of_key key (handed ds)) (channel.of_key key (handed ds)) other));
        }
    by_path it Queued f = record {
      heard = ap (λ (p : Path). heard.of_key peer key (if is_path p Fast then heard.message peer k n life m ∷ heard_at_once peer ds else heard_at_once peer ds)) f ∙ it.heard;
      queued = ap (λ (p : Path). channel.of_key key (handed (if is_path p Fast then queued_of ds else state.letter n life k m ∷ queued_of ds))) f
          ∙ ap (λ l. if is_key k key then unnumbered m ∷ l else l) it.queued;
    }

-- ---- what is handed on keeps what it is

queued_no_discard : (ds : List Delivery) → AllByRecursion IsNoDiscard ds → AllByRecursion IsNoDiscard (queued_of ds)
queued_no_discard [] h = tt
queued_no_discard (state.discarded ∷ ds) h = absurd h.0
queued_no_discard (state.remote_reset ∷ ds) h = (tt, queued_no_discard ds h.1)
queued_no_discard (state.letter n life k m ∷ ds) h = at (is_path k.path Fast) (queued_no_discard ds h.1)
  where
    at : (b : Bool) → AllByRecursion IsNoDiscard (queued_of ds) → AllByRecursion IsNoDiscard (if b then queued_of ds else state.letter n life k m ∷ queued_of ds)
    at true g = g
    at false g = (tt, g)

queued_letters : (ds : List Delivery) → AllByRecursion IsLetter ds → AllByRecursion IsLetter (queued_of ds)
queued_letters [] h = tt
queued_letters (state.discarded ∷ ds) h = absurd h.0
queued_letters (state.remote_reset ∷ ds) h = absurd h.0
queued_letters (state.letter n life k m ∷ ds) h = at (is_path k.path Fast) (queued_letters ds h.1)
  where
    at : (b : Bool) → AllByRecursion IsLetter (queued_of ds) → AllByRecursion IsLetter (if b then queued_of ds else state.letter n life k m ∷ queued_of ds)
    at true g = g
    at false g = (tt, g)

-- ---- the calls of a peer

-- the messages of a peer stand among its own calls
pub own_calls : (peer : ℕ) (key : Key) (log : List Heard) → heard.of_key peer key log ≡ heard.of_key peer key (calls_of peer log)
own_calls peer key [] = refl
own_calls peer key (heard.reset p ∷ log) = at (p == peer) (own_calls peer key log)
  where
    at : (b : Bool) → heard.of_key peer key log ≡ heard.of_key peer key (calls_of peer log) →
        heard.of_key peer key log ≡ heard.of_key peer key (if b then heard.reset p ∷ calls_of peer log else calls_of peer log)
    at true own = own
    at false own = own
own_calls peer key (heard.message p k n life m ∷ log) = at (own_calls peer key log) (p == peer) refl
  where
    at : heard.of_key peer key log ≡ heard.of_key peer key (calls_of peer log) → (b : Bool) → (p == peer) ≡ b → (if b && is_key k key then m ∷ heard.of_key peer key log else heard.of_key peer key log)
        ≡ heard.of_key peer key (if b then heard.message p k n life m ∷ calls_of peer log else calls_of peer log)
    at own true e =
        ap (λ l. if is_key k key then m ∷ l else l) own
        ∙ sym (ap (λ c. if c && is_key k key then m ∷ heard.of_key peer key (calls_of peer log) else heard.of_key peer key (calls_of peer log)) e)
    at own false e = own

-- of each key they are the first ones too
first_keys : (peer : ℕ) (key : Key) (fast all : List Heard) → AreFirstCalls (calls_of peer fast) all →
    (more : List Content) × (heard.of_key peer key all ≡ heard.of_key peer key fast ++ more)
first_keys peer key fast all first = (
  heard.of_key peer key first.0,
  ap (heard.of_key peer key) first.1 ∙ (heard-append peer key (calls_of peer fast) first.0 ∙ ap (λ l. l ++ heard.of_key peer key first.0) (sym (own_calls peer key fast))),
)

-- a prefix of nothing, and some of nothing
first_of_none : {X : Type 0} (xs more : List X) → (let none : List X = [] in none) ≡ xs ++ more → xs ≡ []
first_of_none [] more e = refl
first_of_none (x ∷ xs) more e = absurd cc

pub some_of_none : {X : Type 0} (xs : List X) → IsSublist xs [] → xs ≡ []
some_of_none [] h = refl
some_of_none (x ∷ xs) h = absurd h

pub unmapped : (ms : List Content) → map unnumbered ms ≡ [] → ms ≡ []
unmapped [] e = refl
unmapped (m ∷ ms) e = absurd cc

pub some_of_itself : {X : Type 0} (xs : List X) → IsSublist xs xs
some_of_itself [] = tt
some_of_itself (x ∷ xs) = inl (refl, some_of_itself xs)

first_is_some : {X : Type 0} (xs more all : List X) → all ≡ xs ++ more → IsSublist xs all
first_is_some xs more all e = subst (λ l. IsSublist xs l) (sym e) (some_of_more xs xs more (some_of_itself xs))

-- ---- no reset

no_reset_at_once : (peer : ℕ) (ds : List Delivery) → AllByRecursion (IsNoResetOf peer) (heard_at_once peer ds)
no_reset_at_once peer [] = tt
no_reset_at_once peer (state.discarded ∷ ds) = no_reset_at_once peer ds
no_reset_at_once peer (state.remote_reset ∷ ds) = no_reset_at_once peer ds
no_reset_at_once peer (state.letter n life k m ∷ ds) = at (is_path k.path Fast) (no_reset_at_once peer ds)
  where
    at : (b : Bool) → AllByRecursion (IsNoResetOf peer) (heard_at_once peer ds) →
        AllByRecursion (IsNoResetOf peer) (if b then heard.message peer k n life m ∷ heard_at_once peer ds else heard_at_once peer ds)
    at true none = (tt, none)
    at false none = none

all_of_first : (peer : ℕ) (xs more : List Heard) → AllByRecursion (IsNoResetOf peer) (xs ++ more) → AllByRecursion (IsNoResetOf peer) xs
all_of_first peer [] more h = tt
all_of_first peer (x ∷ xs) more h = (h.0, all_of_first peer xs more h.1)

first_all : (peer : ℕ) (xs more all : List Heard) → all ≡ xs ++ more → AllByRecursion (IsNoResetOf peer) all → AllByRecursion (IsNoResetOf peer) xs
first_all peer xs more all e h = all_of_first peer xs more (subst (AllByRecursion (IsNoResetOf peer)) e h)

own_no_reset : (peer : ℕ) (log : List Heard) → AllByRecursion (IsNoResetOf peer) (calls_of peer log) → AllByRecursion (IsNoResetOf peer) log
own_no_reset peer [] h = tt
own_no_reset peer (x ∷ log) h = at (own_no_reset peer log) (heard.peer_of x == peer) refl h
  where
    another : (x : Heard) → (heard.peer_of x == peer) ≡ false → IsNoResetOf peer x
    another (heard.message p k n life m) e = tt
    another (heard.reset p) e = e

    at : (AllByRecursion (IsNoResetOf peer) (calls_of peer log) → AllByRecursion (IsNoResetOf peer) log) → (b : Bool) → (heard.peer_of x == peer) ≡ b →
        AllByRecursion (IsNoResetOf peer) (if b then x ∷ calls_of peer log else calls_of peer log) → AllByRecursion (IsNoResetOf peer) (x ∷ log)
    at rest true e g = (g.0, rest g.1)
    at rest false e g = (another x e, rest g)

-- ---- all of it

module _ (order : DispatchesInOrder) (peer : ℕ) (fast : List Heard) (calls : List Call) (s : State)
    (first : AreFirstCalls (calls_of peer fast) (heard_at_once peer s.deliveries)) (are : AreParcelsOf (parcels_of peer calls) (queued_of s.deliveries)) where
  abbrev queued : List Heard
  queued = heard_by_calls peer start calls

  by_queue : IsHeardOf peer queued (record s { deliveries = queued_of s.deliveries })
  by_queue = queue_logs order peer calls (record s { deliveries = queued_of s.deliveries }) are

  -- of a fast key it is what the one was called with
  of_fast : (key : Key) → key.path ≡ Fast → heard.of_key peer key (fast ++ queued) ≡ heard.of_key peer key fast
  of_fast key e =
      let none : heard.of_key peer key queued ≡ [] =
      unmapped (heard.of_key peer key queued) (some_of_none (map unnumbered (heard.of_key peer key queued))
      (subst (λ l. IsSublist (map unnumbered (heard.of_key peer key queued)) l) (at_once peer key s.deliveries e).queued (by_queue.some key))) in
      heard-append peer key fast queued ∙ (ap (λ l. heard.of_key peer key fast ++ l) none ∙ append-nil (heard.of_key peer key fast))

  fast_first : (key : Key) → key.path ≡ Fast → AreFirstOf (map unnumbered (heard.of_key peer key (fast ++ queued))) (channel.of_key key (handed s.deliveries))
  fast_first key e =
      let it = first_keys peer key fast (heard_at_once peer s.deliveries) first in (
        map unnumbered it.0,
        sym (at_once peer key s.deliveries e).heard
            ∙ (ap (map unnumbered) it.1
            ∙ (map-append unnumbered (heard.of_key peer key fast) it.0
            ∙ ap (λ l. map unnumbered l ++ map unnumbered it.0) (sym (of_fast key e)))),
      )

  -- of another what the other was called with
  of_queued : (key : Key) → key.path ≡ Queued → heard.of_key peer key (fast ++ queued) ≡ heard.of_key peer key queued
  of_queued key e =
      let it = first_keys peer key fast (heard_at_once peer s.deliveries) first in
      let none : heard.of_key peer key fast ≡ [] = first_of_none (heard.of_key peer key fast) it.0 (sym (through peer key s.deliveries e).heard ∙ it.1) in
      heard-append peer key fast queued ∙ ap (λ l. l ++ heard.of_key peer key queued) none

  first_by : AllByRecursion IsNoDiscard s.deliveries → (key : Key) (p : Path) → key.path ≡ p →
      AreFirstOf (map unnumbered (heard.of_key peer key (fast ++ queued))) (channel.of_key key (handed s.deliveries))
  first_by no_discard key Fast e = fast_first key e
  first_by no_discard key Queued e =
      subst (λ l. AreFirstOf (map unnumbered l) (channel.of_key key (handed s.deliveries))) (sym (of_queued key e))
      (subst (AreFirstOf (map unnumbered (heard.of_key peer key queued))) (through peer key s.deliveries e).queued (by_queue.first (queued_no_discard s.deliveries no_discard) key))

  some_by : (key : Key) (p : Path) → key.path ≡ p → IsSublist (map unnumbered (heard.of_key peer key (fast ++ queued))) (channel.of_key key (handed s.deliveries))
  some_by key Fast e = let it = fast_first key e in first_is_some (map unnumbered (heard.of_key peer key (fast ++ queued))) it.0 (channel.of_key key (handed s.deliveries)) it.1
  some_by key Queued e =
      subst (λ l. IsSublist (map unnumbered l) (channel.of_key key (handed s.deliveries))) (sym (of_queued key e))
      (subst (λ l. IsSublist (map unnumbered (heard.of_key peer key queued)) l) (through peer key s.deliveries e).queued (by_queue.some key))

  by_both : IsHeardOf peer (fast ++ queued) s
  by_both = record {
    first = λ no_discard key. first_by no_discard key key.path refl;
    some = λ key. some_by key key.path refl;
    no_reset = λ only. all_append (IsNoResetOf peer) fast queued
        (own_no_reset peer fast (first_all peer (calls_of peer fast) first.0 (heard_at_once peer s.deliveries) first.1 (no_reset_at_once peer s.deliveries)))
        (by_queue.no_reset (queued_letters s.deliveries only));
  }

pub logs_are : DispatchesInOrder → LogsAreLogs
logs_are order peer fast calls s first are = by_both order peer fast calls s first are
