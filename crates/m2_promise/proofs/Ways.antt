-- All messages of a key are in one of a node's two logs: of a fast key in that of the dispatcher at once, of another in that of the one
-- behind the queue.
use Rattle.std.proofs.Common.{◌≡◌, ℕ, ◌⊎◌, inl, inr, Bool, true, false, ◌&&◌, ◌==◌, if◌then◌else◌, List, [], ◌∷◌, map, refl, sym, ap, subst, ◌∙◌}
use Rattle.std.specs.List.{AllByRecursion}
use Rattle.std.proofs.lemmas.List.{map-append}
use Rattle.std.proofs.lemmas.List.Elements.{filter-append}
use Rattle.m2_channel.specs.Channel as channel
use Rattle.m2_channel.specs.Handing.{AreParcelsOf, LogsAreLogs, calls_of, heard_at_once, heard_by_calls, parcels_of, queued_of}
use Rattle.m2_channel.specs.Observed.{handed}
use Rattle.m2_dispatch.specs.Heard as hear
use Rattle.m2_dispatch.specs.Heard.{Heard, is_key, is_path, message, reset, of_key}
use Rattle.m2_dispatch.specs.declared.parcel.Parcel.{Parcel}
use Rattle.m2_dispatch.specs.Laws.{Call, IsSublist, start}
use Rattle.m2_links_go_on.specs.m2_growth.Halves.{IsOneOf}
use Rattle.m2_links_go_on.proofs.m2_growth.Among.{of_each}
use Rattle.m2_links_go_on.specs.m2_weave.m2_journal.State as state
use Rattle.m2_links_go_on.specs.m2_weave.m2_journal.State.{Delivery, State}
use Rattle.m2_links_go_on.specs.Logged.{IsLogged, IsLoggedOf, LoggingNow, all_put, handed_of, heard_held}
use Rattle.m2_links_go_on.proofs.Puts.{parcels-append}
use Rattle.m2_message.specs.Message.{unnumbered}
use Rattle.m2_dispatch.specs.m2_policy.declared.path.Key.{Key}
use Rattle.m2_dispatch.specs.m2_policy.declared.path.Path.{Path}
use Rattle.m2_dispatch.specs.m2_policy.declared.path.Path.TheVariants.{Fast, Queued}
use Rattle.m2_script.specs.m2_record.RecordNow.{RecordNow, delivery_of}
use Rattle.m2_fabric.proofs.m2_lemmas.Lists.{all_front}
use Rattle.m2_fabric.proofs.m2_lemmas.Booleans.{if_false, from_false_true}
use Rattle.m2_channel.proofs.TwoWays.{some_of_none, unmapped}
use Rattle.m2_links_go_on.proofs.AreHeard.{is_parcel}

-- ---- keys

last_false : (b c : Bool) → c ≡ false → (b && c) ≡ false
last_false true c e = e
last_false false c e = refl

fast_path : (p : Path) → is_path p Fast ≡ true → p ≡ Fast
fast_path Fast e = refl
fast_path Queued e = from_false_true e

-- ---- through the queue

abbrev IsQueued : Delivery → Type 0
IsQueued (state.letter number life key m) = is_path key.path Fast ≡ false
IsQueued _ = Unit {0}

all_queued : (ds : List Delivery) → AllByRecursion IsQueued (queued_of ds)
all_queued [] = tt
all_queued (state.discarded ∷ ds) = (tt, all_queued ds)
all_queued (state.remote_reset ∷ ds) = (tt, all_queued ds)
all_queued (state.letter n life k m ∷ ds) = at (is_path k.path Fast) refl (all_queued ds)
  where
    at : (b : Bool) → is_path k.path Fast ≡ b → AllByRecursion IsQueued (queued_of ds) → AllByRecursion IsQueued (if b then queued_of ds else state.letter n life k m ∷ queued_of ds)
    at true e all = all
    at false e all = (e, all)

queued_same : (ds : List Delivery) → AllByRecursion IsQueued ds → queued_of ds ≡ ds
queued_same [] all = refl
queued_same (state.discarded ∷ ds) all = ap (λ l. state.discarded ∷ l) (queued_same ds all.1)
queued_same (state.remote_reset ∷ ds) all = ap (λ l. state.remote_reset ∷ l) (queued_same ds all.1)
queued_same (state.letter n life k m ∷ ds) all =
    if_false (is_path k.path Fast) (queued_of ds) (state.letter n life k m ∷ queued_of ds) all.0 ∙ ap (λ l. state.letter n life k m ∷ l) (queued_same ds all.1)

none_of_fast : (key : Key) (ds : List Delivery) → key.path ≡ Fast → AllByRecursion IsQueued ds → channel.of_key key (handed ds) ≡ []
none_of_fast key [] e all = refl
none_of_fast key (state.discarded ∷ ds) e all = none_of_fast key ds e all.1
none_of_fast key (state.remote_reset ∷ ds) e all = none_of_fast key ds e all.1
none_of_fast key (state.letter n life k m ∷ ds) e all =
    if_false (is_key k key) (unnumbered m ∷ channel.of_key key (handed ds)) (channel.of_key key (handed ds))
    (last_false (k.priority == key.priority) (is_path k.path key.path) (ap (is_path k.path) e ∙ all.0))
    ∙ none_of_fast key ds e all.1

are_parcels : (xs : List Parcel) → AreParcelsOf xs (map delivery_of xs)
are_parcels [] = tt
are_parcels (x ∷ xs) = (is_parcel x, are_parcels xs)

queue_none : LogsAreLogs → (peer : ℕ) (calls : List Call) (s : State) (key : Key) → key.path ≡ Fast → AllByRecursion IsQueued (map delivery_of (parcels_of peer calls)) →
    of_key peer key (heard_by_calls peer start calls) ≡ []
queue_none law peer calls s key e all =
    let ds = map delivery_of (parcels_of peer calls) in
    let parcels : AreParcelsOf (parcels_of peer calls) (queued_of ds) = subst (AreParcelsOf (parcels_of peer calls)) (sym (queued_same ds all)) (are_parcels (parcels_of peer calls)) in
    let heard = law peer [] calls (record s { deliveries = ds }) (heard_at_once peer ds, refl) parcels in
    let none : map unnumbered (of_key peer key (heard_by_calls peer start calls)) ≡ [] =
    some_of_none (map unnumbered (of_key peer key (heard_by_calls peer start calls)))
    (subst (IsSublist (map unnumbered (of_key peer key (heard_by_calls peer start calls)))) (none_of_fast key ds e all) (heard.some key)) in
    unmapped (of_key peer key (heard_by_calls peer start calls)) none

-- ---- at once

abbrev IsFastCall : Heard → Type 0
IsFastCall (message peer key number life m) = is_path key.path Fast ≡ true
IsFastCall (reset peer) = Unit {0}

all_fast : (peer : ℕ) (ds : List Delivery) → AllByRecursion IsFastCall (heard_at_once peer ds)
all_fast peer [] = tt
all_fast peer (state.discarded ∷ ds) = all_fast peer ds
all_fast peer (state.remote_reset ∷ ds) = all_fast peer ds
all_fast peer (state.letter n life k m ∷ ds) = at (is_path k.path Fast) refl (all_fast peer ds)
  where
    at : (b : Bool) → is_path k.path Fast ≡ b → AllByRecursion IsFastCall (heard_at_once peer ds) → AllByRecursion IsFastCall (if b then message peer k n life m ∷ heard_at_once peer ds else heard_at_once peer ds)
    at true e all = (e, all)
    at false e all = all

fast_none : (peer : ℕ) (key : Key) (log : List Heard) → key.path ≡ Queued → AllByRecursion IsFastCall (calls_of peer log) → of_key peer key log ≡ []
fast_none peer key [] e all = refl
fast_none peer key (reset p ∷ log) e all = at (p == peer) all (fast_none peer key log e)
  where
    at : (b : Bool) → AllByRecursion IsFastCall (if b then reset p ∷ calls_of peer log else calls_of peer log) → (AllByRecursion IsFastCall (calls_of peer log) → of_key peer key log ≡ []) → of_key peer key log ≡ []
    at true h rest = rest h.1
    at false h rest = rest h
fast_none peer key (message p k n life m ∷ log) e all = at (p == peer) all (fast_none peer key log e)
  where
    another : is_path k.path Fast ≡ true → is_key k key ≡ false
    another fast = last_false (k.priority == key.priority) (is_path k.path key.path) (ap (λ q. is_path q key.path) (fast_path k.path fast) ∙ ap (is_path Fast) e)

    at : (b : Bool) → AllByRecursion IsFastCall (if b then message p k n life m ∷ calls_of peer log else calls_of peer log) → (AllByRecursion IsFastCall (calls_of peer log) → of_key peer key log ≡ []) →
        (if b && is_key k key then m ∷ of_key peer key log else of_key peer key log) ≡ []
    at true h rest = if_false (is_key k key) (m ∷ of_key peer key log) (of_key peer key log) (another h.0) ∙ rest h.1
    at false h rest = rest h

-- ---- both

module _ (law : LogsAreLogs) {D : Type 0} (heard : D → List Heard) (l : LoggingNow D) (is : IsLogged heard l) (s : State) (r : RecordNow) (one : IsOneOf r l.records) where
  its : IsLoggedOf heard is.calls l.out r
  its = of_each (IsLoggedOf heard is.calls l.out) r l.records is.each one

  at_once : AllByRecursion IsFastCall (calls_of r.place (heard l.out.fast))
  at_once =
      all_front IsFastCall (calls_of r.place (heard l.out.fast)) (calls_of r.place (heard_held l.out.held))
      (subst (AllByRecursion IsFastCall) (sym its.fast ∙ filter-append (λ h. hear.peer_of h == r.place) (heard l.out.fast) (heard_held l.out.held)) (all_fast r.place (handed_of r)))

  through : AllByRecursion IsQueued (map delivery_of (parcels_of r.place is.calls))
  through =
      let put = parcels_of r.place is.calls in
      let mail = parcels_of r.place (all_put l.out.mail) in
      all_front IsQueued (map delivery_of put) (map delivery_of mail)
      (subst (AllByRecursion IsQueued) (sym its.queued ∙ ap (map delivery_of) (parcels-append r.place is.calls (all_put l.out.mail)) ∙ map-append delivery_of put mail) (all_queued (handed_of r)))

  by_path : (key : Key) (p : Path) → key.path ≡ p → (of_key r.place key (heard l.out.fast) ≡ []) ⊎ (of_key r.place key (heard l.queued.inner) ≡ [])
  by_path key Fast e = inr (ap (of_key r.place key) (is.queue.heard_so r.place) ∙ queue_none law r.place is.calls s key e through)
  by_path key Queued e = inl (fast_none r.place key (heard l.out.fast) e at_once)

  pub one_way : (key : Key) → (of_key r.place key (heard l.out.fast) ≡ []) ⊎ (of_key r.place key (heard l.queued.inner) ≡ [])
  one_way key = by_path key key.path refl
