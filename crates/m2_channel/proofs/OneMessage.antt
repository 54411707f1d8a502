-- There is a history of which a run of the channel is observed that posts, accepts, dispatches and acknowledges a message.
use Rattle.std.proofs.Common.{◌≡◌, ℕ, Bool, true, false, ◌==◌, if◌then◌else◌, List, [], ◌∷◌, ◌++◌, length, map, drop, slice_get, true≢false, refl, sym, ap, ◌∙◌, arith, append-nil}
use Rattle.std.proofs.lemmas.Bool.{eq-eqb}
use Rattle.std.proofs.lemmas.Option.{same_Some}
use Rattle.m2_dispatch.specs.Heard as heard
use Rattle.m2_dispatch.specs.Heard.{Heard}
use Rattle.m2_dispatch.specs.m2_message.Message.{Content, unnumbered}
use Rattle.m2_dispatch.specs.m2_policy.declared.path.Key.{Key}
use Rattle.m2_never_reset.specs.m2_journal.State as state
use Rattle.m2_never_reset.specs.m2_journal.State.{Delivery, State}
use Rattle.m2_never_reset.specs.LinkOf.{letters}
use Rattle.m2_never_reset.specs.Orders.{near_after, far_after, AMessageComesOver, LosslessIsNeverReset}
use Rattle.m2_channel.specs.Channel as channel
use Rattle.m2_channel.specs.Channel.{keyed, dispatches}
use Rattle.m2_channel.specs.Observed.{Logs, observed, heard_from, handed}
use Rattle.m2_channel.specs.ObservedLaws.{IsLogOf, AreLogs, AMessageIsObserved}
use Rattle.m2_channel.proofs.Keys.{key_self}
use Rattle.m2_channel.proofs.Observing.{heard_keys, observed_is}

-- ---- one letter

pub record OneLetter (ds : List Delivery) (m : Content) : Type 0 where
  pub key : Key
  pub handed : handed ds ≡ keyed key m ∷ []

none_handed : (ds : List Delivery) → letters ds ≡ [] → handed ds ≡ []
none_handed [] e = refl
none_handed (state.letter n life k m ∷ ds) e = absurd (let long = ap (λ l. length l) e in omega (arith, long))
none_handed (state.discarded ∷ ds) e = none_handed ds e
none_handed (state.remote_reset ∷ ds) e = none_handed ds e

one_letter : (ds : List Delivery) (m : Content) → letters ds ≡ m ∷ [] → OneLetter ds m
one_letter [] m e = absurd (let long = ap (λ l. length l) e in omega (arith, long))
one_letter (state.letter n life k c ∷ ds) m e =
    let same = same_Some (unnumbered c) m (ap (λ l. slice_get l 0) e) in
    let none = none_handed ds (ap (drop 1) e) in
    record { key = k; handed = ap (λ x. record { key = k; message = unnumbered x } ∷ handed ds) same ∙ ap (λ l. keyed k m ∷ l) none }
one_letter (state.discarded ∷ ds) m e = let it = one_letter ds m e in record { key = it.key; handed = it.handed }
one_letter (state.remote_reset ∷ ds) m e = let it = one_letter ds m e in record { key = it.key; handed = it.handed }

-- ---- its log

abbrev one_heard : (peer life : ℕ) → Key → Content → List Heard
one_heard peer life k m = heard.message peer k 1 life m ∷ []

heard_one : (peer life : ℕ) (k : Key) (m : Content) → heard_from peer (one_heard peer life k m) ≡ keyed k m ∷ []
heard_one peer life k m = at (peer == peer) (eq-eqb peer peer refl)
  where
    at : (b : Bool) → b ≡ true → (if b then keyed k m ∷ [] else []) ≡ keyed k m ∷ []
    at true e = refl
    at false e = absurd (true≢false (sym e))

its_log : (peer life : ℕ) (k : Key) (m : Content) (s : State) → handed s.deliveries ≡ keyed k m ∷ [] → IsLogOf peer (one_heard peer life k m) s
its_log peer life k m s e none key =
    let log = one_heard peer life k m in
    ([], ap (channel.of_key key) (e ∙ sym (heard_one peer life k m)) ∙ heard_keys peer key log ∙ sym (append-nil (map unnumbered (heard.of_key peer key log))))

no_log : (peer : ℕ) (s : State) → IsLogOf peer [] s
no_log peer s none key = (channel.of_key key (handed s.deliveries), refl)

abbrev no_logs : Logs
no_logs = record { fast = []; queued = [] }

-- ---- it is observed

pub is_observed : LosslessIsNeverReset → AMessageComesOver → AMessageIsObserved
is_observed never it =
    let b = far_after it.g it.order in
    let one = one_letter b.deliveries it.message it.accepted in
    let peer = it.f.node.number in
    let log : Logs = record { fast = []; queued = one_heard peer b.life one.key it.message } in
    let logs : AreLogs it.f it.g it.order no_logs log = record {
      near = no_log it.g.node.number (near_after it.f it.order);
      far = its_log peer b.life one.key it.message b one.handed;
    } in
    let brought = observed_is never it.f it.g it.order no_logs log it.nodes it.history logs in
    let dispatched = brought.near.dispatches ∙ heard_one peer b.life one.key it.message in
    let first = brought.near.delivered.over one.key in
    let own : channel.of_key one.key (dispatches (observed it.f it.g it.order log)) ≡ unnumbered it.message ∷ [] =
    ap (channel.of_key one.key) dispatched ∙ ap (λ b. if b then unnumbered it.message ∷ [] else []) (key_self one.key) in
    record {
      f = it.f;
      g = it.g;
      order = it.order;
      near_logs = no_logs;
      far_logs = log;
      nodes = it.nodes;
      history = it.history;
      logs = logs;
      brought = brought;
      message = keyed one.key it.message;
      more = first.0;
      posted = first.1 ∙ ap (λ l. l ++ first.0) own;
      accepted = brought.near.acceptances ∙ one.handed;
      dispatched = dispatched;
      acknowledged = brought.near.acknowledged ∙ it.acknowledged;
    }
