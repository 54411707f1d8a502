-- A parcel that is put into the outbox: a letter of a fast key is dispatched or held, each other parcel is last in the mail. Of its
-- peer this is what the dispatchers have more, and of the others they have the same.
use Rattle.std.proofs.Common.{◌≡◌, ℕ, ◌==◌, Bool, true, false, if◌then◌else◌, List, [], ◌∷◌, ◌++◌, map, Option, Some, None, refl, sym, ap, subst, ◌∙◌, append-nil, append_assoc}
use Rattle.std.specs.Option.{is_none}
use Rattle.std.proofs.lemmas.Bool.{eq-eqb}
use Rattle.std.proofs.lemmas.List.{map-append}
use Rattle.std.proofs.lemmas.List.Elements.{filter-append}
use Rattle.m2_dispatch.specs.Heard as hear
use Rattle.m2_dispatch.specs.Heard.{Heard, is_path}
use Rattle.m2_dispatch.specs.declared.letter.Letter.{Letter}
use Rattle.m2_dispatch.specs.declared.parcel.Parcel.{Parcel}
use Rattle.m2_dispatch.specs.declared.parcel.Parcel.TheVariants as parcel
use Rattle.m2_dispatch.specs.Laws.{Call, Put, Turn}
use Rattle.m2_dispatch.specs.Letters.{heard_in}
use Rattle.m2_dispatch.specs.m2_message.Message.{content_of}
use Rattle.m2_dispatch.specs.m2_policy.declared.path.Path.{Path}
use Rattle.m2_dispatch.specs.m2_policy.declared.path.Path.TheVariants.{Fast, Queued}
use Rattle.m2_weave.specs.m2_journal.State as state
use Rattle.m2_weave.specs.m2_journal.State.{Delivery}
use Rattle.m2_history.specs.m2_channel.Handing.{calls_of, heard_at_once, parcels_of, peer_of, queued_of}
use Rattle.m2_history.specs.m2_record.IsRecord.{IsFrom}
use Rattle.m2_history.specs.m2_record.RecordNow.{RecordNow, delivery_of}
use Rattle.m2_cluster.specs.m2_center.m2_turn.Outbox.{Dispatches, DispatchesOr, OutboxNow, Puts, PutsLetter, Retries, RetriesFor, is_free}
use Rattle.m2_links_go_on.specs.Logged.{IsLoggedOf, all_put, fast_calls, handed_of, heard_held}
use Rattle.m2_fabric.proofs.m2_lemmas.Booleans.{both_of_and, false_isnt_true}

-- ---- lists

pub once-append : (peer : ℕ) (ds es : List Delivery) → heard_at_once peer (ds ++ es) ≡ heard_at_once peer ds ++ heard_at_once peer es
once-append peer [] es = refl
once-append peer (state.letter number life key m ∷ ds) es = at (is_path key.path Fast) (once-append peer ds es)
  where
    at : (b : Bool) → heard_at_once peer (ds ++ es) ≡ heard_at_once peer ds ++ heard_at_once peer es →
        (if b then hear.message peer key number life m ∷ heard_at_once peer (ds ++ es) else heard_at_once peer (ds ++ es))
        ≡ (if b then hear.message peer key number life m ∷ heard_at_once peer ds else heard_at_once peer ds) ++ heard_at_once peer es
    at true e = ap (λ l. hear.message peer key number life m ∷ l) e
    at false e = e
once-append peer (state.discarded ∷ ds) es = once-append peer ds es
once-append peer (state.remote_reset ∷ ds) es = once-append peer ds es

pub queued-append : (ds es : List Delivery) → queued_of (ds ++ es) ≡ queued_of ds ++ queued_of es
queued-append [] es = refl
queued-append (state.letter number life key m ∷ ds) es = at (is_path key.path Fast) (queued-append ds es)
  where
    at : (b : Bool) → queued_of (ds ++ es) ≡ queued_of ds ++ queued_of es →
        (if b then queued_of (ds ++ es) else state.letter number life key m ∷ queued_of (ds ++ es)) ≡ (if b then queued_of ds else state.letter number life key m ∷ queued_of ds) ++ queued_of es
    at true e = e
    at false e = ap (λ l. state.letter number life key m ∷ l) e
queued-append (state.discarded ∷ ds) es = ap (λ l. state.discarded ∷ l) (queued-append ds es)
queued-append (state.remote_reset ∷ ds) es = ap (λ l. state.remote_reset ∷ l) (queued-append ds es)

pub parcels-append : (peer : ℕ) (xs ys : List Call) → parcels_of peer (xs ++ ys) ≡ parcels_of peer xs ++ parcels_of peer ys
parcels-append peer [] ys = refl
parcels-append peer (Turn ∷ xs) ys = parcels-append peer xs ys
parcels-append peer (Put p ∷ xs) ys = at (peer_of p == peer) (parcels-append peer xs ys)
  where
    at : (b : Bool) → parcels_of peer (xs ++ ys) ≡ parcels_of peer xs ++ parcels_of peer ys →
        (if b then p ∷ parcels_of peer (xs ++ ys) else parcels_of peer (xs ++ ys)) ≡ (if b then p ∷ parcels_of peer xs else parcels_of peer xs) ++ parcels_of peer ys
    at true e = ap (λ l. p ∷ l) e
    at false e = e

-- ---- where a parcel goes

abbrev pub once_in : Parcel → List Heard
once_in (parcel.Letter l) = if is_path l.key.path Fast then heard_in l ∷ [] else []
once_in _ = []

abbrev pub queued_in : Parcel → List Parcel
queued_in (parcel.Letter l) = if is_path l.key.path Fast then [] else parcel.Letter l ∷ []
queued_in x = x ∷ []

-- to the dispatcher of fast keys, or into the mail
pub record Goes {D : Type 0} (heard : D → List Heard) (x : Parcel) (old new : OutboxNow D) : Type 0 where
  pub fast : fast_calls heard new ≡ fast_calls heard old ++ once_in x
  pub mail : new.mail ≡ old.mail ++ queued_in x

-- ---- of which peer

same_peer : (place : ℕ) (x : Parcel) → IsFrom place x → peer_of x ≡ place
same_peer place (parcel.Letter l) h = h.0
same_peer place (parcel.Discard peer) h = h
same_peer place (parcel.RemoteReset peer) h = h

-- what goes to the dispatcher of fast keys is what the delivery says
once_of_peer : (place : ℕ) (x : Parcel) → IsFrom place x → calls_of place (once_in x) ≡ heard_at_once place (delivery_of x ∷ [])
once_of_peer place (parcel.Letter l) h = at (is_path l.key.path Fast)
  where
    one : calls_of place (heard_in l ∷ []) ≡ hear.message place l.key l.number l.life (content_of l.message) ∷ []
    one = rw h.0 (rw (eq-eqb place place refl) refl)

    at : (b : Bool) → calls_of place (if b then heard_in l ∷ [] else []) ≡ (if b then hear.message place l.key l.number l.life (content_of l.message) ∷ [] else [])
    at true = one
    at false = refl
once_of_peer place (parcel.Discard peer) h = refl
once_of_peer place (parcel.RemoteReset peer) h = refl

once_of_other : (place q : ℕ) (x : Parcel) → IsFrom place x → (place == q) ≡ false → calls_of q (once_in x) ≡ []
once_of_other place q (parcel.Letter l) h other = at (is_path l.key.path Fast)
  where
    none : calls_of q (heard_in l ∷ []) ≡ []
    none = rw h.0 (rw other refl)

    at : (b : Bool) → calls_of q (if b then heard_in l ∷ [] else []) ≡ []
    at true = none
    at false = refl
once_of_other place q (parcel.Discard peer) h other = refl
once_of_other place q (parcel.RemoteReset peer) h other = refl

one_put : (q : ℕ) (x : Parcel) (b : Bool) → (peer_of x == q) ≡ b → parcels_of q (all_put (x ∷ [])) ≡ (if b then x ∷ [] else [])
one_put q x b e = rw e refl

own_put : (place : ℕ) (x : Parcel) → IsFrom place x → parcels_of place (all_put (x ∷ [])) ≡ x ∷ []
own_put place x h = one_put place x true (ap (λ n. n == place) (same_peer place x h) ∙ eq-eqb place place refl)

other_put : (place q : ℕ) (x : Parcel) → IsFrom place x → (place == q) ≡ false → parcels_of q (all_put (x ∷ [])) ≡ []
other_put place q x h other = one_put q x false (ap (λ n. n == q) (same_peer place x h) ∙ other)

queued_of_peer : (place : ℕ) (x : Parcel) → IsFrom place x → map delivery_of (parcels_of place (all_put (queued_in x))) ≡ queued_of (delivery_of x ∷ [])
queued_of_peer place (parcel.Letter l) h = at (is_path l.key.path Fast)
  where
    at : (b : Bool) → map delivery_of (parcels_of place (all_put (if b then [] else parcel.Letter l ∷ []))) ≡ (if b then [] else delivery_of (parcel.Letter l) ∷ [])
    at true = refl
    at false = ap (map delivery_of) (own_put place (parcel.Letter l) h)
queued_of_peer place (parcel.Discard peer) h = ap (map delivery_of) (own_put place (parcel.Discard peer) h)
queued_of_peer place (parcel.RemoteReset peer) h = ap (map delivery_of) (own_put place (parcel.RemoteReset peer) h)

queued_of_other : (place q : ℕ) (x : Parcel) → IsFrom place x → (place == q) ≡ false → parcels_of q (all_put (queued_in x)) ≡ []
queued_of_other place q (parcel.Letter l) h other = at (is_path l.key.path Fast)
  where
    at : (b : Bool) → parcels_of q (all_put (if b then [] else parcel.Letter l ∷ [])) ≡ []
    at true = refl
    at false = other_put place q (parcel.Letter l) h other
queued_of_other place q (parcel.Discard peer) h other = other_put place q (parcel.Discard peer) h other
queued_of_other place q (parcel.RemoteReset peer) h other = other_put place q (parcel.RemoteReset peer) h other

-- ---- what the outbox does

none_held : (o : Option Letter) → is_none o ≡ true → o ≡ None
none_held None h = refl
none_held (Some l) h = absurd (false_isnt_true h)

pub free_holds_none : {D : Type 0} (o : OutboxNow D) → is_free o ≡ true → o.held ≡ None
free_holds_none o h = none_held o.held (both_of_and (is_none o.held) _ h).0

module _ {D : Type 0} (heard : D → List Heard) where
  dispatched : (l : Letter) (old new : OutboxNow D) → Dispatches heard l old new → (fast_calls heard new ≡ heard old.fast ++ heard_in l ∷ []) × (new.mail ≡ old.mail)
  dispatched l old new h = at new.held h
    where
      at : (o : Option Letter) → DispatchesOr heard l old new o → (heard new.fast ++ heard_held o ≡ heard old.fast ++ heard_in l ∷ []) × (new.mail ≡ old.mail)
      at None (fast, mail) = (append-nil (heard new.fast) ∙ fast, mail)
      at (Some kept) (same, fast, mail) = (ap (λ k. heard new.fast ++ heard_in k ∷ []) same ∙ ap (λ c. c ++ heard_in l ∷ []) fast, mail)

  nothing_held : (old : OutboxNow D) → old.held ≡ None → fast_calls heard old ≡ heard old.fast
  nothing_held old e = ap (λ o. heard old.fast ++ heard_held o) e ∙ append-nil (heard old.fast)

  mailed : (x : Parcel) (old new : OutboxNow D) → once_in x ≡ [] → queued_in x ≡ x ∷ [] → new ≡ record old { mail = old.mail ++ x ∷ [] } → Goes heard x old new
  mailed x old new once queued e = record {
    fast = ap (fast_calls heard) e ∙ sym (append-nil (fast_calls heard old)) ∙ ap (λ l. fast_calls heard old ++ l) (sym once);
    mail = ap (λ o. o.mail) e ∙ ap (λ l. old.mail ++ l) (sym queued);
  }

  letter_goes : (l : Letter) (path : Path) (old new : OutboxNow D) → l.key.path ≡ path → old.held ≡ None → PutsLetter heard l path old new → Goes heard (parcel.Letter l) old new
  letter_goes l Fast old new e none h =
      let so = dispatched l old new h in
      record {
        fast = so.0 ∙ ap (λ c. c ++ heard_in l ∷ []) (sym (nothing_held old none)) ∙ ap (λ p. fast_calls heard old ++ (if is_path p Fast then heard_in l ∷ [] else [])) (sym e);
        mail = so.1 ∙ sym (append-nil old.mail) ∙ ap (λ p. old.mail ++ (if is_path p Fast then [] else parcel.Letter l ∷ [])) (sym e);
      }
  letter_goes l Queued old new e none h =
      mailed (parcel.Letter l) old new (ap (λ p. if is_path p Fast then heard_in l ∷ [] else []) e) (ap (λ p. if is_path p Fast then [] else parcel.Letter l ∷ []) e) h

  pub puts : (x : Parcel) (old new : OutboxNow D) → old.held ≡ None → Puts heard x old new → Goes heard x old new
  puts (parcel.Letter l) old new none h = letter_goes l l.key.path old new refl none h
  puts (parcel.Discard peer) old new none h = mailed (parcel.Discard peer) old new refl refl h
  puts (parcel.RemoteReset peer) old new none h = mailed (parcel.RemoteReset peer) old new refl refl h

  -- the held letter that is tried again: nothing comes to it
  pub retries : (old new : OutboxNow D) → Retries heard old new → (fast_calls heard new ≡ fast_calls heard old) × (new.mail ≡ old.mail)
  retries old new h = at old.held refl h
    where
      at : (o : Option Letter) → old.held ≡ o → RetriesFor heard o old new → (fast_calls heard new ≡ fast_calls heard old) × (new.mail ≡ old.mail)
      at (Some l) held r = let so = dispatched l old new r in (so.0 ∙ ap (λ p. heard old.fast ++ heard_held p) (sym held), so.1)
      at None held e = (ap (fast_calls heard) e, ap (λ o. o.mail) e)

-- ---- a record and its peer

-- what the dispatchers have of a peer's
abbrev pub HaveTheSame : {D : Type 0} → (heard : D → List Heard) → List Call → ℕ → OutboxNow D → OutboxNow D → Type 0
HaveTheSame heard calls q old new =
    (calls_of q (fast_calls heard new) ≡ calls_of q (fast_calls heard old)) × (parcels_of q (calls ++ all_put new.mail) ≡ parcels_of q (calls ++ all_put old.mail))

-- of the peer they have what the record hands on still, and of others what they had
pub record StaysLogged {D : Type 0} (heard : D → List Heard) (calls : List Call) (old new : OutboxNow D) (r s : RecordNow) : Type 0 where
  pub place : s.place ≡ r.place
  pub others : (q : ℕ) → (r.place == q) ≡ false → HaveTheSame heard calls q old new
  pub logged : IsLoggedOf heard calls old r → IsLoggedOf heard calls new s

more_mail : (q : ℕ) (calls : List Call) (mail more : List Parcel) → parcels_of q (calls ++ all_put (mail ++ more)) ≡ parcels_of q (calls ++ all_put mail) ++ parcels_of q (all_put more)
more_mail q calls mail more =
    ap (λ l. parcels_of q (calls ++ l)) (map-append Put mail more) ∙ ap (parcels_of q) (sym (append_assoc calls (all_put mail) (all_put more)))
    ∙ parcels-append q (calls ++ all_put mail) (all_put more)

module _ {D : Type 0} (heard : D → List Heard) (calls : List Call) where
  -- nothing is put, and nothing handed on
  pub stays_still : (old new : OutboxNow D) (r s : RecordNow) → fast_calls heard new ≡ fast_calls heard old → new.mail ≡ old.mail → s.place ≡ r.place → handed_of s ≡ handed_of r → StaysLogged heard calls old new r s
  stays_still old new r s fast mail place handed = record {
    place = place;
    others = λ q other. (ap (calls_of q) fast, ap (λ l. parcels_of q (calls ++ all_put l)) mail);
    logged = λ is. record {
      fast = subst (λ p. calls_of p (fast_calls heard new) ≡ heard_at_once p (handed_of s)) (sym place) (ap (calls_of r.place) fast ∙ is.fast ∙ ap (heard_at_once r.place) (sym handed));
      queued = subst (λ p. map delivery_of (parcels_of p (calls ++ all_put new.mail)) ≡ queued_of (handed_of s)) (sym place)
          (ap (λ l. map delivery_of (parcels_of r.place (calls ++ all_put l))) mail ∙ is.queued ∙ ap queued_of (sym handed));
    };
  }

  -- a parcel is handed on and put
  pub stays_handed : (x : Parcel) (old new : OutboxNow D) (r s : RecordNow) → Goes heard x old new → IsFrom r.place x → s.place ≡ r.place → handed_of s ≡ handed_of r ++ delivery_of x ∷ [] → StaysLogged heard calls old new r s
  stays_handed x old new r s goes from place handed = record {
    place = place;
    others = λ q other. (
      fast q ∙ ap (λ l. calls_of q (fast_calls heard old) ++ l) (once_of_other r.place q x from other) ∙ append-nil (calls_of q (fast_calls heard old)),
      mail q ∙ ap (λ l. parcels_of q (calls ++ all_put old.mail) ++ l) (queued_of_other r.place q x from other) ∙ append-nil (parcels_of q (calls ++ all_put old.mail)),
    );
    logged = λ is. record {
      fast = subst (λ p. calls_of p (fast_calls heard new) ≡ heard_at_once p (handed_of s)) (sym place)
          (fast r.place ∙ ap (λ l. l ++ calls_of r.place (once_in x)) is.fast ∙ ap (λ l. heard_at_once r.place (handed_of r) ++ l) (once_of_peer r.place x from)
          ∙ sym (once-append r.place (handed_of r) (delivery_of x ∷ [])) ∙ ap (heard_at_once r.place) (sym handed));
      queued = subst (λ p. map delivery_of (parcels_of p (calls ++ all_put new.mail)) ≡ queued_of (handed_of s)) (sym place)
          (ap (map delivery_of) (mail r.place) ∙ map-append delivery_of (parcels_of r.place (calls ++ all_put old.mail)) (parcels_of r.place (all_put (queued_in x)))
          ∙ ap (λ l. l ++ map delivery_of (parcels_of r.place (all_put (queued_in x)))) is.queued ∙ ap (λ l. queued_of (handed_of r) ++ l) (queued_of_peer r.place x from)
          ∙ sym (queued-append (handed_of r) (delivery_of x ∷ [])) ∙ ap queued_of (sym handed));
    };
  }
    where
      fast : (q : ℕ) → calls_of q (fast_calls heard new) ≡ calls_of q (fast_calls heard old) ++ calls_of q (once_in x)
      fast q = ap (calls_of q) goes.fast ∙ filter-append (λ h. hear.peer_of h == q) (fast_calls heard old) (once_in x)

      mail : (q : ℕ) → parcels_of q (calls ++ all_put new.mail) ≡ parcels_of q (calls ++ all_put old.mail) ++ parcels_of q (all_put (queued_in x))
      mail q = ap (λ l. parcels_of q (calls ++ all_put l)) goes.mail ∙ more_mail q calls old.mail (queued_in x)

  pub stays_chain : (a b c : OutboxNow D) (r s t : RecordNow) → StaysLogged heard calls a b r s → StaysLogged heard calls b c s t → StaysLogged heard calls a c r t
  stays_chain a b c r s t first second = record {
    place = second.place ∙ first.place;
    others = λ q other. (let one = first.others q other in let two = second.others q (ap (λ p. p == q) first.place ∙ other) in (two.0 ∙ one.0, two.1 ∙ one.1));
    logged = λ is. second.logged (first.logged is);
  }
