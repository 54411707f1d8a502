-- What a dispatcher is called with is of each key the first ones of what a record handed on.
use Rattle.std.proofs.Common.{◌≡◌, ℕ, inl, inr, Bool, true, false, ◌&&◌, ◌==◌, if◌then◌else◌, List, [], ◌∷◌, ◌++◌, map, take, refl, sym, ap, subst, ◌∙◌, append-nil, append_assoc}
use Rattle.std.specs.List.{AllByRecursion}
use Rattle.std.proofs.lemmas.List.{map-append}
use Rattle.std.proofs.lemmas.List.Elements.{filter-append}
use Rattle.m2_dispatch.specs.Heard as heard
use Rattle.m2_dispatch.specs.Heard.{Heard, is_key}
use Rattle.m2_dispatch.specs.declared.letter.Letter.{Letter}
use Rattle.m2_dispatch.specs.declared.parcel.Parcel.{Parcel}
use Rattle.m2_dispatch.specs.declared.parcel.Parcel.TheVariants as parcel
use Rattle.m2_dispatch.specs.Laws.{Call, Put, Turn, History, start, since, letters_of, after_call, after_calls, EachKeyKeepsItsOrder, DispatchedInOrder, IsSublist}
use Rattle.m2_dispatch.specs.Letters.{heard_in, letters_of_key, is_of_key}
use Rattle.m2_dispatch.specs.Parcel.{heard_at_put}
use Rattle.m2_dispatch.specs.m2_message.Message.{Content, content_of, unnumbered}
use Rattle.m2_dispatch.specs.m2_policy.declared.path.Key.{Key}
use Rattle.m2_never_reset.specs.Order.{AreFirstOf}
use Rattle.m2_never_reset.specs.m2_journal.State as state
use Rattle.m2_never_reset.specs.m2_journal.State.{Delivery, State}
use Rattle.m2_channel.specs.Channel as channel
use Rattle.m2_channel.specs.Observed.{handed, IsNoDiscard, IsLetter}
use Rattle.m2_channel.specs.ObservedLaws.{IsLogOf}
use Rattle.m2_channel.specs.Handing.{IsNoResetOf, peer_of, parcels_of, IsParcelOf, AreParcelsOf, heard_by_calls, IsHeardOf}
use Rattle.m2_channel.proofs.Keys.{first_of_first}
use Rattle.m2_dispatch.proofs.m2_lemmas.Booleans.{from_false_true}
use Rattle.m2_dispatch.proofs.m2_lemmas.Lists.{all_append}

-- what the law of the queue says
pub record DispatchesInOrder : Type 0 where
  pub whole : EachKeyKeepsItsOrder
  pub ever : DispatchedInOrder

abbrev content : Letter → Content
content l = content_of l.message

-- ---- no discard

abbrev IsNoDiscardOf : ℕ → Parcel → Type 0
IsNoDiscardOf peer (parcel.Discard p) = (p == peer) ≡ false
IsNoDiscardOf peer _ = Unit {0}

abbrev NoneDiscards : ℕ → List Call → Type 0
NoneDiscards peer [] = Unit {0}
NoneDiscards peer (Put p ∷ calls) = IsNoDiscardOf peer p × NoneDiscards peer calls
NoneDiscards peer (Turn ∷ calls) = NoneDiscards peer calls

abbrev IsNoDiscardAtAll : Parcel → Type 0
IsNoDiscardAtAll (parcel.Discard p) = ⊥
IsNoDiscardAtAll _ = Unit {0}

none_handed : (p : Parcel) (d : Delivery) → IsParcelOf p d → IsNoDiscard d → IsNoDiscardAtAll p
none_handed (parcel.Letter l) d is no_discard = tt
none_handed (parcel.RemoteReset p) d is no_discard = tt
none_handed (parcel.Discard p) state.discarded is no_discard = no_discard
none_handed (parcel.Discard p) (state.letter n life k m) is no_discard = is
none_handed (parcel.Discard p) state.remote_reset is no_discard = is

all_handed : (ps : List Parcel) (ds : List Delivery) → AreParcelsOf ps ds → AllByRecursion IsNoDiscard ds → AllByRecursion IsNoDiscardAtAll ps
all_handed [] ds are none = tt
all_handed (p ∷ ps) [] are none = absurd are
all_handed (p ∷ ps) (d ∷ ds) are none = (none_handed p d are.0 none.0, all_handed ps ds are.1 none.1)

none_put : (peer : ℕ) (p : Parcel) (b : Bool) → (peer_of p == peer) ≡ b → (b ≡ true → IsNoDiscardAtAll p) → IsNoDiscardOf peer p
none_put peer (parcel.Letter l) b e h = tt
none_put peer (parcel.RemoteReset q) b e h = tt
none_put peer (parcel.Discard q) true e h = absurd (h refl)
none_put peer (parcel.Discard q) false e h = e

none_discards : (peer : ℕ) (calls : List Call) → AllByRecursion IsNoDiscardAtAll (parcels_of peer calls) → NoneDiscards peer calls
none_discards peer [] h = tt
none_discards peer (Turn ∷ calls) h = none_discards peer calls h
none_discards peer (Put p ∷ calls) h = at (peer_of p == peer) refl h (λ g. none_discards peer calls g)
  where
    at : (b : Bool) → (peer_of p == peer) ≡ b → AllByRecursion IsNoDiscardAtAll (if b then p ∷ parcels_of peer calls else parcels_of peer calls) →
        (AllByRecursion IsNoDiscardAtAll (parcels_of peer calls) → NoneDiscards peer calls) → IsNoDiscardOf peer p × NoneDiscards peer calls
    at true e g on = (none_put peer p true e (λ x. g.0), on g.1)
    at false e g on = (none_put peer p false e (λ x. from_false_true x), on g)

since_all : (peer : ℕ) (p : Parcel) (ls : List Letter) → IsNoDiscardOf peer p → since peer p ls ≡ ls
since_all peer (parcel.Letter l) ls h = refl
since_all peer (parcel.RemoteReset q) ls h = refl
since_all peer (parcel.Discard q) ls h = ap (λ b. if b then [] else ls) h

-- ---- what is heard are the letters that were dispatched

heard_letters : (peer : ℕ) (key : Key) (ls : List Letter) → heard.of_key peer key (map heard_in ls) ≡ map content (letters_of_key peer key ls)
heard_letters peer key [] = refl
heard_letters peer key (l ∷ ls) = at (is_of_key peer key l) (heard_letters peer key ls)
  where
    at : (b : Bool) → heard.of_key peer key (map heard_in ls) ≡ map content (letters_of_key peer key ls) →
        (if b then content l ∷ heard.of_key peer key (map heard_in ls) else heard.of_key peer key (map heard_in ls))
        ≡ map content (if b then l ∷ letters_of_key peer key ls else letters_of_key peer key ls)
    at true e = ap (λ x. content l ∷ x) e
    at false e = e

pub heard-append : (peer : ℕ) (key : Key) (xs ys : List Heard) → heard.of_key peer key (xs ++ ys) ≡ heard.of_key peer key xs ++ heard.of_key peer key ys
heard-append peer key [] ys = refl
heard-append peer key (heard.message p k n life m ∷ xs) ys = at ((p == peer) && is_key k key) (heard-append peer key xs ys)
  where
    at : (b : Bool) → heard.of_key peer key (xs ++ ys) ≡ heard.of_key peer key xs ++ heard.of_key peer key ys →
        (if b then m ∷ heard.of_key peer key (xs ++ ys) else heard.of_key peer key (xs ++ ys))
        ≡ (if b then m ∷ heard.of_key peer key xs else heard.of_key peer key xs) ++ heard.of_key peer key ys
    at true e = ap (λ x. m ∷ x) e
    at false e = e
heard-append peer key (heard.reset p ∷ xs) ys = heard-append peer key xs ys

nothing_at_put : (peer : ℕ) (key : Key) (p : Parcel) → heard.of_key peer key (heard_at_put p) ≡ []
nothing_at_put peer key (parcel.Letter l) = refl
nothing_at_put peer key (parcel.Discard q) = refl
nothing_at_put peer key (parcel.RemoteReset q) = refl

abbrev of_it : ℕ → Key → List Letter → List Content
of_it peer key ls = map content (letters_of_key peer key ls)

of_it-append : (peer : ℕ) (key : Key) (xs ys : List Letter) → of_it peer key (xs ++ ys) ≡ of_it peer key xs ++ of_it peer key ys
of_it-append peer key xs ys =
    ap (map content) (filter-append (is_of_key peer key) xs ys) ∙ map-append content (letters_of_key peer key xs) (letters_of_key peer key ys)

heard_is : (peer : ℕ) (key : Key) (calls : List Call) (h : History) →
    of_it peer key h.ever_dispatched ++ heard.of_key peer key (heard_by_calls peer h calls) ≡ of_it peer key (after_calls peer h calls).ever_dispatched
heard_is peer key [] h = append-nil (of_it peer key h.ever_dispatched)
heard_is peer key (Put p ∷ calls) h =
    ap (λ l. of_it peer key h.ever_dispatched ++ l) (heard-append peer key (heard_at_put p) (heard_by_calls peer (after_call peer h (Put p)) calls)
    ∙ ap (λ l. l ++ heard.of_key peer key (heard_by_calls peer (after_call peer h (Put p)) calls)) (nothing_at_put peer key p))
    ∙ heard_is peer key calls (after_call peer h (Put p))
heard_is peer key (Turn ∷ calls) h =
    ap (λ l. of_it peer key h.ever_dispatched ++ l) (heard-append peer key (map heard_in (take 1 h.waiting)) (heard_by_calls peer (after_call peer h Turn) calls)
    ∙ ap (λ l. l ++ heard.of_key peer key (heard_by_calls peer (after_call peer h Turn) calls)) (heard_letters peer key (take 1 h.waiting)))
    ∙ sym (append_assoc (of_it peer key h.ever_dispatched) (of_it peer key (take 1 h.waiting)) (heard.of_key peer key (heard_by_calls peer (after_call peer h Turn) calls)))
    ∙ ap (λ l. l ++ heard.of_key peer key (heard_by_calls peer (after_call peer h Turn) calls)) (sym (of_it-append peer key h.ever_dispatched (take 1 h.waiting)))
    ∙ heard_is peer key calls (after_call peer h Turn)

-- ---- what was put are the letters that were handed on

abbrev letters_in : List Parcel → List Letter
letters_in [] = []
letters_in (p ∷ ps) = letters_of p ++ letters_in ps

-- one of another peer has no letter of this one
of_another : (peer : ℕ) (key : Key) (p : Parcel) → (peer_of p == peer) ≡ false → of_it peer key (letters_of p) ≡ []
of_another peer key (parcel.Letter l) e = at (l.peer == peer) (is_key l.key key) e
  where
    at : (b c : Bool) → b ≡ false → map content (if b && c then l ∷ [] else []) ≡ []
    at true c g = from_false_true (sym g)
    at false c g = refl
of_another peer key (parcel.Discard q) e = refl
of_another peer key (parcel.RemoteReset q) e = refl

put_is : (peer : ℕ) (key : Key) (calls : List Call) (h : History) →
    of_it peer key (after_calls peer h calls).ever_put ≡ of_it peer key h.ever_put ++ of_it peer key (letters_in (parcels_of peer calls))
put_is peer key [] h = sym (append-nil (of_it peer key h.ever_put))
put_is peer key (Turn ∷ calls) h = put_is peer key calls (after_call peer h Turn)
put_is peer key (Put p ∷ calls) h =
    put_is peer key calls (after_call peer h (Put p))
    ∙ ap (λ l. l ++ of_it peer key (letters_in (parcels_of peer calls))) (of_it-append peer key h.ever_put (letters_of p))
    ∙ append_assoc (of_it peer key h.ever_put) (of_it peer key (letters_of p)) (of_it peer key (letters_in (parcels_of peer calls)))
    ∙ ap (λ l. of_it peer key h.ever_put ++ l) (at (peer_of p == peer) refl)
  where
    at : (b : Bool) → (peer_of p == peer) ≡ b →
        of_it peer key (letters_of p) ++ of_it peer key (letters_in (parcels_of peer calls))
        ≡ of_it peer key (letters_in (if b then p ∷ parcels_of peer calls else parcels_of peer calls))
    at true e = sym (of_it-append peer key (letters_of p) (letters_in (parcels_of peer calls)))
    at false e = ap (λ l. l ++ of_it peer key (letters_in (parcels_of peer calls))) (of_another peer key p e)

-- the parcels of a peer that were put are its own
pub their_own : (peer : ℕ) (calls : List Call) → AllByRecursion (λ p. (peer_of p == peer) ≡ true) (parcels_of peer calls)
their_own peer [] = tt
their_own peer (Turn ∷ calls) = their_own peer calls
their_own peer (Put p ∷ calls) = at (peer_of p == peer) refl (their_own peer calls)
  where
    at : (b : Bool) → (peer_of p == peer) ≡ b → AllByRecursion (λ q. (peer_of q == peer) ≡ true) (parcels_of peer calls) →
        AllByRecursion (λ q. (peer_of q == peer) ≡ true) (if b then p ∷ parcels_of peer calls else parcels_of peer calls)
    at true e h = (e, h)
    at false e h = h

-- a letter and its delivery
one_first : (peer : ℕ) (key : Key) (l : Letter) (k : Key) (m : Content) (ls hs : List Content) → (l.peer == peer) ≡ true → l.key ≡ k → content l ≡ m → AreFirstOf ls hs →
    AreFirstOf (map unnumbered (of_it peer key (l ∷ [])) ++ ls) (if is_key k key then unnumbered m ∷ hs else hs)
one_first peer key l k m ls hs own same e (more, g) =
    subst (λ q. AreFirstOf (map unnumbered (of_it peer key (l ∷ [])) ++ ls) (if is_key q key then unnumbered m ∷ hs else hs)) same
    (subst (λ c. AreFirstOf (map unnumbered (of_it peer key (l ∷ [])) ++ ls) (if is_key l.key key then unnumbered c ∷ hs else hs)) e
    (at (l.peer == peer) (is_key l.key key) own))
  where
    at : (b c : Bool) → b ≡ true → AreFirstOf (map unnumbered (map content (if b && c then l ∷ [] else [])) ++ ls) (if c then unnumbered (content l) ∷ hs else hs)
    at true true o = (more, ap (λ x. unnumbered (content l) ∷ x) g)
    at true false o = (more, g)
    at false c o = from_false_true o

handed_first : (peer : ℕ) (key : Key) (ps : List Parcel) (ds : List Delivery) → AllByRecursion (λ p. (peer_of p == peer) ≡ true) ps → AreParcelsOf ps ds →
    AreFirstOf (map unnumbered (of_it peer key (letters_in ps))) (channel.of_key key (handed ds))
handed_first peer key [] ds own are = (channel.of_key key (handed ds), refl)
handed_first peer key (p ∷ ps) [] own are = absurd are
handed_first peer key (p ∷ ps) (d ∷ ds) own are = each p d own.0 are.0 (handed_first peer key ps ds own.1 are.1)
  where
    each : (p : Parcel) (d : Delivery) → (peer_of p == peer) ≡ true → IsParcelOf p d →
        AreFirstOf (map unnumbered (of_it peer key (letters_in ps))) (channel.of_key key (handed ds)) →
        AreFirstOf (map unnumbered (of_it peer key (letters_in (p ∷ ps)))) (channel.of_key key (handed (d ∷ ds)))
    each (parcel.Letter l) (state.letter n life k m) mine is first =
        subst (λ x. AreFirstOf x (if is_key k key then unnumbered m ∷ channel.of_key key (handed ds) else channel.of_key key (handed ds)))
        (sym (ap (map unnumbered) (of_it-append peer key (l ∷ []) (letters_in ps)) ∙ map-append unnumbered (of_it peer key (l ∷ [])) (of_it peer key (letters_in ps))))
        (one_first peer key l k m (map unnumbered (of_it peer key (letters_in ps))) (channel.of_key key (handed ds)) mine is.0 is.3 first)
    each (parcel.Letter l) state.discarded mine is first = absurd is
    each (parcel.Letter l) state.remote_reset mine is first = absurd is
    each (parcel.Discard q) state.discarded mine is first = first
    each (parcel.Discard q) (state.letter n life k m) mine is first = absurd is
    each (parcel.Discard q) state.remote_reset mine is first = absurd is
    each (parcel.RemoteReset q) state.remote_reset mine is first = first
    each (parcel.RemoteReset q) (state.letter n life k m) mine is first = absurd is
    each (parcel.RemoteReset q) state.discarded mine is first = absurd is

-- ---- without a discard all that ever was dispatched and put was so since the last one

since_ever : (peer : ℕ) (calls : List Call) (h : History) → NoneDiscards peer calls → h.dispatched ≡ h.ever_dispatched → h.put ≡ h.ever_put →
    ((after_calls peer h calls).dispatched ≡ (after_calls peer h calls).ever_dispatched) × ((after_calls peer h calls).put ≡ (after_calls peer h calls).ever_put)
since_ever peer [] h none d p = (d, p)
since_ever peer (Put q ∷ calls) h none d p =
    since_ever peer calls (after_call peer h (Put q)) none.1 (since_all peer q h.dispatched none.0 ∙ d)
    (ap (λ l. l ++ letters_of q) (since_all peer q h.put none.0 ∙ p))
since_ever peer (Turn ∷ calls) h none d p = since_ever peer calls (after_call peer h Turn) none (ap (λ l. l ++ take 1 h.waiting) d) p

-- ---- some of a list, in order

pub some_of_map : {X Y : Type 0} (f : X → Y) (xs ys : List X) → IsSublist xs ys → IsSublist (map f xs) (map f ys)
some_of_map f [] ys h = tt
some_of_map f (x ∷ xs) [] h = absurd h
some_of_map f (x ∷ xs) (y ∷ ys) (inl h) = inl (ap f h.0, some_of_map f xs ys h.1)
some_of_map f (x ∷ xs) (y ∷ ys) (inr h) = inr (some_of_map f (x ∷ xs) ys h)

pub some_of_more : {X : Type 0} (xs ys zs : List X) → IsSublist xs ys → IsSublist xs (ys ++ zs)
some_of_more [] ys zs h = tt
some_of_more (x ∷ xs) [] zs h = absurd h
some_of_more (x ∷ xs) (y ∷ ys) zs (inl h) = inl (h.0, some_of_more xs ys zs h.1)
some_of_more (x ∷ xs) (y ∷ ys) zs (inr h) = inr (some_of_more (x ∷ xs) ys zs h)

-- ---- where messages alone are handed on no reset is heard

abbrev IsLetterParcel : Parcel → Type 0
IsLetterParcel (parcel.Letter l) = Unit {0}
IsLetterParcel _ = ⊥

letter_handed : (p : Parcel) (d : Delivery) → IsParcelOf p d → IsLetter d → IsLetterParcel p
letter_handed (parcel.Letter l) d is only = tt
letter_handed (parcel.Discard q) state.discarded is only = only
letter_handed (parcel.Discard q) (state.letter n life k m) is only = is
letter_handed (parcel.Discard q) state.remote_reset is only = is
letter_handed (parcel.RemoteReset q) state.remote_reset is only = only
letter_handed (parcel.RemoteReset q) (state.letter n life k m) is only = is
letter_handed (parcel.RemoteReset q) state.discarded is only = is

letters_handed : (ps : List Parcel) (ds : List Delivery) → AreParcelsOf ps ds → AllByRecursion IsLetter ds → AllByRecursion IsLetterParcel ps
letters_handed [] ds are only = tt
letters_handed (p ∷ ps) [] are only = absurd are
letters_handed (p ∷ ps) (d ∷ ds) are only = (letter_handed p d are.0 only.0, letters_handed ps ds are.1 only.1)

none_of_letters : (peer : ℕ) (ls : List Letter) → AllByRecursion (IsNoResetOf peer) (map heard_in ls)
none_of_letters peer [] = tt
none_of_letters peer (l ∷ ls) = (tt, none_of_letters peer ls)

none_at_put : (peer : ℕ) (p : Parcel) (b : Bool) → (peer_of p == peer) ≡ b → (b ≡ true → IsLetterParcel p) → AllByRecursion (IsNoResetOf peer) (heard_at_put p)
none_at_put peer (parcel.Letter l) b e h = tt
none_at_put peer (parcel.Discard q) b e h = tt
none_at_put peer (parcel.RemoteReset q) true e h = absurd (h refl)
none_at_put peer (parcel.RemoteReset q) false e h = (e, tt)

none_heard : (peer : ℕ) (calls : List Call) (h : History) → AllByRecursion IsLetterParcel (parcels_of peer calls) → AllByRecursion (IsNoResetOf peer) (heard_by_calls peer h calls)
none_heard peer [] h only = tt
none_heard peer (Turn ∷ calls) h only =
    all_append (IsNoResetOf peer) (map heard_in (take 1 h.waiting)) (heard_by_calls peer (after_call peer h Turn) calls) (none_of_letters peer (take 1 h.waiting))
    (none_heard peer calls (after_call peer h Turn) only)
none_heard peer (Put p ∷ calls) h only =
    let it = at (peer_of p == peer) refl only in
    all_append (IsNoResetOf peer) (heard_at_put p) (heard_by_calls peer (after_call peer h (Put p)) calls) it.0 (none_heard peer calls (after_call peer h (Put p)) it.1)
  where
    at : (b : Bool) → (peer_of p == peer) ≡ b → AllByRecursion IsLetterParcel (if b then p ∷ parcels_of peer calls else parcels_of peer calls) →
        AllByRecursion (IsNoResetOf peer) (heard_at_put p) × AllByRecursion IsLetterParcel (parcels_of peer calls)
    at true e g = (none_at_put peer p true e (λ x. g.0), g.1)
    at false e g = (none_at_put peer p false e (λ x. from_false_true x), g)

-- ---- all of it

module _ (order : DispatchesInOrder) (peer : ℕ) (calls : List Call) (s : State) (are : AreParcelsOf (parcels_of peer calls) s.deliveries) where
  first_handed : (key : Key) → AreFirstOf (map unnumbered (of_it peer key (letters_in (parcels_of peer calls)))) (channel.of_key key (handed s.deliveries))
  first_handed key = handed_first peer key (parcels_of peer calls) s.deliveries (their_own peer calls) are

  is_log : IsLogOf peer (heard_by_calls peer start calls) s
  is_log no_discard key =
      let h = after_calls peer start calls in
      let log = heard_by_calls peer start calls in
      let ever = since_ever peer calls start (none_discards peer calls (all_handed (parcels_of peer calls) s.deliveries are no_discard)) refl refl in
      let waits = of_it peer key h.waiting in
      let put : heard.of_key peer key log ++ waits ≡ of_it peer key (letters_in (parcels_of peer calls)) =
      ap (λ l. l ++ waits) (heard_is peer key calls start ∙ ap (of_it peer key) (sym ever.0))
      ∙ sym (map-append content (letters_of_key peer key h.dispatched) (letters_of_key peer key h.waiting))
      ∙ ap (map content) (order.whole peer key calls)
      ∙ ap (of_it peer key) ever.1
      ∙ put_is peer key calls start in
      first_of_first (map unnumbered (heard.of_key peer key log)) (map unnumbered (of_it peer key (letters_in (parcels_of peer calls)))) (channel.of_key key (handed s.deliveries))
      (map unnumbered waits, ap (map unnumbered) (sym put) ∙ map-append unnumbered (heard.of_key peer key log) waits) (first_handed key)

  some_handed : (key : Key) → IsSublist (map unnumbered (heard.of_key peer key (heard_by_calls peer start calls))) (channel.of_key key (handed s.deliveries))
  some_handed key =
      let h = after_calls peer start calls in
      let own = letters_in (parcels_of peer calls) in
      let some : IsSublist (of_it peer key h.ever_dispatched) (of_it peer key h.ever_put) =
      some_of_map content (letters_of_key peer key h.ever_dispatched) (letters_of_key peer key h.ever_put) (order.ever peer key calls) in
      let first = first_handed key in
      subst (λ l. IsSublist (map unnumbered (heard.of_key peer key (heard_by_calls peer start calls))) l) (sym first.1)
      (some_of_more (map unnumbered (heard.of_key peer key (heard_by_calls peer start calls))) (map unnumbered (of_it peer key own)) first.0
      (some_of_map unnumbered (heard.of_key peer key (heard_by_calls peer start calls)) (of_it peer key own)
      (subst (λ l. IsSublist l (of_it peer key own)) (sym (heard_is peer key calls start))
      (subst (λ l. IsSublist (of_it peer key h.ever_dispatched) l) (put_is peer key calls start) some))))

-- through the queue alone
pub queue_logs : DispatchesInOrder → (peer : ℕ) (calls : List Call) (s : State) → AreParcelsOf (parcels_of peer calls) s.deliveries →
    IsHeardOf peer (heard_by_calls peer start calls) s
queue_logs order peer calls s are = record {
  first = is_log order peer calls s are;
  some = some_handed order peer calls s are;
  no_reset = λ only. none_heard peer calls start (letters_handed (parcels_of peer calls) s.deliveries are only);
}
