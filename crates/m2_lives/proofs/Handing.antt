-- What dispatchers are called with is of each key one piece of each stretch of what a record handed on.
use Rattle.std.proofs.Common.{◌≡◌, ℕ, Bool, true, false, ◌==◌, ◌&&◌, if◌then◌else◌, ◌⊎◌, inl, inr, List, [], ◌∷◌, ◌++◌, map, take, refl, sym, ap, subst, ◌∙◌, append-nil, append_assoc}
use Rattle.std.specs.List.{AllByRecursion}
use Rattle.std.proofs.lemmas.Bool.{and_parts, eq-eqb}
use Rattle.std.proofs.lemmas.List.{map-append}
use Rattle.std.proofs.lemmas.List.Elements.{filter-append}
use Rattle.m2_bytes_fit.proofs.Lists.{cons_is_some}
use Rattle.m2_channel.proofs.Handing.{their_own}
use Rattle.m2_channel.proofs.Keys.{same_path}
use Rattle.m2_channel.specs.Handing.{AreFirstCalls, AreParcelsOf, IsParcelOf, calls_of, heard_at_once, heard_by_calls, parcels_of, peer_of, queued_of}
use Rattle.m2_channel.specs.m2_dispatch.Heard as heard
use Rattle.m2_channel.specs.m2_dispatch.Heard.{Heard, is_key, is_path}
use Rattle.m2_channel.specs.m2_dispatch.declared.letter.Letter.{Letter}
use Rattle.m2_channel.specs.m2_dispatch.declared.parcel.Parcel.{Parcel}
use Rattle.m2_channel.specs.m2_dispatch.declared.parcel.Parcel.TheVariants as parcel
use Rattle.m2_channel.specs.m2_dispatch.Laws.{Call, Put, Turn, History, start, after_call, after_calls, history_of, EachKeyKeepsItsOrder}
use Rattle.m2_channel.specs.m2_dispatch.Letters.{heard_in, is_of_key, letters_of_key}
use Rattle.m2_channel.specs.m2_dispatch.m2_message.Message.{Content, content_of}
use Rattle.m2_channel.specs.m2_dispatch.m2_policy.declared.path.Key.{Key}
use Rattle.m2_channel.specs.m2_dispatch.m2_policy.declared.path.Path.{Path}
use Rattle.m2_channel.specs.m2_dispatch.m2_policy.declared.path.Path.TheVariants.{Fast, Queued}
use Rattle.m2_journal.specs.State as state
use Rattle.m2_journal.specs.State.{Delivery, State}
use Rattle.m2_journal.proofs.m2_lemmas.Booleans.{false_isnt_true, from_false_true}
use Rattle.m2_lives.specs.Lives.{LifeMessage}
use Rattle.m2_lives.specs.LivesLaws.{ArePiecesOf}
use Rattle.m2_lives.specs.Observed.{handed_in_lives, heard_in_lives, into_first, stretches}
use Rattle.m2_lives.specs.ObservedRun.{IsLogInLives, with_key}
use Rattle.m2_lives.specs.Handing.{LogsAreInLives}
use Rattle.m2_lives.proofs.Delivered.{one}
use Rattle.m2_lives.proofs.Dividing.{ends, front_split, joined}

-- ---- messages of a peer and a key

abbrev in_its_life : Letter → LifeMessage
in_its_life l = one l.life l.key (content_of l.message)

abbrev own : ℕ → Key → List Letter → List LifeMessage
own peer key ls = map in_its_life (letters_of_key peer key ls)

own-append : (peer : ℕ) (key : Key) (xs ys : List Letter) → own peer key (xs ++ ys) ≡ own peer key xs ++ own peer key ys
own-append peer key xs ys = ap (map in_its_life) (filter-append (is_of_key peer key) xs ys) ∙ map-append in_its_life (letters_of_key peer key xs) (letters_of_key peer key ys)

heard-append : (peer : ℕ) (xs ys : List Heard) → heard_in_lives peer (xs ++ ys) ≡ heard_in_lives peer xs ++ heard_in_lives peer ys
heard-append peer [] ys = refl
heard-append peer (heard.reset p ∷ xs) ys = heard-append peer xs ys
heard-append peer (heard.message p k n life m ∷ xs) ys = at (p == peer) (heard-append peer xs ys)
  where
    at : (b : Bool) → heard_in_lives peer (xs ++ ys) ≡ heard_in_lives peer xs ++ heard_in_lives peer ys →
        (if b then one life k m ∷ heard_in_lives peer (xs ++ ys) else heard_in_lives peer (xs ++ ys)) ≡ (if b then one life k m ∷ heard_in_lives peer xs else heard_in_lives peer xs) ++ heard_in_lives peer ys
    at true e = ap (λ l. one life k m ∷ l) e
    at false e = e

key-append : (key : Key) (xs ys : List LifeMessage) → with_key key (xs ++ ys) ≡ with_key key xs ++ with_key key ys
key-append key xs ys = filter-append (λ (x : LifeMessage). is_key x.message.key key) xs ys

heard_key : (peer : ℕ) (key : Key) (xs ys : List Heard) → with_key key (heard_in_lives peer (xs ++ ys)) ≡ with_key key (heard_in_lives peer xs) ++ with_key key (heard_in_lives peer ys)
heard_key peer key xs ys = ap (with_key key) (heard-append peer xs ys) ∙ key-append key (heard_in_lives peer xs) (heard_in_lives peer ys)

heard_own : (peer : ℕ) (key : Key) (ls : List Letter) → with_key key (heard_in_lives peer (map heard_in ls)) ≡ own peer key ls
heard_own peer key [] = refl
heard_own peer key (l ∷ ls) = at (l.peer == peer) (heard_own peer key ls)
  where
    rest : List LifeMessage
    rest = heard_in_lives peer (map heard_in ls)

    by : (c : Bool) → with_key key rest ≡ own peer key ls → (if c then in_its_life l ∷ with_key key rest else with_key key rest) ≡ map in_its_life (if c then l ∷ letters_of_key peer key ls else letters_of_key peer key ls)
    by true e = ap (λ z. in_its_life l ∷ z) e
    by false e = e

    at : (b : Bool) → with_key key rest ≡ own peer key ls → with_key key (if b then in_its_life l ∷ rest else rest) ≡ map in_its_life (if b && is_key l.key key then l ∷ letters_of_key peer key ls else letters_of_key peer key ls)
    at true e = by (is_key l.key key) e
    at false e = e

-- ---- through the queue

-- the letters that are put, in stretches: between two of them is a discard of the peer
abbrev put_since : ℕ → List Letter → List Call → List (List Letter)
put_since peer now [] = now ∷ []
put_since peer now (Turn ∷ calls) = put_since peer now calls
put_since peer now (Put (parcel.Letter l) ∷ calls) = put_since peer (now ++ l ∷ []) calls
put_since peer now (Put (parcel.Discard p) ∷ calls) = if p == peer then now ∷ put_since peer [] calls else put_since peer now calls
put_since peer now (Put (parcel.RemoteReset p) ∷ calls) = put_since peer now calls

one_more_call : (peer : ℕ) (h : History) (before : List Call) (c : Call) → after_calls peer h (before ++ c ∷ []) ≡ after_call peer (after_calls peer h before) c
one_more_call peer h [] c = refl
one_more_call peer h (d ∷ before) c = one_more_call peer (after_call peer h d) before c

module _ (law : EachKeyKeepsItsOrder) (peer : ℕ) (key : Key) where
  abbrev heard_of : History → List Call → List LifeMessage
  heard_of h calls = with_key key (heard_in_lives peer (heard_by_calls peer h calls))

  whole : (h : History) (before : List Call) → h ≡ history_of peer before → own peer key h.put ≡ own peer key h.dispatched ++ own peer key h.waiting
  whole h before e =
      ap (map in_its_life) (sym (subst (λ (k : History). letters_of_key peer key k.dispatched ++ letters_of_key peer key k.waiting ≡ letters_of_key peer key k.put) (sym e) (law peer key before)))
      ∙ map-append in_its_life (letters_of_key peer key h.dispatched) (letters_of_key peer key h.waiting)

  -- what is dispatched from now on, behind what was dispatched since the last discard
  queue_pieces : (calls before : List Call) (h : History) → h ≡ history_of peer before → ArePiecesOf (own peer key h.dispatched ++ heard_of h calls) (map (own peer key) (put_since peer h.put calls))
  queue_pieces [] before h e = (own peer key h.dispatched, [], own peer key h.waiting, refl, whole h before e, refl)
  queue_pieces (Turn ∷ calls) before h e =
      let h' = after_call peer h Turn in
      let rest = queue_pieces calls (before ++ Turn ∷ []) h' (ap (λ k. after_call peer k Turn) e ∙ sym (one_more_call peer start before Turn)) in
      subst (λ l. ArePiecesOf l (map (own peer key) (put_since peer h.put calls)))
      (ap (λ l. l ++ heard_of h' calls) (own-append peer key h.dispatched (take 1 h.waiting)) ∙ append_assoc (own peer key h.dispatched) (own peer key (take 1 h.waiting)) (heard_of h' calls)
      ∙ ap (λ l. own peer key h.dispatched ++ l) (ap (λ l. l ++ heard_of h' calls) (sym (heard_own peer key (take 1 h.waiting))) ∙ sym (heard_key peer key (map heard_in (take 1 h.waiting)) (heard_by_calls peer h' calls))))
      rest
  queue_pieces (Put (parcel.Letter l) ∷ calls) before h e =
      let p = Put (parcel.Letter l) in queue_pieces calls (before ++ p ∷ []) (after_call peer h p) (ap (λ k. after_call peer k p) e ∙ sym (one_more_call peer start before p))
  queue_pieces (Put (parcel.RemoteReset q) ∷ calls) before h e =
      let p = Put (parcel.RemoteReset q) in
      subst (λ l. ArePiecesOf (own peer key h.dispatched ++ heard_of (after_call peer h p) calls) (map (own peer key) (put_since peer l calls))) (append-nil h.put)
      (queue_pieces calls (before ++ p ∷ []) (after_call peer h p) (ap (λ k. after_call peer k p) e ∙ sym (one_more_call peer start before p)))
  queue_pieces (Put (parcel.Discard q) ∷ calls) before h e =
      let p = Put (parcel.Discard q) in
      at (q == peer) refl (queue_pieces calls (before ++ p ∷ []) (after_call peer h p) (ap (λ k. after_call peer k p) e ∙ sym (one_more_call peer start before p)))
    where
      h' : History
      h' = after_call peer h (Put (parcel.Discard q))

      at : (b : Bool) → (q == peer) ≡ b → ArePiecesOf (own peer key h'.dispatched ++ heard_of h' calls) (map (own peer key) (put_since peer h'.put calls)) →
          ArePiecesOf (own peer key h.dispatched ++ heard_of h' calls) (map (own peer key) (if b then h.put ∷ put_since peer [] calls else put_since peer h.put calls))
      at true z rest =
          let none : h'.dispatched ≡ [] = ap (λ b. if b then [] else h.dispatched) z in
          let empty : h'.put ≡ [] = ap (λ b. (if b then [] else h.put) ++ []) z in (
            own peer key h.dispatched,
            heard_of h' calls,
            own peer key h.waiting,
            refl,
            whole h before e,
            subst (λ l. ArePiecesOf (own peer key l ++ heard_of h' calls) (map (own peer key) (put_since peer [] calls))) none
                (subst (λ l. ArePiecesOf (own peer key h'.dispatched ++ heard_of h' calls) (map (own peer key) (put_since peer l calls))) empty rest),
          )
      at false z rest =
          let same : h'.dispatched ≡ h.dispatched = ap (λ b. if b then [] else h.dispatched) z in
          let still : h'.put ≡ h.put = ap (λ b. (if b then [] else h.put) ++ []) z ∙ append-nil h.put in
          subst (λ l. ArePiecesOf (own peer key l ++ heard_of h' calls) (map (own peer key) (put_since peer h.put calls))) same
          (subst (λ l. ArePiecesOf (own peer key h'.dispatched ++ heard_of h' calls) (map (own peer key) (put_since peer l calls))) still rest)

-- ---- the parcels of a peer

abbrev put_in : List Letter → List Parcel → List (List Letter)
put_in now [] = now ∷ []
put_in now (parcel.Letter l ∷ ps) = put_in (now ++ l ∷ []) ps
put_in now (parcel.Discard p ∷ ps) = now ∷ put_in [] ps
put_in now (parcel.RemoteReset p ∷ ps) = put_in now ps

-- a letter of another peer
none_own : (peer : ℕ) (key : Key) (l : Letter) → (l.peer == peer) ≡ false → own peer key (l ∷ []) ≡ []
none_own peer key l e = at (l.peer == peer) (is_key l.key key) e
  where
    at : (b c : Bool) → b ≡ false → map in_its_life (if b && c then l ∷ [] else []) ≡ []
    at true c g = from_false_true (sym g)
    at false c g = refl

of_the_peer : (peer : ℕ) (key : Key) (calls : List Call) (now also : List Letter) → own peer key now ≡ own peer key also → map (own peer key) (put_since peer now calls) ≡ map (own peer key) (put_in also (parcels_of peer calls))
of_the_peer peer key [] now also e = ap (λ l. l ∷ []) e
of_the_peer peer key (Turn ∷ calls) now also e = of_the_peer peer key calls now also e
of_the_peer peer key (Put (parcel.Letter l) ∷ calls) now also e = at (l.peer == peer) refl (λ ls ks g. of_the_peer peer key calls ls ks g)
  where
    at : (b : Bool) → (l.peer == peer) ≡ b → ((ls ks : List Letter) → own peer key ls ≡ own peer key ks → map (own peer key) (put_since peer ls calls) ≡ map (own peer key) (put_in ks (parcels_of peer calls))) →
        map (own peer key) (put_since peer (now ++ l ∷ []) calls) ≡ map (own peer key) (put_in also (if b then parcel.Letter l ∷ parcels_of peer calls else parcels_of peer calls))
    at true z on = on (now ++ l ∷ []) (also ++ l ∷ []) (own-append peer key now (l ∷ []) ∙ ap (λ x. x ++ own peer key (l ∷ [])) e ∙ sym (own-append peer key also (l ∷ [])))
    at false z on = on (now ++ l ∷ []) also (own-append peer key now (l ∷ []) ∙ ap (λ x. own peer key now ++ x) (none_own peer key l z) ∙ append-nil (own peer key now) ∙ e)
of_the_peer peer key (Put (parcel.Discard q) ∷ calls) now also e = at (q == peer) (λ ls ks g. of_the_peer peer key calls ls ks g)
  where
    at : (b : Bool) → ((ls ks : List Letter) → own peer key ls ≡ own peer key ks → map (own peer key) (put_since peer ls calls) ≡ map (own peer key) (put_in ks (parcels_of peer calls))) →
        map (own peer key) (if b then now ∷ put_since peer [] calls else put_since peer now calls) ≡ map (own peer key) (put_in also (if b then parcel.Discard q ∷ parcels_of peer calls else parcels_of peer calls))
    at true on = ap (λ x. x ∷ map (own peer key) (put_since peer [] calls)) e ∙ ap (λ x. own peer key also ∷ x) (on [] [] refl)
    at false on = on now also e
of_the_peer peer key (Put (parcel.RemoteReset q) ∷ calls) now also e = at (q == peer) (of_the_peer peer key calls now also e)
  where
    at : (b : Bool) → map (own peer key) (put_since peer now calls) ≡ map (own peer key) (put_in also (parcels_of peer calls)) →
        map (own peer key) (put_since peer now calls) ≡ map (own peer key) (put_in also (if b then parcel.RemoteReset q ∷ parcels_of peer calls else parcels_of peer calls))
    at true g = g
    at false g = g

-- ---- first ones of each

abbrev pub AreFirstOfEach : {X : Type 0} → List (List X) → List (List X) → Type 0
AreFirstOfEach [] ys = Unit {0}
AreFirstOfEach (x ∷ xs) [] = ⊥
AreFirstOfEach {X} (x ∷ xs) (y ∷ ys) = ((more : List X) × (y ≡ x ++ more)) × AreFirstOfEach xs ys

pub no_pieces : {X : Type 0} (ys : List (List X)) → ArePiecesOf [] ys
no_pieces [] = refl
no_pieces (y ∷ ys) = ([], [], y, refl, refl, no_pieces ys)

pub pieces_of_more : {X : Type 0} (zs : List X) (xs ys : List (List X)) → AreFirstOfEach xs ys → ArePiecesOf zs xs → ArePiecesOf zs ys
pieces_of_more zs [] ys each h = subst (λ l. ArePiecesOf l ys) (sym h) (no_pieces ys)
pieces_of_more zs (x ∷ xs) [] each h = absurd each
pieces_of_more zs (x ∷ xs) (y ∷ ys) each (piece, rest, left, e, g, more) =
    (piece, rest, left ++ each.0.0, e, each.0.1 ∙ ap (λ l. l ++ each.0.0) g ∙ append_assoc piece left each.0.0, pieces_of_more rest xs ys each.1 more)

-- in front of the first one
abbrev onto : {X : Type 0} → List X → List (List X) → List (List X)
onto now [] = now ∷ []
onto now (l ∷ ls) = (now ++ l) ∷ ls

onto_first : (key : Key) (now : List LifeMessage) (x : LifeMessage) (ls : List (List LifeMessage)) → onto now (map (with_key key) (into_first x ls)) ≡ onto (now ++ with_key key (x ∷ [])) (map (with_key key) ls)
onto_first key now x [] = refl
onto_first key now x (l ∷ ls) = ap (λ z. z ∷ map (with_key key) ls) (ap (λ z. now ++ z) (key-append key (x ∷ []) l) ∙ sym (append_assoc now (with_key key (x ∷ [])) (with_key key l)))

onto_none : (key : Key) (ds : List Delivery) → onto [] (map (with_key key) (stretches ds)) ≡ map (with_key key) (stretches ds)
onto_none key ds = let it = ends ds in subst (λ l. onto [] (map (with_key key) l) ≡ map (with_key key) l) (sym it.is) (at it.front)
  where
    at : (front : List (List LifeMessage)) → onto [] (map (with_key key) (front ++ (ends ds).last ∷ [])) ≡ map (with_key key) (front ++ (ends ds).last ∷ [])
    at [] = refl
    at (l ∷ ls) = refl

-- the parcels are the first ones of what is handed on, stretch for stretch
parcels_first : (peer : ℕ) (key : Key) (ps : List Parcel) (ds : List Delivery) (now : List Letter) → AllByRecursion (λ p. (peer_of p == peer) ≡ true) ps → AreParcelsOf ps ds →
    AreFirstOfEach (map (own peer key) (put_in now ps)) (onto (own peer key now) (map (with_key key) (stretches ds)))
parcels_first peer key [] ds now mine are = at (map (with_key key) (stretches ds))
  where
    at : (ls : List (List LifeMessage)) → AreFirstOfEach (own peer key now ∷ []) (onto (own peer key now) ls)
    at [] = (([], sym (append-nil (own peer key now))), tt)
    at (l ∷ ls) = ((l, refl), tt)
parcels_first peer key (p ∷ ps) [] now mine are = absurd are
parcels_first peer key (p ∷ ps) (d ∷ ds) now mine are = each p d mine.0 are.0 (λ ls. parcels_first peer key ps ds ls mine.1 are.1)
  where
    own_one : (l : Letter) (n life : ℕ) (k : Key) (m : Content) → (l.peer == peer) ≡ true → IsParcelOf (parcel.Letter l) (state.letter n life k m) → own peer key (l ∷ []) ≡ with_key key (one life k m ∷ [])
    own_one l n life k m its is =
        at (l.peer == peer) (is_key l.key key) its
        ∙ ap (λ q. with_key key (one l.life q (content_of l.message) ∷ [])) is.0 ∙ ap (λ u. with_key key (one u k (content_of l.message) ∷ [])) is.2 ∙ ap (λ c. with_key key (one life k c ∷ [])) is.3
      where
        at : (b c : Bool) → b ≡ true → map in_its_life (if b && c then l ∷ [] else []) ≡ (if c then in_its_life l ∷ [] else [])
        at true true g = refl
        at true false g = refl
        at false c g = from_false_true g

    each : (p : Parcel) (d : Delivery) → (peer_of p == peer) ≡ true → IsParcelOf p d → ((ls : List Letter) → AreFirstOfEach (map (own peer key) (put_in ls ps)) (onto (own peer key ls) (map (with_key key) (stretches ds)))) →
        AreFirstOfEach (map (own peer key) (put_in now (p ∷ ps))) (onto (own peer key now) (map (with_key key) (stretches (d ∷ ds))))
    each (parcel.Letter l) (state.letter n life k m) its is on =
        subst (AreFirstOfEach (map (own peer key) (put_in (now ++ l ∷ []) ps)))
        (ap (λ x. onto x (map (with_key key) (stretches ds))) (own-append peer key now (l ∷ []) ∙ ap (λ x. own peer key now ++ x) (own_one l n life k m its is))
        ∙ sym (onto_first key (own peer key now) (one life k m) (stretches ds)))
        (on (now ++ l ∷ []))
    each (parcel.Letter l) state.discarded its is on = absurd is
    each (parcel.Letter l) state.remote_reset its is on = absurd is
    each (parcel.Discard q) state.discarded its is on = (([], refl), subst (AreFirstOfEach (map (own peer key) (put_in [] ps))) (onto_none key ds) (on []))
    each (parcel.Discard q) (state.letter n life k m) its is on = absurd is
    each (parcel.Discard q) state.remote_reset its is on = absurd is
    each (parcel.RemoteReset q) state.remote_reset its is on = on now
    each (parcel.RemoteReset q) (state.letter n life k m) its is on = absurd is
    each (parcel.RemoteReset q) state.discarded its is on = absurd is

-- ---- the two ways

path_is : (k key : Key) → is_key k key ≡ true → is_path k.path key.path ≡ true
path_is k key e = (and_parts (k.priority == key.priority) (is_path k.path key.path) e).1

other_path : (p : Path) → is_path p Fast ≡ false → p ≡ Queued
other_path Fast e = from_false_true (sym e)
other_path Queued e = refl

-- a fast message isn't of a queued key, and a queued one not of a fast key
not_of : (k key : Key) (p q : Path) → k.path ≡ p → key.path ≡ q → is_path p q ≡ false → is_key k key ≡ false
not_of k key p q e g apart = at (is_key k key) refl
  where
    at : (b : Bool) → is_key k key ≡ b → is_key k key ≡ false
    at false z = z
    at true z = absurd (false_isnt_true (sym apart ∙ sym (ap (λ x. is_path x q) e) ∙ sym (ap (λ x. is_path k.path x) g) ∙ path_is k key z))

skip_first : (key : Key) (x : LifeMessage) (ls : List (List LifeMessage)) (front : List (List LifeMessage)) (last : List LifeMessage) → ls ≡ front ++ last ∷ [] → is_key x.message.key key ≡ false → map (with_key key) (into_first x ls) ≡ map (with_key key) ls
skip_first key x ls front last e none = subst (λ l. map (with_key key) (into_first x l) ≡ map (with_key key) l) (sym e) (at front)
  where
    at : (fs : List (List LifeMessage)) → map (with_key key) (into_first x (fs ++ last ∷ [])) ≡ map (with_key key) (fs ++ last ∷ [])
    at [] = ap (λ b. (if b then x ∷ with_key key last else with_key key last) ∷ []) none
    at (f ∷ fs) = ap (λ b. (if b then x ∷ with_key key f else with_key key f) ∷ map (with_key key) (fs ++ last ∷ [])) none

-- of a queued key, all goes through the queue
queued_all : (key : Key) → key.path ≡ Queued → (ds : List Delivery) → map (with_key key) (stretches (queued_of ds)) ≡ map (with_key key) (stretches ds)
queued_all key q [] = refl
queued_all key q (state.discarded ∷ ds) = ap (λ l. [] ∷ l) (queued_all key q ds)
queued_all key q (state.remote_reset ∷ ds) = queued_all key q ds
queued_all key q (state.letter n life k m ∷ ds) = at (is_path k.path Fast) refl (queued_all key q ds)
  where
    same_into : (x : LifeMessage) (xs ys : List (List LifeMessage)) → map (with_key key) xs ≡ map (with_key key) ys → map (with_key key) (into_first x xs) ≡ map (with_key key) (into_first x ys)
    same_into x xs ys e = sym (onto_one xs) ∙ ap (onto (with_key key (x ∷ []))) e ∙ onto_one ys
      where
        onto_one : (ls : List (List LifeMessage)) → onto (with_key key (x ∷ [])) (map (with_key key) ls) ≡ map (with_key key) (into_first x ls)
        onto_one [] = refl
        onto_one (l ∷ ls) = ap (λ z. z ∷ map (with_key key) ls) (sym (key-append key (x ∷ []) l))

    at : (b : Bool) → is_path k.path Fast ≡ b → map (with_key key) (stretches (queued_of ds)) ≡ map (with_key key) (stretches ds) →
        map (with_key key) (stretches (if b then queued_of ds else state.letter n life k m ∷ queued_of ds)) ≡ map (with_key key) (into_first (one life k m) (stretches ds))
    at true e rest = rest ∙ sym (skip_first key (one life k m) (stretches ds) (ends ds).front (ends ds).last (ends ds).is (not_of k key Fast Queued (same_path k.path Fast e) q refl))
    at false e rest = same_into (one life k m) (stretches (queued_of ds)) (stretches ds) rest

-- of a fast key nothing does
abbrev AreEmpty : List (List LifeMessage) → Type 0
AreEmpty ls = AllByRecursion (λ l. l ≡ []) ls

queued_none : (key : Key) → key.path ≡ Fast → (ds : List Delivery) → AreEmpty (map (with_key key) (stretches (queued_of ds)))
queued_none key q [] = (refl, tt)
queued_none key q (state.discarded ∷ ds) = (refl, queued_none key q ds)
queued_none key q (state.remote_reset ∷ ds) = queued_none key q ds
queued_none key q (state.letter n life k m ∷ ds) = at (is_path k.path Fast) refl (queued_none key q ds)
  where
    at : (b : Bool) → is_path k.path Fast ≡ b → AreEmpty (map (with_key key) (stretches (queued_of ds))) → AreEmpty (map (with_key key) (stretches (if b then queued_of ds else state.letter n life k m ∷ queued_of ds)))
    at true e rest = rest
    at false e rest =
        let it = ends (queued_of ds) in
        subst AreEmpty (sym (skip_first key (one life k m) (stretches (queued_of ds)) it.front it.last it.is (not_of k key Queued Fast (other_path k.path e) q refl))) rest

empty_pieces : {X : Type 0} (zs : List X) (ls : List (List X)) → AllByRecursion (λ l. l ≡ []) ls → ArePiecesOf zs ls → zs ≡ []
empty_pieces zs [] all h = h
empty_pieces {X} zs (l ∷ ls) all (piece, rest, left, e, g, more) = e ∙ ap (λ x. x ++ rest) (front piece left (sym g ∙ all.0)) ∙ empty_pieces rest ls all.1 more
  where
    front : (xs ys : List X) → xs ++ ys ≡ [] → xs ≡ []
    front [] ys q = refl
    front (x ∷ xs) ys q = absurd (cons_is_some x (xs ++ ys) q)

-- ---- at once

-- what is heard of a peer, among its own calls
pub own_calls : (peer : ℕ) (log : List Heard) → heard_in_lives peer (calls_of peer log) ≡ heard_in_lives peer log
own_calls peer [] = refl
own_calls peer (heard.reset p ∷ log) = at (p == peer) (own_calls peer log)
  where
    at : (b : Bool) → heard_in_lives peer (calls_of peer log) ≡ heard_in_lives peer log → heard_in_lives peer (if b then heard.reset p ∷ calls_of peer log else calls_of peer log) ≡ heard_in_lives peer log
    at true e = e
    at false e = e
own_calls peer (heard.message p k n life m ∷ log) = at (p == peer) refl (own_calls peer log)
  where
    at : (b : Bool) → (p == peer) ≡ b → heard_in_lives peer (calls_of peer log) ≡ heard_in_lives peer log →
        heard_in_lives peer (if b then heard.message p k n life m ∷ calls_of peer log else calls_of peer log) ≡ (if b then one life k m ∷ heard_in_lives peer log else heard_in_lives peer log)
    at true z e = ap (λ b. if b then one life k m ∷ heard_in_lives peer (calls_of peer log) else heard_in_lives peer (calls_of peer log)) z ∙ ap (λ l. one life k m ∷ l) e
    at false z e = e

own_peer : (peer : ℕ) → (peer == peer) ≡ true
own_peer peer = eq-eqb peer peer refl

-- of a fast key, all that is handed on is heard at once
fast_all : (peer : ℕ) (key : Key) → key.path ≡ Fast → (ds : List Delivery) → with_key key (heard_in_lives peer (heard_at_once peer ds)) ≡ with_key key (handed_in_lives ds)
fast_all peer key q [] = refl
fast_all peer key q (state.discarded ∷ ds) = fast_all peer key q ds
fast_all peer key q (state.remote_reset ∷ ds) = fast_all peer key q ds
fast_all peer key q (state.letter n life k m ∷ ds) = at (is_path k.path Fast) refl (fast_all peer key q ds)
  where
    rest : List Heard
    rest = heard_at_once peer ds

    at : (b : Bool) → is_path k.path Fast ≡ b → with_key key (heard_in_lives peer rest) ≡ with_key key (handed_in_lives ds) →
        with_key key (heard_in_lives peer (if b then heard.message peer k n life m ∷ rest else rest)) ≡ with_key key (one life k m ∷ handed_in_lives ds)
    at true e g =
        ap (λ b. with_key key (if b then one life k m ∷ heard_in_lives peer rest else heard_in_lives peer rest)) (own_peer peer)
        ∙ key-append key (one life k m ∷ []) (heard_in_lives peer rest) ∙ ap (λ l. with_key key (one life k m ∷ []) ++ l) g ∙ sym (key-append key (one life k m ∷ []) (handed_in_lives ds))
    at false e g = g ∙ sym (ap (λ b. if b then one life k m ∷ with_key key (handed_in_lives ds) else with_key key (handed_in_lives ds)) (not_of k key Queued Fast (other_path k.path e) q refl))

-- of a queued key nothing is
fast_none : (peer : ℕ) (key : Key) → key.path ≡ Queued → (ds : List Delivery) → with_key key (heard_in_lives peer (heard_at_once peer ds)) ≡ []
fast_none peer key q [] = refl
fast_none peer key q (state.discarded ∷ ds) = fast_none peer key q ds
fast_none peer key q (state.remote_reset ∷ ds) = fast_none peer key q ds
fast_none peer key q (state.letter n life k m ∷ ds) = at (is_path k.path Fast) refl (fast_none peer key q ds)
  where
    rest : List Heard
    rest = heard_at_once peer ds

    at : (b : Bool) → is_path k.path Fast ≡ b → with_key key (heard_in_lives peer rest) ≡ [] → with_key key (heard_in_lives peer (if b then heard.message peer k n life m ∷ rest else rest)) ≡ []
    at true e g =
        ap (λ b. with_key key (if b then one life k m ∷ heard_in_lives peer rest else heard_in_lives peer rest)) (own_peer peer)
        ∙ ap (λ b. if b then one life k m ∷ with_key key (heard_in_lives peer rest) else with_key key (heard_in_lives peer rest)) (not_of k key Fast Queued (same_path k.path Fast e) q refl) ∙ g
    at false e g = g

-- the stretches together are all that was handed on
joined_first : (key : Key) (x : LifeMessage) (ls : List (List LifeMessage)) → joined (map (with_key key) (into_first x ls)) ≡ with_key key (x ∷ []) ++ joined (map (with_key key) ls)
joined_first key x [] = refl
joined_first key x (l ∷ ls) = ap (λ z. z ++ joined (map (with_key key) ls)) (key-append key (x ∷ []) l) ∙ append_assoc (with_key key (x ∷ [])) (with_key key l) (joined (map (with_key key) ls))

all_joined : (key : Key) (ds : List Delivery) → joined (map (with_key key) (stretches ds)) ≡ with_key key (handed_in_lives ds)
all_joined key [] = refl
all_joined key (state.discarded ∷ ds) = all_joined key ds
all_joined key (state.remote_reset ∷ ds) = all_joined key ds
all_joined key (state.letter n life k m ∷ ds) =
    joined_first key (one life k m) (stretches ds) ∙ ap (λ l. with_key key (one life k m ∷ []) ++ l) (all_joined key ds) ∙ sym (key-append key (one life k m ∷ []) (handed_in_lives ds))

-- the first ones of all together are first ones of each
first_pieces : {X : Type 0} (zs more : List X) (ls : List (List X)) → joined ls ≡ zs ++ more → ArePiecesOf zs ls
first_pieces {X} zs more [] e = front zs more (sym e)
  where
    front : (xs ys : List X) → xs ++ ys ≡ [] → xs ≡ []
    front [] ys q = refl
    front (x ∷ xs) ys q = absurd (cons_is_some x (xs ++ ys) q)
first_pieces {X} zs more (l ∷ ls) e = at (front_split l (joined ls) zs more e) (λ xs g. first_pieces xs more ls g)
  where
    at : ((m : List X) × (l ≡ zs ++ m)) ⊎ ((m : List X) × (zs ≡ l ++ m) × (joined ls ≡ m ++ more)) → ((xs : List X) → joined ls ≡ xs ++ more → ArePiecesOf xs ls) → ArePiecesOf zs (l ∷ ls)
    at (inl (m, g)) on = (zs, [], m, sym (append-nil zs), g, no_pieces ls)
    at (inr (m, g, k)) on = (l, m, [], g, sym (append-nil l), on m k)

-- ---- both together

module _ (law : EachKeyKeepsItsOrder) (peer : ℕ) (fast : List Heard) (calls : List Call) (s : State) (first : AreFirstCalls (calls_of peer fast) (heard_at_once peer s.deliveries))
    (are : AreParcelsOf (parcels_of peer calls) (queued_of s.deliveries)) where
  abbrev queued : List Heard
  queued = heard_by_calls peer start calls

  split : (key : Key) → with_key key (heard_in_lives peer (fast ++ queued)) ≡ with_key key (heard_in_lives peer fast) ++ with_key key (heard_in_lives peer queued)
  split key = heard_key peer key fast queued

  through_queue : (key : Key) → ArePiecesOf (with_key key (heard_in_lives peer queued)) (map (with_key key) (stretches (queued_of s.deliveries)))
  through_queue key =
      pieces_of_more (with_key key (heard_in_lives peer queued)) (map (own peer key) (put_in [] (parcels_of peer calls))) (map (with_key key) (stretches (queued_of s.deliveries)))
      (subst (AreFirstOfEach (map (own peer key) (put_in [] (parcels_of peer calls)))) (onto_none key (queued_of s.deliveries)) (parcels_first peer key (parcels_of peer calls) (queued_of s.deliveries) [] (their_own peer calls) are))
      (subst (ArePiecesOf (with_key key (heard_in_lives peer queued))) (of_the_peer peer key calls [] [] refl) (queue_pieces law peer key calls [] start refl))

  -- what was heard at once, and what is heard so of all that is handed on
  at_once : (key : Key) → with_key key (heard_in_lives peer (heard_at_once peer s.deliveries)) ≡ with_key key (heard_in_lives peer fast) ++ with_key key (heard_in_lives peer first.0)
  at_once key = ap (λ l. with_key key (heard_in_lives peer l)) first.1 ∙ heard_key peer key (calls_of peer fast) first.0 ∙ ap (λ l. with_key key l ++ with_key key (heard_in_lives peer first.0)) (own_calls peer fast)

  front_none : {X : Type 0} (xs ys : List X) → xs ++ ys ≡ [] → xs ≡ []
  front_none [] ys q = refl
  front_none (x ∷ xs) ys q = absurd (cons_is_some x (xs ++ ys) q)

  of_path : (key : Key) (p : Path) → key.path ≡ p → ArePiecesOf (with_key key (heard_in_lives peer (fast ++ queued))) (map (with_key key) (stretches s.deliveries))
  of_path key Queued q =
      let none : with_key key (heard_in_lives peer fast) ≡ [] =
      front_none (with_key key (heard_in_lives peer fast)) (with_key key (heard_in_lives peer first.0)) (sym (at_once key) ∙ fast_none peer key q s.deliveries) in
      subst (λ l. ArePiecesOf l (map (with_key key) (stretches s.deliveries))) (sym (split key ∙ ap (λ l. l ++ with_key key (heard_in_lives peer queued)) none))
      (subst (ArePiecesOf (with_key key (heard_in_lives peer queued))) (queued_all key q s.deliveries) (through_queue key))
  of_path key Fast q =
      let none : with_key key (heard_in_lives peer queued) ≡ [] =
      empty_pieces (with_key key (heard_in_lives peer queued)) (map (with_key key) (stretches (queued_of s.deliveries))) (queued_none key q s.deliveries) (through_queue key) in
      subst (λ l. ArePiecesOf l (map (with_key key) (stretches s.deliveries)))
      (sym (split key ∙ ap (λ l. with_key key (heard_in_lives peer fast) ++ l) none ∙ append-nil (with_key key (heard_in_lives peer fast))))
      (first_pieces (with_key key (heard_in_lives peer fast)) (with_key key (heard_in_lives peer first.0)) (map (with_key key) (stretches s.deliveries))
      (all_joined key s.deliveries ∙ sym (fast_all peer key q s.deliveries) ∙ at_once key))

  pub log_in_lives : IsLogInLives peer (record { fast = fast; queued = queued }) s
  log_in_lives key = of_path key key.path refl

pub logs_are_in_lives : EachKeyKeepsItsOrder → LogsAreInLives
logs_are_in_lives law peer fast calls s first are key = log_in_lives law peer fast calls s first are key
