-- The first entries of an order give each side what has come of its journal and of its halves.
use Rattle.std.proofs.Common.{◌≡◌, ℕ, zero, suc, ◌<◌, ◌⊎◌, inl, inr, Bool, true, false, List, [], ◌∷◌, ◌++◌, length, map, Option, Some, None, refl, sym, ap, ◌∙◌, subst}
use Rattle.std.specs.Prelude.{slice_get, slice_index}
use Rattle.std.specs.List.{flat_map}
use Rattle.std.proofs.lemmas.List.{length-map}
use Rattle.m2_fabric.specs.declared.socket.SocketId.{SocketId}
use Rattle.m2_fabric.specs.Log.{Log}
use Rattle.m2_fabric.specs.Sockets.{same_socket}
use Rattle.m2_bytes_fit.specs.Halves.{BytesFit, KeepsRanges}
use Rattle.m2_bytes_fit.specs.Orders.{HalfEntry, OrderEntry, far_side, got_by, near_side, put_by}
use Rattle.m2_bytes_fit.specs.Trails.{TrailsTellEachPoint}
use Rattle.m2_history.specs.HalfStrands.{OrdersGivePoints, strand_of}
use Rattle.m2_journal.specs.Items.{at_start, items_of}
use Rattle.m2_weave.specs.Order.{AreLawful, Cut, come_all, nothing}
use Rattle.m2_trail.specs.Trails.{HalfBytes, TrailNow}
use Rattle.m2_weave.specs.WeaveLaws.{AsksComeFirst, IsAsked, IsRead, ReadWasWritten}
use Rattle.m2_weave.specs.Rule.{by_bytes, strand_at}
use Rattle.m2_weave.specs.Stops.{sizes}
use Rattle.m2_weave.specs.Strands.{StrandNow}
use Rattle.m2_history.specs.Actors.{Actor, of_record, of_half, strand_by}
use Rattle.m2_history.specs.Order.{by_halves, done_by, entries_from, half_bytes}
use Rattle.m2_history.proofs.Cuts.{IsCut}
use Rattle.m2_history.proofs.Fits.{bytes_fit}
use Rattle.m2_history.proofs.Journals.{items_take}
use Rattle.m2_history.proofs.Moved.{HalvesAre}
use Rattle.m2_history.proofs.Scene as scene
use Rattle.m2_history.proofs.Scene.{IsHalfAt, IsScene, Setting, actor_within, items_in, other_half, woven_in}
use Rattle.m2_history.proofs.Walk.{added_at, far_entries, gathered, gathered_items, got_gathered, item_in, items_here, items_of_half, items_there, moves_elsewhere, moves_here, moves_in, moves_of_other, moves_of_record, near_entries, none_picked, picked, put_gathered}
use Rattle.m2_fabric.proofs.Sockets.{same_refl}

-- ---- where an order begins

abbrev pub at_first : List Actor → Cut
at_first actors = map (λ (a : Actor). 0) actors

zero_first : (actors : List Actor) (j : ℕ) → slice_index (at_first actors) j ≡ 0
zero_first [] j = refl
zero_first (a ∷ actors) zero = refl
zero_first (a ∷ actors) (suc j) = zero_first actors j

pub begins_there : (x : Setting) → nothing (sizes (woven_in x)) ≡ at_first x.actors
begins_there x = at x.actors
  where
    at : (actors : List Actor) → nothing (map (λ (s : StrandNow). length s.items) (map (strand_by x.journals) actors)) ≡ at_first actors
    at [] = refl
    at (a ∷ actors) = ap (λ (l : List ℕ). 0 ∷ l) (at actors)

-- what was read was written, and what was judged was handed on
pub read_there : (x : Setting) → ReadWasWritten → (order : List ℕ) → AreLawful (by_bytes (woven_in x)) (sizes (woven_in x)) (nothing (sizes (woven_in x))) order →
    (j : ℕ) → IsRead (woven_in x) (come_all order (at_first x.actors)) (strand_at (woven_in x) j) (slice_index (come_all order (at_first x.actors)) j)
read_there x read order l j = subst (λ at. IsRead (woven_in x) (come_all order at) (strand_at (woven_in x) j) (slice_index (come_all order at) j)) (begins_there x) (read (woven_in x) order l j)

pub asked_there : (x : Setting) → AsksComeFirst → (order : List ℕ) → AreLawful (by_bytes (woven_in x)) (sizes (woven_in x)) (nothing (sizes (woven_in x))) order →
    (j : ℕ) → IsAsked (woven_in x) (come_all order (at_first x.actors)) (strand_at (woven_in x) j) (slice_index (come_all order (at_first x.actors)) j)
asked_there x asked order l j = subst (λ at. IsAsked (woven_in x) (come_all order at) (strand_at (woven_in x) j) (slice_index (come_all order at) j)) (begins_there x) (asked (woven_in x) order l j)

same_or_not : (s r : Bool) → (r ≡ s) ⊎ (r ≡ s → ⊥)
same_or_not true true = inl refl
same_or_not false false = inl refl
same_or_not true false = inr (λ e. let bad : ⊥ = cc in bad)
same_or_not false true = inr (λ e. let bad : ⊥ = cc in bad)

-- ---- of an order of actors

module _ (x : Setting) (sc : IsScene x) (order : List ℕ) where
  abbrev pub front : List OrderEntry
  front = entries_from (items_in x) x.actors (at_first x.actors) order

  abbrev pub cut : Cut
  cut = come_all order (at_first x.actors)

  within : (j : ℕ) (a : Actor) → slice_get x.actors j ≡ Some a → j < length (at_first x.actors)
  within j a e = subst (λ n. j < n) (sym (length-map x.actors (λ (a : Actor). 0))) (actor_within x.actors j a e)

  -- what comes of one actor
  all_of_it : {X : Type 0} (c : OrderEntry → List X) (j : ℕ) (a : Actor) → slice_get x.actors j ≡ Some a →
      ((i n : ℕ) → (i ≡ j → ⊥) → added_at c (items_in x) x.actors i n ≡ []) → flat_map c front ≡ gathered (added_at c (items_in x) x.actors j) (slice_index cut j)
  all_of_it c j a there others =
      ap (λ n. gathered (added_at c (items_in x) x.actors j) n ++ flat_map c front) (sym (zero_first x.actors j))
      ∙ picked c (items_in x) x.actors j (at_first x.actors) order (within j a there) others

  -- ---- a journal

  pub items_so : (s : Bool) → flat_map (item_in s) front ≡ items_of (x.sources s) (scene.come x sc cut s)
  items_so s =
      all_of_it (item_in s) (sc.place s) (of_record s) (sc.there s) (λ i n d. other i n d (slice_get x.actors i) refl)
      ∙ gathered_items (items_in x s) (added_at (item_in s) (items_in x) x.actors (sc.place s))
      (λ n. ap (λ o. flat_map (item_in s) (done_by (items_in x) o n)) (sc.there s) ∙ items_here s (slice_get (items_in x s) n)) (slice_index cut (sc.place s))
      ∙ items_take (x.sources s) at_start (slice_index cut (sc.place s)) (x.journals s)
    where
      other : (i n : ℕ) → (i ≡ sc.place s → ⊥) → (o : Option Actor) → slice_get x.actors i ≡ o → added_at (item_in s) (items_in x) x.actors i n ≡ []
      other i n d None e = ap (λ o. flat_map (item_in s) (done_by (items_in x) o n)) e
      other i n d (Some (of_record r)) e =
          ap (λ o. flat_map (item_in s) (done_by (items_in x) o n)) e ∙ items_there s r (slice_get (items_in x r) n) (λ q. d (sc.once r i e ∙ ap sc.place q))
      other i n d (Some (of_half r t log)) e =
          ap (λ o. flat_map (item_in s) (done_by (items_in x) o n)) e ∙ items_of_half s r t.socket (half_bytes t log n (slice_get (strand_of t).items n))

  -- ---- halves

  moves_none : (s r : Bool) (k j : SocketId) (kind : HalfEntry → List ℕ) (ms : List HalfEntry) → ((r ≡ s) → same_socket k j ≡ false) → flat_map (moves_in s k kind) (by_halves r j ms) ≡ []
  moves_none s r k j kind ms apart = at (same_or_not s r)
    where
      at : (r ≡ s) ⊎ (r ≡ s → ⊥) → flat_map (moves_in s k kind) (by_halves r j ms) ≡ []
      at (inl e) = ap (λ q. flat_map (moves_in s k kind) (by_halves q j ms)) e ∙ moves_elsewhere s k j kind ms (apart e)
      at (inr d) = moves_of_other s r k j kind ms d

  no_moves : (s : Bool) (k : SocketId) (kind : HalfEntry → List ℕ) (i n : ℕ) → ((r : Bool) (t : TrailNow) (log : Log) → IsHalfAt x i r t log → r ≡ s → same_socket k t.socket ≡ false) →
      added_at (moves_in s k kind) (items_in x) x.actors i n ≡ []
  no_moves s k kind i n apart = by_actor (slice_get x.actors i) refl
    where
      by_actor : (o : Option Actor) → slice_get x.actors i ≡ o → added_at (moves_in s k kind) (items_in x) x.actors i n ≡ []
      by_actor None e = ap (λ o. flat_map (moves_in s k kind) (done_by (items_in x) o n)) e
      by_actor (Some (of_record r)) e = ap (λ o. flat_map (moves_in s k kind) (done_by (items_in x) o n)) e ∙ moves_of_record s r k kind (slice_get (items_in x r) n)
      by_actor (Some (of_half r t log)) e =
          ap (λ o. flat_map (moves_in s k kind) (done_by (items_in x) o n)) e
          ∙ moves_none s r k t.socket kind (half_bytes t log n (slice_get (strand_of t).items n)) (apart r t log e)

  one_half : (s : Bool) (kind : HalfEntry → List ℕ) (j : ℕ) (t : TrailNow) (log : Log) → IsHalfAt x j s t log →
      flat_map (moves_in s t.socket kind) front ≡ gathered (added_at (moves_in s t.socket kind) (items_in x) x.actors j) (slice_index cut j)
  one_half s kind j t log there =
      all_of_it (moves_in s t.socket kind) j (of_half s t log) there
      (λ i n d. no_moves s t.socket kind i n (λ r u other e q. other_half x sc i j r s u t other log e there d))

  its_bytes : (s : Bool) (kind : HalfEntry → List ℕ) (j : ℕ) (t : TrailNow) (log : Log) → IsHalfAt x j s t log → (n : ℕ) →
      added_at (moves_in s t.socket kind) (items_in x) x.actors j n ≡ flat_map kind (half_bytes t log n (slice_get (strand_of t).items n))
  its_bytes s kind j t log there n =
      ap (λ o. flat_map (moves_in s t.socket kind) (done_by (items_in x) o n)) there
      ∙ moves_here s t.socket t.socket kind (half_bytes t log n (slice_get (strand_of t).items n)) (same_refl t.socket)

  abbrev pub halves_by : Bool → SocketId → HalfBytes
  halves_by s k = record { got = flat_map (moves_in s k got_by) front; put = flat_map (moves_in s k put_by) front }

  pub halves_so : (s : Bool) → HalvesAre x cut s (halves_by s)
  halves_so s = record {
    got = λ j t log there. one_half s got_by j t log there
        ∙ got_gathered t log (sc.half j s t log there).own (added_at (moves_in s t.socket got_by) (items_in x) x.actors j) (its_bytes s got_by j t log there) (slice_index cut j);
    put = λ j t log there. one_half s put_by j t log there
        ∙ put_gathered t log (sc.half j s t log there).own (added_at (moves_in s t.socket put_by) (items_in x) x.actors j) (its_bytes s put_by j t log there) (slice_index cut j);
    none = λ k bare. (
      none_picked (moves_in s k got_by) (items_in x) x.actors (at_first x.actors) order (λ i n. no_moves s k got_by i n (λ r t log e q. bare i t log (subst (λ b. IsHalfAt x i b t log) q e))),
      none_picked (moves_in s k put_by) (items_in x) x.actors (at_first x.actors) order (λ i n. no_moves s k put_by i n (λ r t log e q. bare i t log (subst (λ b. IsHalfAt x i b t log) q e))),
    );
  }

  -- ---- both sides

  pub fits_there : OrdersGivePoints → TrailsTellEachPoint → IsCut x cut → ((s : Bool) → KeepsRanges (x.facts s)) → BytesFit (near_side (x.facts true) front) (far_side (x.facts false) front)
  fits_there points tell is named =
      subst (λ es. BytesFit (record { facts = x.facts true; entries = es; halves = halves_by true }) (far_side (x.facts false) front)) (sym (near_entries front ∙ items_so true))
      (subst (λ es. BytesFit (record { facts = x.facts true; entries = items_of (x.sources true) (scene.come x sc cut true); halves = halves_by true }) (record { facts = x.facts false; entries = es; halves = halves_by false })) (sym (far_entries front ∙ items_so false))
      (bytes_fit x sc points tell cut is (halves_by true) (halves_by false) (halves_so true) (halves_so false) named))
