-- What a half that no record took has got its opener has put, where the strands of a link have an order.
use Rattle.std.proofs.Common.{◌≡◌, inl, inr, ℕ, zero, suc, ◌+◌, ◌<◌, Bool, true, false, if◌then◌else◌, List, [], ◌∷◌, ◌++◌, length, map, take, Option, Some, None, refl, sym, ap, subst, ◌∙◌, arith, take_all}
use Rattle.std.specs.Prelude.{slice_get, slice_index, slice_index_or, nat_lt, IsSome, is_some}
use Rattle.std.specs.List.{IsDistinct}
use Rattle.m2_fabric.specs.declared.socket.SocketId.{SocketId}
use Rattle.m2_growth.specs.Halves.{IsOneOf}
use Rattle.m2_weave.specs.m2_handshake.Laws.{IsPrefix}
use Rattle.m2_history.specs.HalfStrands.{strand_of}
use Rattle.m2_history.specs.Link.{IsWholeHalf}
use Rattle.m2_history.specs.Woven.{BothNow, EndNow, as_judged, ends_of, half_end, is_of_link, loose_ends, loose_strand, loose_strands, row_now, rows_of, strands_of, strands_of_side}
use Rattle.m2_weave.specs.m2_journal.declared.entry.Entry.{Entry}
use Rattle.m2_weave.specs.m2_journal.Items.{runs_on}
use Rattle.m2_weave.specs.Order.{Cut, reached}
use Rattle.m2_fabric.proofs.m2_lemmas.Booleans.{false_isnt_true}
use Rattle.m2_history.specs.m2_trail.Arrivals.{LooseNow}
use Rattle.m2_history.specs.m2_trail.Trails as trail
use Rattle.m2_history.specs.m2_trail.Trails.{TrailNow}
use Rattle.m2_history.proofs.m2_trail.Runs.{runs_on-all}
use Rattle.m2_weave.specs.declared.table.SocketBytes.{SocketBytes}
use Rattle.m2_weave.specs.WeaveLaws.{IsRead, ReadWasWritten}
use Rattle.m2_weave.specs.Rule.{Woven, byte_at, nothing_at_all}
use Rattle.m2_weave.specs.Stops.{IsWoven, sizes}
use Rattle.m2_weave.specs.Strands.{EndOf, StrandNow, end_in, has_opened, other, read_by, total, written_at}
use Rattle.m2_weave.specs.Table.{bytes_of}
use Rattle.m2_history.specs.WovenLink.{same_end}
use Rattle.m2_history.proofs.Bytes.{HasBytes, IsOf, bytes_there, of_right}
use Rattle.m2_history.proofs.WovenHalves.{half_opens_none, half_reads, whole_own}
use Rattle.m2_history.proofs.WovenLinks.{get_right}
use Rattle.m2_fabric.proofs.m2_lemmas.Lists.{get_map}

-- ---- places in lists

record IsAt {X : Type 0} (x : X) (xs : List X) : Type 0 where
  place : ℕ
  is : slice_get xs place ≡ Some x

at_right : {X : Type 0} (x : X) (xs ys : List X) → IsAt x ys → IsAt x (xs ++ ys)
at_right x xs ys at = record { place = length xs + at.place; is = get_right xs ys at.place x at.is }

index_of : {X : Type 0} (xs : List X) (j : ℕ) (x d : X) → slice_get xs j ≡ Some x → slice_index_or xs j d ≡ x
index_of [] j x d e = absurd cc
index_of (y ∷ xs) zero x d e = cc
index_of (y ∷ xs) (suc j) x d e = index_of xs j x d e

number_of : (xs : List ℕ) (j x : ℕ) → slice_get xs j ≡ Some x → slice_index xs j ≡ x
number_of [] j x e = absurd cc
number_of (y ∷ xs) zero x e = cc
number_of (y ∷ xs) (suc j) x e = number_of xs j x e

some_at : {X : Type 0} (xs : List X) (p : ℕ) → p < length xs → IsSome (slice_get xs p)
some_at [] p h = absurd (omega (arith, h))
some_at (x ∷ xs) zero h = refl
some_at (x ∷ xs) (suc p) h = some_at xs p (omega (arith, h))

prefix_by : (xs ys : List ℕ) → ((p : ℕ) → p < length xs → slice_get ys p ≡ slice_get xs p) → IsPrefix xs ys
prefix_by [] ys h = (ys, refl)
prefix_by (x ∷ xs) [] h = let none : None ≡ Some x = h 0 (omega arith) in absurd cc
prefix_by (x ∷ xs) (y ∷ ys) h =
    let first : Some y ≡ Some x = h 0 (omega arith) in
    let head : y ≡ x = cc in
    let rest = prefix_by xs ys (λ p q. h (suc p) (omega (arith, q))) in
    (rest.0, ap (λ l. y ∷ l) rest.1 ∙ ap (λ z. z ∷ (xs ++ rest.0)) head)

-- ---- a loose strand among all

loose_at : (a b : List Entry) (ls : List LooseNow) (l : LooseNow) → IsOneOf l ls → is_of_link a b l ≡ true → IsAt (strand_of (as_judged a b l.trail)) (loose_strands a b ls)
loose_at a b [] l i its = absurd i
loose_at a b (y ∷ ls) l (inl e) its = by (is_of_link a b y) refl
  where
    by : (c : Bool) → is_of_link a b y ≡ c → IsAt (strand_of (as_judged a b l.trail)) ((if c then strand_of (as_judged a b y.trail) ∷ [] else []) ++ loose_strands a b ls)
    by true q = record { place = 0; is = ap (λ (z : LooseNow). Some (strand_of (as_judged a b z.trail))) (sym e) }
    by false q = absurd (false_isnt_true (sym q ∙ ap (is_of_link a b) (sym e) ∙ its))
loose_at a b (y ∷ ls) l (inr i) its = at_right (strand_of (as_judged a b l.trail)) (loose_strand a b y) (loose_strands a b ls) (loose_at a b ls l i its)

loose_there : (a b : List Entry) (ls : List LooseNow) (l : LooseNow) → IsOneOf l ls → is_of_link a b l ≡ true → IsOf (half_end l) (loose_ends a b ls)
loose_there a b [] l i its = absurd i
loose_there a b (y ∷ ls) l (inl e) its = by (is_of_link a b y) refl
  where
    by : (c : Bool) → is_of_link a b y ≡ c → IsOf (half_end l) ((if c then half_end y ∷ [] else []) ++ loose_ends a b ls)
    by true q = inl (ap half_end (sym e))
    by false q = absurd (false_isnt_true (sym q ∙ ap (is_of_link a b) (sym e) ∙ its))
loose_there a b (y ∷ ls) l (inr i) its = of_right (half_end l) (if is_of_link a b y then half_end y ∷ [] else []) (loose_ends a b ls) (loose_there a b ls l i its)

-- ---- a byte that was written by then

by_then : (c : Bool) (put : List ℕ) (p : ℕ) (v : Option ℕ) → IsSome v → (if c then slice_get put p else None) ≡ v → slice_get put p ≡ v
by_then true put p v some e = e
by_then false put p v some e = absurd (false_isnt_true (ap is_some e ∙ some))

-- ---- one half

module _ (x : BothNow) (sockets : List SocketBytes) (rows : map row_now sockets ≡ rows_of (ends_of x)) (apart : IsDistinct same_end (ends_of x))
    (read : ReadWasWritten) (order : List ℕ) (woven : IsWoven (record { strands = strands_of x; bytes = bytes_of sockets }) order)
    (l : LooseNow) (one : IsOneOf l x.loose) (its : is_of_link x.a.journal x.b.journal l ≡ true) (whole : IsWholeHalf l) where
  abbrev w : Woven
  w = record { strands = strands_of x; bytes = bytes_of sockets }

  abbrev k : SocketId
  k = l.trail.socket

  -- with as many of its asks as both journals have judged
  abbrev t : TrailNow
  t = as_judged x.a.journal x.b.journal l.trail

  abbrev s : StrandNow
  s = strand_of t

  there : IsAt s (strands_of x)
  there = at_right s (strands_of_side x.a.journal x.a.trails ++ strands_of_side x.b.journal x.b.trails) (loose_strands x.a.journal x.b.journal x.loose) (loose_at x.a.journal x.b.journal x.loose l one its)

  abbrev end : Cut
  end = reached (sizes w) order

  all_came : slice_index end there.place ≡ length s.items
  all_came =
      ap (λ (c : Cut). slice_index c there.place) woven.whole
      ∙ number_of (sizes w) there.place (length s.items) (get_map (λ (z : StrandNow). length z.items) (strands_of x) there.place s there.is)

  is_read : IsRead w end s (length s.items)
  is_read =
      subst (λ n. IsRead w end s n) all_came
      (subst (λ z. IsRead w end z (slice_index end there.place)) (index_of (strands_of x) there.place s nothing_at_all there.is)
      (read w order woven.lawful there.place))

  unopened : has_opened s k ≡ false
  unopened = half_opens_none t k (whole_own l.trail l.end.log whole.entries)

  abbrev mine : EndOf
  mine = record { socket = k; opener = false }

  end_is : end_in s k ≡ mine
  end_is = ap (λ b. let e : EndOf = record { socket = k; opener = b } in e) unopened

  read_all : total (read_by k) (take (length s.items) s.items) ≡ length l.end.log.got
  read_all =
      ap (total (read_by k)) (take_all (length s.items) s.items (omega arith)) ∙ half_reads t
      ∙ ap trail.read_by (ap (runs_on k) whole.entries ∙ runs_on-all k l.end.log) ∙ sym whole.counted.got

  its_bytes : HasBytes sockets l.end.id false l.end.log.got l.end.log.put
  its_bytes = bytes_there (ends_of x) sockets (half_end l) apart rows (of_right (half_end l) _ (loose_ends x.a.journal x.b.journal x.loose) (loose_there x.a.journal x.b.journal x.loose l one its))

  got_is : w.bytes.got mine ≡ l.end.log.got
  got_is = ap (λ j. w.bytes.got (record { socket = j; opener = false })) whole.socket ∙ its_bytes.got

  -- what it has got is the first of what the opener's end has put
  pub was_put : (e : EndNow) → IsOf e (ends_of x) → e.socket ≡ k → e.opener ≡ true → IsPrefix l.end.log.got e.put
  was_put e of_x same opener = prefix_by l.end.log.got e.put each
    where
      bytes : HasBytes sockets e.socket e.opener e.got e.put
      bytes = bytes_there (ends_of x) sockets e apart rows of_x

      put_is : w.bytes.put (other mine) ≡ e.put
      put_is = ap (λ j. w.bytes.put (record { socket = j; opener = true })) (sym same) ∙ ap (λ b. w.bytes.put (record { socket = e.socket; opener = b })) (sym opener) ∙ bytes.put

      there_at : (p : ℕ) → p < length l.end.log.got → byte_at w end (other mine) p ≡ slice_get l.end.log.got p
      there_at p h =
          ap (λ (d : EndOf). byte_at w end (other d) p) (sym end_is)
          ∙ is_read k p (omega arith) (omega (arith, read_all, h)) (subst (λ (bs : List ℕ). p < length bs) (sym (ap w.bytes.got end_is ∙ got_is)) h)
          ∙ ap (λ (bs : List ℕ). slice_get bs p) (ap w.bytes.got end_is ∙ got_is)

      each : (p : ℕ) → p < length l.end.log.got → slice_get e.put p ≡ slice_get l.end.log.got p
      each p h =
          ap (λ (bs : List ℕ). slice_get bs p) (sym put_is)
          ∙ by_then (nat_lt p (written_at w.strands end (other mine))) (w.bytes.put (other mine)) p (slice_get l.end.log.got p) (some_at l.end.log.got p h) (there_at p h)
