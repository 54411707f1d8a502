-- Nodes that were alike are so where their ends were told the same, and no two of one node's ends are of one socket.
use Rattle.std.proofs.Common.{◌≡◌, Bool, true, false, if◌then◌else◌, List, [], ◌∷◌, ◌++◌, map, Option, None, Some, refl, sym, subst, ◌∙◌, ap, append_assoc}
use Rattle.std.specs.Prelude.{IsSome}
use Rattle.std.specs.List.{AllByRecursion, IsDistinct, flat_map}
use Rattle.std.specs.Option.{option_map}
use Rattle.std.proofs.lemmas.List.{map-append}
use Rattle.m2_dispatch.specs.Heard.{Heard}
use Rattle.m2_fabric.proofs.Sockets.{same_equal}
use Rattle.m2_fabric.specs.End.{SeenEnd}
use Rattle.m2_fabric.specs.Port.{SeenPort}
use Rattle.m2_fabric.specs.Sockets.{same_socket}
use Rattle.m2_fabric.specs.declared.socket.SocketId.{SocketId}
use Rattle.m2_fabric.proofs.m2_lemmas.Lists.{cons_same, map_same}
use Rattle.m2_script.specs.m2_center.Center.{CenterNow}
use Rattle.m2_script.specs.m2_center.Reaching.{all_ends_in, ends_in, ends_or_none, untold, untold_feed, untold_half, untold_loose, untold_record, rest_in, waiting_at}
use Rattle.m2_script.specs.m2_cluster.Node.{NodeNow, end_in, line_in, rest_at, rest_of_node}
use Rattle.m2_trail.specs.Arrivals.{LooseNow}
use Rattle.m2_script.specs.m2_center.m2_turn.Halves.{AllHalves}
use Rattle.m2_script.specs.m2_center.m2_turn.Hearing as halves
use Rattle.m2_script.specs.m2_center.m2_turn.Sessions.{PendingNow}
use Rattle.m2_script.specs.m2_center.m2_core.LiveCalls.{live_with}
use Rattle.m2_script.specs.m2_center.m2_feed.FeedNow.{FeedNow}
use Rattle.m2_script.specs.m2_center.m2_record.RecordNow.{RecordNow, ends_of, feed_end, ids_of}
use Rattle.m2_script.specs.m2_center.m2_record.Sources.{end_at}
use Rattle.m2_script.proofs.m2_center.m2_turn.m2_record.Ends.{end-first}
use Rattle.m2_exact.proofs.Lists.{mapped_twice}
use Rattle.m2_exact.specs.Accepts.{plain_halves, plain_pending}
use Rattle.m2_exact.specs.Centers.{PlainCenter, plain_center}
use Rattle.m2_exact.specs.Cores.{roomless_feed}
use Rattle.m2_exact.specs.Nodes.{PlainNode, plain_node}
use Rattle.m2_exact.specs.Records.{plain}

-- ---- ends by their sockets

-- an end of none of the others' sockets isn't found among them
none_of : (id : SocketId) (es : List SeenEnd) → AllByRecursion (λ k. same_socket id k ≡ false) (ids_of es) → end_at es id ≡ None
none_of id [] all = refl
none_of id (e ∷ es) all = ap (λ b. if b then Some e else end_at es id) all.0 ∙ none_of id es all.1

one_end : (e f : SeenEnd) → Some e ≡ Some f → e ≡ f
one_end e f h = cc h

-- lists of ends of the same sockets, each of its own, that are found to be the same
pub by_sockets : (es fs : List SeenEnd) → ids_of es ≡ ids_of fs → IsDistinct same_socket (ids_of es) → ((k : SocketId) → end_at es k ≡ end_at fs k) → es ≡ fs
unfolding IsDistinct
by_sockets [] [] ids own same = refl
by_sockets [] (f ∷ fs) ids own same = absurd (cc ids)
by_sockets (e ∷ es) [] ids own same = absurd (cc ids)
by_sockets (e ∷ es) (f ∷ fs) ids own same =
    let both = cons_same e.id f.id (ids_of es) (ids_of fs) ids in
    let first : e ≡ f = one_end e f (sym (end-first e es) ∙ same e.id ∙ ap (end_at (f ∷ fs)) both.0 ∙ end-first f fs) in
    ap (λ x. x ∷ es) first ∙ ap (λ xs. f ∷ xs) (by_sockets es fs both.1 own.1 (λ k. rest both.0 both.1 k (same_socket k e.id) refl))
  where
    rest : e.id ≡ f.id → ids_of es ≡ ids_of fs → (k : SocketId) (b : Bool) → same_socket k e.id ≡ b → end_at es k ≡ end_at fs k
    rest one others k true is =
        let here : k ≡ e.id = same_equal k e.id is in
        let none : end_at es k ≡ None = ap (end_at es) here ∙ none_of e.id es own.0 in
        let there : AllByRecursion (λ x. same_socket f.id x ≡ false) (ids_of fs) =
        subst (λ (i : SocketId). AllByRecursion (λ x. same_socket i x ≡ false) (ids_of fs)) one (subst (AllByRecursion (λ x. same_socket e.id x ≡ false)) others own.0) in
        none ∙ sym (ap (end_at fs) (here ∙ one) ∙ none_of f.id fs there)
    rest one others k false is =
        sym (ap (λ b. if b then Some e else end_at es k) is) ∙ same k ∙ ap (λ (i : SocketId). if same_socket k i then Some f else end_at fs k) (sym one)
        ∙ ap (λ b. if b then Some f else end_at fs k) is

-- ---- lists of which the ends are the same

-- Of items that are the same but for their ends the first ends of two lists are theirs. So they are the same, and so is what is behind.
pub with_ends : {X Y Z : Type 0} (known : X → Y) (end : X → SeenEnd) (all : X → Z) → ((x y : X) → known x ≡ known y → end x ≡ end y → all x ≡ all y) → (xs ys : List X) →
    map known xs ≡ map known ys → (es fs : List SeenEnd) → map end xs ++ es ≡ map end ys ++ fs → (map all xs ≡ map all ys) × (es ≡ fs)
with_ends known end all so [] [] same es fs ends = (refl, ends)
with_ends known end all so [] (y ∷ ys) same es fs ends = absurd (cc same)
with_ends known end all so (x ∷ xs) [] same es fs ends = absurd (cc same)
with_ends known end all so (x ∷ xs) (y ∷ ys) same es fs ends =
    let both = cons_same (known x) (known y) (map known xs) (map known ys) same in
    let first = cons_same (end x) (end y) (map end xs ++ es) (map end ys ++ fs) ends in
    let more = with_ends known end all so xs ys both.1 es fs first.1 in
    (ap (λ z. z ∷ map all xs) (so x y both.0 first.0) ∙ ap (λ zs. all y ∷ zs) more.0, more.1)

as_they_are : {X : Type 0} (xs : List X) → map (λ x. x) xs ≡ xs
as_they_are [] = refl
as_they_are (x ∷ xs) = ap (λ ys. x ∷ ys) (as_they_are xs)

-- ---- a record

-- what is known of a record whose ends are told something
abbrev known_record : RecordNow → RecordNow
known_record r = plain (untold_record r)

-- the record with this feed and these ends that were it
abbrev with_feed : Option FeedNow → List SeenEnd → RecordNow → RecordNow
with_feed feed spent r = record r { core = record r.core { live = live_with feed r.core.live }; spent = spent }

feed_of : (v w : FeedNow) → roomless_feed (untold_feed v) ≡ roomless_feed (untold_feed w) → v.end ≡ w.end → roomless_feed v ≡ roomless_feed w
feed_of v w same end = ap (λ (x : FeedNow). record x { end = v.end }) same ∙ ap (λ (e : SeenEnd). record (roomless_feed w) { end = e }) end

some_feed : (v w : FeedNow) → Some v ≡ Some w → v ≡ w
some_feed v w e = cc e

end_of_untold : (e f : SeenEnd) → untold e ≡ untold f → e ≡ f → e ≡ f
end_of_untold e f known same = same

-- The ends of two records of which the same is known, and what is behind them.
pub record_told : (r s : RecordNow) → known_record r ≡ known_record s → (es fs : List SeenEnd) → ends_of r ++ es ≡ ends_of s ++ fs → (plain r ≡ plain s) × (es ≡ fs)
record_told r s same es fs ends = by r.core.live.feed s.core.live.feed refl refl (ap (λ (x : RecordNow). x.core.live.feed) same) ends
  where
    spent : map untold r.spent ≡ map untold s.spent
    spent = ap (λ (x : RecordNow). x.spent) same

    made : (x y : Option FeedNow) → r.core.live.feed ≡ x → s.core.live.feed ≡ y → option_map roomless_feed x ≡ option_map roomless_feed y → map (λ (e : SeenEnd). e) r.spent ≡ map (λ (e : SeenEnd). e) s.spent →
        plain r ≡ plain s
    made x y is are feeds all =
        let gone : r.spent ≡ s.spent = sym (as_they_are r.spent) ∙ all ∙ as_they_are s.spent in
        ap (with_feed (option_map roomless_feed r.core.live.feed) r.spent) same
        ∙ ap (λ (o : Option FeedNow). with_feed o r.spent (known_record s)) (ap (option_map roomless_feed) is ∙ feeds ∙ sym (ap (option_map roomless_feed) are))
        ∙ ap (λ (l : List SeenEnd). with_feed (option_map roomless_feed s.core.live.feed) l (known_record s)) gone

    by : (x y : Option FeedNow) → r.core.live.feed ≡ x → s.core.live.feed ≡ y → option_map roomless_feed (option_map untold_feed r.core.live.feed) ≡ option_map roomless_feed (option_map untold_feed s.core.live.feed) →
        (feed_end r.core.live.feed ++ r.spent) ++ es ≡ (feed_end s.core.live.feed ++ s.spent) ++ fs → (plain r ≡ plain s) × (es ≡ fs)
    by (Some v) (Some w) is are feeds ends =
        let shown : v.end ∷ (r.spent ++ es) ≡ w.end ∷ (s.spent ++ fs) =
        sym (ap (λ (o : Option FeedNow). (feed_end o ++ r.spent) ++ es) is) ∙ ends ∙ ap (λ (o : Option FeedNow). (feed_end o ++ s.spent) ++ fs) are in
        let first = cons_same v.end w.end (r.spent ++ es) (s.spent ++ fs) shown in
        let feed : roomless_feed (untold_feed v) ≡ roomless_feed (untold_feed w) =
        some_feed (roomless_feed (untold_feed v)) (roomless_feed (untold_feed w))
        (sym (ap (λ (o : Option FeedNow). option_map roomless_feed (option_map untold_feed o)) is) ∙ feeds ∙ ap (λ (o : Option FeedNow). option_map roomless_feed (option_map untold_feed o)) are) in
        let more = with_ends untold (λ (e : SeenEnd). e) (λ (e : SeenEnd). e) end_of_untold r.spent s.spent spent es fs
        (ap (λ (l : List SeenEnd). l ++ es) (as_they_are r.spent) ∙ first.1 ∙ sym (ap (λ (l : List SeenEnd). l ++ fs) (as_they_are s.spent))) in
        (made (Some v) (Some w) is are (ap (λ (z : FeedNow). Some z) (feed_of v w feed first.0)) more.0, more.1)
    by None None is are feeds ends =
        let shown : r.spent ++ es ≡ s.spent ++ fs =
        sym (ap (λ (o : Option FeedNow). (feed_end o ++ r.spent) ++ es) is) ∙ ends ∙ ap (λ (o : Option FeedNow). (feed_end o ++ s.spent) ++ fs) are in
        let more = with_ends untold (λ (e : SeenEnd). e) (λ (e : SeenEnd). e) end_of_untold r.spent s.spent spent es fs
        (ap (λ (l : List SeenEnd). l ++ es) (as_they_are r.spent) ∙ shown ∙ sym (ap (λ (l : List SeenEnd). l ++ fs) (as_they_are s.spent))) in
        (made None None is are refl more.0, more.1)
    by (Some v) None is are feeds ends =
        absurd (cc (sym (ap (λ (o : Option FeedNow). option_map roomless_feed (option_map untold_feed o)) is) ∙ feeds ∙ ap (λ (o : Option FeedNow). option_map roomless_feed (option_map untold_feed o)) are))
    by None (Some w) is are feeds ends =
        absurd (cc (sym (ap (λ (o : Option FeedNow). option_map roomless_feed (option_map untold_feed o)) is) ∙ feeds ∙ ap (λ (o : Option FeedNow). option_map roomless_feed (option_map untold_feed o)) are))

pub records_told : (rs ss : List RecordNow) → map known_record rs ≡ map known_record ss → (es fs : List SeenEnd) → flat_map ends_of rs ++ es ≡ flat_map ends_of ss ++ fs →
    (map plain rs ≡ map plain ss) × (es ≡ fs)
records_told [] [] same es fs ends = (refl, ends)
records_told [] (s ∷ ss) same es fs ends = absurd (cc same)
records_told (r ∷ rs) [] same es fs ends = absurd (cc same)
records_told (r ∷ rs) (s ∷ ss) same es fs ends =
    let both = cons_same (known_record r) (known_record s) (map known_record rs) (map known_record ss) same in
    let first = record_told r s both.0 (flat_map ends_of rs ++ es) (flat_map ends_of ss ++ fs)
    (sym (append_assoc (ends_of r) (flat_map ends_of rs) es) ∙ ends ∙ append_assoc (ends_of s) (flat_map ends_of ss) fs) in
    let more = records_told rs ss both.1 es fs first.1 in
    (ap (λ z. z ∷ map plain rs) first.0 ∙ ap (λ zs. plain s ∷ zs) more.0, more.1)

-- ---- halves

abbrev known_pending : PendingNow → PendingNow
known_pending p = plain_pending (untold_half p)

pending_told : (p q : PendingNow) → known_pending p ≡ known_pending q → p.half.end ≡ q.half.end → plain_pending p ≡ plain_pending q
pending_told p q same end =
    ap (λ (x : PendingNow). record x { half = record x.half { end = p.half.end } }) same ∙ ap (λ (e : SeenEnd). record (plain_pending q) { half = record (plain_pending q).half { end = e } }) end

loose_told : (l m : LooseNow) → untold_loose l ≡ untold_loose m → l.end ≡ m.end → l ≡ m
loose_told l m same end = ap (λ (x : LooseNow). record x { end = l.end }) same ∙ ap (λ (e : SeenEnd). record m { end = e }) end

pub halves_told : (h k : AllHalves) → map known_pending h.pending ≡ map known_pending k.pending → map untold_loose h.loose ≡ map untold_loose k.loose → (es fs : List SeenEnd) →
    halves.ends_in h ++ es ≡ halves.ends_in k ++ fs → (plain_halves h ≡ plain_halves k) × (es ≡ fs)
halves_told h k pending loose es fs ends =
    let there : List SeenEnd = map (λ (l : LooseNow). l.end) h.loose in
    let here : List SeenEnd = map (λ (l : LooseNow). l.end) k.loose in
    let first = with_ends known_pending (λ (p : PendingNow). p.half.end) plain_pending pending_told h.pending k.pending pending (there ++ es) (here ++ fs)
    (sym (append_assoc (map (λ (p : PendingNow). p.half.end) h.pending) there es) ∙ ends ∙ append_assoc (map (λ (p : PendingNow). p.half.end) k.pending) here fs) in
    let more = with_ends untold_loose (λ (l : LooseNow). l.end) (λ (l : LooseNow). l) loose_told h.loose k.loose loose es fs first.1 in (
      ap (λ (ps : List PendingNow). record { pending = ps; loose = h.loose }) first.0
          ∙ ap (λ (ls : List LooseNow). record { pending = map plain_pending k.pending; loose = ls }) (sym (as_they_are h.loose) ∙ more.0 ∙ as_they_are k.loose),
      more.1,
    )

-- those of records and halves
abbrev pub plain_ends : PlainCenter → List SeenEnd
plain_ends p = flat_map ends_of p.records ++ halves.ends_in p.halves

-- ---- what is known of a center whose ends are told something

module _ {D : Type 0} (heard : D → List Heard) where
  abbrev known : CenterNow D → CenterNow D
  known c = record (rest_in c) { port = rest_at c.port }

  -- the same of what counts of it
  abbrev known_plain : PlainCenter → PlainCenter
  known_plain p = record p {
    port = rest_at p.port;
    records = map untold_record p.records;
    halves = record { pending = map untold_half p.halves.pending; loose = map untold_loose p.halves.loose };
  }

  feeds_known : (x : Option FeedNow) → option_map roomless_feed (option_map untold_feed x) ≡ option_map untold_feed (option_map roomless_feed x)
  feeds_known (Some v) = refl
  feeds_known None = refl

  record_known : (r : RecordNow) → plain (untold_record r) ≡ untold_record (plain r)
  record_known r = ap (λ (o : Option FeedNow). with_feed o (map untold r.spent) (plain r)) (feeds_known r.core.live.feed)

  center_known : (c : CenterNow D) → plain_center heard (known c) ≡ known_plain (plain_center heard c)
  center_known c =
      ap (λ (rs : List RecordNow). record (plain_center heard (known c)) { records = rs })
      (mapped_twice plain untold_record c.records ∙ map_same (λ r. plain (untold_record r)) (λ r. untold_record (plain r)) record_known c.records ∙ sym (mapped_twice untold_record plain c.records))
      ∙ ap (λ (ps : List PendingNow). record (known_plain (plain_center heard c)) { halves = record { pending = ps; loose = map untold_loose c.halves.loose } })
      (mapped_twice plain_pending untold_half c.halves.pending ∙ sym (mapped_twice untold_half plain_pending c.halves.pending))

  same_known : (old last new behind : CenterNow D) → plain_center heard old ≡ plain_center heard last → known new ≡ known old → known behind ≡ known last →
      plain_center heard (known new) ≡ plain_center heard (known behind)
  same_known old last new behind like h g =
      ap (plain_center heard) h ∙ center_known old ∙ ap known_plain like ∙ sym (center_known last) ∙ sym (ap (plain_center heard) g)

  -- ---- its sockets

  abbrev id_of : SeenEnd → SocketId
  id_of e = e.id

  record_ids : (r : RecordNow) → ids_of (ends_of r) ≡ ids_of (ends_of (plain (untold_record r)))
  record_ids r = by r.core.live.feed
    where
      by : (x : Option FeedNow) → ids_of (feed_end x ++ r.spent) ≡ ids_of (feed_end (option_map roomless_feed (option_map untold_feed x)) ++ map untold r.spent)
      by (Some v) = ap (λ (ks : List SocketId). v.end.id ∷ ks) (sym (mapped_twice id_of untold r.spent))
      by None = sym (mapped_twice id_of untold r.spent)

  records_ids : (rs : List RecordNow) → ids_of (flat_map ends_of rs) ≡ ids_of (flat_map ends_of (map plain (map untold_record rs)))
  records_ids [] = refl
  records_ids (r ∷ rs) =
      map-append id_of (ends_of r) (flat_map ends_of rs)
      ∙ ap (λ (ks : List SocketId). ks ++ ids_of (flat_map ends_of rs)) (record_ids r)
      ∙ ap (λ (ks : List SocketId). ids_of (ends_of (plain (untold_record r))) ++ ks) (records_ids rs)
      ∙ sym (map-append id_of (ends_of (plain (untold_record r))) (flat_map ends_of (map plain (map untold_record rs))))

  pending_ids : (ps : List PendingNow) → ids_of (map (λ (p : PendingNow). p.half.end) ps) ≡ ids_of (map (λ (p : PendingNow). p.half.end) (map plain_pending (map untold_half ps)))
  pending_ids [] = refl
  pending_ids (p ∷ ps) = ap (λ (ks : List SocketId). p.half.end.id ∷ ks) (pending_ids ps)

  loose_ids : (ls : List LooseNow) → ids_of (map (λ (l : LooseNow). l.end) ls) ≡ ids_of (map (λ (l : LooseNow). l.end) (map untold_loose ls))
  loose_ids [] = refl
  loose_ids (l ∷ ls) = ap (λ (ks : List SocketId). l.end.id ∷ ks) (loose_ids ls)

  both_ids : (xs ys zs ws : List SeenEnd) → ids_of xs ≡ ids_of zs → ids_of ys ≡ ids_of ws → ids_of (xs ++ ys) ≡ ids_of (zs ++ ws)
  both_ids xs ys zs ws one other =
      map-append id_of xs ys ∙ ap (λ (ks : List SocketId). ks ++ ids_of ys) one ∙ ap (λ (ks : List SocketId). ids_of zs ++ ks) other ∙ sym (map-append id_of zs ws)

  center_ids : (c : CenterNow D) → ids_of (ends_in c) ≡ ids_of (plain_ends (plain_center heard (known c)))
  center_ids c =
      both_ids (flat_map ends_of c.records) (halves.ends_in c.halves) (flat_map ends_of (map plain (map untold_record c.records)))
      (halves.ends_in (plain_halves (record { pending = map untold_half c.halves.pending; loose = map untold_loose c.halves.loose })))
      (records_ids c.records)
      (both_ids (map (λ (p : PendingNow). p.half.end) c.halves.pending) (map (λ (l : LooseNow). l.end) c.halves.loose)
      (map (λ (p : PendingNow). p.half.end) (map plain_pending (map untold_half c.halves.pending))) (map (λ (l : LooseNow). l.end) (map untold_loose c.halves.loose))
      (pending_ids c.halves.pending) (loose_ids c.halves.loose))

  -- ---- a center

  waiting_of : (o p : Option (List SeenEnd)) → IsSome o → IsSome p → ends_or_none o ≡ ends_or_none p → o ≡ p
  waiting_of (Some es) (Some fs) m k same = ap (λ (l : List SeenEnd). Some l) same
  waiting_of (Some es) None m k same = absurd (cc k)
  waiting_of None p m k same = absurd (cc m)

  center_told : (new behind : CenterNow D) → plain_center heard (known new) ≡ plain_center heard (known behind) → IsSome new.port.waiting → IsSome behind.port.waiting →
      IsDistinct same_socket (ids_of (all_ends_in new)) → ((k : SocketId) → end_at (all_ends_in new) k ≡ end_at (all_ends_in behind) k) → ids_of (waiting_at new.port) ≡ ids_of (waiting_at behind.port) →
      plain_center heard new ≡ plain_center heard behind
  center_told new behind same some there own found line =
      let sockets : ids_of (all_ends_in new) ≡ ids_of (all_ends_in behind) =
      both_ids (ends_in new) (waiting_at new.port) (ends_in behind) (waiting_at behind.port) (center_ids new ∙ ap (λ (p : PlainCenter). ids_of (plain_ends p)) same ∙ sym (center_ids behind)) line in
      let ends : all_ends_in new ≡ all_ends_in behind = by_sockets (all_ends_in new) (all_ends_in behind) sockets own found in
      let records = records_told new.records behind.records
      (sym (mapped_twice plain untold_record new.records) ∙ ap (λ (p : PlainCenter). p.records) same ∙ mapped_twice plain untold_record behind.records)
      (halves.ends_in new.halves ++ waiting_at new.port) (halves.ends_in behind.halves ++ waiting_at behind.port)
      (sym (append_assoc (flat_map ends_of new.records) (halves.ends_in new.halves) (waiting_at new.port)) ∙ ends ∙ append_assoc (flat_map ends_of behind.records) (halves.ends_in behind.halves) (waiting_at behind.port)) in
      let rest = halves_told new.halves behind.halves
      (sym (mapped_twice plain_pending untold_half new.halves.pending) ∙ ap (λ (p : PlainCenter). p.halves.pending) same ∙ mapped_twice plain_pending untold_half behind.halves.pending)
      (ap (λ (p : PlainCenter). p.halves.loose) same) (waiting_at new.port) (waiting_at behind.port) records.1 in
      let port : new.port ≡ behind.port =
      ap (λ (p : PlainCenter). record p.port { waiting = new.port.waiting }) same
      ∙ ap (λ (w : Option (List SeenEnd)). record behind.port { waiting = w }) (waiting_of new.port.waiting behind.port.waiting some there rest.1) in
      ap (λ (p : PlainCenter). record p { port = new.port; halves = plain_halves new.halves; records = map plain new.records }) same
      ∙ ap (λ (p : SeenPort). record (plain_center heard behind) { port = p; halves = plain_halves new.halves; records = map plain new.records }) port
      ∙ ap (λ (h : AllHalves). record (plain_center heard behind) { halves = h; records = map plain new.records }) rest.0
      ∙ ap (λ (rs : List RecordNow). record (plain_center heard behind) { records = rs }) records.0

  -- ---- a node

  pub alike : (old last new behind : NodeNow D) → plain_node heard old ≡ plain_node heard last → rest_of_node new ≡ rest_of_node old → rest_of_node behind ≡ rest_of_node last →
      IsSome new.center.port.waiting → IsSome behind.center.port.waiting → IsDistinct same_socket (ids_of (all_ends_in new.center)) →
      ((k : SocketId) → end_in new.center k ≡ end_in behind.center k) → line_in new.center ≡ line_in behind.center → plain_node heard new ≡ plain_node heard behind
  alike old last new behind like h g some there own found line =
      let same = same_known old.center last.center new.center behind.center (ap (λ (n : PlainNode). n.center) like) (ap (λ (n : NodeNow D). n.center) h) (ap (λ (n : NodeNow D). n.center) g) in
      ap (λ (n : NodeNow D). record { center = plain_center heard new.center; numbers = n.numbers; throttles = n.throttles }) h
      ∙ ap (λ (n : PlainNode). record { center = plain_center heard new.center; numbers = n.numbers; throttles = n.throttles }) like
      ∙ sym (ap (λ (n : NodeNow D). record { center = plain_center heard new.center; numbers = n.numbers; throttles = n.throttles }) g)
      ∙ ap (λ (c : PlainCenter). record (plain_node heard behind) { center = c }) (center_told new.center behind.center same some there own found line)
