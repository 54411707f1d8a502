-- What halves read on a socket is what the one half there has read.
use Rattle.std.proofs.Common.{◌≡◌, ℕ, zero, suc, ◌+◌, ◌-◌, max, Bool, true, false, if◌then◌else◌, List, [], ◌∷◌, ◌++◌, map, take, drop, refl, sym, ap, ◌∙◌, subst, arith, Some}
use Rattle.std.specs.List.{AllByRecursion, IsDistinct}
use Rattle.std.proofs.lemmas.List.{map-append}
use Rattle.m2_fabric.specs.declared.socket.SocketId.{SocketId}
use Rattle.m2_fabric.specs.Sockets.{same_socket}
use Rattle.m2_history.specs.HalfStrands.{strand_of}
use Rattle.m2_history.specs.Link.{IsOnSocket}
use Rattle.m2_history.specs.Woven.{BothNow, as_judged, is_of_link, loose_strands, strands_of}
use Rattle.m2_weave.specs.m2_journal.declared.entry.Entry.{Entry}
use Rattle.m2_weave.specs.m2_journal.declared.entry.Entry.TheVariants as entry
use Rattle.m2_history.specs.m2_trail.Arrivals.{LooseNow}
use Rattle.m2_history.specs.m2_trail.Trails.{TrailNow}
use Rattle.m2_links_go_on.specs.Sides.{AreHalves, IsHalf, done_on, entries_in, half_on, halves_of, loose_halves}
use Rattle.m2_weave.specs.declared.strand.StrandItem.{StrandItem}
use Rattle.m2_weave.specs.declared.strand.StrandItem.TheVariants.{Noted, Handed}
use Rattle.m2_weave.specs.Strands.{StrandNow, half_items, journal_of, read_by, read_by_halves, total}
use Rattle.m2_history.proofs.Alone.{total_joined}
use Rattle.m2_fabric.proofs.Sockets.{same_equal}

-- ---- one half

parts : (f : StrandItem → ℕ) (n : ℕ) (es : List Entry) → total f (map Noted (take n es)) + total f (map Noted (drop n es)) ≡ total f (map Noted es)
parts f zero es = omega arith
parts f (suc n) [] = omega arith
parts f (suc n) (e ∷ es) = omega (arith, parts f n es)

-- what counts nothing where an ask is handed on counts a half's entries
pub items_count : (f : StrandItem → ℕ) (x : SocketId) → f (Handed x) ≡ 0 → (ns : List ℕ) (place : ℕ) (es : List Entry) → total f (half_items x place es ns) ≡ total f (map Noted es)
items_count f x none [] place es = refl
items_count f x none (n ∷ ns) place es =
    omega (
      arith,
      none,
      total_joined f (map Noted (take (n - place) es)) (Handed x ∷ half_items x (max n place) (drop (n - place) es) ns),
      items_count f x none ns (max n place) (drop (n - place) es),
      parts f (n - place) es,
    )

reads-of : (k x : SocketId) (ns : List ℕ) (place : ℕ) (es : List Entry) → total (read_by k) (half_items x place es ns) ≡ total (read_by k) (map Noted es)
reads-of k x ns place es = items_count (read_by k) x refl ns place es

-- a half on another socket reads nothing there
other-read : (k x : SocketId) (e : Entry) → same_socket k x ≡ false → IsOnSocket x e → read_by k (Noted e) ≡ 0
other-read k x (entry.Read y count) apart h = ap (λ b. if b then count else 0) (ap (same_socket k) h ∙ apart)
other-read k x (entry.Wrote y count) apart h = refl
other-read k x (entry.Closed y) apart h = refl
other-read k x (entry.Post place) apart h = absurd h
other-read k x entry.Dial apart h = absurd h
other-read k x (entry.Opened y) apart h = absurd h
other-read k x (entry.Judged y ask number answer) apart h = absurd h
other-read k x (entry.Asked ident number) apart h = absurd h
other-read k x (entry.Numbered number) apart h = absurd h
other-read k x (entry.Accepted number key) apart h = absurd h
other-read k x (entry.Acked number) apart h = absurd h
other-read k x (entry.Obeyed full) apart h = absurd h
other-read k x (entry.Down planned) apart h = absurd h

pub none_there : (k x : SocketId) (es : List Entry) → same_socket k x ≡ false → AllByRecursion (IsOnSocket x) es → total (read_by k) (map Noted es) ≡ 0
none_there k x [] apart h = refl
none_there k x (e ∷ es) apart h = omega (arith, other-read k x e apart h.0, none_there k x es apart h.1)

-- ---- all halves

none-of : (k : SocketId) (ts : List TrailNow) → AllByRecursion IsHalf ts → AllByRecursion (λ (x : SocketId). same_socket k x ≡ false) (map (λ (t : TrailNow). t.socket) ts) →
    read_by_halves (map strand_of ts) k ≡ 0
none-of k [] each apart = refl
none-of k (t ∷ ts) each apart =
    omega (arith, reads-of k t.socket t.judged_after 0 t.entries, none_there k t.socket t.entries apart.0 each.0.entries, none-of k ts each.1 apart.1)

pub reads_are : (k : SocketId) (ts : List TrailNow) → AreHalves ts → read_by_halves (map strand_of ts) k ≡ total (read_by k) (map Noted (done_on k ts))
unfolding IsDistinct
reads_are k [] are = refl
reads_are k (t ∷ ts) are = at (same_socket k t.socket) refl (reads_are k ts (record { each = are.each.1; apart = are.apart.1 }))
  where
    at : (b : Bool) → same_socket k t.socket ≡ b → read_by_halves (map strand_of ts) k ≡ total (read_by k) (map Noted (done_on k ts)) →
        read_by_halves (map strand_of (t ∷ ts)) k ≡ total (read_by k) (map Noted (done_on k (t ∷ ts)))
    at true same rest =
        let here : half_on k (t ∷ ts) ≡ Some t = ap (λ b. if b then Some t else half_on k ts) same in
        let apart : AllByRecursion (λ (x : SocketId). same_socket k x ≡ false) (map (λ (t : TrailNow). t.socket) ts) =
        subst (λ y. AllByRecursion (λ (x : SocketId). same_socket y x ≡ false) (map (λ (t : TrailNow). t.socket) ts)) (sym (same_equal k t.socket same)) are.apart.0 in
        let done : total (read_by k) (map Noted (done_on k (t ∷ ts))) ≡ total (read_by k) (map Noted t.entries) = ap (λ o. total (read_by k) (map Noted (entries_in o))) here in
        omega (arith, reads-of k t.socket t.judged_after 0 t.entries, none-of k ts are.each.1 apart, done)
    at false differ rest =
        let there : half_on k (t ∷ ts) ≡ half_on k ts = ap (λ b. if b then Some t else half_on k ts) differ in
        let done : total (read_by k) (map Noted (done_on k (t ∷ ts))) ≡ total (read_by k) (map Noted (done_on k ts)) = ap (λ o. total (read_by k) (map Noted (entries_in o))) there in
        omega (arith, reads-of k t.socket t.judged_after 0 t.entries, none_there k t.socket t.entries differ are.each.0.entries, rest, done)

-- ---- all strands

halves-both : (k : SocketId) (xs ys : List StrandNow) → read_by_halves (xs ++ ys) k ≡ read_by_halves xs k + read_by_halves ys k
halves-both k [] ys = omega arith
halves-both k (x ∷ xs) ys = omega (arith, halves-both k xs ys)

pub loose_as : (a b : List Entry) (ls : List LooseNow) → loose_strands a b ls ≡ map strand_of (loose_halves a b ls)
loose_as a b [] = refl
loose_as a b (l ∷ ls) = at (is_of_link a b l) (loose_as a b ls)
  where
    at : (c : Bool) → loose_strands a b ls ≡ map strand_of (loose_halves a b ls) →
        (if c then strand_of (as_judged a b l.trail) ∷ [] else []) ++ loose_strands a b ls ≡ map strand_of ((if c then as_judged a b l.trail ∷ [] else []) ++ loose_halves a b ls)
    at true e = ap (λ is. strand_of (as_judged a b l.trail) ∷ is) e
    at false e = e

-- journals are no halves
pub reads_of_sides : (x : BothNow) (k : SocketId) → AreHalves (halves_of x) → read_by_halves (strands_of x) k ≡ total (read_by k) (map Noted (done_on k (halves_of x)))
reads_of_sides x k are =
    let near = journal_of x.a.journal ∷ map strand_of x.a.trails in
    let far = journal_of x.b.journal ∷ map strand_of x.b.trails in
    let loose = loose_halves x.a.journal x.b.journal x.loose in
    let taken : read_by_halves (map strand_of (x.a.trails ++ x.b.trails)) k ≡ read_by_halves (map strand_of x.a.trails) k + read_by_halves (map strand_of x.b.trails) k =
    ap (λ l. read_by_halves l k) (map-append strand_of x.a.trails x.b.trails) ∙ halves-both k (map strand_of x.a.trails) (map strand_of x.b.trails) in
    let all : read_by_halves (map strand_of (halves_of x)) k ≡ read_by_halves (map strand_of (x.a.trails ++ x.b.trails)) k + read_by_halves (map strand_of loose) k =
    ap (λ l. read_by_halves l k) (map-append strand_of (x.a.trails ++ x.b.trails) loose) ∙ halves-both k (map strand_of (x.a.trails ++ x.b.trails)) (map strand_of loose) in
    let rest : read_by_halves (loose_strands x.a.journal x.b.journal x.loose) k ≡ read_by_halves (map strand_of loose) k = ap (λ l. read_by_halves l k) (loose_as x.a.journal x.b.journal x.loose) in
    omega (arith, halves-both k (near ++ far) (loose_strands x.a.journal x.b.journal x.loose), halves-both k near far, taken, all, rest, reads_are k (halves_of x) are)
