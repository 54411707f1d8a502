-- Sockets that journals speak of, by their names.
use Rattle.std.proofs.Common.{◌≡◌, ℕ, ◌+◌, ◌≤◌, if◌then◌else◌, ◌||◌, Bool, true, false, List, [], ◌∷◌, ◌++◌, length, map, refl, sym, ap, ◌∙◌, arith, append_assoc}
use Rattle.std.specs.Prelude.{replicate, slice_index}
use Rattle.std.proofs.lemmas.List.{map-append, get_or_past, get_or-replicate}
use Rattle.std.proofs.lemmas.List.Folds.{list_any-append}
use Rattle.m2_fabric.specs.declared.socket.SocketId.{SocketId}
use Rattle.m2_fabric.specs.End.{SeenEnd}
use Rattle.m2_fabric.specs.Sockets.{is_among, same_socket}
use Rattle.m2_journal.specs.declared.entry.Entry.{Entry}
use Rattle.m2_journal.specs.declared.entry.Entry.TheVariants as entry
use Rattle.m2_weave.specs.declared.strand.StrandItem.TheVariants.{Noted}
use Rattle.m2_weave.specs.Counting.{place_in}
use Rattle.m2_weave.specs.Strands.{has_opened, journal_of, judged_by, total}
use Rattle.m2_weave.specs.Table.{KeepsNumbers}
use Rattle.m2_weave.proofs.Tallies.{place_within}
use Rattle.m2_history.specs.Sockets.{AreKnown, JournalsNow, end_by, known_in, opened_in}
use Rattle.m2_history.specs.Woven.{EndNow, end_of, judged_times, knows}
use Rattle.m2_weave.proofs.Places.{past}

-- ---- which they are

pub among_opened : (k : SocketId) (es : List Entry) → is_among k (opened_in es) ≡ has_opened (journal_of es) k
among_opened k [] = refl
among_opened k (entry.Opened x ∷ es) = ap (λ b. same_socket k x || b) (among_opened k es)
among_opened k (entry.Post place ∷ es) = among_opened k es
among_opened k (entry.Dial ∷ es) = among_opened k es
among_opened k (entry.Read x count ∷ es) = among_opened k es
among_opened k (entry.Wrote x count ∷ es) = among_opened k es
among_opened k (entry.Closed x ∷ es) = among_opened k es
among_opened k (entry.Judged x ask number answer ∷ es) = among_opened k es
among_opened k (entry.Asked ident number ∷ es) = among_opened k es
among_opened k (entry.Numbered number ∷ es) = among_opened k es
among_opened k (entry.Accepted number key ∷ es) = among_opened k es
among_opened k (entry.Acked number ∷ es) = among_opened k es
among_opened k (entry.Obeyed full ∷ es) = among_opened k es
among_opened k (entry.Down planned ∷ es) = among_opened k es

among_known : (k : SocketId) (es : List Entry) → is_among k (known_in es) ≡ knows es k
among_known k [] = refl
among_known k (entry.Opened x ∷ es) = ap (λ b. same_socket k x || b) (among_known k es)
among_known k (entry.Judged x ask number answer ∷ es) = ap (λ b. same_socket k x || b) (among_known k es)
among_known k (entry.Post place ∷ es) = among_known k es
among_known k (entry.Dial ∷ es) = among_known k es
among_known k (entry.Read x count ∷ es) = among_known k es
among_known k (entry.Wrote x count ∷ es) = among_known k es
among_known k (entry.Closed x ∷ es) = among_known k es
among_known k (entry.Asked ident number ∷ es) = among_known k es
among_known k (entry.Numbered number ∷ es) = among_known k es
among_known k (entry.Accepted number key ∷ es) = among_known k es
among_known k (entry.Acked number ∷ es) = among_known k es
among_known k (entry.Obeyed full ∷ es) = among_known k es
among_known k (entry.Down planned ∷ es) = among_known k es

-- of both journals
pub among_both : (names : List SocketId) (judged : List ℕ) (js : JournalsNow) (k : SocketId) → AreKnown names judged js → is_among k names ≡ (knows js.a k || knows js.b k)
among_both names judged js k are =
    ap (is_among k) are.these ∙ list_any-append (same_socket k) (known_in js.a) (known_in js.b)
    ∙ ap (λ b. b || is_among k (known_in js.b)) (among_known k js.a) ∙ ap (λ b. knows js.a k || b) (among_known k js.b)

-- ---- ends by the sockets that their side opened

pub ends_by_opened : (opened : List SocketId) (journal : List Entry) (es : List SeenEnd) → opened ≡ opened_in journal → map (end_by opened) es ≡ map (end_of journal) es
ends_by_opened opened journal [] e = refl
ends_by_opened opened journal (x ∷ es) e =
    let first : end_by opened x ≡ end_of journal x =
    ap (λ (b : Bool). let n : EndNow = record { socket = x.id; opener = b; got = x.log.got; put = x.log.put } in n) (ap (is_among x.id) e ∙ among_opened x.id journal) in
    ap (λ n. n ∷ map (end_by opened) es) first ∙ ap (λ l. end_of journal x ∷ l) (ends_by_opened opened journal es e)

-- ---- how many asks were judged

none-known : (k : SocketId) (es : List Entry) → knows es k ≡ false → total (judged_by k) (map Noted es) ≡ 0
none-known k [] h = refl
none-known k (entry.Judged x ask number answer ∷ es) h =
    let both = neither (same_socket k x) (knows es k) h in
    omega (arith, ap {B = ℕ} (λ b. if b then 1 else 0) both.0, none-known k es both.1)
  where
    neither : (a b : Bool) → (a || b) ≡ false → (a ≡ false) × (b ≡ false)
    neither true b e = absurd cc
    neither false b e = (refl, e)
none-known k (entry.Opened x ∷ es) h = omega (arith, none-known k es (later (same_socket k x) (knows es k) h))
  where
    later : (a b : Bool) → (a || b) ≡ false → b ≡ false
    later true b e = absurd cc
    later false b e = e
none-known k (entry.Post place ∷ es) h = omega (arith, none-known k es h)
none-known k (entry.Dial ∷ es) h = omega (arith, none-known k es h)
none-known k (entry.Read x count ∷ es) h = omega (arith, none-known k es h)
none-known k (entry.Wrote x count ∷ es) h = omega (arith, none-known k es h)
none-known k (entry.Closed x ∷ es) h = omega (arith, none-known k es h)
none-known k (entry.Asked ident number ∷ es) h = omega (arith, none-known k es h)
none-known k (entry.Numbered number ∷ es) h = omega (arith, none-known k es h)
none-known k (entry.Accepted number key ∷ es) h = omega (arith, none-known k es h)
none-known k (entry.Acked number ∷ es) h = omega (arith, none-known k es h)
none-known k (entry.Obeyed full ∷ es) h = omega (arith, none-known k es h)
none-known k (entry.Down planned ∷ es) h = omega (arith, none-known k es h)

-- the number at a socket's place; 0 where it has none
pub times_at : (names : List SocketId) (judged : List ℕ) (js : JournalsNow) (k : SocketId) → AreKnown names judged js → slice_index judged (place_in names k) ≡ judged_times js.a js.b k
times_at names judged js k are = at (is_among k names) refl
  where
    neither : (a b : Bool) → (a || b) ≡ false → (a ≡ false) × (b ≡ false)
    neither true b e = absurd cc
    neither false b e = (refl, e)

    at : (b : Bool) → is_among k names ≡ b → slice_index judged (place_in names k) ≡ judged_times js.a js.b k
    at true e = are.judged k e
    at false e =
        let both = neither (knows js.a k) (knows js.b k) (sym (among_both names judged js k are) ∙ e) in
        let none = get_or_past judged (place_in names k) 0 (omega (arith, are.count, past names k e)) in
        omega (arith, none, none-known k js.a both.0, none-known k js.b both.1)

-- of both journals, counted from nothing
pub both_counted : (names : List SocketId) (none first all : List ℕ) (a b : List Entry) → none ≡ replicate (length names) 0 →
    KeepsNumbers names (λ k. slice_index none (place_in names k) + total (judged_by k) (map Noted a)) first →
    KeepsNumbers names (λ k. slice_index first (place_in names k) + total (judged_by k) (map Noted b)) all → KeepsNumbers names (judged_times a b) all
both_counted names none first all a b zeros one two k among =
    let nothing : slice_index none (place_in names k) ≡ 0 =
    ap (λ l. slice_index l (place_in names k)) zeros ∙ get_or-replicate (length names) (place_in names k) 0 0 (place_within names k among) in
    omega (arith, one k among, two k among, nothing)

-- ---- all ends of a side

pub all_ends : {X : Type 0} (f : X → EndNow) (opened : List SocketId) (journal : List Entry) (feed spent : List SeenEnd) (old mid new : List X) → opened ≡ opened_in journal →
    map f mid ≡ map f old ++ map (end_by opened) feed → map f new ≡ map f mid ++ map (end_by opened) spent → map f new ≡ map f old ++ map (end_of journal) (feed ++ spent)
all_ends f opened journal feed spent old mid new e one two =
    two ∙ ap (λ l. l ++ map (end_by opened) spent) one ∙ append_assoc (map f old) (map (end_by opened) feed) (map (end_by opened) spent)
    ∙ ap (λ l. map f old ++ l) (sym (map-append (end_by opened) feed spent) ∙ ends_by_opened opened journal (feed ++ spent) e)

-- ---- the number that is found

pub found_times : (names : List SocketId) (times : List ℕ) (js : JournalsNow) (k : SocketId) (place number : ℕ) → AreKnown names times js → place ≡ place_in names k →
    number ≡ slice_index times place → number ≡ judged_times js.a js.b k
found_times names times js k place number are at is = is ∙ ap (slice_index times) at ∙ times_at names times js k are

pub no_times : (names : List SocketId) (times : List ℕ) (js : JournalsNow) (k : SocketId) (place : ℕ) → AreKnown names times js → place ≡ place_in names k → length times ≤ place →
    0 ≡ judged_times js.a js.b k
no_times names times js k place are at out = found_times names times js k place 0 are at (sym (get_or_past times place 0 out))
