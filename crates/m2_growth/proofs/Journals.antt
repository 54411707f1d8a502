-- What the entries of a journal say of a socket that it opened: the items have opened it, no half was taken there, and what was
-- written there is all that its end has put.
use Rattle.std.proofs.Common.{◌≡◌, ℕ, ◌⊎◌, inl, inr, Bool, true, false, if◌then◌else◌, List, [], ◌∷◌, ◌++◌, length, map, take, drop, drop-drop, None, refl, sym, ap, ◌∙◌, append_assoc, append-nil, arith}
use Rattle.std.proofs.lemmas.Bool.{or_cases}
use Rattle.std.proofs.lemmas.List.{drop_all, take-append-drop}
use Rattle.m2_fabric.specs.declared.socket.SocketId.{SocketId}
use Rattle.m2_fabric.specs.Sockets.{is_among, same_socket}
use Rattle.m2_turn.specs.m2_session.declared.event.Event.TheVariants as event
use Rattle.m2_turn.specs.m2_session.SessionLaws.{takes}
use Rattle.m2_weave.specs.m2_journal.declared.entry.Entry.{Entry}
use Rattle.m2_weave.specs.m2_journal.declared.entry.Entry.TheVariants as entry
use Rattle.m2_weave.specs.m2_journal.Items as item
use Rattle.m2_weave.specs.m2_journal.Items.{JournalItem, Places, Sources, at_start, item_of, items_from, items_of, passed, passed_by, raised}
use Rattle.m2_weave.specs.m2_journal.Lawful.{Lawful}
use Rattle.m2_weave.specs.m2_journal.Replay.{AreLawful, after_items}
use Rattle.m2_weave.specs.m2_journal.SideFacts.{SideFacts}
use Rattle.m2_weave.specs.m2_journal.State.{State}
use Rattle.m2_weave.specs.m2_journal.Steps.{after}
use Rattle.m2_bytes_fit.proofs.m2_never_reset.Sockets.{by_either}
use Rattle.m2_turn.specs.m2_record.Sources.{trail_at}
use Rattle.m2_turn.specs.m2_record.TakenTrails.{taken_in}
use Rattle.m2_bytes_fit.specs.m2_trail.Trails.{TrailNow}
use Rattle.m2_weave.specs.declared.strand.StrandItem.TheVariants.{Noted}
use Rattle.m2_weave.specs.Strands.{has_opened, journal_of, opens}
use Rattle.m2_bytes_fit.specs.Ends.{takings_on, wrote_on}
use Rattle.m2_bytes_fit.proofs.Growing.{entry_grows}
use Rattle.m2_bytes_fit.proofs.Less.{tells_less}
use Rattle.m2_bytes_fit.proofs.Lists.{not_nil}
use Rattle.m2_turn.proofs.m2_record.TrailsAt.{no_trail}
use Rattle.m2_weave.proofs.m2_journal.JudgedOn.{raised_here}
use Rattle.m2_fabric.proofs.Sockets.{among_last, among_front, same_equal}
use Rattle.m2_fabric.proofs.m2_lemmas.Booleans.{from_false_true}

-- ---- what was opened

-- no socket is forgotten that was opened
still_opened : (f : SideFacts) (i : JournalItem) (s : State) (k : SocketId) → Lawful f i s → is_among k s.opened ≡ true → is_among k (after f i s).opened ≡ true
still_opened f (item.down planned step) s k l h = ap (is_among k) (tells_less event.MarkedDown s).opened ∙ h
still_opened f i s k l h =
    let grows = entry_grows f i s tt l in
    ap (is_among k) grows.opened ∙ among_front k s.opened grows.more_opened h

opens_now : (f : SideFacts) (src : Sources) (p : Places) (e : Entry) (s : State) (k : SocketId) → opens k (Noted e) ≡ true → is_among k (after f (item_of src p e) s).opened ≡ true
opens_now f src p (entry.Opened x) s k e = ap (λ j. is_among j (after f (item.opened x) s).opened) (same_equal k x e) ∙ among_last x (tells_so)
  where
    tells_so : List SocketId
    tells_so = s.opened
opens_now f src p e s k q = from_false_true q

opened_along : (f : SideFacts) (src : Sources) (p : Places) (es : List Entry) (s : State) (k : SocketId) → AreLawful f (items_from src p es) s →
    (is_among k s.opened ≡ true) ⊎ (has_opened (journal_of es) k ≡ true) → is_among k (after_items f (items_from src p es) s).opened ≡ true
opened_along f src p [] s k l h = by_either h (λ o. o) (λ e. from_false_true e)
opened_along f src p (e ∷ es) s k l h =
    opened_along f src (passed e p) es (after f (item_of src p e) s) k l.1
    (by_either h (λ o. inl (still_opened f (item_of src p e) s k l.0 o))
    (λ q. by_either (or_cases (opens k (Noted e)) (has_opened (journal_of es) k) q) (λ now. inl (opens_now f src p e s k now)) (λ later. inr later)))

pub opened_in : (f : SideFacts) (src : Sources) (es : List Entry) (s : State) (k : SocketId) → AreLawful f (items_of src es) s → has_opened (journal_of es) k ≡ true →
    is_among k (after_items f (items_of src es) s).opened ≡ true
opened_in f src es s k l o = opened_along f src at_start es s k l (inr o)

-- ---- no half was taken

none_taken : (k : SocketId) (src : Sources) (p : Places) (es : List Entry) → takings_on k (items_from src p es) ≡ [] → is_among k (taken_in es) ≡ false
none_taken k src p [] h = refl
none_taken k src p (entry.Judged x ask number answer ∷ es) h = at (same_socket k x) (takes answer) refl refl (none_taken k src (passed (entry.Judged x ask number answer) p) es)
  where
    rest : List JournalItem
    rest = items_from src (passed (entry.Judged x ask number answer) p) es

    at : (b c : Bool) → same_socket k x ≡ b → takes answer ≡ c → (takings_on k rest ≡ [] → is_among k (taken_in es) ≡ false) → is_among k (taken_in (entry.Judged x ask number answer ∷ es)) ≡ false
    at true true e g later = not_nil (rw (e, g) at h)
    at true false e g later = rw g (later (rw (e, g) at h))
    at false true e g later = rw (g, e) (later (rw e at h))
    at false false e g later = rw g (later (rw e at h))
none_taken k src p (entry.Down true ∷ es) h = none_taken k src (passed (entry.Down true) p) es h
none_taken k src p (entry.Down false ∷ es) h = none_taken k src (passed (entry.Down false) p) es h
none_taken k src p (e ∷ es) h = none_taken k src (passed e p) es h

pub untaken : (k : SocketId) (src : Sources) (es : List Entry) (ts : List TrailNow) → map (λ (t : TrailNow). t.socket) ts ≡ taken_in es → takings_on k (items_of src es) ≡ [] → trail_at ts k ≡ None
untaken k src es ts sockets none = no_trail ts k (ap (is_among k) sockets ∙ none_taken k src at_start es none)

-- ---- what was written

-- the next bytes, and what is behind them
next_bytes : (x k : SocketId) (c n : ℕ) (counts : SocketId → ℕ) (log : SocketId → List ℕ) (rest : List ℕ) → rest ++ drop n (log k) ≡ drop (raised x c counts k) (log k) → (b : Bool) → same_socket k x ≡ b →
    ((if b then take c (drop (counts x) (log x)) else []) ++ rest) ++ drop n (log k) ≡ drop (counts k) (log k)
next_bytes x k c n counts log rest h true e =
    ap (λ y. (take c (drop (counts y) (log y)) ++ rest) ++ drop n (log k)) (sym (same_equal k x e))
    ∙ append_assoc (take c (drop (counts k) (log k))) rest (drop n (log k))
    ∙ ap (λ l. take c (drop (counts k) (log k)) ++ l) (h ∙ ap (λ m. drop m (log k)) (raised_here x k c counts true e) ∙ sym (drop-drop c (counts k) (log k)))
    ∙ take-append-drop c (drop (counts k) (log k))
next_bytes x k c n counts log rest h false e = h ∙ ap (λ m. drop m (log k)) (raised_here x k c counts false e)

writes_on : (k : SocketId) (src : Sources) (p : Places) (es : List Entry) → wrote_on k (items_from src p es) ++ drop ((passed_by es p).written k) (src.put k) ≡ drop (p.written k) (src.put k)
writes_on k src p [] = refl
writes_on k src p (entry.Wrote x c ∷ es) =
    let q = passed (entry.Wrote x c) p in
    next_bytes x k c ((passed_by es q).written k) p.written src.put (wrote_on k (items_from src q es)) (writes_on k src q es) (same_socket k x) refl
writes_on k src p (entry.Down true ∷ es) = writes_on k src (passed (entry.Down true) p) es
writes_on k src p (entry.Down false ∷ es) = writes_on k src (passed (entry.Down false) p) es
writes_on k src p (e ∷ es) = writes_on k src (passed e p) es

pub wrote_all : (k : SocketId) (src : Sources) (es : List Entry) → (passed_by es at_start).written k ≡ length (src.put k) → wrote_on k (items_of src es) ≡ src.put k
wrote_all k src es whole =
    sym (append-nil (wrote_on k (items_of src es)))
    ∙ ap (λ l. wrote_on k (items_of src es) ++ l) (sym (ap (λ n. drop n (src.put k)) whole ∙ drop_all (length (src.put k)) (src.put k) (omega arith)))
    ∙ writes_on k src at_start es
