-- What entries that are lawful one after the other have opened, judged, read and written, socket by socket.
use Rattle.std.proofs.Common.{◌≡◌, ℕ, zero, suc, ◌+◌, Bool, true, false, ◌||◌, if◌then◌else◌, List, [], ◌∷◌, ◌++◌, length, map, take, drop, Option, Some, None, refl, sym, ap, ◌∙◌, subst, arith, append-nil, append_assoc, take-add, drop-drop}
use Rattle.std.specs.List.{AllByRecursion, filter}
use Rattle.m2_fabric.specs.declared.socket.SocketId.{SocketId}
use Rattle.m2_fabric.specs.Sockets.{goes_to, is_among, same_socket}
use Rattle.m2_journal.specs.m2_session.SessionLaws.{takes}
use Rattle.m2_journal.specs.declared.entry.Entry.{Entry}
use Rattle.m2_journal.specs.declared.entry.Entry.TheVariants as entry
use Rattle.m2_journal.specs.Items as item
use Rattle.m2_journal.specs.Items.{JournalItem, Places, Sources, item_of, items_from, passed, raised}
use Rattle.m2_journal.specs.Laws.{IfFed, taken_among}
use Rattle.m2_journal.specs.Lawful.{Lawful, OnFeedAt, judged_on}
use Rattle.m2_journal.specs.Replay.{AreLawful, after_items}
use Rattle.m2_journal.specs.SideFacts.{SideFacts}
use Rattle.m2_journal.specs.State.{Feed, Judgement, State, start}
use Rattle.m2_journal.specs.Steps.{after}
use Rattle.m2_journal.proofs.Growing.{after-append}
use Rattle.m2_journal.proofs.Sockets.{not_taken, taken-append}
use Rattle.m2_journal.proofs.Sound.{are_sound}
use Rattle.m2_channel.proofs.m2_never_reset.Sockets.{by_either}
use Rattle.m2_record.specs.TakenTrails.{judgements_in, taken_in}
use Rattle.m2_bytes_fit.specs.Ends.{read_on, wrote_on, takings_on}
use Rattle.m2_weave.specs.declared.strand.StrandItem.TheVariants.{Noted}
use Rattle.m2_weave.specs.Strands as weave
use Rattle.m2_weave.specs.Strands.{has_opened, journal_of, total}
use Rattle.m2_history.proofs.Names.{Adds, entry_adds, items_add, judged_by, judged_in, opened_by, opened_in}
use Rattle.m2_fabric.proofs.Sockets.{not_among_front, among_part, among_front, same_equal}
use Rattle.m2_journal.proofs.JudgedOn.{unjudged, raised_here, lawful_front}
use Rattle.m2_record.proofs.AsksJudged.{judged_append}
use Rattle.m2_bytes.proofs.m2_lemmas.Booleans.{from_false_true}

-- ---- lists of sockets and judgements

judged_other : (k : SocketId) (x : Judgement) (js : List Judgement) → same_socket k x.socket ≡ false → judged_on k (x ∷ js) ≡ judged_on k js
judged_other k x js e = rw e refl

-- ---- entries and their items

pub opened_are : (s : Sources) (p : Places) (es : List Entry) (k : SocketId) → is_among k (opened_by (items_from s p es)) ≡ has_opened (journal_of es) k
opened_are s p [] k = refl
opened_are s p (entry.Opened x ∷ es) k = ap (λ b. same_socket k x || b) (opened_are s (passed (entry.Opened x) p) es k)
opened_are s p (entry.Down true ∷ es) k = opened_are s (passed (entry.Down true) p) es k
opened_are s p (entry.Down false ∷ es) k = opened_are s (passed (entry.Down false) p) es k
opened_are s p (e ∷ es) k = opened_are s (passed e p) es k

pub judged_are : (s : Sources) (p : Places) (es : List Entry) → judged_by (items_from s p es) ≡ judgements_in es
judged_are s p [] = refl
judged_are s p (entry.Judged x ask number answer ∷ es) =
    ap (λ (l : List Judgement). record { socket = x; item = record { ask = ask; answer = answer } } ∷ l) (judged_are s (passed (entry.Judged x ask number answer) p) es)
judged_are s p (entry.Down true ∷ es) = judged_are s (passed (entry.Down true) p) es
judged_are s p (entry.Down false ∷ es) = judged_are s (passed (entry.Down false) p) es
judged_are s p (e ∷ es) = judged_are s (passed e p) es

-- how many there are
pub judged_count : (k : SocketId) (es : List Entry) → total (weave.judged_by k) (map Noted es) ≡ length (judged_on k (judgements_in es))
judged_count k [] = refl
judged_count k (entry.Judged x ask number answer ∷ es) = at (same_socket k x) (judged_count k es)
  where
    j : Judgement
    j = record { socket = x; item = record { ask = ask; answer = answer } }

    at : (b : Bool) → total (weave.judged_by k) (map Noted es) ≡ length (judged_on k (judgements_in es)) →
        (if b then 1 else 0) + total (weave.judged_by k) (map Noted es)
        ≡ length (map (λ (j : Judgement). j.item) (if b then j ∷ filter (λ j. same_socket k j.socket) (judgements_in es) else filter (λ j. same_socket k j.socket) (judgements_in es)))
    at true rest = omega (arith, rest)
    at false rest = omega (arith, rest)
judged_count k (e ∷ es) = omega (arith, judged_count k es)

-- those that were taken
pub taken_are : (es : List Entry) → taken_in es ≡ taken_among (judgements_in es)
taken_are [] = refl
taken_are (entry.Judged x ask number answer ∷ es) = at (takes answer) refl (taken_are es)
  where
    at : (b : Bool) → takes answer ≡ b → taken_in es ≡ taken_among (judgements_in es) → taken_in (entry.Judged x ask number answer ∷ es) ≡ taken_among (judgements_in (entry.Judged x ask number answer ∷ es))
    at true e rest = rw e (ap (λ (l : List SocketId). x ∷ l) rest)
    at false e rest = rw e rest
taken_are (e ∷ es) = taken_are es

-- ---- nothing is read or written on a socket that is no feed

pub record Unknown (k : SocketId) (s : State) : Type 0 where
  pub opened : is_among k s.opened ≡ false
  pub taken : is_among k (taken_among s.judgements) ≡ false

-- an entry that moves no bytes on the socket
abbrev pub IsQuietOn : SocketId → Entry → Type 0
IsQuietOn k e = (weave.read_by k (Noted e) ≡ 0) × (weave.written_by k (Noted e) ≡ 0)

unknown_before : (k : SocketId) (s t : State) (sockets : List SocketId) (js : List Judgement) → Adds s t sockets js → Unknown k t → Unknown k s
unknown_before k s t sockets js a u = record {
  opened = not_among_front k s.opened sockets (sym (ap (is_among k) a.opened) ∙ u.opened);
  taken = not_among_front k (taken_among s.judgements) (taken_among js) (sym (ap (is_among k) (ap taken_among a.judgements ∙ taken-append s.judgements js)) ∙ u.taken);
}

not_on_feed : (k x : SocketId) (s : State) (o : Option Feed) → Unknown k s → IfFed o (λ d. is_among d.socket (if d.opened then s.opened else taken_among s.judgements) ≡ true) →
    OnFeedAt o (λ d. same_socket x d.socket ≡ true) → same_socket k x ≡ true → ⊥
not_on_feed k x s None u known on e = absurd on
not_on_feed k x s (Some d) u known on e = at d.opened known
  where
    same : k ≡ d.socket
    same = same_equal k x e ∙ same_equal x d.socket on

    at : (b : Bool) → is_among d.socket (if b then s.opened else taken_among s.judgements) ≡ true → ⊥
    at true h = from_false_true (sym u.opened ∙ ap (λ j. is_among j s.opened) same ∙ h)
    at false h = from_false_true (sym u.taken ∙ ap (λ j. is_among j (taken_among s.judgements)) same ∙ h)

moved_none : (k x : SocketId) (count : ℕ) → (same_socket k x ≡ true → ⊥) → (if same_socket k x then count else 0) ≡ 0
moved_none k x count n = at (same_socket k x) n
  where
    at : (b : Bool) → (b ≡ true → ⊥) → (if b then count else 0) ≡ 0
    at true h = absurd (h refl)
    at false h = refl

quiet_entry : (f : SideFacts) (src : Sources) (p : Places) (s : State) (k : SocketId) (e : Entry) → Unknown k s →
    IfFed s.feed (λ d. is_among d.socket (if d.opened then s.opened else taken_among s.judgements) ≡ true) → Lawful f (item_of src p e) s → IsQuietOn k e
quiet_entry f src p s k (entry.Read x count) u known l = (moved_none k x count (not_on_feed k x s s.feed u known l.0), refl)
quiet_entry f src p s k (entry.Wrote x count) u known l = (refl, moved_none k x count (not_on_feed k x s s.feed u known l.0))
quiet_entry f src p s k (entry.Post place) u known l = (refl, refl)
quiet_entry f src p s k entry.Dial u known l = (refl, refl)
quiet_entry f src p s k (entry.Opened x) u known l = (refl, refl)
quiet_entry f src p s k (entry.Closed x) u known l = (refl, refl)
quiet_entry f src p s k (entry.Judged x ask number answer) u known l = (refl, refl)
quiet_entry f src p s k (entry.Asked ident number) u known l = (refl, refl)
quiet_entry f src p s k (entry.Numbered number) u known l = (refl, refl)
quiet_entry f src p s k (entry.Accepted number key) u known l = (refl, refl)
quiet_entry f src p s k (entry.Acked number) u known l = (refl, refl)
quiet_entry f src p s k (entry.Obeyed full) u known l = (refl, refl)
quiet_entry f src p s k (entry.Down planned) u known l = (refl, refl)

pub unknown_quiet : (f : SideFacts) (src : Sources) (es : List Entry) (p : Places) (before : List JournalItem) (k : SocketId) →
    AreLawful f (before ++ items_from src p es) (start f) → Unknown k (after_items f (before ++ items_from src p es) (start f)) → AllByRecursion (IsQuietOn k) es
unknown_quiet f src [] p before k l u = tt
unknown_quiet f src (e ∷ es) p before k l u = (
  quiet_entry f src p s k e (unknown_before k s (after_items f (i ∷ rest) s) (opened_by (i ∷ rest)) (judged_by (i ∷ rest)) (items_add f (i ∷ rest) s) (subst (Unknown k) (after-append f before (i ∷ rest) (start f)) u))
      (are_sound f before parts.0).feed parts.1.0,
  unknown_quiet f src es (passed e p) (before ++ i ∷ []) k (subst (λ is. AreLawful f is (start f)) (sym one) l) (subst (λ is. Unknown k (after_items f is (start f))) (sym one) u),
)
  where
    i : JournalItem
    i = item_of src p e

    rest : List JournalItem
    rest = items_from src (passed e p) es

    s : State
    s = after_items f before (start f)

    parts : AreLawful f before (start f) × AreLawful f (i ∷ rest) s
    parts = lawful_front f before (i ∷ rest) (start f) l

    one : (before ++ i ∷ []) ++ rest ≡ before ++ i ∷ rest
    one = append_assoc before (i ∷ []) rest

-- ---- nothing is judged on a socket behind its taking

pub judged_no_more : (f : SideFacts) (src : Sources) (es : List Entry) (p : Places) (s : State) (k : SocketId) →
    AreLawful f (items_from src p es) s → is_among k (taken_among s.judgements) ≡ true → judged_on k (judgements_in es) ≡ []
judged_no_more f src [] p s k l t = refl
judged_no_more f src (e ∷ es) p s k l t = at e l.0 (judged_no_more f src es (passed e p) (after f (item_of src p e) s) k l.1 still)
  where
    adds : Adds s (after f (item_of src p e) s) (opened_in (item_of src p e)) (judged_in (item_of src p e))
    adds = entry_adds f (item_of src p e) s

    still : is_among k (taken_among (after f (item_of src p e) s).judgements) ≡ true
    still =
        ap (is_among k) (ap taken_among adds.judgements ∙ taken-append s.judgements (judged_in (item_of src p e)))
        ∙ among_front k (taken_among s.judgements) (taken_among (judged_in (item_of src p e))) t

    apart : (x : SocketId) → is_among x (taken_among s.judgements) ≡ false → (b : Bool) → same_socket k x ≡ b → same_socket k x ≡ false
    apart x n true g = from_false_true (sym n ∙ (ap (λ j. is_among j (taken_among s.judgements)) (sym (same_equal k x g)) ∙ t))
    apart x n false g = g

    at : (e : Entry) → Lawful f (item_of src p e) s → judged_on k (judgements_in es) ≡ [] → judged_on k (judgements_in (e ∷ es)) ≡ []
    at (entry.Judged x ask number answer) may rest =
        judged_other k (record { socket = x; item = record { ask = ask; answer = answer } }) (judgements_in es) (apart x (not_taken x s.judgements may.asks_again) (same_socket k x) refl)
        ∙ rest
    at _ may rest = rest

-- ---- no socket is opened and judged by one side

abbrev IsOne : SocketId → State → Type 0
IsOne k s = is_among k s.opened ≡ true → judged_on k s.judgements ≡ []

one_here : (k : SocketId) (s t : State) (sockets : List SocketId) (js : List Judgement) → Adds s t sockets js → (is_among k (s.opened ++ sockets) ≡ true → judged_on k (s.judgements ++ js) ≡ []) → IsOne k t
one_here k s t sockets js a h o = ap (judged_on k) a.judgements ∙ h (sym (ap (is_among k) a.opened) ∙ o)

one_still : (k : SocketId) (s t : State) → Adds s t [] [] → IsOne k s → IsOne k t
one_still k s t a h =
    one_here k s t [] [] a (λ o. ap (judged_on k) (append-nil s.judgements) ∙ h (sym (ap (is_among k) (append-nil s.opened)) ∙ o))

one_stays : (f : SideFacts) (i : JournalItem) (s : State) (k : SocketId) → Lawful f i s → IsOne k s → IsOne k (after f i s)
one_stays f (item.opened x) s k l h = one_here k s (after f (item.opened x) s) (x ∷ []) [] (entry_adds f (item.opened x) s) (λ o.
    ap (judged_on k) (append-nil s.judgements) ∙ by_either (among_part k s.opened (x ∷ []) o) h (λ e. here (same_socket k x) refl e))
  where
    here : (b : Bool) → same_socket k x ≡ b → b || false ≡ true → judged_on k s.judgements ≡ []
    here true q e = unjudged k s.judgements (ap (λ j. is_among j (map (λ (j : Judgement). j.socket) s.judgements)) (same_equal k x q) ∙ l.not_judged)
    here false q e = from_false_true e
one_stays f (item.judged x ask number given unread trail) s k l h =
    one_here k s (after f (item.judged x ask number given unread trail) s) [] (j ∷ []) (entry_adds f (item.judged x ask number given unread trail) s) (λ o.
    by_opened (sym (ap (is_among k) (append-nil s.opened)) ∙ o))
  where
    j : Judgement
    j = record { socket = x; item = record { ask = ask; answer = given } }

    apart : is_among k s.opened ≡ true → (b : Bool) → same_socket k x ≡ b → same_socket k x ≡ false
    apart o true q = from_false_true (sym l.not_opened ∙ (ap (λ j. is_among j s.opened) (sym (same_equal k x q)) ∙ o))
    apart o false q = q

    by_opened : is_among k s.opened ≡ true → judged_on k (s.judgements ++ j ∷ []) ≡ []
    by_opened o = judged_append k s.judgements (j ∷ []) ∙ ap (λ l. l ++ judged_on k (j ∷ [])) (h o) ∙ judged_other k j [] (apart o (same_socket k x) refl)
one_stays f (item.post place planned) s k l h = one_still k s _ (entry_adds f (item.post place planned) s) h
one_stays f (item.dial planned) s k l h = one_still k s _ (entry_adds f (item.dial planned) s) h
one_stays f (item.read x bytes) s k l h = one_still k s _ (entry_adds f (item.read x bytes) s) h
one_stays f (item.wrote x bytes) s k l h = one_still k s _ (entry_adds f (item.wrote x bytes) s) h
one_stays f (item.closed x broken) s k l h = one_still k s _ (entry_adds f (item.closed x broken) s) h
one_stays f (item.asked ident number) s k l h = one_still k s _ (entry_adds f (item.asked ident number) s) h
one_stays f (item.numbered number) s k l h = one_still k s _ (entry_adds f (item.numbered number) s) h
one_stays f (item.accepted number key) s k l h = one_still k s _ (entry_adds f (item.accepted number key) s) h
one_stays f (item.acked number) s k l h = one_still k s _ (entry_adds f (item.acked number) s) h
one_stays f (item.obeyed full) s k l h = one_still k s _ (entry_adds f (item.obeyed full) s) h
one_stays f (item.down planned step) s k l h = one_still k s _ (entry_adds f (item.down planned step) s) h

one_along : (f : SideFacts) (is : List JournalItem) (s : State) (k : SocketId) → AreLawful f is s → IsOne k s → IsOne k (after_items f is s)
one_along f [] s k l h = h
one_along f (i ∷ is) s k l h = one_along f is (after f i s) k l.1 (one_stays f i s k l.0 h)

pub opened_unjudged : (f : SideFacts) (src : Sources) (es : List Entry) (p : Places) (k : SocketId) → AreLawful f (items_from src p es) (start f) → has_opened (journal_of es) k ≡ true →
    judged_on k (judgements_in es) ≡ []
opened_unjudged f src es p k l o =
    let is = items_from src p es in
    let adds = items_add f is (start f) in
    let one = one_along f is (start f) k l (λ e. from_false_true e) in
    sym (ap (judged_on k) (adds.judgements ∙ judged_are src p es)) ∙ one (ap (is_among k) adds.opened ∙ opened_are src p es k ∙ o)

-- a socket that was opened leads to the peer
pub opened_leads : (f : SideFacts) (src : Sources) (es : List Entry) (p : Places) (s : State) (k : SocketId) → AreLawful f (items_from src p es) s → has_opened (journal_of es) k ≡ true →
    goes_to f.peer k ≡ true
opened_leads f src [] p s k l o = from_false_true o
opened_leads f src (entry.Opened x ∷ es) p s k l o =
    at (same_socket k x) refl o (λ e. opened_leads f src es (passed (entry.Opened x) p) (after f (item_of src p (entry.Opened x)) s) k l.1 e)
  where
    at : (b : Bool) → same_socket k x ≡ b → b || has_opened (journal_of es) k ≡ true → (has_opened (journal_of es) k ≡ true → goes_to f.peer k ≡ true) → goes_to f.peer k ≡ true
    at true q e later = ap (goes_to f.peer) (same_equal k x q) ∙ l.0.leads
    at false q e later = later e
opened_leads f src (e ∷ es) p s k l o = opened_leads f src es (passed e p) (after f (item_of src p e) s) k l.1 o

-- ---- the bytes of entries are the next ones of their logs

pub take_on : (c n at : ℕ) (xs : List ℕ) → take c (drop at xs) ++ take n (drop (at + c) xs) ≡ take (c + n) (drop at xs)
take_on c n at xs = ap (λ l. take c (drop at xs) ++ take n l) (sym (drop-drop c at xs)) ∙ sym (take-add c n (drop at xs))

none_more : (n : ℕ) (xs : List ℕ) → take n xs ≡ take (0 + n) xs
none_more n xs = ap (λ m. take m xs) (let e : n ≡ 0 + n = omega arith in e)

-- of a read or a write, as of its socket or another
next_bytes : (x k : SocketId) (c n : ℕ) (counts : SocketId → ℕ) (log : SocketId → List ℕ) (rest : List ℕ) → rest ≡ take n (drop (raised x c counts k) (log k)) → (b : Bool) → same_socket k x ≡ b →
    (if b then take c (drop (counts x) (log x)) else []) ++ rest ≡ take ((if b then c else 0) + n) (drop (counts k) (log k))
next_bytes x k c n counts log rest h true e =
    ap (λ y. take c (drop (counts y) (log y)) ++ rest) (sym (same_equal k x e))
    ∙ ap (λ l. take c (drop (counts k) (log k)) ++ l) (h ∙ ap (λ m. take n (drop m (log k))) (raised_here x k c counts true e))
    ∙ take_on c n (counts k) (log k)
next_bytes x k c n counts log rest h false e =
    h ∙ ap (λ m. take n (drop m (log k))) (raised_here x k c counts false e) ∙ none_more n (drop (counts k) (log k))

pub reads_are : (k : SocketId) (src : Sources) (p : Places) (es : List Entry) → read_on k (items_from src p es) ≡ take (total (weave.read_by k) (map Noted es)) (drop (p.read k) (src.got k))
reads_are k src p [] = refl
reads_are k src p (entry.Read x c ∷ es) =
    next_bytes x k c (total (weave.read_by k) (map Noted es)) p.read src.got (read_on k (items_from src (passed (entry.Read x c) p) es)) (reads_are k src (passed (entry.Read x c) p) es) (same_socket k x) refl
reads_are k src p (entry.Down true ∷ es) =
    reads_are k src (passed (entry.Down true) p) es ∙ none_more (total (weave.read_by k) (map Noted es)) (drop (p.read k) (src.got k))
reads_are k src p (entry.Down false ∷ es) =
    reads_are k src (passed (entry.Down false) p) es ∙ none_more (total (weave.read_by k) (map Noted es)) (drop (p.read k) (src.got k))
reads_are k src p (e ∷ es) =
    reads_are k src (passed e p) es ∙ none_more (total (weave.read_by k) (map Noted es)) (drop (p.read k) (src.got k))

pub writes_are : (k : SocketId) (src : Sources) (p : Places) (es : List Entry) → wrote_on k (items_from src p es) ≡ take (total (weave.written_by k) (map Noted es)) (drop (p.written k) (src.put k))
writes_are k src p [] = refl
writes_are k src p (entry.Wrote x c ∷ es) =
    next_bytes x k c (total (weave.written_by k) (map Noted es)) p.written src.put (wrote_on k (items_from src (passed (entry.Wrote x c) p) es)) (writes_are k src (passed (entry.Wrote x c) p) es) (same_socket k x) refl
writes_are k src p (entry.Down true ∷ es) =
    writes_are k src (passed (entry.Down true) p) es ∙ none_more (total (weave.written_by k) (map Noted es)) (drop (p.written k) (src.put k))
writes_are k src p (entry.Down false ∷ es) =
    writes_are k src (passed (entry.Down false) p) es ∙ none_more (total (weave.written_by k) (map Noted es)) (drop (p.written k) (src.put k))
writes_are k src p (e ∷ es) =
    writes_are k src (passed e p) es ∙ none_more (total (weave.written_by k) (map Noted es)) (drop (p.written k) (src.put k))

-- ---- takings

pub takings_left : (k : SocketId) (src : Sources) (p : Places) (es : List Entry) → AllByRecursion (λ u. u ≡ src.unread k) (takings_on k (items_from src p es))
takings_left k src p [] = tt
takings_left k src p (entry.Judged x ask number answer ∷ es) =
    at (same_socket k x) (takes answer) refl refl (takings_left k src (passed (entry.Judged x ask number answer) p) es)
  where
    i : JournalItem
    i = item_of src p (entry.Judged x ask number answer)

    rest : List JournalItem
    rest = items_from src (passed (entry.Judged x ask number answer) p) es

    at : (b c : Bool) → same_socket k x ≡ b → takes answer ≡ c → AllByRecursion (λ u. u ≡ src.unread k) (takings_on k rest) → AllByRecursion (λ u. u ≡ src.unread k) (takings_on k (i ∷ rest))
    at true true e g more = rw (e, g) (ap src.unread (sym (same_equal k x e)), more)
    at true false e g more = rw (e, g) more
    at false c e g more = rw e more
takings_left k src p (entry.Down true ∷ es) = takings_left k src (passed (entry.Down true) p) es
takings_left k src p (entry.Down false ∷ es) = takings_left k src (passed (entry.Down false) p) es
takings_left k src p (e ∷ es) = takings_left k src (passed e p) es

pub no_takings : (k : SocketId) (src : Sources) (p : Places) (es : List Entry) → is_among k (taken_in es) ≡ false → takings_on k (items_from src p es) ≡ []
no_takings k src p [] h = refl
no_takings k src p (entry.Judged x ask number answer ∷ es) h =
    at (same_socket k x) (takes answer) refl refl h (no_takings k src (passed (entry.Judged x ask number answer) p) es)
  where
    i : JournalItem
    i = item_of src p (entry.Judged x ask number answer)

    rest : List JournalItem
    rest = items_from src (passed (entry.Judged x ask number answer) p) es

    at : (b c : Bool) → same_socket k x ≡ b → takes answer ≡ c → is_among k (taken_in (entry.Judged x ask number answer ∷ es)) ≡ false → (is_among k (taken_in es) ≡ false → takings_on k rest ≡ []) → takings_on k (i ∷ rest) ≡ []
    at true true e g none more = from_false_true (sym (rw (g, e) at none))
    at true false e g none more = rw (e, g) (more (rw g at none))
    at false true e g none more = rw e (more (rw (g, e) at none))
    at false false e g none more = rw e (more (rw g at none))
no_takings k src p (entry.Down true ∷ es) h = no_takings k src (passed (entry.Down true) p) es h
no_takings k src p (entry.Down false ∷ es) h = no_takings k src (passed (entry.Down false) p) es h
no_takings k src p (e ∷ es) h = no_takings k src (passed e p) es h

-- ---- the first entries

pub items_take : (src : Sources) (p : Places) (n : ℕ) (es : List Entry) → take n (items_from src p es) ≡ items_from src p (take n es)
items_take src p zero es = refl
items_take src p (suc n) [] = refl
items_take src p (suc n) (e ∷ es) = ap (λ l. item_of src p e ∷ l) (items_take src (passed e p) n es)

pub lawful_take : (f : SideFacts) (n : ℕ) (is : List JournalItem) (s : State) → AreLawful f is s → AreLawful f (take n is) s
lawful_take f zero is s l = tt
lawful_take f (suc n) [] s l = tt
lawful_take f (suc n) (i ∷ is) s l = (l.0, lawful_take f n is (after f i s) l.1)
