-- The sockets that entries name are those that entries have opened or judged.
use Rattle.std.proofs.Common.{◌≡◌, ◌⊎◌, inl, inr, Bool, true, false, ◌||◌, if◌then◌else◌, List, [], ◌∷◌, ◌++◌, map, Option, Some, None, IsTrue, refl, sym, ap, subst, ◌∙◌, append_assoc}
use Rattle.std.specs.List.{AllByRecursion}
use Rattle.std.specs.Option.{option_to_list}
use Rattle.m2_fabric.specs.declared.socket.SocketId.{SocketId}
use Rattle.m2_fabric.specs.End.{SeenEnd}
use Rattle.m2_fabric.specs.Sockets.{IsNewTo, is_among, same_socket}
use Rattle.m2_feed.specs.m2_journal.declared.entry.Entry.{Entry}
use Rattle.m2_feed.specs.m2_journal.declared.entry.Entry.TheVariants as entry
use Rattle.m2_feed.specs.m2_journal.Items.{JournalItem, Places, Sources, at_start, item_of, items_from, passed}
use Rattle.m2_feed.specs.m2_journal.Laws.{IfFed, ReplayedIsSound, taken_among}
use Rattle.m2_feed.specs.m2_journal.Lawful.{Lawful, OnFeedAt}
use Rattle.m2_feed.specs.m2_journal.Replay.{AreLawful, after_items}
use Rattle.m2_feed.specs.m2_journal.SideFacts.{SideFacts}
use Rattle.m2_feed.specs.m2_journal.State.{Feed, Judgement, State, start}
use Rattle.m2_feed.specs.m2_journal.Steps.{after}
use Rattle.m2_feed.proofs.m2_journal.Growing.{after-append}
use Rattle.m2_feed.proofs.m2_journal.Sockets.{Names, names_of, not_judged}
use Rattle.m2_feed.proofs.m2_journal.Sound.{are_sound}
use Rattle.m2_session.specs.SessionLaws.{takes}
use Rattle.m2_record.specs.IsRecord.{IsRecord, became_feed, feeds_in, named_in, socket_of}
use Rattle.m2_record.specs.RecordNow.{RecordNow, ends_of, feed_end, ids_of, speaks_of}
use Rattle.m2_record.specs.TakenTrails.{judgements_in}
use Rattle.m2_record.proofs.Naming.{after-names, named_by, named_too, one-named, opened_in, with-head}
use Rattle.m2_turn.specs.Steps.{came_by, came_in}
use Rattle.m2_feed.proofs.m2_journal.JudgedOn.{lawful_front}
use Rattle.m2_fabric.proofs.Sockets.{not_among_front, among_neither, same_equal}
use Rattle.m2_record.proofs.Kept.{ids-append}
use Rattle.m2_bytes.proofs.m2_lemmas.Booleans.{false_isnt_true}

-- ---- lists of sockets

pub back : (k : SocketId) (xs ys : List SocketId) → is_among k (xs ++ ys) ≡ false → is_among k ys ≡ false
back k [] ys e = e
back k (x ∷ xs) ys e = at (same_socket k x) (back k xs ys) e
  where
    at : (b : Bool) → (is_among k (xs ++ ys) ≡ false → is_among k ys ≡ false) → b || is_among k (xs ++ ys) ≡ false → is_among k ys ≡ false
    at true rest h = absurd (false_isnt_true (sym h))
    at false rest h = rest h

-- a socket that isn't one of others is none of them
pub alone : (k x : SocketId) → (same_socket k x ≡ true → ⊥) → is_among k (x ∷ []) ≡ false
alone k x other = at (same_socket k x) refl
  where
    at : (b : Bool) → same_socket k x ≡ b → b || false ≡ false
    at true e = absurd (other e)
    at false e = refl

-- ---- names

sockets_judged : List Judgement → List SocketId
sockets_judged js = map (λ (j : Judgement). j.socket) js

record IsUnnamed (k : SocketId) (n : Names) : Type 0 where
  opened : is_among k n.opened ≡ false
  judged : is_among k (map (λ (j : Judgement). j.socket) n.judgements) ≡ false

map_append : (js is : List Judgement) → map (λ (j : Judgement). j.socket) (js ++ is) ≡ map (λ (j : Judgement). j.socket) js ++ map (λ (j : Judgement). j.socket) is
map_append [] is = refl
map_append (j ∷ js) is = ap (λ (l : List SocketId). j.socket ∷ l) (map_append js is)

before : (k : SocketId) (n : Names) (es : List Entry) → IsUnnamed k (named_too n es) → IsUnnamed k n
before k n es u = record {
  opened = not_among_front k n.opened (opened_in es) u.opened;
  judged = not_among_front k (map (λ (j : Judgement). j.socket) n.judgements) (map (λ (j : Judgement). j.socket) (judgements_in es))
      (sym (ap (is_among k) (map_append n.judgements (judgements_in es))) ∙ u.judged);
}

-- ---- one entry

not_fed : (k x : SocketId) (s : State) (o : Option Feed) → IsUnnamed k (names_of s) →
    IfFed o (λ d. IsTrue (is_among d.socket (if d.opened then s.opened else taken_among s.judgements))) →
    OnFeedAt o (λ d. same_socket x d.socket ≡ true) → same_socket k x ≡ true → ⊥
not_fed k x s None u known on e = absurd on
not_fed k x s (Some d) u known on e = at d.opened known
  where
    same : k ≡ d.socket
    same = same_equal k x e ∙ same_equal x d.socket on

    at : (b : Bool) → is_among d.socket (if b then s.opened else taken_among s.judgements) ≡ true → ⊥
    at true h = false_isnt_true (sym u.opened ∙ ap (λ j. is_among j s.opened) same ∙ h)
    at false h = false_isnt_true (sym (not_judged k s.judgements u.judged) ∙ ap (λ j. is_among j (taken_among s.judgements)) same ∙ h)

not_spent : (k x : SocketId) (s : State) (spent : List SocketId) → IsUnnamed k (names_of s) →
    AllByRecursion (λ j. IsTrue (is_among j s.opened) ⊎ IsTrue (is_among j (taken_among s.judgements))) spent →
    is_among x spent ≡ true → same_socket k x ≡ true → ⊥
not_spent k x s [] u known on e = false_isnt_true on
not_spent k x s (y ∷ ys) u known on e = at (same_socket x y) refl (λ h. not_spent k x s ys u known.1 h e) on
  where
    one : k ≡ y → IsTrue (is_among y s.opened) ⊎ IsTrue (is_among y (taken_among s.judgements)) → ⊥
    one same (inl h) = false_isnt_true (sym u.opened ∙ ap (λ j. is_among j s.opened) same ∙ h)
    one same (inr h) = false_isnt_true (sym (not_judged k s.judgements u.judged) ∙ ap (λ j. is_among j (taken_among s.judgements)) same ∙ h)

    at : (b : Bool) → same_socket x y ≡ b → (is_among x ys ≡ true → ⊥) → b || is_among x ys ≡ true → ⊥
    at true same rest h = one (same_equal k x e ∙ same_equal x y same) known.0
    at false same rest h = rest h

closing : (k x : SocketId) (s : State) (o : Option Feed) (P : Feed → Type 0) → IsUnnamed k (names_of s) →
    IfFed o (λ d. IsTrue (is_among d.socket (if d.opened then s.opened else taken_among s.judgements))) →
    OnFeedAt o (λ d. (same_socket x d.socket ≡ true) × P d) → same_socket k x ≡ true → ⊥
closing k x s None P u known on e = absurd on
closing k x s (Some d) P u known on e = not_fed k x s (Some d) u known on.0 e

-- the entry doesn't name it, where it stays unnamed
unnamed_here : (f : SideFacts) (src : Sources) (p : Places) (s : State) (k : SocketId) (e : Entry) → IsUnnamed k (names_of s) → IsUnnamed k (named_by (item_of src p e) (names_of s)) →
    ReplayedIsSound f s → Lawful f (item_of src p e) s → is_among k (option_to_list (socket_of e)) ≡ false
unnamed_here f src p s k (entry.Opened x) u after sound l = back k s.opened (x ∷ []) after.opened
unnamed_here f src p s k (entry.Judged x ask number answer) u after sound l =
    back k (map (λ (j : Judgement). j.socket) s.judgements) (x ∷ []) (sym (ap (is_among k) (map_append s.judgements _)) ∙ after.judged)
unnamed_here f src p s k (entry.Read x count) u after sound l = alone k x (not_fed k x s s.feed u sound.feed l.0)
unnamed_here f src p s k (entry.Wrote x count) u after sound l = alone k x (not_fed k x s s.feed u sound.feed l.0)
unnamed_here f src p s k (entry.Closed x) u after sound (inl on) = alone k x (closing k x s s.feed _ u sound.feed on)
unnamed_here f src p s k (entry.Closed x) u after sound (inr on) = alone k x (not_spent k x s s.spent u sound.spent on)
unnamed_here f src p s k (entry.Post place) u after sound l = refl
unnamed_here f src p s k entry.Dial u after sound l = refl
unnamed_here f src p s k (entry.Asked ident number) u after sound l = refl
unnamed_here f src p s k (entry.Numbered number) u after sound l = refl
unnamed_here f src p s k (entry.Accepted number key) u after sound l = refl
unnamed_here f src p s k (entry.Acked number) u after sound l = refl
unnamed_here f src p s k (entry.Obeyed full) u after sound l = refl
unnamed_here f src p s k (entry.Down planned) u after sound l = refl

-- ---- the entries of a journal

one_more : (f : SideFacts) (src : Sources) (p : Places) (e : Entry) (es : List Entry) (s : State) →
    named_too (names_of (after f (item_of src p e) s)) es ≡ named_too (names_of s) (e ∷ es)
one_more f src p e es s = ap (λ (n : Names). named_too n es) (after-names f (item_of src p e) s) ∙ one-named src p e es (names_of s)

walk : (f : SideFacts) (src : Sources) (es : List Entry) (p : Places) (was : List JournalItem) (k : SocketId) →
    AreLawful f (was ++ items_from src p es) (start f) → IsUnnamed k (named_too (names_of (after_items f was (start f))) es) → is_among k (named_in es) ≡ false
walk f src [] p was k l u = refl
walk f src (e ∷ es) p was k l u =
    ap (is_among k) (with-head socket_of e es)
    ∙ among_neither k (option_to_list (socket_of e)) (named_in es)
    (unnamed_here f src p s k e (before k (names_of s) (e ∷ es) u) (subst (IsUnnamed k) (after-names f i s) (before k (names_of (after f i s)) es later)) (are_sound f was parts.0) parts.1.0)
    (walk f src es (passed e p) (was ++ i ∷ []) k
    (subst (λ is. AreLawful f is (start f)) (sym one) l)
    (subst (λ t. IsUnnamed k (named_too (names_of t) es)) (sym (after-append f was (i ∷ []) (start f))) later))
  where
    i : JournalItem
    i = item_of src p e

    s : State
    s = after_items f was (start f)

    parts : AreLawful f was (start f) × AreLawful f (i ∷ items_from src (passed e p) es) s
    parts = lawful_front f was (i ∷ items_from src (passed e p) es) (start f) l

    later : IsUnnamed k (named_too (names_of (after f i s)) es)
    later = subst (IsUnnamed k) (sym (one_more f src p e es s)) u

    one : (was ++ i ∷ []) ++ items_from src (passed e p) es ≡ was ++ i ∷ items_from src (passed e p) es
    one = append_assoc was (i ∷ []) (items_from src (passed e p) es)

-- ---- records

pub came_names : (k : SocketId) (es : List Entry) → IsNewTo (came_in es) k → (is_among k (opened_in es) ≡ false) × (is_among k (map (λ (j : Judgement). j.socket) (judgements_in es)) ≡ false)
came_names k [] new = (refl, refl)
came_names k (entry.Opened x ∷ es) new =
    let rest = came_names k es (back k (x ∷ []) (came_in es) new) in
    (among_neither k (x ∷ []) (opened_in es) (not_among_front k (x ∷ []) (came_in es) new) rest.0, rest.1)
came_names k (entry.Judged x ask number answer ∷ es) new =
    let rest = came_names k es (back k (x ∷ []) (came_in es) new) in
    (rest.0, among_neither k (x ∷ []) (map (λ (j : Judgement). j.socket) (judgements_in es)) (not_among_front k (x ∷ []) (came_in es) new) rest.1)
came_names k (entry.Post place ∷ es) new = came_names k es new
came_names k (entry.Dial ∷ es) new = came_names k es new
came_names k (entry.Read x count ∷ es) new = came_names k es new
came_names k (entry.Wrote x count ∷ es) new = came_names k es new
came_names k (entry.Closed x ∷ es) new = came_names k es new
came_names k (entry.Asked ident number ∷ es) new = came_names k es new
came_names k (entry.Numbered number ∷ es) new = came_names k es new
came_names k (entry.Accepted number key ∷ es) new = came_names k es new
came_names k (entry.Acked number ∷ es) new = came_names k es new
came_names k (entry.Obeyed full ∷ es) new = came_names k es new
came_names k (entry.Down planned ∷ es) new = came_names k es new

-- a socket that became the feed came
fed_here : (k : SocketId) (e : Entry) → is_among k (option_to_list (came_by e)) ≡ false → is_among k (option_to_list (became_feed e)) ≡ false
fed_here k (entry.Opened x) h = h
fed_here k (entry.Judged x ask number answer) h = at (takes answer) h
  where
    at : (b : Bool) → is_among k (x ∷ []) ≡ false → is_among k (option_to_list (if b then Some x else None)) ≡ false
    at true g = g
    at false g = refl
fed_here k (entry.Post place) h = refl
fed_here k entry.Dial h = refl
fed_here k (entry.Read x count) h = refl
fed_here k (entry.Wrote x count) h = refl
fed_here k (entry.Closed x) h = refl
fed_here k (entry.Asked ident number) h = refl
fed_here k (entry.Numbered number) h = refl
fed_here k (entry.Accepted number key) h = refl
fed_here k (entry.Acked number) h = refl
fed_here k (entry.Obeyed full) h = refl
fed_here k (entry.Down planned) h = refl

fed_came : (k : SocketId) (es : List Entry) → IsNewTo (came_in es) k → IsNewTo (feeds_in es) k
fed_came k [] new = refl
fed_came k (e ∷ es) new =
    let parts = sym (ap (is_among k) (with-head came_by e es)) ∙ new in
    ap (is_among k) (with-head became_feed e es)
    ∙ among_neither k (option_to_list (became_feed e)) (feeds_in es) (fed_here k e (not_among_front k (option_to_list (came_by e)) (came_in es) parts)) (fed_came k es (back k (option_to_list (came_by e)) (came_in es) parts))

-- the feed's end stands last there and first here
pub turned : (k : SocketId) (feed spent : List SeenEnd) → IsNewTo (ids_of (spent ++ feed)) k → IsNewTo (ids_of (feed ++ spent)) k
turned k feed spent new =
    let parts = sym (ap (is_among k) (ids-append spent feed)) ∙ new in
    ap (is_among k) (ids-append feed spent) ∙ among_neither k (ids_of feed) (ids_of spent) (back k (ids_of spent) (ids_of feed) parts) (not_among_front k (ids_of spent) (ids_of feed) parts)

-- a socket that didn't come is named by no entry, and no end is its
pub are_known : (r : RecordNow) → IsRecord r → (k : SocketId) → IsNewTo (came_in r.journal) k → (IsNewTo (named_in r.journal) k) × (IsNewTo (ids_of (ends_of r)) k)
are_known r kept k new = (
  walk r.core.facts (speaks_of r) r.journal at_start [] k kept.at_state.replay.lawful (let n = came_names k r.journal new in record { opened = n.0; judged = n.1 }),
  turned k (feed_end r.core.live.feed) r.spent (ap (is_among k) kept.kept.ends ∙ fed_came k r.journal new),
)
