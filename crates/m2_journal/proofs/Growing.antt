-- A journal that grows at its end, and logs that grow at theirs.
use Rattle.std.proofs.Common.{◌≡◌, ℕ, zero, suc, ◌+◌, ◌<◌, ◌≤◌, Bool, true, false, List, [], ◌∷◌, ◌++◌, length, length-drop, take, drop, refl, sym, ap, subst, ◌∙◌, arith}
use Rattle.std.specs.List.{AllByRecursion}
use Rattle.std.specs.Prelude.{if◌then◌else◌, slice_get, ◌==◌}
use Rattle.std.proofs.lemmas.Bool.{eq-eqb}
use Rattle.std.proofs.lemmas.List.{drop-append-le, take-append-le}
use Rattle.m2_session.specs.SessionLaws.{takes}
use Rattle.m2_journal.specs.declared.entry.Entry.{Entry}
use Rattle.m2_journal.specs.declared.entry.Entry.TheVariants as entry
use Rattle.m2_fabric.specs.declared.socket.SocketId.{SocketId}
use Rattle.m2_journal.specs.Plan.{Planned}
use Rattle.m2_journal.specs.SideFacts.{SideFacts}
use Rattle.m2_journal.specs.Growth.{IsExtended, Grow, AreThere, IsSettled, Continues}
use Rattle.m2_journal.specs.Items.{reach_of, JournalItem, Sources, Places, Counts, raised, post, dial, down, closed, judged, read, wrote, item_of, passed, at_start, items_from, items_of, passed_by}
use Rattle.m2_journal.specs.Laws.{ReplaysStay, OneMoreLeadsOn}
use Rattle.m2_journal.specs.Replay.{after_items, AreLawful}
use Rattle.m2_fabric.specs.Sockets.{same_socket}
use Rattle.m2_journal.specs.State.{State, start}
use Rattle.m2_journal.specs.Steps.{after}
use Rattle.m2_fabric.proofs.Sockets.{same_refl}

-- ---- a journal that grows

pub items-append : (s : Sources) (p : Places) (es fs : List Entry) → items_from s p (es ++ fs) ≡ items_from s p es ++ items_from s (passed_by es p) fs
items-append s p [] fs = refl
items-append s p (e ∷ es) fs = ap (λ is. item_of s p e ∷ is) (items-append s (passed e p) es fs)

pub after-append : (f : SideFacts) (is js : List JournalItem) (s : State) → after_items f (is ++ js) s ≡ after_items f js (after_items f is s)
after-append f [] js s = refl
after-append f (i ∷ is) js s = after-append f is js (after f i s)

pub lawful-append : (f : SideFacts) (is js : List JournalItem) (s : State) → AreLawful f is s → AreLawful f js (after_items f is s) → AreLawful f (is ++ js) s
lawful-append f [] js s h k = k
lawful-append f (i ∷ is) js s h k = (h.0, lawful-append f is js (after f i s) h.1 k)

-- ---- logs that grow

same_number : (n : ℕ) → (n == n) ≡ true
same_number n = eq-eqb n n refl

raised-above : (k other : SocketId) (n : ℕ) (c : Counts) → c other ≤ raised k n c other
raised-above k other n c = by_place (same_socket k other)
  where
    by_place : (t : Bool) → c other ≤ (if t then c other + n else c other)
    by_place true = omega arith
    by_place false = omega arith

raised-at : (k : SocketId) (n : ℕ) (c : Counts) → raised k n c k ≡ c k + n
raised-at k n c = rw (same_refl k) refl

-- a piece of what was there is the same piece of what is there
piece : (n m : ℕ) (old new : List ℕ) → IsExtended old new → n + m ≤ length old → take m (drop n new) ≡ take m (drop n old)
piece n m old new g h =
    ap (λ l. take m (drop n l)) g.1
    ∙ ap (take m) (drop-append-le n old g.0 (omega (arith, h)))
    ∙ take-append-le m (drop n old) g.0 (let left = length-drop n old in omega (arith, h, left))

get-append : {X : Type 0} (xs ys : List X) (n : ℕ) → n < length xs → slice_get (xs ++ ys) n ≡ slice_get xs n
get-append [] ys n h = absurd (omega (arith, h))
get-append (x ∷ xs) ys zero h = refl
get-append (x ∷ xs) ys (suc n) h = get-append xs ys n (omega (arith, h))

step_there : (n : ℕ) (old new : List Planned) → IsExtended old new → n < length old → slice_get new n ≡ slice_get old n
step_there n old new g h = rw g.1 (get-append old g.0 n h)

-- what is left to come passes no less
passed-later : (es : List Entry) (p : Places) → (p.steps ≤ (passed_by es p).steps) × ((k : SocketId) → p.read k ≤ (passed_by es p).read k) × ((k : SocketId) → p.written k ≤ (passed_by es p).written k)
passed-later [] p = (omega arith, λ k. omega arith, λ k. omega arith)
passed-later (e ∷ es) p =
    let later = passed-later es (passed e p) in
    let once = passed_once e p in (
      omega (arith, later.0, once.0),
      λ k. (let a = later.1 k in let b = once.1 k in omega (arith, a, b)),
      λ k. (let a = later.2 k in let b = once.2 k in omega (arith, a, b)),
    )
  where
    passed_once : (e : Entry) (p : Places) → (p.steps ≤ (passed e p).steps) × ((k : SocketId) → p.read k ≤ (passed e p).read k) × ((k : SocketId) → p.written k ≤ (passed e p).written k)
    passed_once (entry.Post place) p = (omega arith, λ k. omega arith, λ k. omega arith)
    passed_once entry.Dial p = (omega arith, λ k. omega arith, λ k. omega arith)
    passed_once (entry.Down true) p = (omega arith, λ k. omega arith, λ k. omega arith)
    passed_once (entry.Read socket count) p = (omega arith, λ k. raised-above socket k count p.read, λ k. omega arith)
    passed_once (entry.Wrote socket count) p = (omega arith, λ k. omega arith, λ k. raised-above socket k count p.written)
    passed_once _ p = (omega arith, λ k. omega arith, λ k. omega arith)

item-grows : (old new : Sources) (p q : Places) (e : Entry) → Grow old new → AreThere old q → IsSettled old new e → (passed e p).steps ≤ q.steps → ((k : SocketId) → (passed e p).read k ≤ q.read k) → ((k : SocketId) → (passed e p).written k ≤ q.written k)
    → item_of new p e ≡ item_of old p e
item-grows old new p q (entry.Post place) g h c s r w = ap (post place) (step_there p.steps old.plan new.plan g.plan (let all = h.steps in omega (arith, s, all)))
item-grows old new p q entry.Dial g h c s r w = ap dial (step_there p.steps old.plan new.plan g.plan (let all = h.steps in omega (arith, s, all)))
item-grows old new p q (entry.Down true) g h c s r w = ap (down true) (step_there p.steps old.plan new.plan g.plan (let all = h.steps in omega (arith, s, all)))
item-grows old new p q (entry.Down false) g h c s r w = refl
item-grows old new p q (entry.Opened k) g h c s r w = refl
item-grows old new p q (entry.Read k n) g h c s r w =
    ap (read k) (piece (p.read k) n (old.got k) (new.got k) (g.got k) (let up = r k in let at = raised-at k n p.read in let all = h.read k in omega (arith, up, at, all)))
item-grows old new p q (entry.Wrote k n) g h c s r w =
    ap (wrote k) (piece (p.written k) n (old.put k) (new.put k) (g.put k) (let up = w k in let at = raised-at k n p.written in let all = h.written k in omega (arith, up, at, all)))
item-grows old new p q (entry.Closed k) g h c s r w = ap (closed k) c
item-grows old new p q (entry.Judged k ask number answer) g h c s r w = by_taking (takes answer) c
  where
    by_taking : (t : Bool) → (t ≡ true → (new.unread k ≡ old.unread k) × (new.trail k ≡ old.trail k)) →
        judged k ask number answer (if t then new.unread k else []) (if t then new.trail k else []) ≡ judged k ask number answer (if t then old.unread k else []) (if t then old.trail k else [])
    by_taking true same = rw ((same refl).0, (same refl).1) refl
    by_taking false same = refl
item-grows old new p q (entry.Asked ident number) g h c s r w = refl
item-grows old new p q (entry.Numbered number) g h c s r w = refl
item-grows old new p q (entry.Accepted number key) g h c s r w = refl
item-grows old new p q (entry.Acked number) g h c s r w = refl
item-grows old new p q (entry.Obeyed full) g h c s r w = refl

pub items-grow : (old new : Sources) (es : List Entry) (p : Places) → Grow old new → AreThere old (passed_by es p) → AllByRecursion (IsSettled old new) es → items_from new p es ≡ items_from old p es
items-grow old new [] p g h c = refl
items-grow old new (e ∷ es) p g h c =
    let later = passed-later es (passed e p) in
    rw (item-grows old new p (passed_by es (passed e p)) e g h c.0 later.0 later.1 later.2, items-grow old new es (passed e p) g h c.1) refl

-- ---- replays

same_items : (old new : Sources) (journal : List Entry) → Continues old new journal → items_of new journal ≡ items_of old journal
same_items old new journal c = items-grow old new journal at_start c.grow c.there c.settled

pub replays_stay : ReplaysStay
replays_stay f old new journal s is c covering = record {
  lawful = subst (λ l. AreLawful f l (start f)) (sym (same_items old new journal c)) is.lawful;
  covering = covering;
  state = is.state ∙ ap (λ l. after_items f l (start f)) (sym (same_items old new journal c));
}

pub one_more : OneMoreLeadsOn
one_more f old new journal e s is c covering law =
    let i = item_of new (reach_of journal) e in
    let items : items_of new (journal ++ e ∷ []) ≡ items_of old journal ++ i ∷ [] = items-append new at_start journal (e ∷ []) ∙ ap (λ l. l ++ i ∷ []) (same_items old new journal c) in
    let leads : after_items f (items_of old journal) (start f) ≡ s = sym is.state in
    record {
      lawful = subst (λ l. AreLawful f l (start f)) (sym items) (lawful-append f (items_of old journal) (i ∷ []) (start f) is.lawful (subst (λ t. AreLawful f (i ∷ []) t) (sym leads) (law, tt)));
      covering = covering;
      state = ap (after f i) is.state ∙ sym (after-append f (items_of old journal) (i ∷ []) (start f)) ∙ ap (λ l. after_items f l (start f)) (sym items);
    }
