-- Lists of sockets, and which of them were opened or taken by an answer.
use Rattle.std.proofs.Common.{◌≡◌, Bool, true, false, ◌&&◌, ◌||◌, ◌⊎◌, inl, inr, ◌==◌, if◌then◌else◌, List, [], ◌∷◌, ◌++◌, map, refl, sym, ap, ◌∙◌}
use Rattle.std.specs.List.{AllByRecursion, IsDistinct, filter}
use Rattle.m2_fabric.specs.declared.socket.SocketId.{SocketId}
use Rattle.m2_fabric.specs.Sockets.{is_among, same_socket}
use Rattle.m2_session.specs.declared.answer.Answer.{Answer}
use Rattle.m2_session.specs.declared.answer.Answer.TheVariants as answer
use Rattle.m2_session.specs.SessionLaws as session
use Rattle.m2_journal.specs.declared.entry.JudgedItem.{JudgedItem}
use Rattle.m2_journal.specs.Laws.{taken_among}
use Rattle.m2_journal.specs.Lawful.{judged_on, may_ask_again}
use Rattle.m2_journal.specs.State.{Judgement, State}
use Rattle.m2_bytes.proofs.m2_lemmas.Booleans.{neither_of_or, false_isnt_true}
use Rattle.m2_bytes.proofs.m2_lemmas.Lists.{all_last}
use Rattle.m2_fabric.proofs.Sockets.{same_equal, apart_turned, among_last}

-- ---- among

either : (a b : Bool) → b ≡ true → a || b ≡ true
either true b h = refl
either false b h = h

raised : (a b c : Bool) → (b ≡ true → c ≡ true) → a || b ≡ true → a || c ≡ true
raised true b c more h = refl
raised false b c more h = more h

pub among-kept : (p : SocketId → Bool) (k : SocketId) (xs : List SocketId) → is_among k xs ≡ false →
    is_among k (filter p xs) ≡ false
among-kept p k [] h = refl
among-kept p k (x ∷ xs) h = let others = neither_of_or (same_socket k x) (is_among k xs) h in at (p x) others.0 (among-kept p k xs others.1)
  where
    at : (b : Bool) → same_socket k x ≡ false → is_among k (filter p xs) ≡ false →
        is_among k (if b then x ∷ filter p xs else filter p xs) ≡ false
    at true apart_here rest = rw apart_here rest
    at false apart_here rest = rest

pub all-kept : (P : SocketId → Type 0) (p : SocketId → Bool) (xs : List SocketId) → AllByRecursion P xs →
    AllByRecursion P (filter p xs)
all-kept P p [] h = tt
all-kept P p (x ∷ xs) h = at (p x) (all-kept P p xs h.1)
  where
    at : (b : Bool) → AllByRecursion P (filter p xs) → AllByRecursion P (if b then x ∷ filter p xs else filter p xs)
    at true rest = (h.0, rest)
    at false rest = rest

pub all-weaker : (P Q : SocketId → Type 0) (xs : List SocketId) → ((x : SocketId) → P x → Q x) → AllByRecursion P xs →
    AllByRecursion Q xs
all-weaker P Q [] more h = tt
all-weaker P Q (x ∷ xs) more h = (more x h.0, all-weaker P Q xs more h.1)

pub distinct-none : IsDistinct same_socket []
unfolding IsDistinct
distinct-none = tt

pub distinct-push : (xs : List SocketId) (k : SocketId) → IsDistinct same_socket xs → is_among k xs ≡ false →
    IsDistinct same_socket (xs ++ k ∷ [])
unfolding IsDistinct
distinct-push [] k h none = (tt, tt)
distinct-push (x ∷ xs) k h none =
    let not_these = neither_of_or (same_socket k x) (is_among k xs) none in
    (all_last (λ y. same_socket x y ≡ false) xs k h.0 (apart_turned k x not_these.0), distinct-push xs k h.1 not_these.1)

one_kept : (b : Bool) (xs : List SocketId) (x : SocketId) → AllByRecursion (λ y. same_socket x y ≡ false) xs →
    IsDistinct same_socket xs → IsDistinct same_socket (if b then x ∷ xs else xs)
unfolding IsDistinct
one_kept true xs x all rest = (all, rest)
one_kept false xs x all rest = rest

pub distinct-kept : (p : SocketId → Bool) (xs : List SocketId) → IsDistinct same_socket xs →
    IsDistinct same_socket (filter p xs)
unfolding IsDistinct
distinct-kept p [] h = tt
distinct-kept p (x ∷ xs) h = one_kept (p x) (filter p xs) x (all-kept (λ y. same_socket x y ≡ false) p xs h.0) (distinct-kept p xs h.1)

-- ---- what was opened and what was taken

pub record Names : Type 0 where
  pub opened : List SocketId
  pub judgements : List Judgement

abbrev pub names_of : State → Names
names_of s = record { opened = s.opened; judgements = s.judgements }

abbrev pub Came : Names → Bool → SocketId → Type 0
Came n opened k = is_among k (if opened then n.opened else taken_among n.judgements) ≡ true

abbrev pub CameSo : Names → SocketId → Type 0
CameSo n k = Came n true k ⊎ Came n false k

pub came_so : (n : Names) (k : SocketId) (b : Bool) → Came n b k → CameSo n k
came_so n k true h = inl h
came_so n k false h = inr h

-- all that came so before comes so still
abbrev pub Grows : Names → Names → Type 0
Grows m n = (k : SocketId) (b : Bool) → Came m b k → Came n b k

pub more_so : (m n : Names) → Grows m n → (k : SocketId) → CameSo m k → CameSo n k
more_so m n grows k (inl h) = inl (grows k true h)
more_so m n grows k (inr h) = inr (grows k false h)

-- a socket that wasn't opened or taken is new to those that were
pub fresh : (n : Names) (k : SocketId) (xs : List SocketId) → AllByRecursion (CameSo n) xs →
    is_among k n.opened ≡ false → is_among k (taken_among n.judgements) ≡ false → is_among k xs ≡ false
fresh n k [] all no_open no_take = refl
fresh n k (x ∷ xs) all no_open no_take = at (same_socket k x) refl all.0 (fresh n k xs all.1 no_open no_take)
  where
    at : (c : Bool) → same_socket k x ≡ c → CameSo n x → is_among k xs ≡ false → c || is_among k xs ≡ false
    at true e (inl h) rest = absurd (false_isnt_true (sym no_open ∙ (ap (λ (z : SocketId). is_among z n.opened) (same_equal k x e) ∙ h)))
    at true e (inr h) rest = absurd (false_isnt_true (sym no_take ∙ (ap (λ (z : SocketId). is_among z (taken_among n.judgements)) (same_equal k x e) ∙ h)))
    at false e h rest = rest

pub taken-append : (js is : List Judgement) → taken_among (js ++ is) ≡ taken_among js ++ taken_among is
taken-append [] is = refl
taken-append (j ∷ js) is = at (session.takes j.item.answer) (taken-append js is)
  where
    at : (b : Bool) → taken_among (js ++ is) ≡ taken_among js ++ taken_among is →
        map (λ i. i.socket) (if b then j ∷ filter (λ i. session.takes i.item.answer) (js ++ is) else filter (λ i. session.takes i.item.answer) (js ++ is))
        ≡ map (λ i. i.socket) (if b then j ∷ filter (λ i. session.takes i.item.answer) js else filter (λ i. session.takes i.item.answer) js) ++ taken_among is
    at true rest = ap (λ (l : List SocketId). j.socket ∷ l) rest
    at false rest = rest

abbrev pub judgement : SocketId → JudgedItem → Judgement
judgement k i = record { socket = k; item = i }

taken-one : (k : SocketId) (i : JudgedItem) → session.takes i.answer ≡ true → taken_among (judgement k i ∷ []) ≡ k ∷ []
taken-one k i e = rw e refl

pub taken-last : (k : SocketId) (i : JudgedItem) (js : List Judgement) → session.takes i.answer ≡ true →
    is_among k (taken_among (js ++ judgement k i ∷ [])) ≡ true
taken-last k i js e =
    ap (is_among k) (taken-append js (judgement k i ∷ []) ∙ ap (λ (l : List SocketId). taken_among js ++ l) (taken-one k i e))
    ∙ among_last k (taken_among js)

pub no_more_asks : (a : Answer) → session.takes a ≡ true → may_ask_again a ≡ true → ⊥
no_more_asks answer.Accept e h = false_isnt_true h
no_more_asks answer.AcceptOver e h = false_isnt_true h
no_more_asks (answer.AcceptReset full) e h = false_isnt_true h
no_more_asks answer.AcceptAgain e h = false_isnt_true h
no_more_asks answer.AcceptReplace e h = false_isnt_true h
no_more_asks answer.AcceptRace e h = false_isnt_true h
no_more_asks answer.Close e h = false_isnt_true e
no_more_asks answer.Wait e h = false_isnt_true e
no_more_asks (answer.Reset full) e h = false_isnt_true e
no_more_asks answer.ResetPending e h = false_isnt_true e
no_more_asks (answer.RetryGlobal n) e h = false_isnt_true e
no_more_asks (answer.Retry n) e h = false_isnt_true e
no_more_asks answer.Resume e h = false_isnt_true h

-- a socket on which no answer was the last wasn't taken
pub not_taken : (k : SocketId) (js : List Judgement) →
    AllByRecursion (λ i. may_ask_again i.answer ≡ true) (judged_on k js) → is_among k (taken_among js) ≡ false
not_taken k [] h = refl
not_taken k (j ∷ js) h = at (same_socket k j.socket) (session.takes j.item.answer) refl refl h (not_taken k js)
  where
    at : (b c : Bool) → same_socket k j.socket ≡ b → session.takes j.item.answer ≡ c →
        AllByRecursion (λ i. may_ask_again i.answer ≡ true) (map (λ x. x.item) (if b then j ∷ filter (λ x. same_socket k x.socket) js else filter (λ x. same_socket k x.socket) js)) →
        (AllByRecursion (λ i. may_ask_again i.answer ≡ true) (judged_on k js) → is_among k (taken_among js) ≡ false) →
        is_among k (map (λ x. x.socket) (if c then j ∷ filter (λ x. session.takes x.item.answer) js else filter (λ x. session.takes x.item.answer) js)) ≡ false
    at true true e g asks rest = absurd (no_more_asks j.item.answer g asks.0)
    at true false e g asks rest = rest asks.1
    at false true e g asks rest = rw e (rest asks)
    at false false e g asks rest = rest asks

-- nor one on which nothing was judged
pub not_judged : (k : SocketId) (js : List Judgement) → is_among k (map (λ j. j.socket) js) ≡ false →
    is_among k (taken_among js) ≡ false
not_judged k [] h = refl
not_judged k (j ∷ js) h =
    let others = neither_of_or (same_socket k j.socket) (is_among k (map (λ i. i.socket) js)) h in
    at (session.takes j.item.answer) others.0 (not_judged k js others.1)
  where
    at : (c : Bool) → same_socket k j.socket ≡ false → is_among k (taken_among js) ≡ false →
        is_among k (map (λ x. x.socket) (if c then j ∷ filter (λ x. session.takes x.item.answer) js else filter (λ x. session.takes x.item.answer) js)) ≡ false
    at true apart_here rest = rw apart_here rest
    at false apart_here rest = rest
