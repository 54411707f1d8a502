-- What was sent on a socket, where one frame more is sent.
use Rattle.std.proofs.Common.{◌≡◌, ◌≤◌, Bool, true, false, not, List, [], ◌∷◌, ◌++◌, length, drop, map, Some, None, refl, ap, ◌∙◌}
use Rattle.std.specs.List.{filter, filter_map}
use Rattle.std.proofs.lemmas.List.{drop-append-le, map-append, append-nil}
use Rattle.std.proofs.lemmas.List.Elements.{filter-append, filter_map-append}
use Rattle.m2_journal.specs.m2_fabric.declared.socket.SocketId.{SocketId}
use Rattle.m2_journal.specs.m2_fabric.Sockets.{same_socket}
use Rattle.m2_journal.specs.State.{Feed, SentFrame}
use Rattle.m2_never_reset.specs.Asks.{Ask}
use Rattle.m2_never_reset.specs.Frames.{frames_on, ask_of, is_ask, asks_on, answers_on, to_come, last_ask}

alone : {X : Type 0} (p : X → Bool) (x : X) → p x ≡ true → filter p (x ∷ []) ≡ x ∷ []
alone p x e = rw e refl

gone : {X : Type 0} (p : X → Bool) (x : X) → p x ≡ false → filter p (x ∷ []) ≡ []
gone p x e = rw e refl

pub frames_here : (k : SocketId) (xs : List SentFrame) (x : SentFrame) → same_socket k x.socket ≡ true →
    frames_on k (xs ++ x ∷ []) ≡ frames_on k xs ++ x.frame ∷ []
frames_here k xs x e =
    ap (map (λ y. y.frame))
    (filter-append (λ y. same_socket k y.socket) xs (x ∷ []) ∙ ap (λ l. filter (λ y. same_socket k y.socket) xs ++ l) (alone (λ y. same_socket k y.socket) x e))
    ∙ map-append (λ y. y.frame) (filter (λ y. same_socket k y.socket) xs) (x ∷ [])

pub frames_elsewhere : (k : SocketId) (xs : List SentFrame) (x : SentFrame) → same_socket k x.socket ≡ false →
    frames_on k (xs ++ x ∷ []) ≡ frames_on k xs
frames_elsewhere k xs x e =
    ap (map (λ y. y.frame))
    (filter-append (λ y. same_socket k y.socket) xs (x ∷ []) ∙ ap (λ l. filter (λ y. same_socket k y.socket) xs ++ l) (gone (λ y. same_socket k y.socket) x e) ∙ append-nil _)

-- ---- asks

pub asks_same : (k : SocketId) (xs : List SentFrame) (x : SentFrame) → ask_of x.frame ≡ None →
    asks_on k (xs ++ x ∷ []) ≡ asks_on k xs
asks_same k xs x e = by_place (same_socket k x.socket) refl
  where
    by_place : (t : Bool) → same_socket k x.socket ≡ t → asks_on k (xs ++ x ∷ []) ≡ asks_on k xs
    by_place true h =
        ap (filter_map ask_of) (frames_here k xs x h) ∙ filter_map-append ask_of (frames_on k xs) (x.frame ∷ [])
        ∙ rw e (append-nil _)
    by_place false h = ap (filter_map ask_of) (frames_elsewhere k xs x h)

pub asks_elsewhere : (k : SocketId) (xs : List SentFrame) (x : SentFrame) → same_socket k x.socket ≡ false →
    asks_on k (xs ++ x ∷ []) ≡ asks_on k xs
asks_elsewhere k xs x h = ap (filter_map ask_of) (frames_elsewhere k xs x h)

pub asks_here : (k : SocketId) (xs : List SentFrame) (x : SentFrame) (a : Ask) → ask_of x.frame ≡ Some a →
    same_socket k x.socket ≡ true →
    asks_on k (xs ++ x ∷ []) ≡ asks_on k xs ++ a ∷ []
asks_here k xs x a e h =
    ap (filter_map ask_of) (frames_here k xs x h) ∙ filter_map-append ask_of (frames_on k xs) (x.frame ∷ []) ∙ rw e refl

pub last_of : (b a : Ask) (qs : List Ask) → last_ask b (qs ++ a ∷ []) ≡ a
last_of b a [] = refl
last_of b a (q ∷ qs) = last_of q a qs

-- ---- answers

pub answers_same : (k : SocketId) (xs : List SentFrame) (x : SentFrame) → is_ask x.frame ≡ true →
    answers_on k (xs ++ x ∷ []) ≡ answers_on k xs
answers_same k xs x e = by_place (same_socket k x.socket) refl
  where
    by_place : (t : Bool) → same_socket k x.socket ≡ t → answers_on k (xs ++ x ∷ []) ≡ answers_on k xs
    by_place true h =
        ap (filter (λ w. not (is_ask w))) (frames_here k xs x h)
        ∙ filter-append (λ w. not (is_ask w)) (frames_on k xs) (x.frame ∷ [])
        ∙ ap (λ l. answers_on k xs ++ l) (gone (λ w. not (is_ask w)) x.frame (ap not e)) ∙ append-nil _
    by_place false h = ap (filter (λ w. not (is_ask w))) (frames_elsewhere k xs x h)

pub answers_here : (k : SocketId) (xs : List SentFrame) (x : SentFrame) → is_ask x.frame ≡ false →
    same_socket k x.socket ≡ true →
    answers_on k (xs ++ x ∷ []) ≡ answers_on k xs ++ x.frame ∷ []
answers_here k xs x e h =
    ap (filter (λ w. not (is_ask w))) (frames_here k xs x h)
    ∙ filter-append (λ w. not (is_ask w)) (frames_on k xs) (x.frame ∷ [])
    ∙ ap (λ l. answers_on k xs ++ l) (alone (λ w. not (is_ask w)) x.frame (ap not e))

pub answers_elsewhere : (k : SocketId) (xs : List SentFrame) (x : SentFrame) → same_socket k x.socket ≡ false →
    answers_on k (xs ++ x ∷ []) ≡ answers_on k xs
answers_elsewhere k xs x h = ap (filter (λ w. not (is_ask w))) (frames_elsewhere k xs x h)

-- ---- what is to come for the other side

pub to_come_asked : (e : Feed) (xs : List SentFrame) (x : SentFrame) → is_ask x.frame ≡ true →
    to_come e (xs ++ x ∷ []) ≡ to_come e xs
to_come_asked e xs x n = ap (drop e.taken) (answers_same e.socket xs x n)

pub to_come_here : (e : Feed) (xs : List SentFrame) (x : SentFrame) → is_ask x.frame ≡ false →
    same_socket e.socket x.socket ≡ true →
    e.taken ≤ length (answers_on e.socket xs) → to_come e (xs ++ x ∷ []) ≡ to_come e xs ++ x.frame ∷ []
to_come_here e xs x n h l =
    ap (drop e.taken) (answers_here e.socket xs x n h)
    ∙ drop-append-le e.taken (answers_on e.socket xs) (x.frame ∷ []) l

pub to_come_elsewhere : (e : Feed) (xs : List SentFrame) (x : SentFrame) → same_socket e.socket x.socket ≡ false →
    to_come e (xs ++ x ∷ []) ≡ to_come e xs
to_come_elsewhere e xs x h = ap (drop e.taken) (answers_elsewhere e.socket xs x h)
