-- Ends that come to be, one after another.
use Rattle.std.proofs.Common.{◌≡◌, ℕ, ◌&&◌, ◌||◌, not, Bool, true, false, if◌then◌else◌, List, [], ◌∷◌, ◌++◌, fold, Option, Some, refl, sym, ◌∙◌, ap, subst}
use Rattle.std.specs.Prelude.{Result, Ok, Err, OnOk}
use Rattle.std.proofs.lemmas.List.Sums.{fold-append}
use Rattle.m2_bytes.specs.declared.memory.NoMemory.{NoMemory}
use Rattle.m2_fabric.specs.End.{SeenEnd, fresh_end}
use Rattle.m2_fabric.specs.Holder.{ComesTo, EndName, IsThere, SeenHolder, in_line, may_come}
use Rattle.m2_fabric.specs.Sockets.{goes_to, is_among}
use Rattle.m2_fabric.specs.declared.socket.SocketId.{SocketId}
use Rattle.m2_fabric.specs.Kept.{same_end}
use Rattle.m2_fabric.specs.InStep.{SeenFabric}
use Rattle.m2_fabric.specs.Meeting.{Arrive, acceptor, arrivals, arrivals_at, comes, entered, is_one_of}
use Rattle.m2_fabric.proofs.Told.{end_equal, is_other}
use Rattle.m2_bytes.proofs.m2_lemmas.Booleans.{or_false}

pub arrive_nothing : (h : SeenHolder) → Arrive [] h h
arrive_nothing h = record { nodes = refl; at = λ node. refl; made = λ node. refl; ends = λ e. refl; waits = λ e. refl; line = λ node. refl }

-- ---- one end

pub one_arrives : (end : EndName) (a b : SeenHolder) → ComesTo end a b → Arrive (end ∷ []) a b
one_arrives end a b p = record {
  nodes = p.others.nodes;
  at = p.others.at;
  made = p.others.made;
  ends = λ e. rw (or_false (same_end end e)) (ends e (same_end end e) refl);
  waits = λ e. rw (or_false (same_end end e)) (waits e (same_end end e) refl);
  line = p.line;
}
  where
    here : (may : Bool) → may_come end a ≡ may → IsThere end (if may then Some (fresh_end end.id) else a.ends end.node end.id) (may || a.waits end.node end.id) b
    here true m = p.comes m
    here false m = p.refused m

    ends : (e : EndName) (s : Bool) → same_end end e ≡ s → b.ends e.node e.id ≡ (if s && may_come e a then Some (fresh_end e.id) else a.ends e.node e.id)
    ends e true same = rw (← end_equal end e same) (here (may_come end a) refl).shows
    ends e false same = p.others.ends e (is_other end e same)

    waits : (e : EndName) (s : Bool) → same_end end e ≡ s → b.waits e.node e.id ≡ ((s && may_come e a) || a.waits e.node e.id)
    waits e true same = rw (← end_equal end e same) (here (may_come end a) refl).waits
    waits e false same = p.others.waits e (is_other end e same)

-- ---- some ends, and then others

-- a node's line once a socket came goes by where the node listens and by what it made
line_same : (a b : SeenHolder) (node : ℕ) → b.at node ≡ a.at node → b.made node ≡ a.made node → (line : List SocketId) (e : EndName) → in_line b node line e ≡ in_line a node line e
line_same a b node at made line e = rw (at, made) refl

lines_same : (a b : SeenHolder) (node : ℕ) → b.at node ≡ a.at node → b.made node ≡ a.made node → (line : List SocketId) (es : List EndName) →
    fold (in_line b node) line es ≡ fold (in_line a node) line es
lines_same a b node at made line [] = refl
lines_same a b node at made line (e ∷ es) =
    ap (λ (l : List SocketId). fold (in_line b node) l es) (line_same a b node at made line e) ∙ lines_same a b node at made (in_line a node line e) es

pub any-append : (e : EndName) (xs ys : List EndName) → is_one_of (xs ++ ys) e ≡ (is_one_of xs e || is_one_of ys e)
any-append e [] ys = refl
any-append e (x ∷ xs) ys = ap (λ (r : Bool). same_end x e || r) (any-append e xs ys) ∙ assoc (same_end x e) (is_one_of xs e) (is_one_of ys e)
  where
    assoc : (p q r : Bool) → (p || (q || r)) ≡ ((p || q) || r)
    assoc true q r = refl
    assoc false q r = refl

-- what decides whether an end comes, in the second half: whether it came before
record Facts : Type 0 where
  pub in_first : Bool
  pub in_second : Bool
  pub fits : Bool
  pub waited : Bool

-- it may come where it fits and doesn't wait
abbrev first : Facts → Bool
first f = f.in_first && (f.fits && not f.waited)

abbrev second : Facts → Bool
second f = f.in_second && (f.fits && not (first f || f.waited))

abbrev in_all : Facts → Bool
in_all f = (f.in_first || f.in_second) && (f.fits && not f.waited)

waits_once : (p q r w : Bool) → let f : Facts = record { in_first = p; in_second = q; fits = r; waited = w } in (second f || (first f || w)) ≡ (in_all f || w)
waits_once p q r true = by_one p q r
  where
    by_one : (p q r : Bool) → let f : Facts = record { in_first = p; in_second = q; fits = r; waited = true } in (second f || (first f || true)) ≡ (in_all f || true)
    by_one true true true = refl
    by_one true true false = refl
    by_one true false true = refl
    by_one true false false = refl
    by_one false true true = refl
    by_one false true false = refl
    by_one false false true = refl
    by_one false false false = refl
waits_once true true true false = refl
waits_once true true false false = refl
waits_once true false true false = refl
waits_once true false false false = refl
waits_once false true true false = refl
waits_once false true false false = refl
waits_once false false true false = refl
waits_once false false false false = refl

comes_once : (p q r w : Bool) (fresh o : Option SeenEnd) → let f : Facts = record { in_first = p; in_second = q; fits = r; waited = w } in
    (if second f then fresh else (if first f then fresh else o)) ≡ (if in_all f then fresh else o)
comes_once true true true true fresh o = refl
comes_once true true false true fresh o = refl
comes_once true false true true fresh o = refl
comes_once true false false true fresh o = refl
comes_once false true true true fresh o = refl
comes_once false true false true fresh o = refl
comes_once false false true true fresh o = refl
comes_once false false false true fresh o = refl
comes_once true true true false fresh o = refl
comes_once true true false false fresh o = refl
comes_once true false true false fresh o = refl
comes_once true false false false fresh o = refl
comes_once false true true false fresh o = refl
comes_once false true false false fresh o = refl
comes_once false false true false fresh o = refl
comes_once false false false false fresh o = refl

pub arrive_then : (xs ys : List EndName) (a b c : SeenHolder) → Arrive xs a b → Arrive ys b c → Arrive (xs ++ ys) a c
arrive_then xs ys a b c p q = record {
  nodes = q.nodes ∙ p.nodes;
  at = λ node. q.at node ∙ p.at node;
  made = λ node. q.made node ∙ p.made node;
  ends = λ e. ends e;
  waits = λ e. waits e;
  line = λ node.
      q.line node ∙ lines_same a b node (p.at node) (p.made node) (b.line node) ys ∙ ap (λ (l : List SocketId). fold (in_line a node) l ys) (p.line node)
      ∙ sym (fold-append (in_line a node) (a.line node) xs ys);
}
  where
    fits : EndName → SeenHolder → Bool
    fits e h = goes_to (h.at e.node) e.id && not (is_among e.id (h.made e.node))

    three : (x y z : Bool) → (x && (y && z)) ≡ ((x && y) && z)
    three true y z = refl
    three false y z = refl

    may : (e : EndName) (h : SeenHolder) → may_come e h ≡ (fits e h && not (h.waits e.node e.id))
    may e h = three (goes_to (h.at e.node) e.id) (not (is_among e.id (h.made e.node))) (not (h.waits e.node e.id))

    same_fits : (e : EndName) → fits e b ≡ fits e a
    same_fits e = rw (p.at e.node, p.made e.node) refl

    facts : EndName → Facts
    facts e = record { in_first = is_one_of xs e; in_second = is_one_of ys e; fits = fits e a; waited = a.waits e.node e.id }

    before : (e : EndName) → comes xs a e ≡ first (facts e)
    before e = ap (λ (m : Bool). is_one_of xs e && m) (may e a)

    after : (e : EndName) → comes ys b e ≡ second (facts e)
    after e =
        ap (λ (m : Bool). is_one_of ys e && m) (may e b)
        ∙ ap (λ (m : Bool). is_one_of ys e && (m && not (b.waits e.node e.id))) (same_fits e)
        ∙ ap (λ (w : Bool). is_one_of ys e && (fits e a && not w)) (p.waits e ∙ ap (λ (w : Bool). w || a.waits e.node e.id) (before e))

    all : (e : EndName) → comes (xs ++ ys) a e ≡ in_all (facts e)
    all e =
        ap (λ (m : Bool). is_one_of (xs ++ ys) e && m) (may e a)
        ∙ ap (λ (i : Bool). i && (fits e a && not (a.waits e.node e.id))) (any-append e xs ys)

    ends : (e : EndName) → c.ends e.node e.id ≡ (if comes (xs ++ ys) a e then Some (fresh_end e.id) else a.ends e.node e.id)
    ends e =
        q.ends e ∙ ap (λ (s : Bool). if s then Some (fresh_end e.id) else b.ends e.node e.id) (after e)
        ∙ ap (λ (o : Option SeenEnd). if second (facts e) then Some (fresh_end e.id) else o) (p.ends e ∙ ap (λ (s : Bool). if s then Some (fresh_end e.id) else a.ends e.node e.id) (before e))
        ∙ comes_once (is_one_of xs e) (is_one_of ys e) (fits e a) (a.waits e.node e.id) (Some (fresh_end e.id)) (a.ends e.node e.id)
        ∙ sym (ap (λ (s : Bool). if s then Some (fresh_end e.id) else a.ends e.node e.id) (all e))

    waits : (e : EndName) → c.waits e.node e.id ≡ (comes (xs ++ ys) a e || a.waits e.node e.id)
    waits e =
        q.waits e ∙ ap (λ (s : Bool). s || b.waits e.node e.id) (after e)
        ∙ ap (λ (w : Bool). second (facts e) || w) (p.waits e ∙ ap (λ (s : Bool). s || a.waits e.node e.id) (before e))
        ∙ waits_once (is_one_of xs e) (is_one_of ys e) (fits e a) (a.waits e.node e.id)
        ∙ sym (ap (λ (s : Bool). s || a.waits e.node e.id) (all e))

-- ---- by what entering the rest answered

pub each_arrives : (r : Result (Unit {0}) NoMemory) (node : ℕ) (id : SocketId) (ids all : List SocketId) (f g : SeenFabric) (a b c : SeenHolder) → all ≡ id ∷ ids
    → g ≡ record f { pairs = entered f.nodes node id f.pairs } → Arrive (arrivals_at id f.pairs (acceptor f.nodes node id)) a b
    → OnOk r (Arrive (arrivals g.nodes node ids g.pairs) b c) → OnOk r (Arrive (arrivals f.nodes node all f.pairs) a c)
each_arrives (Ok _) node id ids all f g a b c parts is first rest =
    let P : SeenFabric → Type 0 = λ x. Arrive (arrivals x.nodes node ids x.pairs) b c in
    rw parts (arrive_then (arrivals_at id f.pairs (acceptor f.nodes node id)) (arrivals f.nodes node ids (entered f.nodes node id f.pairs)) a b c first (subst P is rest))
each_arrives (Err _) node id ids all f g a b c parts is first rest = tt
