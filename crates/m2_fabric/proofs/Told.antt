-- What ends were told, one telling after another.
use Rattle.std.proofs.Common.{◌≡◌, ℕ, ◌==◌, Bool, true, false, if◌then◌else◌, List, [], ◌∷◌, ◌++◌, Option, None, Some, refl, sym, ◌∙◌, ap}
use Rattle.std.proofs.lemmas.Bool.{eq-eqb, eqb-true}
use Rattle.std.specs.Option.{option_map}
use Rattle.m2_fabric.specs.End.{SeenEnd, after_news}
use Rattle.m2_fabric.specs.Holder.{EndName, IsOther, OneEndHears, SeenHolder}
use Rattle.m2_fabric.specs.Log.{Log}
use Rattle.m2_fabric.specs.Sockets.{same_socket}
use Rattle.m2_fabric.specs.declared.end.News.{News}
use Rattle.m2_fabric.specs.declared.socket.SocketId.{SocketId}
use Rattle.m2_fabric.specs.Kept.{same_end}
use Rattle.m2_fabric.specs.News.{AreTold, Told, hears, logs_of, only}
use Rattle.m2_bytes.proofs.m2_lemmas.Booleans.{both_of_and}
use Rattle.m2_fabric.proofs.Sockets.{same_equal}

-- ---- equal names

pub same_number : (n : ℕ) → (n == n) ≡ true
same_number n = eq-eqb n n refl

pub end_equal : (a b : EndName) → same_end a b ≡ true → a ≡ b
end_equal a b h =
    let two = both_of_and (a.node == b.node) (same_socket a.id b.id) h in
    ap (λ (n : ℕ). record a { node = n }) (eqb-true a.node b.node two.0) ∙ ap (λ (s : SocketId). record b { id = s }) (same_equal a.id b.id two.1)

-- an end of another name is another end
pub is_other : (a b : EndName) → same_end a b ≡ false → IsOther a b
is_other a b h node =
    let same : (a.node == b.node) ≡ true = eq-eqb a.node b.node (sym node) in
    rest same h
  where
    rest : (a.node == b.node) ≡ true → same_end a b ≡ false → same_socket a.id b.id ≡ false
    rest same h = cc

-- ---- what is told

pub hears-append : (xs ys : List Told) (s : SeenEnd) → hears ys (hears xs s) ≡ hears (xs ++ ys) s
hears-append [] ys s = refl
hears-append (x ∷ xs) ys s = hears-append xs ys (after_news x.news x.bytes s)

heard_nothing : (o : Option SeenEnd) → o ≡ option_map (hears []) o
heard_nothing None = refl
heard_nothing (Some s) = refl

heard_both : (xs ys : List Told) (o : Option SeenEnd) → option_map (hears ys) (option_map (hears xs) o) ≡ option_map (hears (xs ++ ys)) o
heard_both xs ys None = refl
heard_both xs ys (Some s) = ap (λ (s : SeenEnd). Some s) (hears-append xs ys s)

pub told_nothing : (h : SeenHolder) → AreTold (λ e. []) h h
told_nothing h = record {
  nodes = refl;
  at = λ node. refl;
  made = λ node. refl;
  ends = λ e. heard_nothing (h.ends e.node e.id);
  waits = λ e. refl;
  line = λ node. refl;
}

pub told_then : (f g : EndName → List Told) (a b c : SeenHolder) → AreTold f a b → AreTold g b c → AreTold (λ e. f e ++ g e) a c
told_then f g a b c p q = record {
  nodes = q.nodes ∙ p.nodes;
  at = λ node. q.at node ∙ p.at node;
  made = λ node. q.made node ∙ p.made node;
  ends = λ e. q.ends e ∙ ap (option_map (hears (g e))) (p.ends e) ∙ heard_both (f e) (g e) (a.ends e.node e.id);
  waits = λ e. q.waits e ∙ p.waits e;
  line = λ node. q.line node ∙ p.line node;
}

pub told_same : (f g : EndName → List Told) (a b : SeenHolder) → ((e : EndName) → f e ≡ g e) → AreTold f a b → AreTold g a b
told_same f g a b same p = record {
  nodes = p.nodes;
  at = p.at;
  made = p.made;
  ends = λ e. p.ends e ∙ ap (λ (ts : List Told). option_map (hears ts) (a.ends e.node e.id)) (same e);
  waits = p.waits;
  line = p.line;
}

-- ---- one end alone

abbrev nothing : List Told
nothing = []

no_news : (b : Bool) → nothing ≡ (if b then nothing else nothing)
no_news true = refl
no_news false = refl

pub only_nothing : (end : EndName) (h : SeenHolder) → AreTold (only end []) h h
only_nothing end h = told_same (λ e. []) (only end []) h h (λ e. no_news (same_end end e)) (told_nothing h)

only_both : (b : Bool) (xs ys : List Told) → (if b then xs else []) ++ (if b then ys else []) ≡ (if b then xs ++ ys else [])
only_both true xs ys = refl
only_both false xs ys = refl

pub only_then : (end : EndName) (xs ys : List Told) (a b c : SeenHolder) → AreTold (only end xs) a b → AreTold (only end ys) b c → AreTold (only end (xs ++ ys)) a c
only_then end xs ys a b c p q =
    told_same (λ e. only end xs e ++ only end ys e) (only end (xs ++ ys)) a c (λ e. only_both (same_end end e) xs ys) (told_then (only end xs) (only end ys) a b c p q)

pub one_told : (end : EndName) (n : News) (bytes : List ℕ) (a b : SeenHolder) → OneEndHears end (after_news n bytes) a b
    → AreTold (only end (record { news = n; bytes = bytes } ∷ [])) a b
one_told end n bytes a b p = record {
  nodes = p.others.nodes;
  at = p.others.at;
  made = p.others.made;
  ends = λ e. by_name e (same_end end e) refl;
  waits = λ e. waits_by_name e (same_end end e) refl;
  line = p.line;
}
  where
    told : List Told
    told = record { news = n; bytes = bytes } ∷ []

    by_name : (e : EndName) (s : Bool) → same_end end e ≡ s → b.ends e.node e.id ≡ option_map (hears (if s then told else [])) (a.ends e.node e.id)
    by_name e true same = rw (← end_equal end e same) p.there.shows
    by_name e false same = p.others.ends e (is_other end e same) ∙ heard_nothing (a.ends e.node e.id)

    waits_by_name : (e : EndName) (s : Bool) → same_end end e ≡ s → b.waits e.node e.id ≡ a.waits e.node e.id
    waits_by_name e true same = rw (← end_equal end e same) p.there.waits
    waits_by_name e false same = p.others.waits e (is_other end e same)

-- ---- what ends did stays

hears_keeps_log : (ts : List Told) (s : SeenEnd) → (hears ts s).log ≡ s.log
hears_keeps_log [] s = refl
hears_keeps_log (t ∷ ts) s = hears_keeps_log ts (after_news t.news t.bytes s)

pub logs_same : (f : EndName → List Told) (a b : SeenHolder) → AreTold f a b → (e : EndName) → logs_of b e ≡ logs_of a e
logs_same f a b p e =
    ap (λ (w : Bool). option_map (λ (s : SeenEnd). s.log) (if w then None else b.ends e.node e.id)) (p.waits e)
    ∙ ap (λ (o : Option SeenEnd). option_map (λ (s : SeenEnd). s.log) (if a.waits e.node e.id then None else o)) (p.ends e)
    ∙ by_wait (a.waits e.node e.id) (a.ends e.node e.id)
  where
    by_wait : (w : Bool) (o : Option SeenEnd)
        → option_map (λ (s : SeenEnd). s.log) (if w then None else option_map (hears (f e)) o) ≡ option_map (λ (s : SeenEnd). s.log) (if w then None else o)
    by_wait true o = refl
    by_wait false None = refl
    by_wait false (Some s) = ap (λ (l : Log). Some l) (hears_keeps_log (f e) s)
