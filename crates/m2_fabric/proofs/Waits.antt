-- What waits at a port.
use Rattle.std.proofs.Common.{◌≡◌, ℕ, ◌+◌, Bool, true, false, if◌then◌else◌, List, [], ◌∷◌, ◌++◌, ◌<◌, length, get_or, refl, sym, ◌∙◌, ap, arith, append_assoc}
use Rattle.std.proofs.Common.{◌||◌}
use Rattle.std.specs.Prelude.{remove, Result, Ok, Err, OnOk, OnErr}
use Rattle.m2_bytes.specs.declared.memory.NoMemory.{NoMemory}
use Rattle.m2_bytes.proofs.m2_lemmas.Booleans.{or_right}
use Rattle.std.specs.List.{AllByRecursion, list_any}
use Rattle.std.proofs.lemmas.List.{map-append}
use Rattle.m2_addr.specs.declared.addr.Addr.{Addr}
use Rattle.m2_fabric.specs.End.{SeenEnd, after_news, fresh_end}
use Rattle.m2_fabric.specs.Port.{IsNewEnd, ids, one_hears, socket_after}
use Rattle.m2_fabric.specs.Sockets.{IsOfHome, comes_from, goes_to, is_among, same_socket}
use Rattle.m2_fabric.specs.declared.end.News.{News}
use Rattle.m2_fabric.specs.declared.socket.SocketId.{SocketId}
use Rattle.m2_fabric.specs.SimPort.{AreWaiting, IsSimPort, IsWaiting, times}
use Rattle.m2_fabric.proofs.Turns.{among_none, next_is_new, none_among, once_at_end, once_between, same_number, times-append}
use Rattle.m2_fabric.proofs.Sockets.{same_socket_refl}

-- the first item, and the rest
pub first_removed : (xs : List SeenEnd) (e : SeenEnd) → 0 < length xs → e ≡ get_or xs 0 e → xs ≡ e ∷ remove xs 0
first_removed [] e h i = absurd (omega arith)
first_removed (x ∷ xs) e h i = ap (λ (y : SeenEnd). y ∷ xs) (sym i)

-- ---- where sockets come from and go to

made_more : (at : Addr) (made : List SocketId) (id : SocketId) → AllByRecursion (IsOfHome at) made → IsOfHome at id → AllByRecursion (IsOfHome at) (made ++ id ∷ [])
made_more at [] id all here = (here, tt)
made_more at (k ∷ ks) id all here = (all.0, made_more at ks id all.1 here)

opened_here : (xs : List SocketId) (at to : Addr) → IsOfHome at (socket_after xs at to)
opened_here xs at to = rw (same_number at.ip, same_number at.port) refl

-- ---- a socket that is opened

pub opened_stays : (at to : Addr) (made : List SocketId) (waiting : List SeenEnd) (id : SocketId) → IsSimPort at made waiting
    → id ≡ socket_after (made ++ ids waiting) at to → IsSimPort at (made ++ id ∷ []) waiting
opened_stays at to made waiting id p next = record {
  once = λ s. once_between id s made (ids waiting) p.once (rw next (next_is_new (made ++ ids waiting) at to));
  waits = p.waits;
  home = made_more at made id p.home (rw next (opened_here (made ++ ids waiting) at to));
}

pub opened_is_new : (at to : Addr) (made : List SocketId) (waiting : List SeenEnd) (e : SeenEnd)
    → e ≡ fresh_end (socket_after (made ++ ids waiting) at to) → IsNewEnd to made e
opened_is_new at to made waiting e fresh =
    let next = socket_after (made ++ ids waiting) at to in
    rw fresh (record {
      towards = rw (same_number to.ip, same_number to.port) refl;
      first = among_none next made (omega (arith, next_is_new (made ++ ids waiting) at to, times-append next made (ids waiting)));
      unused = refl;
    })

-- the one that waits longest is accepted
pub accepted_is_new : (at : Addr) (made : List SocketId) (waiting : List SeenEnd) (e : SeenEnd) (rest : List SeenEnd) → IsSimPort at made waiting
    → waiting ≡ e ∷ rest → IsNewEnd at made e
accepted_is_new at made waiting e rest p first =
    let q : IsSimPort at made (e ∷ rest) = rw (← first) p in
    let one : times e.id (e.id ∷ ids rest) ≡ 1 + times e.id (ids rest) = rw (same_socket_refl e.id) refl in record {
      towards = q.waits.0.towards;
      first = among_none e.id made (omega (arith, one, q.once e.id, times-append e.id made (e.id ∷ ids rest)));
      unused = q.waits.0.unused;
    }

pub accepted_stays : (at : Addr) (made : List SocketId) (waiting : List SeenEnd) (e : SeenEnd) (rest : List SeenEnd) → IsSimPort at made waiting
    → waiting ≡ e ∷ rest → IsSimPort at (made ++ e.id ∷ []) rest
accepted_stays at made waiting e rest p first =
    let q : IsSimPort at made (e ∷ rest) = rw (← first) p in record {
      once = λ s. rw (append_assoc made (e.id ∷ []) (ids rest)) (q.once s);
      waits = q.waits.1;
      home = made_more at made e.id p.home (or_right (comes_from at e.id) (goes_to at e.id) q.waits.0.towards);
    }

ids-append : (xs ys : List SeenEnd) → ids (xs ++ ys) ≡ ids xs ++ ids ys
ids-append xs ys = map-append (λ (e : SeenEnd). e.id) xs ys

waits-append : (at : Addr) (es : List SeenEnd) (e : SeenEnd) → AreWaiting at es → IsWaiting at e → AreWaiting at (es ++ e ∷ [])
waits-append at [] e ws w = (w, tt)
waits-append at (x ∷ es) e ws w = (ws.0, waits-append at es e ws.1 w)

not_waiting : (id : SocketId) (es : List SeenEnd) → list_any (λ (e : SeenEnd). same_socket id e.id) es ≡ false → times id (ids es) ≡ 0
not_waiting id [] h = refl
not_waiting id (e ∷ es) h = by_first (same_socket id e.id) (not_waiting id es) h
  where
    by_first : (b : Bool) → (list_any (λ (e : SeenEnd). same_socket id e.id) es ≡ false → times id (ids es) ≡ 0)
        → (b || list_any (λ (e : SeenEnd). same_socket id e.id) es) ≡ false → (if b then 1 else 0) + times id (ids es) ≡ 0
    by_first true rest h = absurd (cc)
    by_first false rest h = omega (arith, rest h)

-- a socket that comes and waits
pub incoming_stays : (at : Addr) (made : List SocketId) (waiting : List SeenEnd) (id : SocketId) → IsSimPort at made waiting
    → goes_to at id ≡ true → is_among id made ≡ false → list_any (λ (e : SeenEnd). same_socket id e.id) waiting ≡ false
    → IsSimPort at made (waiting ++ fresh_end id ∷ [])
incoming_stays at made waiting id p towards new apart = record {
  once = λ s. rw (ids-append waiting (fresh_end id ∷ []), ← append_assoc made (ids waiting) (id ∷ [])) (once_at_end id s (made ++ ids waiting) p.once nowhere);
  waits = waits-append at waiting (fresh_end id) p.waits (record { towards = towards; unused = refl });
  home = p.home;
}
  where
    nowhere : times id (made ++ ids waiting) ≡ 0
    nowhere = omega (arith, times-append id made (ids waiting), none_among id made new, not_waiting id waiting apart)

-- what hears changes neither its socket nor what it did
record Listens (hears : SeenEnd → SeenEnd) : Type 0 where
  pub name : (e : SeenEnd) → (hears e).id ≡ e.id
  pub log : (e : SeenEnd) → (hears e).log ≡ e.log

hears_by_name : (id : SocketId) (hears : SeenEnd → SeenEnd) (es : List SeenEnd) → Listens hears → ids (one_hears id hears es) ≡ ids es
hears_by_name id hears [] l = refl
hears_by_name id hears (e ∷ es) l = by_first (same_socket id e.id) (hears_by_name id hears es l)
  where
    by_first : (b : Bool) → ids (one_hears id hears es) ≡ ids es → ids (if b then hears e ∷ es else e ∷ one_hears id hears es) ≡ e.id ∷ ids es
    by_first true rest = ap (λ (i : SocketId). i ∷ ids es) (l.name e)
    by_first false rest = ap (λ (is : List SocketId). e.id ∷ is) rest

hears_waiting : (at : Addr) (id : SocketId) (hears : SeenEnd → SeenEnd) (es : List SeenEnd) → Listens hears → AreWaiting at es → AreWaiting at (one_hears id hears es)
hears_waiting at id hears [] l ws = tt
hears_waiting at id hears (e ∷ es) l ws = by_first (same_socket id e.id) (hears_waiting at id hears es l ws.1)
  where
    by_first : (b : Bool) → AreWaiting at (one_hears id hears es) → AreWaiting at (if b then hears e ∷ es else e ∷ one_hears id hears es)
    by_first true rest = (record { towards = rw (l.name e) ws.0.towards; unused = l.log e ∙ ws.0.unused }, ws.1)
    by_first false rest = (ws.0, rest)

-- news of a socket, or no memory for them
pub heard_stays : (at : Addr) (made : List SocketId) (old new : List SeenEnd) (id : SocketId) (n : News) (bytes : List ℕ) (r : Result (Unit {0}) NoMemory)
    → IsSimPort at made old → OnOk r (new ≡ one_hears id (after_news n bytes) old) → OnErr r (new ≡ old) → IsSimPort at made new
heard_stays at made old new id n bytes (Ok _) p ok err =
    let l : Listens (after_news n bytes) = record { name = λ e. refl; log = λ e. refl } in
    rw ok (record {
      once = λ s. rw (hears_by_name id (after_news n bytes) old l) (p.once s);
      waits = hears_waiting at id (after_news n bytes) old l p.waits;
      home = p.home;
    })
heard_stays at made old new id n bytes (Err _) p ok err = rw err p
