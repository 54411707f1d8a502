-- That open ends have what flowed to them, after they were told.
use Rattle.std.proofs.Common.{◌≡◌, ℕ, ◌+◌, ◌-◌, ◌==◌, ◌&&◌, ◌||◌, Bool, true, false, if◌then◌else◌, List, [], ◌∷◌, ◌++◌, length, map, take, drop, Option, None, Some, suc, zero, refl, sym, ◌∙◌, ap, subst, arith, append-nil, append_assoc, length-take, length-drop}
use Rattle.std.specs.Prelude.{IfSome, MatchOption, Result, Ok, Err, OnOk}
use Rattle.std.specs.List.{list_any}
use Rattle.std.specs.Option.{option_map}
use Rattle.std.proofs.Math.Seq.{take-append-add}
use Rattle.std.proofs.lemmas.Grind.{flat_map-append}
use Rattle.std.proofs.lemmas.List.{length-take-le, map-append, take-append-drop}
use Rattle.m2_bytes.specs.declared.memory.NoMemory.{NoMemory}
use Rattle.m2_fabric.specs.End.{Inflow, SeenEnd, after_news, told}
use Rattle.m2_fabric.specs.Holder.{EndName, SeenHolder}
use Rattle.m2_fabric.specs.Log.{Log}
use Rattle.m2_fabric.specs.Sockets.{same_socket}
use Rattle.m2_fabric.specs.declared.end.News.{News}
use Rattle.m2_fabric.specs.declared.end.News.TheVariants as news
use Rattle.m2_fabric.specs.declared.socket.SocketId.{SocketId}
use Rattle.m2_fabric.specs.InStep.{AreFirst, HasFirst, HasWhatFlowed, HaveWhatFlowed, IsInStep, IsUnread, Network, SeenFabric, end_of, put_by}
use Rattle.m2_fabric.specs.Kept.{IsReadOnce, SeenPair, directions, is_kept, of_pair, of_sockets, reader, same_end, times_read, writer}
use Rattle.m2_fabric.specs.News.{AreTold, Logs, Told, all_flowed, closing_told, failing, flow_told, hears, is_about, is_closed, kept_after, logs_of, moved, only, pair_after, passed_on, progress_after, progress_by, put_of, told_by, told_of, told_to}
use Rattle.m2_fabric.specs.SimFabric.{IsPassedOn, IsTold}
use Rattle.m2_fabric.specs.declared.direction.Direction.{Direction}
use Rattle.m2_fabric.specs.declared.direction.Progress.{Progress}
use Rattle.m2_fabric.specs.declared.kept.Kept.{Kept}
use Rattle.m2_fabric.specs.declared.passing.Passing.{Passing}
use Rattle.m2_fabric.proofs.Pairs.{times-append}
use Rattle.m2_fabric.proofs.Told.{same_number}
use Rattle.m2_bytes.proofs.m2_lemmas.Booleans.{neither_of_or}
use Rattle.m2_fabric.proofs.Sockets.{same_socket_refl}

-- ---- what an end hears

abbrev pub flow_in : News → List ℕ → List ℕ
flow_in news.Flow bytes = bytes
flow_in news.Closed bytes = []
flow_in news.Ended bytes = []
flow_in news.Failed bytes = []

-- all bytes that flow to an end that is told so
abbrev pub bytes_in : List Told → List ℕ
bytes_in [] = []
bytes_in (t ∷ ts) = flow_in t.news t.bytes ++ bytes_in ts

bytes_in-append : (xs ys : List Told) → bytes_in (xs ++ ys) ≡ bytes_in xs ++ bytes_in ys
bytes_in-append [] ys = refl
bytes_in-append (x ∷ xs) ys =
    ap (λ bs. flow_in x.news x.bytes ++ bs) (bytes_in-append xs ys) ∙ sym (append_assoc (flow_in x.news x.bytes) (bytes_in xs) (bytes_in ys))

abbrev pub tells : List Told → Inflow → Inflow
tells [] i = i
tells (t ∷ ts) i = tells ts (told t.news t.bytes i)

tells_after : (n : News) (bytes : List ℕ) (i : Inflow) → (told n bytes i).readable ≡ i.readable ++ flow_in n bytes
tells_after news.Flow bytes i = refl
tells_after news.Closed bytes i = sym (append-nil i.readable)
tells_after news.Ended bytes i = sym (append-nil i.readable)
tells_after news.Failed bytes i = sym (append-nil i.readable)

pub tells_readable : (ts : List Told) (i : Inflow) → (tells ts i).readable ≡ i.readable ++ bytes_in ts
tells_readable [] i = sym (append-nil i.readable)
tells_readable (t ∷ ts) i =
    tells_readable ts (told t.news t.bytes i) ∙ ap (λ bs. bs ++ bytes_in ts) (tells_after t.news t.bytes i)
    ∙ append_assoc i.readable (flow_in t.news t.bytes) (bytes_in ts)

two_maps : (f g : Inflow → Inflow) (o : Option Inflow) → option_map g (option_map f o) ≡ option_map (λ i. g (f i)) o
two_maps f g None = refl
two_maps f g (Some i) = refl

no_map : (o : Option Inflow) → o ≡ option_map (λ i. i) o
no_map None = refl
no_map (Some i) = refl

pub hears_is : (ts : List Told) (s : SeenEnd) → hears ts s ≡ record s { inflow = option_map (tells ts) s.inflow }
hears_is [] s = ap (λ (o : Option Inflow). record s { inflow = o }) (no_map s.inflow)
hears_is (t ∷ ts) s =
    hears_is ts (after_news t.news t.bytes s)
    ∙ ap (λ (o : Option Inflow). record s { inflow = o }) (two_maps (told t.news t.bytes) (tells ts) s.inflow)

-- ---- the first bytes, and the next ones

abbrev AreNext : ℕ → List ℕ → List ℕ → Type 0
AreNext n put more = more ≡ take (length more) (drop n put)

first_more : (n : ℕ) (put part more : List ℕ) → AreFirst n put part → AreNext n put more → AreFirst (n + length more) put (part ++ more)
first_more n put part more f next =
    let m = length more in
    let long : m ≡ length (take m (drop n put)) = ap length next in
    let rest : length (drop n put) ≡ length put - n = length-drop n put in
    let first : length (take n put) ≡ n = length-take-le n put f.some in
    let whole : take (length (take n put) + m) (take n put ++ drop n put) ≡ take n put ++ take m (drop n put) = take-append-add (take n put) (drop n put) m in record {
      some = omega (arith, long, rest, length-take m (drop n put), f.some);
      same = ap (λ xs. xs ++ more) f.same ∙ ap (λ xs. take n put ++ xs) next ∙ sym whole
          ∙ ap (λ k. take (k + m) (take n put ++ drop n put)) first ∙ ap (take (n + m)) (take-append-drop n put);
    }

has_more : (n m : ℕ) (put : List ℕ) (ts : List Told) (e : SeenEnd) → HasFirst n put e → AreNext n put (bytes_in ts) → m ≡ n + length (bytes_in ts) → HasFirst m put (hears ts e)
has_more n m put ts e has next is =
    rw (hears_is ts e, is) (by_inflow e.inflow has)
  where
    by_inflow : (o : Option Inflow) → MatchOption o ⊥ (λ (i : Inflow). AreFirst n put (e.log.got ++ i.readable))
        → MatchOption (option_map (tells ts) o) ⊥ (λ (i : Inflow). AreFirst (n + length (bytes_in ts)) put (e.log.got ++ i.readable))
    by_inflow None f = f
    by_inflow (Some i) f =
        let P : List ℕ → Type 0 = λ xs. AreFirst (n + length (bytes_in ts)) put xs in
        subst P (append_assoc e.log.got i.readable (bytes_in ts) ∙ ap (λ xs. e.log.got ++ xs) (sym (tells_readable ts i))) (first_more n put (e.log.got ++ i.readable) (bytes_in ts) f next)

pub closed_stays : (ts : List Told) (e : SeenEnd) → (hears ts e).log.closed ≡ e.log.closed
closed_stays ts e = ap (λ (s : SeenEnd). s.log.closed) (hears_is ts e)

pub put_stays : (ts : List Told) (o : Option SeenEnd) → put_by (option_map (hears ts) o) ≡ put_by o
put_stays ts None = refl
put_stays ts (Some e) = ap (λ (s : SeenEnd). s.log.put) (hears_is ts e)

open_has : (n m : ℕ) (put : List ℕ) (ts : List Told) (o : Option SeenEnd) → IfSome o (λ (e : SeenEnd). e.log.closed ≡ false → HasFirst n put e)
    → AreNext n put (bytes_in ts) → m ≡ n + length (bytes_in ts) → IfSome (option_map (hears ts) o) (λ (e : SeenEnd). e.log.closed ≡ false → HasFirst m put e)
open_has n m put ts None has next is = tt
open_has n m put ts (Some e) has next is = λ opened. has_more n m put ts e (has (sym (closed_stays ts e) ∙ opened)) next is

-- one direction, whose reader is told some bytes that follow
direction_has : (f : EndName → List Told) (a b : SeenHolder) (d : Direction) (p : Progress) → AreTold f a b → HasWhatFlowed a d
    → AreNext d.progress.flowed (put_by (end_of a (writer d))) (bytes_in (f (reader d))) → p.flowed ≡ d.progress.flowed + length (bytes_in (f (reader d)))
    → HasWhatFlowed b (record d { progress = p })
direction_has f a b d p t has next is =
    let w = writer d in
    let put : put_by (end_of b w) ≡ put_by (end_of a w) = ap put_by (t.ends w) ∙ put_stays (f w) (end_of a w) in
    rw (t.ends (reader d), put) (open_has d.progress.flowed p.flowed (put_by (end_of a w)) (f (reader d)) (end_of a (reader d)) has next is)

-- ---- what one direction passes on follows what flowed

take_again : (k : ℕ) (xs : List ℕ) → take k xs ≡ take (length (take k xs)) xs
take_again zero xs = refl
take_again (suc k) [] = refl
take_again (suc k) (x ∷ xs) = ap (λ ys. x ∷ ys) (take_again k xs)

none_moved : (most n : ℕ) → moved most n [] ≡ []
none_moved zero n = refl
none_moved (suc most) zero = refl
none_moved (suc most) (suc n) = refl

moved_follows : (most n : ℕ) (waits : Bool) (o : Option SeenEnd)
    → AreNext n (put_by o) (moved most n (put_of (option_map (λ (s : SeenEnd). s.log) (if waits then None else o))))
moved_follows most n true o = rw (none_moved most n) refl
moved_follows most n false None = take_again most (drop n [])
moved_follows most n false (Some e) = take_again most (drop n e.log.put)

bytes_flowing : (bytes : List ℕ) → bytes_in (flow_told bytes) ≡ bytes
bytes_flowing [] = refl
bytes_flowing (b ∷ bs) = append-nil (b ∷ bs)

bytes_closing : (closed all : Bool) → bytes_in (closing_told closed all) ≡ []
bytes_closing false all = refl
bytes_closing true false = refl
bytes_closing true true = refl

bytes_of_told : (most : ℕ) (p : Progress) (log : Option Log) → bytes_in (told_of most p log) ≡ moved most p.flowed (put_of log)
bytes_of_told most p log =
    let bytes = moved most p.flowed (put_of log) in
    let closed = is_closed log in
    let all = all_flowed (p.flowed + length bytes) (put_of log) in
    bytes_in-append (flow_told bytes) (closing_told closed all) ∙ ap (λ bs. bs ++ bytes_in (closing_told closed all)) (bytes_flowing bytes)
    ∙ ap (λ bs. bytes ++ bs) (bytes_closing closed all) ∙ append-nil bytes

-- what is told follows what flowed, and is counted
record Counts (d : Direction) (put : List ℕ) (ts : List Told) (p : Progress) : Type 0 where
  pub next : AreNext d.progress.flowed put (bytes_in ts)
  pub counted : p.flowed ≡ d.progress.flowed + length (bytes_in ts)

counts_none : (d : Direction) (put : List ℕ) (p : Progress) → p.flowed ≡ d.progress.flowed → Counts d put [] p
counts_none d put p same = record { next = refl; counted = omega (arith, same) }

passing_counts : (what : Passing) (h : SeenHolder) (d : Direction)
    → Counts d (put_by (end_of h (writer d))) (told_by what (logs_of h) d) (progress_by what (logs_of h) d)
passing_counts what h d = by_about (is_about what d)
  where
    l : Logs
    l = logs_of h

    put : List ℕ
    put = put_by (end_of h (writer d))

    told_all : Counts d put (told_of what.most d.progress (l (writer d))) (record d.progress { flowed = d.progress.flowed + length (moved what.most d.progress.flowed (put_of (l (writer d)))) })
    told_all =
        let bytes = bytes_of_told what.most d.progress (l (writer d)) in
        let w = writer d in
        let follows : AreNext d.progress.flowed put (moved what.most d.progress.flowed (put_of (l w))) = moved_follows what.most d.progress.flowed (h.waits w.node w.id) (end_of h w) in record {
          next = rw bytes follows;
          counted = rw bytes refl;
        }

    by_closed : (over closed : Bool) → Counts d put (if over || closed then [] else told_of what.most d.progress (l (writer d)))
        (if over then d.progress else if closed then record d.progress { over = true }
        else record d.progress { flowed = d.progress.flowed + length (moved what.most d.progress.flowed (put_of (l (writer d)))) })
    by_closed true closed = counts_none d put d.progress refl
    by_closed false true = counts_none d put (record d.progress { over = true }) refl
    by_closed false false = told_all

    by_about : (about : Bool) → Counts d put (if about then passed_on what.most l d else []) (if about then progress_after what.most l d else d.progress)
    by_about false = counts_none d put d.progress refl
    by_about true = by_closed d.progress.over (is_closed (l (reader d)))

-- ---- no other direction leads to the same end

pub unread_is_untold : (what : Passing) (l : Logs) (ds : List Direction) (e : EndName) → times_read e ds ≡ 0 → told_to what l ds e ≡ []
unread_is_untold what l [] e none = refl
unread_is_untold what l (d ∷ ds) e none = by_name (same_end (reader d) e) none (unread_is_untold what l ds e)
  where
    by_name : (b : Bool) → (if b then 1 else 0) + times_read e ds ≡ 0 → (times_read e ds ≡ 0 → told_to what l ds e ≡ [])
        → (if b then told_by what l d else []) ++ told_to what l ds e ≡ []
    by_name true none rest = absurd (omega (arith, none))
    by_name false none rest = rest (omega (arith, none))

pub end_refl : (e : EndName) → same_end e e ≡ true
end_refl e = rw (same_number e.node, same_socket_refl e.id) refl

told_alone : (what : Passing) (l : Logs) (pre : List Direction) (d : Direction) (ds : List Direction) → IsReadOnce (pre ++ d ∷ ds)
    → told_to what l (pre ++ d ∷ ds) (reader d) ≡ told_by what l d
told_alone what l pre d ds once =
    let e = reader d in
    let parts = times-append e pre (d ∷ ds) in
    let one : times_read e (d ∷ ds) ≡ 1 + times_read e ds = rw (end_refl e) refl in
    let before : told_to what l pre e ≡ [] = unread_is_untold what l pre e (omega (arith, parts, one, once e)) in
    let after : told_to what l ds e ≡ [] = unread_is_untold what l ds e (omega (arith, parts, one, once e)) in
    let here : told_to what l (d ∷ ds) e ≡ told_by what l d ++ told_to what l ds e = rw (end_refl e) refl in
    flat_map-append (λ (x : Direction). if same_end (reader x) e then told_by what l x else []) pre (d ∷ ds)
    ∙ ap (λ ts. ts ++ told_to what l (d ∷ ds) e) before ∙ here ∙ ap (λ ts. told_by what l d ++ ts) after ∙ append-nil (told_by what l d)

abbrev pub after_by : Passing → Logs → Direction → Direction
after_by what l d = record d { progress = progress_by what l d }

all_have : (what : Passing) (a b : SeenHolder) (pre ds : List Direction) → IsReadOnce (pre ++ ds) → AreTold (told_to what (logs_of a) (pre ++ ds)) a b
    → HaveWhatFlowed a ds → HaveWhatFlowed b (map (after_by what (logs_of a)) ds)
all_have what a b pre [] once t have = tt
all_have what a b pre (d ∷ ds) once t have =
    let l = logs_of a in
    let alone = told_alone what l pre d ds once in
    let counts = passing_counts what a d in
    let shift : (pre ++ d ∷ []) ++ ds ≡ pre ++ d ∷ ds = append_assoc pre (d ∷ []) ds in (
      direction_has (told_to what l (pre ++ d ∷ ds)) a b d (progress_by what l d) t have.0 (rw alone counts.next) (rw alone counts.counted),
      all_have what a b (pre ++ d ∷ []) ds (rw shift once) (rw shift t) have.1,
    )

-- ---- the directions after a call

sockets_after : (what : Passing) (l : Logs) (a b : ℕ) (ks : List Kept) → of_sockets a b (map (kept_after what l a b) ks) ≡ map (after_by what l) (of_sockets a b ks)
sockets_after what l a b [] = refl
sockets_after what l a b (k ∷ ks) =
    ap (λ (ds : List Direction). record { from = a; to = b; id = k.id; progress = (kept_after what l a b k).there } ∷ record { from = b; to = a; id = k.id; progress = (kept_after what l a b k).back } ∷ ds) (sockets_after what l a b ks)

pub directions_after : (what : Passing) (l : Logs) (ps : List SeenPair) → directions (map (pair_after what l) ps) ≡ map (after_by what l) (directions ps)
directions_after what l [] = refl
directions_after what l (p ∷ ps) =
    ap (λ (ds : List Direction). ds ++ directions (map (pair_after what l) ps)) (sockets_after what l p.first p.second p.sockets)
    ∙ ap (λ (ds : List Direction). map (after_by what l) (of_pair p) ++ ds) (directions_after what l ps)
    ∙ sym (map-append (after_by what l) (of_pair p) (directions ps))

has_after : (what : Passing) (l : Logs) (a b : ℕ) (id : SocketId) (ks : List Kept)
    → list_any (λ (k : Kept). same_socket k.id id) (map (kept_after what l a b) ks) ≡ list_any (λ (k : Kept). same_socket k.id id) ks
has_after what l a b id [] = refl
has_after what l a b id (k ∷ ks) = ap (λ (r : Bool). same_socket k.id id || r) (has_after what l a b id ks)

kept_same : (what : Passing) (l : Logs) (id : SocketId) (ps : List SeenPair) → is_kept id (map (pair_after what l) ps) ≡ is_kept id ps
kept_same what l id [] = refl
kept_same what l id (p ∷ ps) =
    ap (λ (r : Bool). r || is_kept id (map (pair_after what l) ps)) (has_after what l p.first p.second id p.sockets)
    ∙ ap (λ (r : Bool). list_any (λ (k : Kept). same_socket k.id id) p.sockets || r) (kept_same what l id ps)

-- ---- ends of other sockets

unlike : (a b : Bool) → b ≡ false → (a && b) ≡ false
unlike true b h = h
unlike false b h = refl

none_of_sockets : (a b : ℕ) (e : EndName) (ks : List Kept) → list_any (λ (k : Kept). same_socket k.id e.id) ks ≡ false → times_read e (of_sockets a b ks) ≡ 0
none_of_sockets a b e [] h = refl
none_of_sockets a b e (k ∷ ks) h =
    let both = neither_of_or (same_socket k.id e.id) (list_any (λ (k : Kept). same_socket k.id e.id) ks) h in
    let rest = none_of_sockets a b e ks both.1 in
    rw (unlike (b == e.node) (same_socket k.id e.id) both.0, unlike (a == e.node) (same_socket k.id e.id) both.0) (omega (arith, rest))

pub unkept_is_unread : (e : EndName) (ps : List SeenPair) → is_kept e.id ps ≡ false → times_read e (directions ps) ≡ 0
unkept_is_unread e [] h = refl
unkept_is_unread e (p ∷ ps) h =
    let both = neither_of_or (list_any (λ (k : Kept). same_socket k.id e.id) p.sockets) (is_kept e.id ps) h in
    omega (arith, times-append e (of_pair p) (directions ps), none_of_sockets p.first p.second e p.sockets both.0, unkept_is_unread e ps both.1)

unread_hears : (ts : List Told) (o : Option SeenEnd) → bytes_in ts ≡ [] → IfSome o IsUnread → IfSome (option_map (hears ts) o) IsUnread
unread_hears ts None none u = tt
unread_hears ts (Some e) none u = rw (hears_is ts e) (record { got = u.got; readable = by_inflow e.inflow u.readable })
  where
    by_inflow : (i : Option Inflow) → MatchOption i ⊥ (λ (i : Inflow). i.readable ≡ []) → MatchOption (option_map (tells ts) i) ⊥ (λ (i : Inflow). i.readable ≡ [])
    by_inflow None r = r
    by_inflow (Some i) r = tells_readable ts i ∙ ap (λ bs. i.readable ++ bs) none ∙ append-nil i.readable ∙ r

-- ---- all of it

pub passed_in_step : (what : Passing) (old new : Network) → IsReadOnce (directions old.fabric.pairs) → IsInStep old → IsPassedOn what old new → IsInStep new
passed_in_step what old new once s p = record {
  nodes = p.told.nodes ∙ s.nodes ∙ sym (ap length p.nodes);
  kept = rw (p.pairs, directions_after what l old.fabric.pairs) (all_have what old.holder new.holder [] (directions old.fabric.pairs) once p.told s.kept);
  others = λ e unkept. other e (sym (kept_same what l e.id old.fabric.pairs) ∙ sym (ap (is_kept e.id) p.pairs) ∙ unkept);
}
  where
    l : Logs
    l = logs_of old.holder

    other : (e : EndName) → is_kept e.id old.fabric.pairs ≡ false → IfSome (end_of new.holder e) IsUnread
    other e unkept =
        let untold = unread_is_untold what l (directions old.fabric.pairs) e (unkept_is_unread e old.fabric.pairs unkept) in
        let heard = unread_hears (told_to what l (directions old.fabric.pairs) e) (end_of old.holder e) (ap bytes_in untold) (s.others e unkept) in
        rw (p.told.ends e) heard

-- news without bytes
quiet_have : (f : EndName → List Told) (a b : SeenHolder) (ds : List Direction) → ((e : EndName) → bytes_in (f e) ≡ []) → AreTold f a b
    → HaveWhatFlowed a ds → HaveWhatFlowed b ds
quiet_have f a b [] quiet t have = tt
quiet_have f a b (d ∷ ds) quiet t have =
    let none = quiet (reader d) in
    let more : d.progress.flowed ≡ d.progress.flowed + length (bytes_in (f (reader d))) = rw none (omega arith) in
    (direction_has f a b d d.progress t have.0 (rw none refl) more, quiet_have f a b ds quiet t have.1)

pub told_in_step : (f : EndName → List Told) (old new : Network) → ((e : EndName) → bytes_in (f e) ≡ []) → IsInStep old → IsTold f old new → IsInStep new
told_in_step f old new quiet s t = record {
  nodes = rw (t.fabric) (t.told.nodes ∙ s.nodes);
  kept = rw (t.fabric) (quiet_have f old.holder new.holder (directions old.fabric.pairs) quiet t.told s.kept);
  others = rw (t.fabric) (λ e unkept. rw (t.told.ends e) (unread_hears (f e) (end_of old.holder e) (quiet e) (s.others e unkept)));
}

-- ---- by what a call answered

pub passing_stays_in_step : (r : Result (Unit {0}) NoMemory) (what : Passing) (f : SeenFabric) (qs : List SeenPair) (a b : SeenHolder) → IsReadOnce (directions f.pairs)
    → IsInStep (record { fabric = f; holder = a }) → OnOk r (qs ≡ map (pair_after what (logs_of a)) f.pairs) → OnOk r (AreTold (told_to what (logs_of a) (directions f.pairs)) a b)
    → OnOk r (IsInStep (record { fabric = record f { pairs = qs }; holder = b }))
passing_stays_in_step (Ok _) what f qs a b once s pairs told =
    passed_in_step what (record { fabric = f; holder = a }) (record { fabric = record f { pairs = qs }; holder = b }) once s (record { told = told; pairs = pairs; nodes = refl; looked = refl })
passing_stays_in_step (Err _) what f qs a b once s pairs told = tt

pub failing_is_quiet : (node : ℕ) (l : Logs) (id : SocketId) (e : EndName) → bytes_in (failing node l id e) ≡ []
failing_is_quiet node l id e = by_closed (is_closed (l (record { node = node; id = id })))
  where
    fails : List Told
    fails = record { news = news.Failed; bytes = [] } ∷ []

    none : EndName → List Told
    none e = []

    by_name : (same : Bool) → bytes_in (if same then fails else []) ≡ []
    by_name true = refl
    by_name false = refl

    by_closed : (closed : Bool) → bytes_in (if◌then◌else◌ {A = EndName → List Told} closed none (only (record { node = node; id = id }) fails) e) ≡ []
    by_closed true = refl
    by_closed false = by_name (same_end (record { node = node; id = id }) e)

pub failing_stays_in_step : (r : Result (Unit {0}) NoMemory) (f : SeenFabric) (node : ℕ) (id : SocketId) (a b : SeenHolder) → IsInStep (record { fabric = f; holder = a })
    → OnOk r (AreTold (failing node (logs_of a) id) a b) → OnOk r (IsInStep (record { fabric = f; holder = b }))
failing_stays_in_step (Ok _) f node id a b s told =
    told_in_step (failing node (logs_of a) id) (record { fabric = f; holder = a }) (record { fabric = f; holder = b }) (failing_is_quiet node (logs_of a) id) s (record { told = told; fabric = refl })
failing_stays_in_step (Err _) f node id a b s told = tt
