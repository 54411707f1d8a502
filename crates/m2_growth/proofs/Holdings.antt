-- What becomes of a holding where a half moves on, is over or is taken, and where a record judges its ask.
use Rattle.std.proofs.Common.{◌≡◌, ◌⊎◌, inl, inr, true, false, List, [], ◌∷◌, ◌++◌, map, Option, Some, None, refl, sym, ap, subst, ◌∙◌, append-nil, append_assoc}
use Rattle.std.specs.List.{AllByRecursion}
use Rattle.m2_fabric.specs.m2_addr.declared.addr.Addr.{Addr}
use Rattle.m2_fabric.specs.declared.socket.SocketId.{SocketId}
use Rattle.m2_fabric.specs.End.{SeenEnd}
use Rattle.m2_fabric.specs.Port.{SeenPort}
use Rattle.m2_fabric.specs.Sockets.{goes_to, is_among}
use Rattle.m2_weave.specs.m2_journal.SideFacts.{SideFacts}
use Rattle.m2_turn.specs.m2_record.RecordNow.{RecordNow}
use Rattle.m2_turn.specs.m2_record.Sources.{end_at}
use Rattle.m2_turn.specs.Halves.{AllHalves, halves_of}
use Rattle.m2_turn.specs.Hearing.{ends_in}
use Rattle.m2_turn.specs.Sessions.{PendingNow, peer_of}
use Rattle.m2_bytes_fit.specs.m2_trail.Arrivals.{LooseNow, left_of}
use Rattle.m2_growth.specs.Ends.{BringNone, EndGrows, EndGrowsTo, EndsGrow}
use Rattle.m2_growth.specs.Halves.{AreAskedByPeers, HalvesStay, HasItsHalves, IsHeardBy, IsLeft, IsOneOf, IsTakenBy, TrailGrows, all_left, sockets_left, sockets_taken}
use Rattle.m2_growth.specs.Holding.{AreOwn, Grows, HaveTheirHalves, Holding, all_ends, ends_held, waiting_at}
use Rattle.m2_growth.specs.Records.{IsFed, RecordsGrow, ends_of_all}
use Rattle.m2_growth.proofs.Among.{among_back, among_mapped, each_by, in_part, mid_here, mid_in, mid_other, mid_out, mid_split, of_each, one_back, one_front, whose}
use Rattle.m2_growth.proofs.Asked.{asked_same}
use Rattle.m2_growth.proofs.Ends.{AreLater, end_append, first_of, later_before, later_behind, later_chain, later_one, later_same, later_swapped, made_later, to_same}
use Rattle.m2_growth.proofs.Going.{records_same, trail_same}
use Rattle.m2_growth.proofs.OneRecord.{holding}
use Rattle.m2_fabric.proofs.m2_lemmas.Lists.{all_so}
use Rattle.m2_fabric.proofs.Sockets.{among_front, among_part}

-- ---- records

-- what is known of records by what never changes of them
pub by_facts : (P : SideFacts → Type 0) (rs ss : List RecordNow) → RecordsGrow rs ss → AllByRecursion (λ (r : RecordNow). P r.core.facts) rs → AllByRecursion (λ (r : RecordNow). P r.core.facts) ss
by_facts P [] [] grow all = tt
by_facts P [] (s ∷ ss) grow all = absurd grow
by_facts P (r ∷ rs) [] grow all = absurd grow
by_facts P (r ∷ rs) (s ∷ ss) grow all = (subst P (sym grow.0.facts) all.0, by_facts P rs ss grow.1 all.1)

pub peers_same : (rs ss : List RecordNow) → RecordsGrow rs ss → map peer_of ss ≡ map peer_of rs
peers_same [] [] grow = refl
peers_same [] (s ∷ ss) grow = absurd grow
peers_same (r ∷ rs) [] grow = absurd grow
peers_same (r ∷ rs) (s ∷ ss) grow =
    let here : peer_of s ≡ peer_of r = ap (λ (f : SideFacts). f.peer) grow.0.facts in
    ap (λ l. peer_of s ∷ l) (peers_same rs ss grow.1) ∙ ap (λ p. p ∷ map peer_of rs) here

-- ---- a holding at the same port

-- a half is on the socket of its end
abbrev pub IsOnSocket : LooseNow → Type 0
IsOnSocket l = l.trail.socket ≡ l.end.id

-- and that socket goes there
abbrev pub IsHere : Addr → LooseNow → Type 0
IsHere at l = goes_to at l.end.id ≡ true

pub record Parts (port : SeenPort) (rs ss : List RecordNow) (h g : AllHalves) : Type 0 where
  pub records : RecordsGrow rs ss
  pub fed : AllByRecursion IsFed ss
  pub halves : HalvesStay h g ss
  pub ends : AreLater (ends_held (holding port rs h)) (ends_held (holding port ss g))
  pub on : AllByRecursion IsOnSocket (all_left g)
  pub here : AllByRecursion (IsHere port.at) (all_left g)
  pub asked : (now : List SeenEnd) → EndsGrow (all_ends (holding port rs h)) now → AreAskedByPeers (all_ends (holding port rs h)) now rs ss
  pub judged : HaveTheirHalves (holding port rs h) → HaveTheirHalves (holding port ss g)

-- what stands behind ends doesn't matter to them
grow_before : (xs ys zs : List SeenEnd) → EndsGrow xs ys → BringNone xs ys → EndsGrow (xs ++ zs) (ys ++ zs)
grow_before xs ys zs grow none k =
    subst (λ o. EndGrowsTo o (end_at (ys ++ zs) k)) (sym (end_append xs zs k))
    (subst (EndGrowsTo (first_of (end_at xs k) (end_at zs k))) (sym (end_append ys zs k))
    (at (end_at xs k) (end_at ys k) (end_at zs k) (grow k) (none k)))
  where
    at : (p q o : Option SeenEnd) → EndGrowsTo p q → (p ≡ None → q ≡ None) → EndGrowsTo (first_of p o) (first_of q o)
    at (Some e) (Some f) o g n = g
    at (Some e) None o g n = absurd g
    at None q o g n = subst (λ x. EndGrowsTo o (first_of x o)) (sym (n refl)) (to_same o)

pub parts_grow : (port : SeenPort) (rs ss : List RecordNow) (h g : AllHalves) → AreOwn (holding port rs h) → Parts port rs ss h g → Grows (holding port rs h) (holding port ss g)
parts_grow port rs ss h g own p =
    let still = p.ends own.held in
    let grow = grow_before (ends_held (holding port rs h)) (ends_held (holding port ss g)) (waiting_at port) still.grow still.none in
    record {
      grows = record {
        at = refl;
        made = ([], sym (append-nil port.made));
        records = p.records;
        halves = p.halves;
        ends = grow;
        asked = p.asked (all_ends (holding port ss g)) grow;
      };
      own = record {
        held = still.own;
        made = made_later port.made (ends_held (holding port rs h)) (ends_held (holding port ss g)) still.none own.made;
        waiting = own.waiting;
        to_come = own.to_come;
        elsewhere = by_facts (λ f. (k : SocketId) → goes_to f.peer k ≡ true → goes_to port.at k ≡ false) rs ss p.records own.elsewhere;
        fed = p.fed;
        on_socket = p.on;
        here = p.here;
      };
      judged = p.judged;
    }

-- ---- the halves beside one

pub record Around : Type 0 where
  pub port : SeenPort
  pub before : List PendingNow
  pub behind : List PendingNow
  pub loose : List LooseNow

abbrev pub halves_with : Around → PendingNow → AllHalves
halves_with c p = halves_of (c.before ++ p ∷ c.behind) c.loose

abbrev pub halves_without : Around → AllHalves
halves_without c = halves_of (c.before ++ c.behind) c.loose

abbrev pub halves_over : Around → LooseNow → AllHalves
halves_over c l = halves_of (c.before ++ c.behind) (c.loose ++ l ∷ [])

abbrev pub held_with : Around → List RecordNow → PendingNow → Holding
held_with c rs p = holding c.port rs (halves_with c p)

abbrev pub held_without : Around → List RecordNow → Holding
held_without c rs = holding c.port rs (halves_without c)

abbrev pub held_over : Around → List RecordNow → LooseNow → Holding
held_over c rs l = holding c.port rs (halves_over c l)

abbrev pub left : PendingNow → LooseNow
left p = left_of p.half

abbrev pub end_of : PendingNow → SeenEnd
end_of p = p.half.end

abbrev pub loose_end : LooseNow → SeenEnd
loose_end l = l.end

abbrev pub socket_of : LooseNow → SocketId
socket_of l = l.trail.socket

-- one of them is this half, or one of the others
pub whose_left : (c : Around) (p : PendingNow) (l : LooseNow) → IsOneOf l (all_left (halves_with c p)) → (l ≡ left p) ⊎ IsOneOf l (all_left (halves_without c))
whose_left c p l i = at (in_part l (map left (c.before ++ p ∷ c.behind)) c.loose i)
  where
    of_part : (l ≡ left p) ⊎ IsOneOf l (map left (c.before ++ c.behind)) → (l ≡ left p) ⊎ IsOneOf l (all_left (halves_without c))
    of_part (inl e) = inl e
    of_part (inr j) = inr (one_front l (map left (c.before ++ c.behind)) c.loose j)

    at : IsOneOf l (map left (c.before ++ p ∷ c.behind)) ⊎ IsOneOf l c.loose → (l ≡ left p) ⊎ IsOneOf l (all_left (halves_without c))
    at (inl j) = of_part (mid_split left p l c.before c.behind j)
    at (inr j) = inr (one_back l (map left (c.before ++ c.behind)) c.loose j)

pub this_left : (c : Around) (p : PendingNow) → IsOneOf (left p) (all_left (halves_with c p))
this_left c p = one_front (left p) (map left (c.before ++ p ∷ c.behind)) c.loose (mid_here left p c.before c.behind)

pub other_left : (c : Around) (p : PendingNow) (l : LooseNow) → IsOneOf l (all_left (halves_without c)) → IsOneOf l (all_left (halves_with c p))
other_left c p l i = at (in_part l (map left (c.before ++ c.behind)) c.loose i)
  where
    at : IsOneOf l (map left (c.before ++ c.behind)) ⊎ IsOneOf l c.loose → IsOneOf l (all_left (halves_with c p))
    at (inl j) = one_front l (map left (c.before ++ p ∷ c.behind)) c.loose (mid_other left p l c.before c.behind j)
    at (inr j) = one_back l (map left (c.before ++ p ∷ c.behind)) c.loose j

over_other : (c : Around) (l x : LooseNow) → IsOneOf x (all_left (halves_without c)) → IsOneOf x (all_left (halves_over c l))
over_other c l x i = at (in_part x (map left (c.before ++ c.behind)) c.loose i)
  where
    at : IsOneOf x (map left (c.before ++ c.behind)) ⊎ IsOneOf x c.loose → IsOneOf x (all_left (halves_over c l))
    at (inl j) = one_front x (map left (c.before ++ c.behind)) (c.loose ++ l ∷ []) j
    at (inr j) = one_back x (map left (c.before ++ c.behind)) (c.loose ++ l ∷ []) (one_front x c.loose (l ∷ []) j)

over_this : (c : Around) (l : LooseNow) → IsOneOf l (all_left (halves_over c l))
over_this c l = one_back l (map left (c.before ++ c.behind)) (c.loose ++ l ∷ []) (one_back l c.loose (l ∷ []) (inl refl))

whose_over : (c : Around) (l x : LooseNow) → IsOneOf x (all_left (halves_over c l)) → (x ≡ l) ⊎ IsOneOf x (all_left (halves_without c))
whose_over c l x i = at (in_part x (map left (c.before ++ c.behind)) (c.loose ++ l ∷ []) i)
  where
    last : IsOneOf x c.loose ⊎ IsOneOf x (l ∷ []) → (x ≡ l) ⊎ IsOneOf x (all_left (halves_without c))
    last (inl j) = inr (one_back x (map left (c.before ++ c.behind)) c.loose j)
    last (inr (inl e)) = inl e
    last (inr (inr j)) = absurd j

    at : IsOneOf x (map left (c.before ++ c.behind)) ⊎ IsOneOf x (c.loose ++ l ∷ []) → (x ≡ l) ⊎ IsOneOf x (all_left (halves_without c))
    at (inl j) = inr (one_front x (map left (c.before ++ c.behind)) c.loose j)
    at (inr j) = last (in_part x c.loose (l ∷ []) j)

-- ---- their ends

ends_change : (p q : PendingNow) (xs ys : List PendingNow) → EndGrows p.half.end q.half.end → AreLater (map end_of (xs ++ p ∷ ys)) (map end_of (xs ++ q ∷ ys))
ends_change p q [] ys h = later_before (p.half.end ∷ []) (q.half.end ∷ []) (map end_of ys) (later_one p.half.end q.half.end h)
ends_change p q (x ∷ xs) ys h = later_behind (x.half.end ∷ []) (map end_of (xs ++ p ∷ ys)) (map end_of (xs ++ q ∷ ys)) (ends_change p q xs ys h)

-- the end of one of them stands before all others
pub end_first : (p : PendingNow) (xs ys : List PendingNow) → AreLater (map end_of (xs ++ p ∷ ys)) (p.half.end ∷ map end_of (xs ++ ys))
end_first p [] ys = later_same (p.half.end ∷ map end_of ys)
end_first p (x ∷ xs) ys =
    later_chain (x.half.end ∷ map end_of (xs ++ p ∷ ys)) (x.half.end ∷ p.half.end ∷ map end_of (xs ++ ys)) (p.half.end ∷ x.half.end ∷ map end_of (xs ++ ys))
    (later_behind (x.half.end ∷ []) (map end_of (xs ++ p ∷ ys)) (p.half.end ∷ map end_of (xs ++ ys)) (end_first p xs ys))
    (later_before (x.half.end ∷ p.half.end ∷ []) (p.half.end ∷ x.half.end ∷ []) (map end_of (xs ++ ys)) (later_swapped (x.half.end ∷ []) (p.half.end ∷ [])))

pub ends_last : (ls : List LooseNow) (l : LooseNow) → map loose_end (ls ++ l ∷ []) ≡ map loose_end ls ++ l.end ∷ []
ends_last [] l = refl
ends_last (x ∷ xs) l = ap (λ es. x.end ∷ es) (ends_last xs l)

-- and goes behind all, where the half is over
end_over : (p : PendingNow) (l : LooseNow) (xs ys : List PendingNow) (ls : List LooseNow) → EndGrows p.half.end l.end →
    AreLater (map end_of (xs ++ p ∷ ys) ++ map loose_end ls) (map end_of (xs ++ ys) ++ map loose_end (ls ++ l ∷ []))
end_over p l xs ys ls h =
    let others = map end_of (xs ++ ys) in
    let over = map loose_end ls in
    later_chain (map end_of (xs ++ p ∷ ys) ++ over) ((p.half.end ∷ others) ++ over) (others ++ map loose_end (ls ++ l ∷ []))
    (later_before (map end_of (xs ++ p ∷ ys)) (p.half.end ∷ others) over (end_first p xs ys))
    (later_chain (p.half.end ∷ (others ++ over)) (l.end ∷ (others ++ over)) (others ++ map loose_end (ls ++ l ∷ []))
    (later_before (p.half.end ∷ []) (l.end ∷ []) (others ++ over) (later_one p.half.end l.end h))
    (subst (AreLater (l.end ∷ (others ++ over))) (append_assoc others over (l.end ∷ []) ∙ ap (λ es. others ++ es) (sym (ends_last ls l)))
    (later_swapped (l.end ∷ []) (others ++ over))))

-- ---- the asks that records have judged

-- all_so half is there still
abbrev pub AllLeft : AllHalves → AllHalves → Type 0
AllLeft h g = (l : LooseNow) → IsOneOf l (all_left h) → IsLeft g l.trail

left_among : (h g : AllHalves) → AllLeft h g → (k : SocketId) → is_among k (sockets_left (all_left h)) ≡ true → is_among k (sockets_left (all_left g)) ≡ true
left_among h g stay k e =
    let found = whose socket_of k (all_left h) e in
    let there = stay found.item found.there in
    among_mapped socket_of there.half k (all_left g) there.there (found.is ∙ sym there.grows.socket)

among_either : (k : SocketId) (xs ys zs : List SocketId) → (is_among k ys ≡ true → is_among k (xs ++ zs) ≡ true) → is_among k (xs ++ ys) ≡ true → is_among k (xs ++ zs) ≡ true
among_either k xs ys zs f e = at (among_part k xs ys e)
  where
    at : (is_among k xs ≡ true) ⊎ (is_among k ys ≡ true) → is_among k (xs ++ zs) ≡ true
    at (inl h) = among_front k xs zs h
    at (inr h) = f h

pub still_has : (h g : AllHalves) → AllLeft h g → (r : RecordNow) → HasItsHalves (all_left h) r → HasItsHalves (all_left g) r
still_has h g stay r has k asked =
    among_either k (sockets_taken r) (sockets_left (all_left h)) (sockets_left (all_left g))
    (λ e. among_back k (sockets_taken r) (sockets_left (all_left g)) (left_among h g stay k e)) (has k asked)

pub stay_left : (rs : List RecordNow) (h g : AllHalves) → AllLeft h g → HalvesStay h g rs
stay_left rs h g stay = each_by (λ (l : LooseNow). IsLeft g l.trail ⊎ IsTakenBy rs l.trail) (all_left h) (λ l i. inl (stay l i))

-- ---- a half changes

-- its end and its trail go on, and none but the record of its asker has judged its asks
pub record HalfGrows (rs : List RecordNow) (p q : PendingNow) : Type 0 where
  pub end : EndGrows p.half.end q.half.end
  pub trail : TrailGrows p.half.trail q.half.trail
  pub heard : IsHeardBy rs p → IsHeardBy rs q

changed_left : (c : Around) (p q : PendingNow) → TrailGrows p.half.trail q.half.trail → AllLeft (halves_with c p) (halves_with c q)
changed_left c p q trail l i = at (whose_left c p l i)
  where
    at : (l ≡ left p) ⊎ IsOneOf l (all_left (halves_without c)) → IsLeft (halves_with c q) l.trail
    at (inl e) = record { half = left q; there = this_left c q; grows = subst (λ (x : LooseNow). TrailGrows x.trail q.half.trail) (sym e) trail }
    at (inr j) = record { half = l; there = other_left c q l j; grows = trail_same l.trail }

-- what is known of all is known of all_so of the others
pub of_others : (P : LooseNow → Type 0) (c : Around) (p : PendingNow) → AllByRecursion P (all_left (halves_with c p)) → (l : LooseNow) → IsOneOf l (all_left (halves_without c)) → P l
of_others P c p all l i = of_each P l (all_left (halves_with c p)) all (other_left c p l i)

-- and of this one
pub of_this : (P : LooseNow → Type 0) (c : Around) (p : PendingNow) → AllByRecursion P (all_left (halves_with c p)) → P (left p)
of_this P c p all = of_each P (left p) (all_left (halves_with c p)) all (this_left c p)

-- the others are on the sockets of their ends
pub others_on : (c : Around) (p : PendingNow) → AllByRecursion IsOnSocket (all_left (halves_with c p)) → (l : LooseNow) → IsOneOf l (all_left (halves_without c)) → IsOnSocket l
others_on c p on l i = of_each IsOnSocket l (all_left (halves_with c p)) on (other_left c p l i)

pub this_on : (c : Around) (p : PendingNow) → AllByRecursion IsOnSocket (all_left (halves_with c p)) → p.half.trail.socket ≡ p.half.end.id
this_on c p on = of_each IsOnSocket (left p) (all_left (halves_with c p)) on (this_left c p)

changed_all : (P : LooseNow → Type 0) (c : Around) (p q : PendingNow) → AllByRecursion P (all_left (halves_with c p)) → P (left q) → AllByRecursion P (all_left (halves_with c q))
changed_all P c p q all this = each_by P (all_left (halves_with c q)) (λ l i. at l (whose_left c q l i))
  where
    at : (l : LooseNow) → (l ≡ left q) ⊎ IsOneOf l (all_left (halves_without c)) → P l
    at l (inl e) = subst P (sym e) this
    at l (inr j) = of_others P c p all l j

pub half_changes : (c : Around) (rs : List RecordNow) (p q : PendingNow) → AreOwn (held_with c rs p) → HalfGrows rs p q → Grows (held_with c rs p) (held_with c rs q)
half_changes c rs p q own g =
    let stay = changed_left c p q g.trail in
    parts_grow c.port rs rs (halves_with c p) (halves_with c q) own
    (record {
      records = records_same rs;
      fed = own.fed;
      halves = stay_left rs (halves_with c p) (halves_with c q) stay;
      ends = later_behind (ends_of_all rs) (ends_in (halves_with c p)) (ends_in (halves_with c q))
          (later_before (map end_of (c.before ++ p ∷ c.behind)) (map end_of (c.before ++ q ∷ c.behind)) (map loose_end c.loose) (ends_change p q c.before c.behind g.end));
      on = changed_all IsOnSocket c p q own.on_socket (g.trail.socket ∙ this_on c p own.on_socket ∙ sym g.end.id);
      here = changed_all (IsHere c.port.at) c p q own.here (ap (goes_to c.port.at) g.end.id ∙ of_this (IsHere c.port.at) c p own.here);
      asked = λ now grow. asked_same (all_ends (held_with c rs p)) now rs;
      judged = (λ j. record {
        each = all_so (HasItsHalves (all_left (halves_with c p))) (HasItsHalves (all_left (halves_with c q))) (still_has (halves_with c p) (halves_with c q) stay) rs j.each;
        made = j.made;
        here = j.here;
        one_judge = j.one_judge;
        askers = let two = mid_out (IsHeardBy rs) p c.before c.behind j.askers in mid_in (IsHeardBy rs) q c.before c.behind (g.heard two.0) two.1;
        peers = j.peers;
      });
    })

-- ---- a half is over

over_left : (c : Around) (p : PendingNow) (l : LooseNow) → TrailGrows p.half.trail l.trail → AllLeft (halves_with c p) (halves_over c l)
over_left c p l trail x i = at (whose_left c p x i)
  where
    at : (x ≡ left p) ⊎ IsOneOf x (all_left (halves_without c)) → IsLeft (halves_over c l) x.trail
    at (inl e) = record { half = l; there = over_this c l; grows = subst (λ (y : LooseNow). TrailGrows y.trail l.trail) (sym e) trail }
    at (inr j) = record { half = x; there = over_other c l x j; grows = trail_same x.trail }

over_all : (P : LooseNow → Type 0) (c : Around) (p : PendingNow) (l : LooseNow) → AllByRecursion P (all_left (halves_with c p)) → P l → AllByRecursion P (all_left (halves_over c l))
over_all P c p l all this = each_by P (all_left (halves_over c l)) (λ x i. at x (whose_over c l x i))
  where
    at : (x : LooseNow) → (x ≡ l) ⊎ IsOneOf x (all_left (halves_without c)) → P x
    at x (inl e) = subst P (sym e) this
    at x (inr j) = of_others P c p all x j

pub half_over : (c : Around) (rs : List RecordNow) (p : PendingNow) (l : LooseNow) → AreOwn (held_with c rs p) → EndGrows p.half.end l.end → TrailGrows p.half.trail l.trail →
    Grows (held_with c rs p) (held_over c rs l)
half_over c rs p l own end trail =
    let stay = over_left c p l trail in
    parts_grow c.port rs rs (halves_with c p) (halves_over c l) own
    (record {
      records = records_same rs;
      fed = own.fed;
      halves = stay_left rs (halves_with c p) (halves_over c l) stay;
      ends = later_behind (ends_of_all rs) (ends_in (halves_with c p)) (ends_in (halves_over c l)) (end_over p l c.before c.behind c.loose end);
      on = over_all IsOnSocket c p l own.on_socket (trail.socket ∙ this_on c p own.on_socket ∙ sym end.id);
      here = over_all (IsHere c.port.at) c p l own.here (ap (goes_to c.port.at) end.id ∙ of_this (IsHere c.port.at) c p own.here);
      asked = λ now grow. asked_same (all_ends (held_with c rs p)) now rs;
      judged = (λ j. record {
        each = all_so (HasItsHalves (all_left (halves_with c p))) (HasItsHalves (all_left (halves_over c l))) (still_has (halves_with c p) (halves_over c l) stay) rs j.each;
        made = j.made;
        here = j.here;
        one_judge = j.one_judge;
        askers = (mid_out (IsHeardBy rs) p c.before c.behind j.askers).1;
        peers = j.peers;
      });
    })
