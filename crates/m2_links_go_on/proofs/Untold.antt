-- What a center has of its sockets, without what its ends were told, and what holds of both.
use Rattle.std.proofs.Common.{◌≡◌, true, List, [], ◌∷◌, ◌++◌, length, map, Option, Some, None, is_some, refl, sym, ap, subst, ◌∙◌, arith}
use Rattle.std.specs.List.{AllByRecursion, IsDistinct}
use Rattle.std.specs.Option.{option_map}
use Rattle.std.proofs.lemmas.List.{map-append}
use Rattle.m2_cluster.specs.m2_feed.FeedNow.{FeedNow}
use Rattle.m2_fabric.specs.declared.socket.SocketId.{SocketId}
use Rattle.m2_fabric.specs.End.{SeenEnd}
use Rattle.m2_fabric.specs.Sockets.{goes_to, is_among, same_socket}
use Rattle.m2_weave.specs.m2_handshake.Asks.{same_addr}
use Rattle.m2_history.specs.m2_record.RecordNow.{RecordNow, ends_of, feed_end, ids_of}
use Rattle.m2_history.specs.m2_trail.Arrivals.{LooseNow, left_of}
use Rattle.m2_cluster.specs.m2_center.m2_turn.Halves.{AllHalves}
use Rattle.m2_cluster.specs.m2_center.m2_turn.Hearing.{ends_in}
use Rattle.m2_cluster.specs.m2_center.m2_turn.Sessions.{PendingNow, is_asker, peer_of}
use Rattle.m2_cluster.specs.m2_center.Reaching.{untold, untold_feed, untold_half, untold_loose, untold_record}
use Rattle.m2_growth.specs.Ends.{AreOfTheirOwn}
use Rattle.m2_growth.specs.Halves.{AskedOnMade, AskedTowards, HasItsHalves, IsHeardBy, JudgeApart, OneJudge, all_left, asked_on, sockets_left, sockets_taken}
use Rattle.m2_growth.specs.Holding.{AreOwn, HaveTheirHalves, Holding, LeadsElsewhere, ends_held}
use Rattle.m2_growth.specs.Records.{IsFed, ends_of_all}
use Rattle.m2_links_go_on.specs.ClusterTold.{AreToCome, OneByOne, SameHalf, SameHalves, SameRecord}
use Rattle.m2_fabric.proofs.m2_lemmas.Options.{mapped_is_some}

-- ---- lists

module _ {X : Type 0} where
  head : X → List X → X
  head x [] = x
  head x (y ∷ ys) = y

  tail : List X → List X
  tail [] = []
  tail (x ∷ xs) = xs

  -- what two lists agree in, each agrees in with its own
  pub zipped : {Y : Type 0} (f : X → Y) (how : X → X → Type 0) → ((x y : X) → f y ≡ f x → how x y) → (xs ys : List X) → map f ys ≡ map f xs → OneByOne how xs ys
  zipped f how so [] [] e = tt
  zipped f how so [] (y ∷ ys) e = absurd (omega (arith, ap length e))
  zipped f how so (x ∷ xs) [] e = absurd (omega (arith, ap length e))
  zipped {Y} f how so (x ∷ xs) (y ∷ ys) e = (so x y (first e), zipped f how so xs ys (rest e))
    where
      first : f y ∷ map f ys ≡ f x ∷ map f xs → f y ≡ f x
      first e = cc

      rest : f y ∷ map f ys ≡ f x ∷ map f xs → map f ys ≡ map f xs
      rest e = cc

  pub all_map : {Y : Type 0} (f : X → Y) (P : X → Type 0) (Q : Y → Type 0) → ((x : X) → P x → Q (f x)) → (xs : List X) → AllByRecursion P xs → AllByRecursion Q (map f xs)
  all_map f P Q so [] all = tt
  all_map f P Q so (x ∷ xs) all = (so x all.0, all_map f P Q so xs all.1)

  pub all_unmap : {Y : Type 0} (f : X → Y) (P : X → Type 0) (Q : Y → Type 0) → ((x : X) → Q (f x) → P x) → (xs : List X) → AllByRecursion Q (map f xs) → AllByRecursion P xs
  all_unmap f P Q so [] all = tt
  all_unmap f P Q so (x ∷ xs) all = (so x all.0, all_unmap f P Q so xs all.1)

  -- what a change leaves as it was is the same of all
  pub map_same : {Y : Type 0} (f : X → X) (g : X → Y) → ((x : X) → g (f x) ≡ g x) → (xs : List X) → map g (map f xs) ≡ map g xs
  map_same f g so [] = refl
  map_same f g so (x ∷ xs) = ap (λ y. y ∷ map g (map f xs)) (so x) ∙ ap (λ l. g x ∷ l) (map_same f g so xs)

-- ---- ends

pub ends_untold : (r : RecordNow) → ends_of (untold_record r) ≡ map untold (ends_of r)
ends_untold r = at r.core.live.feed
  where
    at : (o : Option FeedNow) → feed_end (option_map untold_feed o) ++ map untold r.spent ≡ map untold (feed_end o ++ r.spent)
    at (Some v) = refl
    at None = refl

all_ends_untold : (rs : List RecordNow) → ends_of_all (map untold_record rs) ≡ map untold (ends_of_all rs)
all_ends_untold [] = refl
all_ends_untold (r ∷ rs) =
    ap (λ l. l ++ ends_of_all (map untold_record rs)) (ends_untold r) ∙ ap (λ l. map untold (ends_of r) ++ l) (all_ends_untold rs)
    ∙ sym (map-append untold (ends_of r) (ends_of_all rs))

-- ---- halves

abbrev pub untold_halves : AllHalves → AllHalves
untold_halves h = record { pending = map untold_half h.pending; loose = map untold_loose h.loose }

half_ends : (ps : List PendingNow) (ls : List LooseNow) →
    map (λ (p : PendingNow). p.half.end) (map untold_half ps) ++ map (λ (l : LooseNow). l.end) (map untold_loose ls)
    ≡ map untold (map (λ (p : PendingNow). p.half.end) ps ++ map (λ (l : LooseNow). l.end) ls)
half_ends [] [] = refl
half_ends [] (l ∷ ls) = ap (λ es. untold l.end ∷ es) (half_ends [] ls)
half_ends (p ∷ ps) ls = ap (λ es. untold p.half.end ∷ es) (half_ends ps ls)

pub left_untold : (h : AllHalves) → all_left (untold_halves h) ≡ map untold_loose (all_left h)
left_untold h = at h.pending
  where
    at : (ps : List PendingNow) →
        map (λ (p : PendingNow). left_of p.half) (map untold_half ps) ++ map untold_loose h.loose
        ≡ map untold_loose (map (λ (p : PendingNow). left_of p.half) ps ++ h.loose)
    at [] = refl
    at (p ∷ ps) = ap (λ l. untold_loose (left_of p.half) ∷ l) (at ps)

sockets_untold : (h : AllHalves) → sockets_left (all_left (untold_halves h)) ≡ sockets_left (all_left h)
sockets_untold h = ap sockets_left (left_untold h) ∙ map_same untold_loose (λ (l : LooseNow). l.trail.socket) (λ l. refl) (all_left h)

-- ---- what a center has of its sockets

abbrev pub untold_holding : Holding → Holding
untold_holding h = record { port = record h.port { waiting = None }; records = map untold_record h.records; halves = untold_halves h.halves }

held_untold : (h : Holding) → ends_held (untold_holding h) ≡ map untold (ends_held h)
held_untold h =
    ap (λ l. l ++ ends_in (untold_halves h.halves)) (all_ends_untold h.records)
    ∙ ap (λ l. map untold (ends_of_all h.records) ++ l) (half_ends h.halves.pending h.halves.loose)
    ∙ sym (map-append untold (ends_of_all h.records) (ends_in h.halves))

ids_untold : (h : Holding) → ids_of (ends_held (untold_holding h)) ≡ ids_of (ends_held h)
ids_untold h = ap ids_of (held_untold h) ∙ map_same untold (λ (e : SeenEnd). e.id) (λ e. refl) (ends_held h)

-- each socket has one end, of all but those that wait
pub record OwnsHeld (h : Holding) : Type 0 where
  pub held : AreOfTheirOwn (ends_held h)
  pub made : AllByRecursion (λ (e : SeenEnd). is_among e.id h.port.made ≡ true) (ends_held h)
  pub elsewhere : AllByRecursion (LeadsElsewhere h.port) h.records
  pub fed : AllByRecursion IsFed h.records
  pub on_socket : AllByRecursion (λ (l : LooseNow). l.trail.socket ≡ l.end.id) (all_left h.halves)
  pub here : AllByRecursion (λ (l : LooseNow). goes_to h.port.at l.end.id ≡ true) (all_left h.halves)

pub own_held : (h : Holding) → AreOwn h → OwnsHeld h
own_held h own = record { held = own.held; made = own.made; elsewhere = own.elsewhere; fed = own.fed; on_socket = own.on_socket; here = own.here }

pub own_to_come : (h : Holding) → AreOwn h → AreToCome h.port
own_to_come h own = record { waiting = own.waiting; to_come = own.to_come }

pub own_both : (h : Holding) → OwnsHeld h → AreToCome h.port → AreOwn h
own_both h held come = record {
  held = held.held;
  made = held.made;
  waiting = come.waiting;
  to_come = come.to_come;
  elsewhere = held.elsewhere;
  fed = held.fed;
  on_socket = held.on_socket;
  here = held.here;
}

module _ (h : Holding) where
  abbrev bare : Holding
  bare = untold_holding h

  abbrev IsMade : SeenEnd → Type 0
  IsMade e = is_among e.id h.port.made ≡ true

  abbrev IsOn : LooseNow → Type 0
  IsOn l = l.trail.socket ≡ l.end.id

  abbrev IsHere : LooseNow → Type 0
  IsHere l = goes_to h.port.at l.end.id ≡ true

  fed_same : (r : RecordNow) → is_some (option_map untold_feed r.core.live.feed) ≡ is_some r.core.live.feed
  fed_same r = mapped_is_some untold_feed r.core.live.feed

  pub bare_owns : OwnsHeld h → OwnsHeld bare
  bare_owns o = record {
    held = subst (IsDistinct same_socket) (sym (ids_untold h)) o.held;
    made = subst (AllByRecursion IsMade) (sym (held_untold h)) (all_map untold IsMade IsMade (λ e p. p) (ends_held h) o.made);
    elsewhere = all_map untold_record (LeadsElsewhere h.port) (LeadsElsewhere bare.port) (λ r p. p) h.records o.elsewhere;
    fed = all_map untold_record IsFed IsFed (λ r p. fed_same r ∙ p) h.records o.fed;
    on_socket = subst (AllByRecursion IsOn) (sym (left_untold h.halves)) (all_map untold_loose IsOn IsOn (λ l p. p) (all_left h.halves) o.on_socket);
    here = subst (AllByRecursion IsHere) (sym (left_untold h.halves)) (all_map untold_loose IsHere IsHere (λ l p. p) (all_left h.halves) o.here);
  }

  pub owns_bare : OwnsHeld bare → OwnsHeld h
  owns_bare o = record {
    held = subst (IsDistinct same_socket) (ids_untold h) o.held;
    made = all_unmap untold IsMade IsMade (λ e p. p) (ends_held h) (subst (AllByRecursion IsMade) (held_untold h) o.made);
    elsewhere = all_unmap untold_record (LeadsElsewhere h.port) (LeadsElsewhere bare.port) (λ r p. p) h.records o.elsewhere;
    fed = all_unmap untold_record IsFed IsFed (λ r p. sym (fed_same r) ∙ p) h.records o.fed;
    on_socket = all_unmap untold_loose IsOn IsOn (λ l p. p) (all_left h.halves) (subst (AllByRecursion IsOn) (left_untold h.halves) o.on_socket);
    here = all_unmap untold_loose IsHere IsHere (λ l p. p) (all_left h.halves) (subst (AllByRecursion IsHere) (left_untold h.halves) o.here);
  }

-- ---- what records have judged

-- the half of each ask is one on these sockets, or one that the record took
abbrev HasHalvesOn : List SocketId → RecordNow → Type 0
HasHalvesOn left r = (k : SocketId) → is_among k (asked_on r) ≡ true → is_among k (sockets_taken r ++ left) ≡ true

one_judge_bare : (rs : List RecordNow) → OneJudge rs → OneJudge (map untold_record rs)
one_judge_bare [] one = tt
one_judge_bare (r ∷ rs) one = (all_map untold_record (JudgeApart r) (JudgeApart (untold_record r)) (λ s p. p) rs one.0, one_judge_bare rs one.1)

bare_one_judge : (rs : List RecordNow) → OneJudge (map untold_record rs) → OneJudge rs
bare_one_judge [] one = tt
bare_one_judge (r ∷ rs) one = (all_unmap untold_record (JudgeApart r) (JudgeApart (untold_record r)) (λ s p. p) rs one.0, bare_one_judge rs one.1)

peers_untold : (rs : List RecordNow) → map peer_of (map untold_record rs) ≡ map peer_of rs
peers_untold rs = map_same untold_record peer_of (λ r. refl) rs

module _ (h : Holding) where
  abbrev plain : Holding
  plain = untold_holding h

  abbrev IsHeard : PendingNow → RecordNow → Type 0
  IsHeard p r = is_among p.half.trail.socket (asked_on r) ≡ true → is_asker p.asker (peer_of r) ≡ true

  pub bare_judged : HaveTheirHalves h → HaveTheirHalves plain
  bare_judged j = record {
    each = subst (λ s. AllByRecursion (HasHalvesOn s) (map untold_record h.records)) (sym (sockets_untold h.halves))
        (all_map untold_record (HasItsHalves (all_left h.halves)) (HasHalvesOn (sockets_left (all_left h.halves))) (λ r p. p) h.records j.each);
    made = all_map untold_record (AskedOnMade h.port.made) (AskedOnMade h.port.made) (λ r p. p) h.records j.made;
    here = all_map untold_record (AskedTowards h.port.at) (AskedTowards h.port.at) (λ r p. p) h.records j.here;
    one_judge = one_judge_bare h.records j.one_judge;
    askers = all_map untold_half (IsHeardBy h.records) (IsHeardBy plain.records)
        (λ p all. all_map untold_record (IsHeard p) (IsHeard p) (λ r q. q) h.records all) h.halves.pending j.askers;
    peers = subst (IsDistinct same_addr) (sym (peers_untold h.records)) j.peers;
  }

  pub judged_bare : HaveTheirHalves plain → HaveTheirHalves h
  judged_bare j = record {
    each = all_unmap untold_record (HasItsHalves (all_left h.halves)) (HasHalvesOn (sockets_left (all_left h.halves))) (λ r p. p) h.records
        (subst (λ s. AllByRecursion (HasHalvesOn s) (map untold_record h.records)) (sockets_untold h.halves) j.each);
    made = all_unmap untold_record (AskedOnMade h.port.made) (AskedOnMade h.port.made) (λ r p. p) h.records j.made;
    here = all_unmap untold_record (AskedTowards h.port.at) (AskedTowards h.port.at) (λ r p. p) h.records j.here;
    one_judge = bare_one_judge h.records j.one_judge;
    askers = all_unmap untold_half (IsHeardBy h.records) (IsHeardBy plain.records)
        (λ p all. all_unmap untold_record (IsHeard p) (IsHeard p) (λ r q. q) h.records all) h.halves.pending j.askers;
    peers = subst (IsDistinct same_addr) (peers_untold h.records) j.peers;
  }

-- ---- the same but for what was told

pub same_record : (r s : RecordNow) → untold_record s ≡ untold_record r → SameRecord r s
same_record r s e = record {
  place = ap (λ (x : RecordNow). x.place) e;
  facts = ap (λ (x : RecordNow). x.core.facts) e;
  plan = ap (λ (x : RecordNow). x.plan) e;
  journal = ap (λ (x : RecordNow). x.journal) e;
  trails = ap (λ (x : RecordNow). x.trails) e;
  ends = sym (ends_untold s) ∙ ap ends_of e ∙ ends_untold r;
  all = e;
}

pub same_records : (rs ss : List RecordNow) → map untold_record ss ≡ map untold_record rs → OneByOne SameRecord rs ss
same_records = zipped untold_record SameRecord same_record

same_half : (l m : LooseNow) → untold_loose m ≡ untold_loose l → SameHalf l m
same_half l m e = record { trail = ap (λ (x : LooseNow). x.trail) e; end = ap (λ (x : LooseNow). x.end) e }

pub same_halves : (g h : AllHalves) → untold_halves h ≡ untold_halves g → SameHalves g h
same_halves g h e = record {
  pending = ap (λ (x : AllHalves). x.pending) e;
  loose = ap (λ (x : AllHalves). x.loose) e;
  left = zipped untold_loose SameHalf same_half (all_left g) (all_left h) (sym (left_untold h) ∙ ap all_left e ∙ left_untold g);
}
