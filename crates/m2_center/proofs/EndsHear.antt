-- Where one end hears of the other side, the ends are those with one told, and the sessions stay consistent.
use Rattle.std.proofs.Common.{◌≡◌, ℕ, Bool, true, false, ◌||◌, if◌then◌else◌, List, [], ◌∷◌, ◌++◌, map, Result, Ok, Err, OnOk, OnErr, refl, sym, ap, subst, ◌∙◌}
use Rattle.std.specs.List.{AllByRecursion, IsDistinct, list_any}
use Rattle.m2_fabric.specs.declared.end.News.{News}
use Rattle.m2_fabric.specs.declared.socket.SocketId.{SocketId}
use Rattle.m2_fabric.specs.End.{SeenEnd, after_news}
use Rattle.m2_fabric.specs.Port.{one_hears}
use Rattle.m2_fabric.specs.Sockets.{same_socket}
use Rattle.m2_record.specs.RecordNow.{RecordNow}
use Rattle.m2_trail.specs.Arrivals.{LooseNow}
use Rattle.m2_turn.specs.Halves.{AllHalves, halves_of, sessions_with}
use Rattle.m2_turn.specs.Hearing.{after_hearing, ends_in, first_told, is_loose_on, is_on, loose_told, pending_told}
use Rattle.m2_turn.specs.Sessions.{AreConsistent, IsCaller, PendingNow, Supply, WasCaller, caller_in}
use Rattle.m2_bytes.proofs.m2_lemmas.Booleans.{false_isnt_true}

-- ---- the first that is told

all_told : {T : Type 0} (P : T → Type 0) (passes : T → Bool) (tells : T → T) (xs : List T) → ((x : T) → P x → P (tells x)) → AllByRecursion P xs → AllByRecursion P (first_told passes tells xs)
all_told P passes tells [] so all = tt
all_told {T} P passes tells (x ∷ xs) so all = at (passes x) (all_told P passes tells xs so all.1)
  where
    at : (b : Bool) → AllByRecursion P (first_told passes tells xs) → AllByRecursion P (if b then tells x ∷ xs else x ∷ first_told passes tells xs)
    at true rest = (so x all.0, all.1)
    at false rest = (all.0, rest)

same_told : {T X : Type 0} (f : T → X) (passes : T → Bool) (tells : T → T) (xs : List T) → ((x : T) → f (tells x) ≡ f x) → map f (first_told passes tells xs) ≡ map f xs
same_told f passes tells [] so = refl
same_told {T} {X} f passes tells (x ∷ xs) so = at (passes x) (same_told f passes tells xs so)
  where
    at : (b : Bool) → map f (first_told passes tells xs) ≡ map f xs → map f (if b then tells x ∷ xs else x ∷ first_told passes tells xs) ≡ f x ∷ map f xs
    at true rest = ap (λ y. y ∷ map f xs) (so x)
    at false rest = ap (λ l. f x ∷ l) rest

-- ---- the ends

-- these have one on that socket, so it is told
told_ends : {T : Type 0} (end : T → SeenEnd) (id : SocketId) (hears : SeenEnd → SeenEnd) (tells : T → T) (xs : List T) (ys : List SeenEnd) → ((x : T) → end (tells x) ≡ hears (end x)) →
    list_any (λ x. same_socket id (end x).id) xs ≡ true → map end (first_told (λ x. same_socket id (end x).id) tells xs) ++ ys ≡ one_hears id hears (map end xs ++ ys)
told_ends end id hears tells [] ys so any = absurd (false_isnt_true any)
told_ends {T} end id hears tells (x ∷ xs) ys so any = at (same_socket id (end x).id) any (λ h. told_ends end id hears tells xs ys so h)
  where
    at : (b : Bool) → b || list_any (λ x. same_socket id (end x).id) xs ≡ true →
        (list_any (λ x. same_socket id (end x).id) xs ≡ true → map end (first_told (λ x. same_socket id (end x).id) tells xs) ++ ys ≡ one_hears id hears (map end xs ++ ys)) →
        map end (if b then tells x ∷ xs else x ∷ first_told (λ x. same_socket id (end x).id) tells xs) ++ ys
        ≡ (if b then hears (end x) ∷ (map end xs ++ ys) else end x ∷ one_hears id hears (map end xs ++ ys))
    at true h rest = ap (λ e. e ∷ (map end xs ++ ys)) (so x)
    at false h rest = ap (λ l. end x ∷ l) (rest h)

-- none of these is on that socket
passed_ends : {T : Type 0} (end : T → SeenEnd) (id : SocketId) (hears : SeenEnd → SeenEnd) (xs : List T) (ys : List SeenEnd) →
    list_any (λ x. same_socket id (end x).id) xs ≡ false → map end xs ++ one_hears id hears ys ≡ one_hears id hears (map end xs ++ ys)
passed_ends end id hears [] ys none = refl
passed_ends {T} end id hears (x ∷ xs) ys none = at (same_socket id (end x).id) none (λ h. passed_ends end id hears xs ys h)
  where
    at : (b : Bool) → b || list_any (λ x. same_socket id (end x).id) xs ≡ false →
        (list_any (λ x. same_socket id (end x).id) xs ≡ false → map end xs ++ one_hears id hears ys ≡ one_hears id hears (map end xs ++ ys)) →
        end x ∷ (map end xs ++ one_hears id hears ys) ≡ (if b then hears (end x) ∷ (map end xs ++ ys) else end x ∷ one_hears id hears (map end xs ++ ys))
    at true h rest = absurd (false_isnt_true (sym h))
    at false h rest = ap (λ l. end x ∷ l) (rest h)

last_ends : {T : Type 0} (end : T → SeenEnd) (id : SocketId) (hears : SeenEnd → SeenEnd) (tells : T → T) (xs : List T) → ((x : T) → end (tells x) ≡ hears (end x)) →
    map end (first_told (λ x. same_socket id (end x).id) tells xs) ≡ one_hears id hears (map end xs)
last_ends end id hears tells [] so = refl
last_ends {T} end id hears tells (x ∷ xs) so = at (same_socket id (end x).id) (last_ends end id hears tells xs so)
  where
    at : (b : Bool) → map end (first_told (λ x. same_socket id (end x).id) tells xs) ≡ one_hears id hears (map end xs) →
        map end (if b then tells x ∷ xs else x ∷ first_told (λ x. same_socket id (end x).id) tells xs) ≡ (if b then hears (end x) ∷ map end xs else end x ∷ one_hears id hears (map end xs))
    at true rest = ap (λ e. e ∷ map end xs) (so x)
    at false rest = ap (λ l. end x ∷ l) rest

one_end_hears : (id : SocketId) (news : News) (bytes : List ℕ) (h : AllHalves) → ends_in (after_hearing id news bytes h) ≡ one_hears id (after_news news bytes) (ends_in h)
one_end_hears id news bytes h = at (list_any (is_on id) h.pending) refl
  where
    at : (b : Bool) → list_any (is_on id) h.pending ≡ b →
        ends_in (if b then record h { pending = first_told (is_on id) (pending_told news bytes) h.pending } else record h { loose = first_told (is_loose_on id) (loose_told news bytes) h.loose })
        ≡ one_hears id (after_news news bytes) (ends_in h)
    at true any = told_ends (λ (p : PendingNow). p.half.end) id (after_news news bytes) (pending_told news bytes) h.pending (map (λ (l : LooseNow). l.end) h.loose) (λ p. refl) any
    at false none =
        ap (λ l. map (λ (p : PendingNow). p.half.end) h.pending ++ l) (last_ends (λ (l : LooseNow). l.end) id (after_news news bytes) (loose_told news bytes) h.loose (λ l. refl))
        ∙ passed_ends (λ (p : PendingNow). p.half.end) id (after_news news bytes) h.pending (map (λ (l : LooseNow). l.end) h.loose) none

-- ---- the sessions

module _ (supply : Supply) (entity : ℕ) (made : List SocketId) (records : List RecordNow) (id : SocketId) (news : News) (bytes : List ℕ) (h : AllHalves)
    (was : AreConsistent supply entity (sessions_with made records h)) where
  pending_stays : AreConsistent supply entity (sessions_with made records (record h { pending = first_told (is_on id) (pending_told news bytes) h.pending }))
  pending_stays = record {
    records = was.records;
    kind = was.kind;
    peers = was.peers;
    halves = all_told (λ (p : PendingNow). IsCaller made records (caller_in p)) (is_on id) (pending_told news bytes) h.pending (λ p is. is) was.halves;
    loose = was.loose;
    apart = subst (λ ids. IsDistinct same_socket (ids ++ map (λ (l : LooseNow). l.end.id) h.loose))
        (sym (same_told (λ (p : PendingNow). p.half.end.id) (is_on id) (pending_told news bytes) h.pending (λ p. refl))) was.apart;
  }

  loose_stays : AreConsistent supply entity (sessions_with made records (record h { loose = first_told (is_loose_on id) (loose_told news bytes) h.loose }))
  loose_stays = record {
    records = was.records;
    kind = was.kind;
    peers = was.peers;
    halves = was.halves;
    loose = all_told (WasCaller made records) (is_loose_on id) (loose_told news bytes) h.loose (λ l w. record { asker = w.asker; caller = w.caller }) was.loose;
    apart = subst (λ ids. IsDistinct same_socket (map (λ (p : PendingNow). p.half.end.id) h.pending ++ ids))
        (sym (same_told (λ (l : LooseNow). l.end.id) (is_loose_on id) (loose_told news bytes) h.loose (λ l. refl))) was.apart;
  }

  pub hearing_stays : AreConsistent supply entity (sessions_with made records (after_hearing id news bytes h))
  hearing_stays = at (list_any (is_on id) h.pending)
    where
      at : (b : Bool) → AreConsistent supply entity (sessions_with made records
          (if b then record h { pending = first_told (is_on id) (pending_told news bytes) h.pending } else record h { loose = first_told (is_loose_on id) (loose_told news bytes) h.loose }))
      at true = pending_stays
      at false = loose_stays

-- told, or left for want of memory
pub heard_stays : {E : Type 0} (r : Result (Unit {0}) E) (id : SocketId) (news : News) (bytes : List ℕ) (old new : AllHalves) → OnOk r (new ≡ after_hearing id news bytes old) →
    OnErr r ((new.pending ≡ old.pending) × (new.loose ≡ old.loose)) → (supply : Supply) (entity : ℕ) (made : List SocketId) (records : List RecordNow) →
    AreConsistent supply entity (sessions_with made records old) → AreConsistent supply entity (sessions_with made records new)
heard_stays {E} (Ok done) id news bytes old new ok err supply entity made records was =
    subst (λ h. AreConsistent supply entity (sessions_with made records h)) (sym ok) (hearing_stays supply entity made records id news bytes old was)
heard_stays {E} (Err e) id news bytes old new ok err supply entity made records was =
    subst (λ h. AreConsistent supply entity (sessions_with made records (halves_of h new.loose))) (sym err.0)
    (subst (λ l. AreConsistent supply entity (sessions_with made records (halves_of old.pending l))) (sym err.1) was)

pub heard_ends : {E : Type 0} (r : Result (Unit {0}) E) (id : SocketId) (news : News) (bytes : List ℕ) (old new : AllHalves) → OnOk r (new ≡ after_hearing id news bytes old) →
    OnOk r (ends_in new ≡ one_hears id (after_news news bytes) (ends_in old))
heard_ends {E} (Ok done) id news bytes old new ok = ap ends_in ok ∙ one_end_hears id news bytes old
heard_ends {E} (Err e) id news bytes old new ok = tt
