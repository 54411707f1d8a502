-- The first record towards a peer by its place, and what its plan leaves of the others.
use Rattle.std.proofs.Common.{◌≡◌, ℕ, zero, suc, ◌+◌, ◌<◌, ◌≤◌, Bool, true, false, cond, List, [], ◌∷◌, length, Option, Some, None, refl, sym, ap, subst, ◌∙◌, arith, below_more}
use Rattle.std.specs.Prelude.{nat_lt, slice_get, slice_index_or, slice_set}
use Rattle.std.specs.List.{AllByRecursion, find, position, position_or_len}
use Rattle.std.specs.Option.{is_some}
use Rattle.std.proofs.lemmas.List.Folds.{find_at}
use Rattle.std.proofs.lemmas.List.Quantifiers.{position-Some}
use Rattle.std.proofs.lemmas.List.Sums.{position_or_len_is}
use Rattle.std.proofs.lemmas.Bool.{le-ltb, lt-ltb, ltb-false}
use Rattle.std.proofs.lemmas.Option.{slice_get-get_or, slice_get_past}
use Rattle.m2_fabric.specs.declared.socket.SocketId.{SocketId}
use Rattle.m2_fabric.specs.End.{SeenEnd}
use Rattle.m2_journal.specs.declared.entry.Entry.{Entry}
use Rattle.m2_journal.specs.declared.facts.NodeFacts.{NodeFacts}
use Rattle.m2_journal.specs.declared.facts.PlanStep.{PlanStep}
use Rattle.m2_record.specs.Due.{on_feed}
use Rattle.m2_record.specs.Calls.{Owns}
use Rattle.m2_record.specs.RecordNow.{RecordNow, composed_on, feed_end}
use Rattle.m2_turn.specs.m2_session.declared.session.Session.{Session}
use Rattle.m2_trail.specs.Trails.{TrailNow}
use Rattle.m2_center.specs.Plans.{is_towards, parts_of, place_towards, side_towards}
use Rattle.m2_turn.specs.Answering.{StaysBeside}
use Rattle.m2_turn.specs.Beside.{AllKeepCallers, KeepsCallers}
use Rattle.m2_turn.specs.Halves.{AllHalves, sessions_with}
use Rattle.m2_turn.specs.Sessions.{AreConsistent, IsSupplied, Supply}
use Rattle.m2_turn.proofs.Told.{all_the_same, beside, none_made, nothing_told_on, stay}
use Rattle.m2_bytes.proofs.m2_lemmas.Booleans.{false_isnt_true}

-- ---- the first that passes

same_there : {X : Type 0} (xs : List X) (i : ℕ) (d e : X) → i < length xs → slice_index_or xs i d ≡ slice_index_or xs i e
same_there xs i d e within = let f = sym (slice_get-get_or xs i d within) ∙ slice_get-get_or xs i e within in cc

-- none of the first so many passes
abbrev pub NoneBefore : {X : Type 0} → (X → Bool) → List X → ℕ → Type 0
NoneBefore {X} p xs i = (k : ℕ) (d : X) → k < i → p (slice_index_or xs k d) ≡ false

pub first_is : {X : Type 0} (p : X → Bool) (xs : List X) (i : ℕ) (d : X) → i < length xs → NoneBefore p xs i → d ≡ slice_index_or xs i d → p d ≡ true → position p xs ≡ Some i
first_is p xs i d within before here passes =
    let n = position_or_len_is p xs i d (omega (arith, within)) (λ k. before k d) (λ _. ap p (sym here) ∙ passes) in
    ap (λ j. cond (nat_lt j (length xs)) (Some j) None) n ∙ ap (λ b. cond b (Some i) None) (lt-ltb i (length xs) within)

pub none_is : {X : Type 0} (p : X → Bool) (xs : List X) → NoneBefore p xs (length xs) → position p xs ≡ None
none_is p [] before = refl
none_is p (x ∷ xs) before =
    let all = length (x ∷ xs) in
    let n = position_or_len_is p (x ∷ xs) all x (omega arith) (λ k. before k x) (λ lt. absurd (omega (arith, lt))) in
    ap (λ j. cond (nat_lt j all) (Some j) None) n ∙ ap (λ b. cond b (Some all) None) (le-ltb all all (omega arith))

pub none_at : {X : Type 0} (p : X → Bool) (xs : List X) (i : ℕ) (e : X) → i < length xs → NoneBefore p xs i → e ≡ slice_index_or xs i e → p e ≡ false → NoneBefore p xs (i + 1)
none_at {X} p xs i e within before here fails k d = below_more (λ j. p (slice_index_or xs j d) ≡ false) i (λ j h. before j d h) (ap p (same_there xs i d e within ∙ sym here) ∙ fails) k

pub place_within : {X : Type 0} (p : X → Bool) (xs : List X) (i : ℕ) → position p xs ≡ Some i → i < length xs
place_within p [] i e = absurd cc
place_within p (x ∷ xs) i e = (position-Some p (x ∷ xs) i x e).0

pub found_at : {X : Type 0} (p : X → Bool) (xs : List X) (i : ℕ) (d : X) → position p xs ≡ Some i → find p xs ≡ Some (slice_index_or xs i d)
found_at p xs i d e = find_at p xs ∙ ap (slice_get xs) (at (nat_lt (position_or_len p xs) (length xs)) (position_or_len p xs) e) ∙ slice_get-get_or xs i d (place_within p xs i e)
  where
    at : (b : Bool) (n : ℕ) → cond b (Some n) None ≡ Some i → n ≡ i
    at true n h = cc
    at false n h = absurd cc

pub found_nowhere : {X : Type 0} (p : X → Bool) (xs : List X) → position p xs ≡ None → find p xs ≡ None
found_nowhere p xs e = find_at p xs ∙ slice_get_past xs (position_or_len p xs) (at (nat_lt (position_or_len p xs) (length xs)) refl e)
  where
    at : (b : Bool) → nat_lt (position_or_len p xs) (length xs) ≡ b → cond b (Some (position_or_len p xs)) None ≡ None → length xs ≤ position_or_len p xs
    at true t h = absurd (false_isnt_true (sym (ap is_some h)))
    at false t h = ltb-false (position_or_len p xs) (length xs) t

-- ---- the first towards a peer, as the code finds it

pub record IsFound (peer : ℕ) (xs : List RecordNow) (place : ℕ) (side : RecordNow) : Type 0 where
  pub first : place_towards peer xs ≡ Some place
  pub within : place < length xs
  pub here : slice_index_or xs place side ≡ side

pub found_so : (peer : ℕ) (read xs : List RecordNow) (o : Option ℕ) (place : ℕ) (side : RecordNow) → o ≡ place_towards peer read → o ≡ Some place → read ≡ xs → side ≡ slice_index_or xs place side →
    IsFound peer xs place side
found_so peer read xs o place side is some reads here =
    let there : position (is_towards peer) xs ≡ Some place = ap (position (is_towards peer)) (sym reads) ∙ sym is ∙ some in
    record { first = there; within = place_within (is_towards peer) xs place there; here = sym here }

pub side_found : (peer : ℕ) (xs now : List RecordNow) (place : ℕ) (side : RecordNow) → IsFound peer xs place side → xs ≡ now → side_towards peer now ≡ Some side
side_found peer xs now place side f sees = sym (ap (side_towards peer) sees) ∙ found_at (is_towards peer) xs place side f.first ∙ ap (λ r. Some r) f.here

pub none_found : (peer : ℕ) (read xs now : List RecordNow) (o : Option ℕ) → o ≡ place_towards peer read → o ≡ None → read ≡ xs → xs ≡ now → side_towards peer now ≡ None
none_found peer read xs now o is none reads sees =
    sym (ap (side_towards peer) sees) ∙ found_nowhere (is_towards peer) xs (ap (position (is_towards peer)) (sym reads) ∙ sym is ∙ none)

-- there is one of them at most
pub same_side : (o : Option RecordNow) (a b : RecordNow) → o ≡ Some a → o ≡ Some b → a ≡ b
same_side o a b e f = let g = sym e ∙ f in cc

pub not_missing : (o : Option RecordNow) (a : RecordNow) → o ≡ None → o ≡ Some a → ⊥
not_missing o a e f = let g = sym e ∙ f in cc

-- ---- one record changes

one_changed : (P : RecordNow → Type 0) (side behind : RecordNow) (rs : List RecordNow) (place : ℕ) → place < length rs → slice_index_or rs place side ≡ side → (P side → P behind) →
    AllByRecursion P rs → AllByRecursion P (slice_set rs place behind)
one_changed P side behind [] place within here one all = absurd (omega (arith, within))
one_changed P side behind (r ∷ rs) zero within here one all = (one (subst P here all.0), all.1)
one_changed P side behind (r ∷ rs) (suc n) within here one all = (all.0, one_changed P side behind rs n (omega (arith, within)) here one all.1)

one_keeps : (made : List SocketId) (side behind : RecordNow) (rs : List RecordNow) (place : ℕ) → place < length rs → slice_index_or rs place side ≡ side → KeepsCallers made side behind →
    AllKeepCallers made rs (slice_set rs place behind)
one_keeps made side behind [] place within here one = absurd (omega (arith, within))
one_keeps made side behind (r ∷ rs) zero within here one = (subst (λ x. KeepsCallers made x behind) (sym here) one, all_the_same made rs)
one_keeps made side behind (r ∷ rs) (suc n) within here one = (nothing_told_on made r, one_keeps made side behind rs n (omega (arith, within)) here one)

-- what a plan leaves of its record
pub record LeavesSide (s : Supply) (side behind : RecordNow) : Type 0 where
  pub stays : StaysBeside side behind
  pub top : behind.core.top ≡ side.core.top
  pub owned : Owns s.places behind

pub planned_consistent : (s : Supply) (entity : ℕ) (made : List SocketId) (side behind : RecordNow) (rs : List RecordNow) (h : AllHalves) (place : ℕ) → place < length rs → slice_index_or rs place side ≡ side →
    LeavesSide s side behind → AreConsistent s entity (sessions_with made rs h) → AreConsistent s entity (sessions_with made (slice_set rs place behind) h)
planned_consistent s entity made side behind rs h place within here leaves was =
    stay (record { supply = s; made = made; records = rs }) (record { supply = s; made = made; records = slice_set rs place behind }) (none_made made)
    (one_changed (IsSupplied s made) side behind rs place within here
    (λ is. record { owned = leaves.owned; top = subst (λ n. n ≤ s.least) (sym leaves.top) is.top; made = leaves.stays.made made is.made }) was.records)
    (one_keeps made side behind rs place within here (beside made side behind leaves.stays)) entity h.pending h.loose was

-- ---- what is lent of a record

module _ (r : RecordNow) where
  pub same_parts : (facts : NodeFacts) (place : ℕ) (session : Session) (plan : List PlanStep) (journal : List Entry) (trails : List TrailNow) (feed spent : List SeenEnd) (composed : List ℕ)
      (dry blocked held : Bool) (next_dial missed last : ℕ) → facts ≡ r.core.facts.node → place ≡ r.place → session ≡ r.core.live.session → plan ≡ r.plan → journal ≡ r.journal → trails ≡ r.trails →
      feed ≡ feed_end r.core.live.feed → spent ≡ r.spent → composed ≡ composed_on r.core.live.feed → dry ≡ on_feed (λ v. v.end.log.dry) r.core.live.feed →
      blocked ≡ on_feed (λ v. v.end.log.blocked) r.core.live.feed → held ≡ r.held → next_dial ≡ r.waits.next_dial → missed ≡ r.missed → last ≡ r.last →
      record {
        facts = facts;
        place = place;
        session = session;
        plan = plan;
        journal = journal;
        trails = trails;
        feed = feed;
        spent = spent;
        composed = composed;
        dry = dry;
        blocked = blocked;
        held = held;
        next_dial = next_dial;
        missed = missed;
        last = last;
      } ≡ parts_of r
  same_parts facts place session plan journal trails feed spent composed dry blocked held next_dial missed last a b c d e f g h i j k l m n o =
      rw (a, b, c, d, e, f, g, h, i, j, k, l, m, n, o) refl
