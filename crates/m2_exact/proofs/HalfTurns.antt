-- Halves that are alike take their turns alike, beside records that are alike, but for want of memory.
use Rattle.std.proofs.Common.{◌≡◌, ℕ, ◌-◌, ◌<◌, List, [], ◌∷◌, length, map, Bool, true, false, Option, None, Some, Ok, inl, inr, refl, sym, subst, ◌∙◌, ap, arith}
use Rattle.std.specs.Prelude.{◌≢◌, ◌⊎◌, IfSome, IsSome}
use Rattle.std.specs.List.{AllByRecursion}
use Rattle.std.specs.Option.{option_map}
use Rattle.m2_control.proofs.Raised.{main_same}
use Rattle.m2_dispatch.specs.m2_shared.Gates.{words}
use Rattle.m2_fabric.proofs.m2_lemmas.Lists.{all_at, cons_same}
use Rattle.m2_fabric.proofs.m2_lemmas.Options.{some_same}
use Rattle.m2_fabric.specs.Kinds.{IsInMemory}
use Rattle.m2_fabric.specs.m2_addr.Vector.{main_of}
use Rattle.m2_fabric.specs.m2_addr.declared.addr.Addr.{Addr}
use Rattle.m2_fabric.specs.m2_addr.declared.addr.AnyAddr.{AnyAddr}
use Rattle.m2_trail.specs.Arrivals.{LooseNow, closed_of}
use Rattle.m2_trail.specs.Asks.{IsMain}
use Rattle.m2_trail.specs.Incoming.{IncomingNow}
use Rattle.m2_trail.specs.declared.turn.HalfTurn.{HalfTurn}
use Rattle.m2_trail.specs.declared.turn.HalfTurn.TheVariants as turn
use Rattle.m2_script.specs.m2_center.m2_turn.HalfTurn.{AnswersAsk, AnswersAt, AnswersFrom, ComesTo, EndsTurn, HalfTurning, Homes, Others, Replies, RepliesOnce, TurnsHalf, TurnsOnce, asked_by, home_of_ask, judging_in, moved_by, with_moved, with_turned}
use Rattle.m2_script.specs.m2_center.m2_turn.HalvesTurn.{over_by, stays_by}
use Rattle.m2_script.specs.m2_center.m2_turn.Hearing.{IsHalfInMemory}
use Rattle.m2_script.specs.m2_center.m2_turn.RecordTurn.{Means}
use Rattle.m2_script.specs.m2_center.m2_turn.Sessions.{PendingNow, peer_of}
use Rattle.m2_script.specs.m2_center.m2_turn.declared.answering.HalfAnswered.{HalfAnswered}
use Rattle.m2_script.specs.m2_center.m2_turn.declared.answering.HalfAnswered.TheVariants as answered
use Rattle.m2_script.specs.m2_center.m2_turn.declared.half_turn.HalfTurned.{HalfTurned}
use Rattle.m2_script.specs.m2_center.m2_turn.declared.half_turn.HalfTurned.TheVariants as turned
use Rattle.m2_script.specs.m2_center.m2_turn.declared.half_turn.TheConstants.{MOST_ASKS}
use Rattle.m2_script.specs.m2_center.m2_turn.m2_handshake.Asks.{bare_ask}
use Rattle.m2_script.specs.m2_center.m2_turn.m2_handshake.Greeting.{addrs_of}
use Rattle.m2_script.specs.m2_center.m2_turn.m2_handshake.declared.ask.Ask.{Ask}
use Rattle.m2_script.specs.m2_center.m2_turn.m2_handshake.declared.ask.Ask.TheVariants.{Ident, Reconnect}
use Rattle.m2_script.specs.m2_center.m2_record.RecordNow.{RecordNow}
use Rattle.m2_exact.proofs.Advances as advances
use Rattle.m2_exact.proofs.Answers as answers
use Rattle.m2_exact.proofs.Lists.{all_set, map_get, map_set}
use Rattle.m2_exact.specs.Accepts.{plain_pending}
use Rattle.m2_exact.specs.Answers as answering
use Rattle.m2_exact.specs.Answers.{PlainJudging, StaysInMemory, bare_answered, plain_judging}
use Rattle.m2_exact.specs.HalfTurns.{LikeHalvesTurnAlike, PlainHomes, bare_turned, lacks, plain_homes}
use Rattle.m2_exact.specs.Halves as half
use Rattle.m2_exact.specs.Records.{bare_numbers, plain}
use Rattle.m2_exact.specs.RecordTurns.{HasAlone, IsFit}

-- ---- one record of many

peers_plain : (rs : List RecordNow) → map peer_of rs ≡ map peer_of (map plain rs)
peers_plain [] = refl
peers_plain (r ∷ rs) = ap (λ (xs : List Addr). peer_of r ∷ xs) (peers_plain rs)

-- ---- whose ask it is

main_bare : (ask : Ask) → main_of (addrs_of (bare_ask ask)) ≡ main_of (addrs_of ask)
main_bare (Ident i) = main_same i.addrs
main_bare (Reconnect r) = main_same r.addrs

one_main : (addrs : List AnyAddr) (x y : Addr) → main_of addrs ≡ Ok x → main_of addrs ≡ Ok y → x ≡ y
one_main addrs x y h g = cc (h, g)

same_asker : (o p : Option Ask) (x y : Addr) → IsSome o → option_map bare_ask o ≡ option_map bare_ask p → IfSome o (λ ask. IsMain ask x) → IfSome p (λ ask. IsMain ask y) → x ≡ y
same_asker (Some o) (Some p) x y some like h g =
    let same = ap (λ (z : Ask). main_of (addrs_of z)) (some_same (bare_ask o) (bare_ask p) like) in
    one_main (addrs_of (bare_ask o)) x y (main_bare o ∙ h) (same ∙ main_bare p ∙ g)
same_asker (Some o) None x y some like h g = absurd (cc like)
same_asker None p x y some like h g = absurd (cc some)

stay_so : (old last new behind : Homes) → plain_homes old ≡ plain_homes last → new ≡ old → behind ≡ last → plain_homes new ≡ plain_homes behind
stay_so old last new behind same h g = ap plain_homes h ∙ same ∙ sym (ap plain_homes g)

-- ---- what a half comes to

-- Whether it goes on, or what its turn ends with: what comes of an answer and its asker. `m2_turn` keeps the type to itself.
abbrev outcome_of : {A B C : Type 0} → (A → B → C) → Type 0
outcome_of {A} {B} {C} f = C

abbrev Moved : Type 0 → Type 0
Moved E = outcome_of (moved_by {E = E})

abbrev result_of : {E : Type 0} {x : Moved E} {p : PendingNow} {m : Means} {old new : Homes} → TurnsOnce x p m old new → Moved E
result_of {E} {x} h = x

-- it is seen among no other sessions
abbrev nobody : Others
nobody = record { made = []; entity = 0; halves = []; loose = [] }

abbrev closed_so : {E : Type 0} → LooseNow → HalfAnswered E
closed_so l = answered.Closed l

abbrev stays_so : {E : Type 0} → PendingNow → HalfTurned E
stays_so p = turned.Open p

-- the half replied, and goes on
abbrev goes_on : {E : Type 0} → HalfAnswered E → Bool
goes_on (answered.Open next) = true
goes_on answer = false

goes_bare : {E : Type 0} (answer : HalfAnswered E) → goes_on answer ≡ goes_on (bare_answered answer)
goes_bare (answered.Taken answer) = refl
goes_bare (answered.Open next) = refl
goes_bare (answered.Closed loose) = refl
goes_bare (answered.Undrawn back) = refl
goes_bare (answered.NoMemory back) = refl

-- by the halves that are seen, and those that are over, where memory lasted
abbrev turned_of : {E : Type 0} → List PendingNow → List LooseNow → HalfTurned E
turned_of (p ∷ ps) ls = turned.Open p
turned_of [] (l ∷ ls) = turned.Over l
turned_of [] [] = turned.Taken

turned_back : {E : Type 0} (result : HalfTurned E) → lacks result ≡ false → bare_turned result ≡ turned_of (map plain_pending (stays_by result)) (over_by result)
turned_back (turned.Open p) k = refl
turned_back turned.Taken k = refl
turned_back (turned.Over l) k = refl
turned_back (turned.NoMemory p) k = absurd (cc k)

module _ (E : Type 0) (m : Means) where
  abbrev halves_of : Moved E → List PendingNow
  halves_of x = (with_moved x nobody []).halves

  abbrev loose_of : Moved E → List LooseNow
  loose_of x = (with_moved x nobody []).loose

  -- memory didn't run out
  abbrev Found : Moved E → Type 0
  Found x = (p : PendingNow) (h : Homes) → ComesTo turn.NoMemory x p m h h → ⊥

  -- its turn ends so
  record IsEnd (x : Moved E) (result : HalfTurned E) : Type 0 where
    pub found : lacks result ≡ false → Found x
    pub halves : halves_of x ≡ stays_by result
    pub loose : loose_of x ≡ over_by result
    pub stops : (answer : HalfAnswered E) (peer : Addr) → x ≡ moved_by answer peer → goes_on answer ≡ false

  -- it goes on
  record IsGoing (x : Moved E) (p : PendingNow) : Type 0 where
    pub found : Found x
    pub halves : halves_of x ≡ p ∷ []
    pub goes : (answer : HalfAnswered E) (peer : Addr) → x ≡ moved_by answer peer → goes_on answer ≡ true
    pub not_over : (q : PendingNow) (h : Homes) → ComesTo turn.Over x q m h h → ⊥
    pub not_open : (q : PendingNow) (h : Homes) → ComesTo turn.Waits x q m h h → ⊥

  is_end : (result : HalfTurned E) (old : HalfTurning) (new : Homes) (e : EndsTurn result m old new) → IsEnd (result_of e.last) result
  is_end result old new e = record {
    found = λ k p h c. let same : result ≡ turned.NoMemory p = cc c.0 in absurd (cc (ap lacks same, k));
    halves = halves result;
    loose = loose result;
    stops = stops;
  }
    where
      halves : (r : HalfTurned E) → (with_turned r nobody []).halves ≡ stays_by r
      halves (turned.Open p) = refl
      halves turned.Taken = refl
      halves (turned.Over l) = refl
      halves (turned.NoMemory p) = refl

      loose : (r : HalfTurned E) → (with_turned r nobody []).loose ≡ over_by r
      loose (turned.Open p) = refl
      loose turned.Taken = refl
      loose (turned.Over l) = refl
      loose (turned.NoMemory p) = refl

      stops : (answer : HalfAnswered E) (peer : Addr) → result_of e.last ≡ moved_by answer peer → goes_on answer ≡ false
      stops (answered.Open next) peer is = absurd (cc is)
      stops (answered.Taken answer) peer is = refl
      stops (answered.Closed loose) peer is = refl
      stops (answered.Undrawn back) peer is = refl
      stops (answered.NoMemory back) peer is = refl

  is_going : (old new : HalfTurning) (h : RepliesOnce E m old new) → IsGoing (result_of h) new.pending
  is_going old new h = record {
    found = λ p k c. cc c.0;
    halves = refl;
    goes = goes;
    not_over = λ q k c. cc c.0;
    not_open = λ q k c. cc c.0;
  }
    where
      goes : (answer : HalfAnswered E) (peer : Addr) → result_of h ≡ moved_by answer peer → goes_on answer ≡ true
      goes (answered.Open next) peer is = refl
      goes (answered.Taken answer) peer is = absurd (cc is)
      goes (answered.Closed loose) peer is = absurd (cc is)
      goes (answered.Undrawn back) peer is = absurd (cc is)
      goes (answered.NoMemory back) peer is = absurd (cc is)

  found_answer : (answer : HalfAnswered E) (peer : Addr) (h : Homes) → Found (moved_by answer peer) → answering.lacks answer ≡ false
  found_answer (answered.Taken answer) peer h k = refl
  found_answer (answered.Open next) peer h k = refl
  found_answer (answered.Closed loose) peer h k = refl
  found_answer (answered.Undrawn back) peer h k = refl
  found_answer (answered.NoMemory back) peer h k = absurd (k (asked_by back peer) h (refl, refl))

  -- ---- two that are alike

  -- two halves have answers that are alike
  record AreAnswered (x y : Moved E) : Type 0 where
    pub first : HalfAnswered E
    pub second : HalfAnswered E
    pub peer : Addr
    pub is : x ≡ moved_by first peer
    pub are : y ≡ moved_by second peer
    pub same : bare_answered first ≡ bare_answered second

  -- two halves that are alike come to this without an answer
  record BothCome (t : HalfTurn) (x y : Moved E) : Type 0 where
    pub first : PendingNow
    pub second : PendingNow
    pub homes : Homes
    pub is : ComesTo t x first m homes homes
    pub are : ComesTo t y second m homes homes
    pub same : plain_pending first ≡ plain_pending second

  abbrev Alike : Moved E → Moved E → Type 0
  Alike x y = AreAnswered x y ⊎ (BothCome turn.Over x y ⊎ BothCome turn.Waits x y)

  answered_halves : (answer : HalfAnswered E) (peer : Addr) → map plain_pending (halves_of (moved_by answer peer)) ≡ halves_of (moved_by (bare_answered answer) peer)
  answered_halves (answered.Taken answer) peer = refl
  answered_halves (answered.Open next) peer = refl
  answered_halves (answered.Closed loose) peer = refl
  answered_halves (answered.Undrawn back) peer = refl
  answered_halves (answered.NoMemory back) peer = refl

  answered_loose : (answer : HalfAnswered E) (peer : Addr) → loose_of (moved_by answer peer) ≡ loose_of (moved_by (bare_answered answer) peer)
  answered_loose (answered.Taken answer) peer = refl
  answered_loose (answered.Open next) peer = refl
  answered_loose (answered.Closed loose) peer = refl
  answered_loose (answered.Undrawn back) peer = refl
  answered_loose (answered.NoMemory back) peer = refl

  alike_halves : (x y : Moved E) → Alike x y → map plain_pending (halves_of x) ≡ map plain_pending (halves_of y)
  alike_halves x y (inl h) =
      ap (λ (z : Moved E). map plain_pending (halves_of z)) h.is ∙ answered_halves h.first h.peer
      ∙ ap (λ (a : HalfAnswered E). halves_of (moved_by a h.peer)) h.same
      ∙ sym (answered_halves h.second h.peer) ∙ sym (ap (λ (z : Moved E). map plain_pending (halves_of z)) h.are)
  alike_halves x y (inr (inl h)) = ap (λ (z : Moved E). map plain_pending (halves_of z)) h.is.0 ∙ sym (ap (λ (z : Moved E). map plain_pending (halves_of z)) h.are.0)
  alike_halves x y (inr (inr h)) =
      ap (λ (z : Moved E). map plain_pending (halves_of z)) h.is.0 ∙ ap (λ (p : PendingNow). p ∷ []) h.same ∙ sym (ap (λ (z : Moved E). map plain_pending (halves_of z)) h.are.0)

  alike_loose : (x y : Moved E) → Alike x y → loose_of x ≡ loose_of y
  alike_loose x y (inl h) =
      ap loose_of h.is ∙ answered_loose h.first h.peer ∙ ap (λ (a : HalfAnswered E). loose_of (moved_by a h.peer)) h.same ∙ sym (answered_loose h.second h.peer) ∙ sym (ap loose_of h.are)
  alike_loose x y (inr (inl h)) = ap loose_of h.is.0 ∙ ap (λ (p : PendingNow). closed_of p.half ∷ []) h.same ∙ sym (ap loose_of h.are.0)
  alike_loose x y (inr (inr h)) = ap loose_of h.is.0 ∙ sym (ap loose_of h.are.0)

  same_end : (x y : Moved E) (one other : HalfTurned E) → IsEnd x one → IsEnd y other → lacks one ≡ false → lacks other ≡ false → Alike x y → bare_turned one ≡ bare_turned other
  same_end x y one other h g k l a =
      let halves : map plain_pending (stays_by one) ≡ map plain_pending (stays_by other) =
      sym (ap (map plain_pending) h.halves) ∙ alike_halves x y a ∙ ap (map plain_pending) g.halves in
      turned_back one k
      ∙ ap (λ (ps : List PendingNow). turned_of ps (over_by one)) halves
      ∙ ap (λ (ls : List LooseNow). turned_of (map plain_pending (stays_by other)) ls) (sym h.loose ∙ alike_loose x y a ∙ g.loose)
      ∙ sym (turned_back other l)

  same_on : (x y : Moved E) (p q : PendingNow) → IsGoing x p → IsGoing y q → Alike x y → plain_pending p ≡ plain_pending q
  same_on x y p q h g a = (cons_same (plain_pending p) (plain_pending q) [] [] (sym (ap (map plain_pending) h.halves) ∙ alike_halves x y a ∙ ap (map plain_pending) g.halves)).0

  ends_or_goes : (x y : Moved E) (one : HalfTurned E) (q : PendingNow) → IsEnd x one → IsGoing y q → Alike x y → ⊥
  ends_or_goes x y one q h g (inl a) =
      absurd (cc (h.stops a.first a.peer a.is, goes_bare a.first ∙ ap goes_on a.same ∙ sym (goes_bare a.second), g.goes a.second a.peer a.are))
  ends_or_goes x y one q h g (inr (inl a)) = g.not_over a.second a.homes a.are
  ends_or_goes x y one q h g (inr (inr a)) = g.not_open a.second a.homes a.are

  goes_or_ends : (x y : Moved E) (p : PendingNow) (other : HalfTurned E) → IsGoing x p → IsEnd y other → Alike x y → ⊥
  goes_or_ends x y p other h g (inl a) =
      absurd (cc (g.stops a.second a.peer a.are, goes_bare a.first ∙ ap goes_on a.same ∙ sym (goes_bare a.second), h.goes a.first a.peer a.is))
  goes_or_ends x y p other h g (inr (inl a)) = h.not_over a.first a.homes a.is
  goes_or_ends x y p other h g (inr (inr a)) = h.not_open a.first a.homes a.is

  -- ---- two asks that are answered

  module _ (alone : HasAlone m) where
    answers_at : (n : ℕ) (one other : HalfAnswered E) (a b : IncomingNow) (old last new behind : Homes) → IsSome a.ask → half.plain a ≡ half.plain b → plain_homes old ≡ plain_homes last →
        answering.lacks one ≡ false → answering.lacks other ≡ false → AnswersAt n one a m old new → AnswersAt n other b m last behind →
        (bare_answered one ≡ bare_answered other) × (plain_homes new ≡ plain_homes behind)
    answers_at n one other a b old last new behind some like same k l h g =
        let rows : map plain old.records ≡ map plain last.records = ap (λ (x : PlainHomes). x.records) same in
        let side : plain h.before ≡ plain g.before = map_get plain old.records last.records n h.before g.before rows h.side g.side in
        let begins : plain_judging (judging_in h.before old) ≡ plain_judging (judging_in g.before last) =
        ap (λ (r : RecordNow). record { side = r; bytes = words old.bytes; numbers = bare_numbers old.numbers }) side
        ∙ ap (λ (x : PlainHomes). record { side = plain g.before; bytes = x.bytes; numbers = x.numbers }) same in
        let both = answers.alike.answers m one other a b (judging_in h.before old) (judging_in g.before last) (judging_in h.behind new) (judging_in g.behind behind)
        alone some like begins k l h.answers g.answers in
        let records : map plain new.records ≡ map plain behind.records =
        ap (map plain) h.records ∙ map_set plain old.records last.records n h.behind g.behind rows (ap (λ (x : PlainJudging). x.side) both.1) ∙ sym (ap (map plain) g.records) in (
          both.0,
          ap (λ (rs : List RecordNow). record (plain_homes new) { records = rs }) records
              ∙ ap (λ (x : PlainJudging). record { records = map plain behind.records; bytes = x.bytes; numbers = x.numbers }) both.1,
        )

    answers_from : (o : Option ℕ) (x y : Moved E) (p q : PendingNow) (peer : Addr) (old last new behind : Homes) → IsSome p.half.ask → plain_pending p ≡ plain_pending q →
        plain_homes old ≡ plain_homes last → Found x → Found y → AnswersFrom o x p.half peer m old new → AnswersFrom o y q.half peer m last behind → Alike x y × (plain_homes new ≡ plain_homes behind)
    answers_from (Some n) x y p q peer old last new behind some like same k l (a, at, is) (b, there, are) =
        let both = answers_at n a b p.half q.half old last new behind some (ap (λ (z : PendingNow). z.half) like) same
        (found_answer a peer old (subst Found is k)) (found_answer b peer last (subst Found are l)) at there in
        (inl (record { first = a; second = b; peer = peer; is = is; are = are; same = both.0 }), both.1)
    answers_from None x y p q peer old last new behind some like same k l (is, stays) (are, stay) =
        (inr (inl (record { first = p; second = q; homes = old; is = (is, refl); are = (are, refl); same = like })), stay_so old last new behind same stays stay)

    asks_one : (x y : Moved E) (p q : PendingNow) (old last new behind : Homes) → plain_pending p ≡ plain_pending q → plain_homes old ≡ plain_homes last → Found x → Found y →
        AnswersAsk x p m old new → AnswersAsk y q m last behind → Alike x y × (plain_homes new ≡ plain_homes behind)
    asks_one x y p q old last new behind like same k l h g =
        let some : IsSome p.half.ask = subst IsSome (sym h.arrival.in_hand) refl in
        let peer : h.peer ≡ g.peer = same_asker p.half.ask q.half.ask h.peer g.peer some (ap (λ (z : PendingNow). z.half.ask) like) h.main g.main in
        let peers : map peer_of last.records ≡ map peer_of old.records =
        peers_plain last.records ∙ sym (ap (λ (z : PlainHomes). map peer_of z.records) same) ∙ sym (peers_plain old.records) in
        let place : home_of_ask q.asker g.peer (map peer_of last.records) ≡ home_of_ask p.asker h.peer (map peer_of old.records) =
        ap (λ (z : PendingNow). home_of_ask z.asker g.peer (map peer_of last.records)) (sym like)
        ∙ ap (λ (z : Addr). home_of_ask p.asker z (map peer_of last.records)) (sym peer)
        ∙ ap (home_of_ask p.asker h.peer) peers in
        answers_from (home_of_ask p.asker h.peer (map peer_of old.records)) x y p q g.peer old last new behind some like same k l
        (subst (λ (z : Addr). AnswersFrom (home_of_ask p.asker h.peer (map peer_of old.records)) x p.half z m old new) peer h.answers)
        (subst (λ (o : Option ℕ). AnswersFrom o y q.half g.peer m last behind) place g.answers)

    -- ---- two moves on

    comes_one : (t : HalfTurn) (x y : Moved E) (p q : PendingNow) (old last new behind : Homes) → plain_pending p ≡ plain_pending q → plain_homes old ≡ plain_homes last → Found x → Found y →
        ComesTo t x p m old new → ComesTo t y q m last behind → Alike x y × (plain_homes new ≡ plain_homes behind)
    comes_one turn.Asked x y p q old last new behind like same k l h g = asks_one x y p q old last new behind like same k l h g
    comes_one turn.Over x y p q old last new behind like same k l (is, stays) (are, stay) =
        (inr (inl (record { first = p; second = q; homes = old; is = (is, refl); are = (are, refl); same = like })), stay_so old last new behind same stays stay)
    comes_one turn.NoMemory x y p q old last new behind like same k l (is, stays) g = absurd (k p old (is, refl))
    comes_one turn.Waits x y p q old last new behind like same k l (is, stays) (are, stay) =
        (inr (inr (record { first = p; second = q; homes = old; is = (is, refl); are = (are, refl); same = like })), stay_so old last new behind same stays stay)
    comes_one turn.Busy x y p q old last new behind like same k l (is, stays) (are, stay) =
        (inr (inr (record { first = p; second = q; homes = old; is = (is, refl); are = (are, refl); same = like })), stay_so old last new behind same stays stay)

    found : (t : HalfTurn) (x : Moved E) (p : PendingNow) (old new : Homes) → Found x → ComesTo t x p m old new → t ≢ turn.NoMemory
    found turn.Asked x p old new k h = λ e. cc e
    found turn.Over x p old new k h = λ e. cc e
    found turn.NoMemory x p old new k (is, stays) = absurd (k p old (is, refl))
    found turn.Waits x p old new k h = λ e. cc e
    found turn.Busy x p old new k h = λ e. cc e

    once_one : (x y : Moved E) (p q : PendingNow) (old last new behind : Homes) → IsHalfInMemory p → plain_pending p ≡ plain_pending q → plain_homes old ≡ plain_homes last → Found x → Found y →
        TurnsOnce x p m old new → TurnsOnce y q m last behind → Alike x y × (plain_homes new ≡ plain_homes behind)
    once_one x y p q old last new behind there like same k l h g =
        let both = advances.alike.advances h.to g.to p.half q.half h.on g.on there (ap (λ (z : PendingNow). z.half) like) (found h.to x (record p { half = h.on }) old new k h.comes)
        (found g.to y (record q { half = g.on }) last behind l g.comes) h.advances g.advances in
        let on : plain_pending (record p { half = h.on }) ≡ plain_pending (record q { half = g.on }) =
        ap (λ (z : IncomingNow). record { half = z; asker = p.asker }) both.1 ∙ ap (λ (z : PendingNow). record { half = half.plain g.on; asker = z.asker }) like in
        comes_one h.to x y (record p { half = h.on }) (record q { half = g.on }) old last new behind on same k l h.comes
        (subst (λ (t : HalfTurn). ComesTo t y (record q { half = g.on }) m last behind) (sym both.0) g.comes)

  -- ---- what stays

  -- where it stays its end is in memory
  abbrev InMemory : Moved E → Type 0
  InMemory x = AllByRecursion IsHalfInMemory (halves_of x)

  answer_in_memory : (answer : HalfAnswered E) (peer : Addr) → StaysInMemory answer → InMemory (moved_by answer peer)
  answer_in_memory (answered.Taken answer) peer there = tt
  answer_in_memory (answered.Open next) peer there = (there, tt)
  answer_in_memory (answered.Closed loose) peer there = tt
  answer_in_memory (answered.Undrawn back) peer there = (there, tt)
  answer_in_memory (answered.NoMemory back) peer there = (there, tt)

  abbrev Stays : Moved E → Homes → Type 0
  Stays x new = AllByRecursion IsFit new.records × InMemory x

  answers_stay : (o : Option ℕ) (x : Moved E) (a : IncomingNow) (peer : Addr) (old new : Homes) → IsSome a.ask → IsInMemory a.end → AllByRecursion IsFit old.records → Found x →
      AnswersFrom o x a peer m old new → Stays x new
  answers_stay (Some n) x a peer old new some there f k (answer, h, is) =
      let both = answers.alike.stays m answer a (judging_in h.before old) (judging_in h.behind new) some there (all_at IsFit old.records n h.before h.side f)
      (found_answer answer peer old (subst Found is k)) h.answers in (
        subst (AllByRecursion IsFit) (sym h.records) (all_set IsFit old.records n h.behind f both.0),
        subst InMemory (sym is) (answer_in_memory answer peer both.1),
      )
  answers_stay None x a peer old new some there f k (is, same) = (subst (λ (z : Homes). AllByRecursion IsFit z.records) (sym same) f, subst InMemory (sym is) tt)

  comes_stay : (t : HalfTurn) (x : Moved E) (p : PendingNow) (old new : Homes) → IsHalfInMemory p → AllByRecursion IsFit old.records → Found x → ComesTo t x p m old new → Stays x new
  comes_stay turn.Asked x p old new there f k h =
      answers_stay (home_of_ask p.asker h.peer (map peer_of old.records)) x p.half h.peer old new (subst IsSome (sym h.arrival.in_hand) refl) there f k h.answers
  comes_stay turn.Over x p old new there f k (is, same) = (subst (λ (z : Homes). AllByRecursion IsFit z.records) (sym same) f, subst InMemory (sym is) tt)
  comes_stay turn.NoMemory x p old new there f k (is, same) = absurd (k p old (is, refl))
  comes_stay turn.Waits x p old new there f k (is, same) = (subst (λ (z : Homes). AllByRecursion IsFit z.records) (sym same) f, subst InMemory (sym is) (there, tt))
  comes_stay turn.Busy x p old new there f k (is, same) = (subst (λ (z : Homes). AllByRecursion IsFit z.records) (sym same) f, subst InMemory (sym is) (there, tt))

  once_stays : (x : Moved E) (p : PendingNow) (old new : Homes) → IsHalfInMemory p → AllByRecursion IsFit old.records → Found x → TurnsOnce x p m old new → Stays x new
  once_stays x p old new there f k h = comes_stay h.to x (record p { half = h.on }) old new (advances.alike.stays h.to p.half h.on there h.advances) f k h.comes

  -- ---- a turn

  -- how it ends, where so many replies are left to it
  record Ended (one : HalfTurned E) (most : ℕ) (old : HalfTurning) (new : Homes) : Type 0 where
    pub to : Moved E
    pub last : TurnsOnce to old.pending m old.homes new
    pub is : IsEnd to one
    pub some : 0 < most

  record HasNoMore (one : HalfTurned E) (most : ℕ) (old : HalfTurning) (new : Homes) : Type 0 where
    pub is : one ≡ stays_so old.pending
    pub same : new ≡ old.homes
    pub none : most ≡ 0

  -- a reply, behind which it goes on
  record Goes (most : ℕ) (old new : HalfTurning) : Type 0 where
    pub to : Moved E
    pub once : TurnsOnce to old.pending m old.homes new.homes
    pub is : IsGoing to new.pending
    pub some : 0 < most

  -- replies, one after another, and then this end
  abbrev Walks : HalfTurned E → List HalfTurning → (most : ℕ) → HalfTurning → Homes → Type 0
  Walks one [] most old new = Ended one most old new ⊎ HasNoMore one most old new
  Walks one (t ∷ ts) most old new = Goes most old t × Walks one ts (most - 1) t new

  abbrev turning_of : PendingNow → Homes → HalfTurning
  turning_of p h = record { pending = p; homes = h }

  goes : (most : ℕ) (old new : HalfTurning) → 0 < most → RepliesOnce E m old new → Goes most old new
  goes most old new some h = record { to = result_of h; once = h; is = is_going old new h; some = some }

  ended : (one : HalfTurned E) (start : HalfTurning) (new : Homes) (e : EndsTurn one m start new) (ts : List HalfTurning) (most : ℕ) (old : HalfTurning) →
      length ts < most → Replies E m ts old e.mid → Walks one ts most old new
  ended one start new e [] most old few same = inl (record {
    to = result_of e.last;
    last = subst (λ (t : HalfTurning). TurnsOnce (result_of e.last) t.pending m t.homes new) (sym same) e.last;
    is = is_end one start new e;
    some = omega (arith, few);
  })
  ended one start new e (t ∷ ts) most old few (first, rest) = (goes most old t (omega (arith, few)) first, ended one start new e ts (most - 1) t (omega (arith, few)) rest)

  replied : (p : PendingNow) (ts : List HalfTurning) (most : ℕ) (old : HalfTurning) (new : Homes) → length ts ≡ most → Replies E m ts old (turning_of p new) → Walks (stays_so p) ts most old new
  replied p [] most old new many same =
      inr (record { is = ap (λ (t : HalfTurning). stays_so {E = E} t.pending) (sym same); same = ap (λ (t : HalfTurning). t.homes) (sym same); none = omega (arith, many) })
  replied p (t ∷ ts) most old new many (first, rest) = (goes most old t (omega (arith, many)) first, replied p ts (most - 1) t new (omega (arith, many)) rest)

  walks : (one : HalfTurned E) (p : PendingNow) (old new : Homes) → TurnsHalf one p m old new → (ts : List HalfTurning) × Walks one ts MOST_ASKS (turning_of p old) new
  walks one p old new (inl h) = (h.stood, ended one (turning_of p old) new h h.stood MOST_ASKS (turning_of p old) h.within h.replies)
  walks one p old new (inr h) =
      (h.stood, subst (λ (x : HalfTurned E). Walks x h.stood MOST_ASKS (turning_of p old) new) (sym h.stays) (replied h.pending h.stood MOST_ASKS (turning_of p old) new h.many h.replies))

  -- behind a reply
  goes_stay : (most : ℕ) (old new : HalfTurning) → IsHalfInMemory old.pending → AllByRecursion IsFit old.homes.records → Goes most old new →
      IsHalfInMemory new.pending × AllByRecursion IsFit new.homes.records
  goes_stay most old new there f h =
      let stays = once_stays h.to old.pending old.homes new.homes there f h.is.found h.once in
      ((subst (AllByRecursion IsHalfInMemory) h.is.halves stays.1).0, stays.0)

  module _ (alone : HasAlone m) where
    both_walk : (one other : HalfTurned E) (ts us : List HalfTurning) (most : ℕ) (old last : HalfTurning) (new behind : Homes) → IsHalfInMemory old.pending → AllByRecursion IsFit old.homes.records →
        plain_pending old.pending ≡ plain_pending last.pending → plain_homes old.homes ≡ plain_homes last.homes → lacks one ≡ false → lacks other ≡ false → Walks one ts most old new →
        Walks other us most last behind → (bare_turned one ≡ bare_turned other) × (plain_homes new ≡ plain_homes behind)
    both_walk one other [] [] most old last new behind there f like same k l (inl h) (inl g) =
        let both = once_one alone h.to g.to old.pending last.pending old.homes last.homes new behind there like same (h.is.found k) (g.is.found l) h.last g.last in
        (same_end h.to g.to one other h.is g.is k l both.0, both.1)
    both_walk one other [] [] most old last new behind there f like same k l (inr h) (inr g) =
        (ap bare_turned h.is ∙ ap (λ (p : PendingNow). stays_so {E = E} p) like ∙ sym (ap bare_turned g.is), ap plain_homes h.same ∙ same ∙ sym (ap plain_homes g.same))
    both_walk one other [] [] most old last new behind there f like same k l (inl h) (inr g) = absurd (omega (arith, h.some, g.none))
    both_walk one other [] [] most old last new behind there f like same k l (inr h) (inl g) = absurd (omega (arith, g.some, h.none))
    both_walk one other [] (u ∷ us) most old last new behind there f like same k l (inl h) (g, rest) =
        absurd (ends_or_goes h.to g.to one u.pending h.is g.is
        (once_one alone h.to g.to old.pending last.pending old.homes last.homes new u.homes there like same (h.is.found k) g.is.found h.last g.once).0)
    both_walk one other [] (u ∷ us) most old last new behind there f like same k l (inr h) (g, rest) = absurd (omega (arith, h.none, g.some))
    both_walk one other (t ∷ ts) [] most old last new behind there f like same k l (h, rest) (inl g) =
        absurd (goes_or_ends h.to g.to t.pending other h.is g.is
        (once_one alone h.to g.to old.pending last.pending old.homes last.homes t.homes behind there like same h.is.found (g.is.found l) h.once g.last).0)
    both_walk one other (t ∷ ts) [] most old last new behind there f like same k l (h, rest) (inr g) = absurd (omega (arith, g.none, h.some))
    both_walk one other (t ∷ ts) (u ∷ us) most old last new behind there f like same k l (h, rest) (g, others) =
        let both = once_one alone h.to g.to old.pending last.pending old.homes last.homes t.homes u.homes there like same h.is.found g.is.found h.once g.once in
        let stays = goes_stay most old t there f h in
        both_walk one other ts us (most - 1) t u new behind stays.0 stays.1 (same_on h.to g.to t.pending u.pending h.is g.is both.0) both.1 k l rest others

  turns : (one other : HalfTurned E) (p q : PendingNow) (old last new behind : Homes) → HasAlone m → IsHalfInMemory p → AllByRecursion IsFit old.records → plain_pending p ≡ plain_pending q →
      plain_homes old ≡ plain_homes last → lacks one ≡ false → lacks other ≡ false → TurnsHalf one p m old new → TurnsHalf other q m last behind →
      (bare_turned one ≡ bare_turned other) × (plain_homes new ≡ plain_homes behind)
  turns one other p q old last new behind alone there f like same k l h g =
      let (ts, first) = walks one p old new h in
      let (us, second) = walks other q last behind g in
      both_walk alone one other ts us MOST_ASKS (turning_of p old) (turning_of q last) new behind there f like same k l first second

  walk_stays : (one : HalfTurned E) (ts : List HalfTurning) (most : ℕ) (old : HalfTurning) (new : Homes) → IsHalfInMemory old.pending → AllByRecursion IsFit old.homes.records → lacks one ≡ false →
      Walks one ts most old new → AllByRecursion IsFit new.records × AllByRecursion IsHalfInMemory (stays_by one)
  walk_stays one [] most old new there f k (inl h) =
      let stays = once_stays h.to old.pending old.homes new there f (h.is.found k) h.last in (stays.0, subst (AllByRecursion IsHalfInMemory) h.is.halves stays.1)
  walk_stays one [] most old new there f k (inr h) =
      (subst (λ (x : Homes). AllByRecursion IsFit x.records) (sym h.same) f, subst (λ (x : HalfTurned E). AllByRecursion IsHalfInMemory (stays_by x)) (sym h.is) (there, tt))
  walk_stays one (t ∷ ts) most old new there f k (h, rest) = let stays = goes_stay most old t there f h in walk_stays one ts (most - 1) t new stays.0 stays.1 k rest

  stays : (one : HalfTurned E) (p : PendingNow) (old new : Homes) → IsHalfInMemory p → AllByRecursion IsFit old.records → lacks one ≡ false → TurnsHalf one p m old new →
      AllByRecursion IsFit new.records × AllByRecursion IsHalfInMemory (stays_by one)
  stays one p old new there f k h = let (ts, walk) = walks one p old new h in walk_stays one ts MOST_ASKS (turning_of p old) new there f k walk

pub alike : {E : Type 0} → LikeHalvesTurnAlike E
alike {E} = record { turns = turns E; stays = stays E }
