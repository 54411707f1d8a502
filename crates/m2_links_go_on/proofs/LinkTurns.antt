-- Where a node goes on, so does its record of a link, with its ends and the node's halves.
use Rattle.std.proofs.Common.{◌≡◌, ◌≤◌, ◌⊎◌, inl, inr, Bool, true, List, [], length, Option, Some, refl, sym, ap, subst, ◌∙◌, arith}
use Rattle.m2_fabric.specs.declared.socket.SocketId.{SocketId}
use Rattle.m2_fabric.specs.End.{SeenEnd}
use Rattle.m2_fabric.specs.Sockets.{is_among}
use Rattle.m2_growth.specs.Ends.{EndGrows, EndGrowsTo}
use Rattle.m2_growth.specs.Halves.{IsLeft, IsOneOf, IsTakenBy, asked_on}
use Rattle.m2_growth.specs.Holding.{all_ends}
use Rattle.m2_growth.specs.Records.{RecordGrows}
use Rattle.m2_growth.proofs.Among.{among_mapped, of_each}
use Rattle.m2_history.proofs.Kept.{records_are_kept}
use Rattle.m2_history.specs.Link.{IsKeptHalf, IsWholeHalf, end_ids, parts_of}
use Rattle.m2_weave.specs.m2_journal.Lawful.{judged_on}
use Rattle.m2_history.specs.m2_record.IsRecord.{IsRecord}
use Rattle.m2_history.specs.m2_record.RecordNow.{RecordNow, ends_of, ids_of}
use Rattle.m2_history.specs.m2_record.Sources.{end_at}
use Rattle.m2_history.specs.m2_record.TakenTrails.{judgements_in}
use Rattle.m2_history.specs.m2_trail.Arrivals.{LooseNow}
use Rattle.m2_history.specs.m2_trail.Trails.{TrailNow}
use Rattle.m2_weave.specs.Strands.{has_opened, journal_of}
use Rattle.m2_links_go_on.specs.Linked.{HasNoOther, NodeGoesOn, NodeNow, left_at}
use Rattle.m2_links_go_on.proofs.Callers.{IsCalled, IsJudgedBy, judged_by_one}
use Rattle.m2_links_go_on.proofs.Going.{IsKnown, IsLaterEnd, IsLaterLeft, IsLaterTaken, StandsOn}
use Rattle.m2_links_go_on.proofs.Nodes as node
use Rattle.m2_links_go_on.proofs.LinkRecords.{HasOne, asked_on_still, at_place, ends_stay, grows_there, has_one, judge_before, knows_kind, one_judge, one_record}
use Rattle.m2_links_go_on.proofs.Standing.{AreOpposed, StandsAt, judged_sockets, taken_asked}

-- the ends of a socket, before and later
grown : (e f : SeenEnd) (o p : Option SeenEnd) → o ≡ Some e → p ≡ Some f → EndGrowsTo o p → EndGrows e f
grown e f o p q r g = subst (λ x. EndGrowsTo (Some e) x) r (subst (λ x. EndGrowsTo x p) q g)

module _ (old new : NodeNow) (on : NodeGoesOn old new) where
  abbrev a : RecordNow
  a = old.side

  abbrev b : RecordNow
  b = new.side

  pub was_there : IsOneOf a old.holding.records
  was_there = at_place a old.holding.records on.place on.was

  pub is_there : IsOneOf b new.holding.records
  is_there = at_place b new.holding.records on.place on.is

  pub side_grows : RecordGrows a b
  side_grows = grows_there a b old.holding.records new.holding.records on.place on.was on.is on.grows.grows.records

  was_record : IsRecord a
  was_record = node.is_record old.holding on.before a was_there

  now_record : IsRecord b
  now_record = node.is_record new.holding on.now b is_there

  -- an end, and what the record has of its socket by the end
  later_end : (k : SocketId) (e : SeenEnd) → end_at (all_ends old.holding) k ≡ Some e → HasOne (ends_of b) k → IsLaterEnd (ends_of b) e
  later_end k e at found = record {
    end = found.end;
    there = found.there;
    grows = grown e found.end (end_at (all_ends old.holding) k) (end_at (all_ends new.holding) k) at (node.held_at new.holding on.now b is_there k found.end found.at) (on.grows.grows.ends k);
  }

  pub end_later : (e : SeenEnd) → IsOneOf e (ends_of a) → IsLaterEnd (ends_of b) e
  end_later e i =
      let among : is_among e.id (ids_of (ends_of a)) ≡ true = among_mapped (λ (x : SeenEnd). x.id) e e.id (ends_of a) i refl in
      later_end e.id e (node.held_at old.holding on.before a was_there e.id e (node.own_at old.holding on.before a was_there e i))
      (has_one (ends_of b) e.id (ends_stay a b was_record now_record side_grows.journal e.id among))

  -- ---- halves

  old_socket : (l : LooseNow) → IsOneOf l (left_at old) → l.trail.socket ≡ l.end.id
  old_socket l i = of_each (λ (x : LooseNow). x.trail.socket ≡ x.end.id) l (left_at old) on.before.own.on_socket i

  left_later : (l : LooseNow) → IsOneOf l (left_at old) → IsLeft new.holding.halves l.trail → IsLaterLeft (left_at new) l
  left_later l i left =
      let m = left.half in
      let m_on : m.trail.socket ≡ m.end.id = of_each (λ (x : LooseNow). x.trail.socket ≡ x.end.id) m (left_at new) on.now.own.on_socket left.there in
      let same : m.end.id ≡ l.end.id = sym m_on ∙ left.grows.socket ∙ old_socket l i in
      record {
        half = m;
        there = left.there;
        grows = left.grows;
        end = grown l.end m.end (end_at (all_ends old.holding) l.end.id) (end_at (all_ends new.holding) l.end.id) (node.half_at old.holding on.before l i)
            (ap (end_at (all_ends new.holding)) (sym same) ∙ node.half_at new.holding on.now m left.there) (on.grows.grows.ends l.end.id);
      }

  -- one that the record of the link has taken
  taken_by : (l : LooseNow) → IsOneOf l (left_at old) → (t : IsTakenBy new.holding.records l.trail) → (t.side ≡ b) → IsLaterTaken (parts_of b) l
  taken_by l i t same =
      let its : IsOneOf t.trail b.trails = subst (λ (r : RecordNow). IsOneOf t.trail r.trails) same t.taken in
      let half : IsKeptHalf (end_ids (parts_of b)) b.journal t.trail = of_each (IsKeptHalf (end_ids (parts_of b)) b.journal) t.trail b.trails (records_are_kept b now_record).halves its in
      let there : is_among l.end.id (ids_of (ends_of b)) ≡ true = ap (λ k. is_among k (ids_of (ends_of b))) (sym (t.grows.socket ∙ old_socket l i)) ∙ half.end in
      record {
        trail = t.trail;
        taken = its;
        grows = t.grows;
        end = later_end l.end.id l.end (node.half_at old.holding on.before l i) (has_one (ends_of b) l.end.id there);
      }

  -- the record that has taken it has judged asks there, and has an end
  taker_asked : (l : LooseNow) → IsOneOf l (left_at old) → (t : IsTakenBy new.holding.records l.trail) → is_among l.end.id (asked_on t.side) ≡ true
  taker_asked l i t =
      let is = node.is_record new.holding on.now t.side t.there in
      let among = among_mapped (λ (x : TrailNow). x.socket) t.trail l.end.id t.side.trails t.taken (sym (t.grows.socket ∙ old_socket l i)) in
      taken_asked l.end.id t.side.journal (sym (ap (is_among l.end.id) is.trails.sockets) ∙ among)

  taker_end : (l : LooseNow) → IsOneOf l (left_at old) → (t : IsTakenBy new.holding.records l.trail) → HasOne (ends_of t.side) l.end.id
  taker_end l i t =
      let half = of_each (IsKeptHalf (end_ids (parts_of t.side)) t.side.journal) t.trail t.side.trails (records_are_kept t.side (node.is_record new.holding on.now t.side t.there)).halves t.taken in
      has_one (ends_of t.side) l.end.id (ap (λ k. is_among k (ids_of (ends_of t.side))) (sym (t.grows.socket ∙ old_socket l i)) ∙ half.end)

  module _ (here away : SocketId → Bool) (opposed : AreOpposed here away) (was : StandsAt here away (parts_of a) (left_at old)) (other : RecordNow) (ls : List LooseNow)
      (far : StandsAt away here (parts_of other) ls) (alone : HasNoOther other new) where
    comes : (l : LooseNow) → IsOneOf l (left_at old) → here l.end.id ≡ true
    comes l i = of_each (λ (x : LooseNow). here x.end.id ≡ true) l (left_at old) was.comes i

    -- it is the one of the link
    taker : (l : LooseNow) → IsOneOf l (left_at old) → IsKnown a.journal other.journal l → (t : IsTakenBy new.holding.records l.trail) → t.side ≡ b
    taker l i (inl mine) t = by (knows_kind l.end.id a.journal mine)
      where
        by : (has_opened (journal_of a.journal) l.end.id ≡ true) ⊎ (is_among l.end.id (judged_sockets a.journal) ≡ true) → t.side ≡ b
        by (inl o) = absurd (opposed l.end.id (comes l i) (was.opened l.end.id o))
        by (inr asked) =
            one_judge t.side b new.holding.records t.there is_there on.now.halves.one_judge l.end.id (taker_asked l i t) (asked_on_still a.journal b.journal l.end.id side_grows.journal asked)
    taker l i (inr theirs) t = by (knows_kind l.end.id other.journal theirs)
      where
        by : (has_opened (journal_of other.journal) l.end.id ≡ true) ⊎ (is_among l.end.id (judged_sockets other.journal) ≡ true) → t.side ≡ b
        by (inl o) =
            let its = taker_end l i t in
            let mine = has_one (ends_of b) l.end.id (alone l.end.id o (node.among_all new.holding on.now t.side t.there l.end.id its.end its.at)) in
            one_record t.side b new.holding.records t.there is_there (node.records_own new.holding on.now) l.end.id its.end mine.end its.at mine.at
        by (inr asked) = absurd (opposed l.end.id (comes l i) (far.asked l.end.id asked))

    half_later : (l : LooseNow) → IsOneOf l (left_at old) → IsKnown a.journal other.journal l → IsLaterLeft (left_at new) l ⊎ IsLaterTaken (parts_of b) l
    half_later l i known = by (of_each (λ (x : LooseNow). IsLeft new.holding.halves x.trail ⊎ IsTakenBy new.holding.records x.trail) l (left_at old) on.grows.grows.halves i)
      where
        by : IsLeft new.holding.halves l.trail ⊎ IsTakenBy new.holding.records l.trail → IsLaterLeft (left_at new) l ⊎ IsLaterTaken (parts_of b) l
        by (inl left) = inl (left_later l i left)
        by (inr t) = inr (taken_by l i t (taker l i known t))

    -- what was judged of a half on whose socket the record has judged asks by the end
    counted : (l : LooseNow) → IsOneOf l (left_at old) → is_among l.trail.socket (judged_sockets b.journal) ≡ true → length l.trail.judged_after ≤ length (judged_on l.trail.socket (judgements_in a.journal))
    counted l i asked = by (judged_by_one old.holding.port.made old.holding.records called.caller called.is)
      where
        called : IsCalled old.holding.port.made old.holding.records l
        called = node.called old.holding on.before a was_there l i

        same : called.caller.socket ≡ l.trail.socket
        same = called.socket ∙ sym (old_socket l i)

        many : length l.trail.judged_after ≡ length l.trail.judged
        many = (of_each IsWholeHalf l (left_at old) on.before.whole i).facts.many

        by : (called.caller.judged ≡ []) ⊎ IsJudgedBy old.holding.records called.caller.socket called.caller.judged → length l.trail.judged_after ≤ length (judged_on l.trail.socket (judgements_in a.journal))
        by (inl none) = omega (arith, many, ap length (called.judged), ap length none)
        by (inr j) =
            let r_is : j.side ≡ a =
            judge_before a b j.side old.holding.records new.holding.records on.place on.was on.is on.grows.grows.records on.now.halves.one_judge l.trail.socket j.there
            (ap (λ k. is_among k (judged_sockets j.side.journal)) (sym same) ∙ j.asked) asked in
            let all : l.trail.judged ≡ judged_on l.trail.socket (judgements_in a.journal) =
            sym called.judged ∙ j.all ∙ ap (λ k. judged_on k (judgements_in j.side.journal)) same ∙ ap (λ (r : RecordNow). judged_on l.trail.socket (judgements_in r.journal)) r_is in
            omega (arith, many, ap length all)

    pub stands_on : StandsOn (parts_of a) (parts_of b) (left_at old) (left_at new) other.journal
    stands_on = record { journal = side_grows.journal; trails = side_grows.trails; ends = end_later; halves = half_later; counted = counted }
