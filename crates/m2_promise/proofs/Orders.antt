-- Where a node acts, each link goes on, and what was got on it had been put before: so there is an order of all that was done on it.
use Rattle.std.proofs.Common.{◌≡◌, ℕ, zero, suc, List, [], ◌∷◌, ◌++◌, map, Some, refl, sym, ap, subst, ◌∙◌, ◌⊎◌, inl, inr, true, not}
use Rattle.std.specs.Prelude.{slice_get}
use Rattle.std.specs.List.{AllByRecursion, IsDistinct}
use Rattle.m2_fabric.specs.End.{SeenEnd}
use Rattle.m2_links_go_on.specs.m2_growth.Halves.{IsOneOf, all_left}
use Rattle.m2_links_go_on.specs.m2_growth.Holding.{Holding}
use Rattle.m2_links_go_on.specs.m2_growth.Records.{RecordGrows, RecordsGrow}
use Rattle.m2_links_go_on.proofs.m2_growth.Among.{mapped_one, of_each, one_back, one_front}
use Rattle.m2_links_go_on.specs.m2_history.Link.{both_of}
use Rattle.m2_links_go_on.specs.m2_history.Woven as woven
use Rattle.m2_links_go_on.specs.m2_history.Woven.{BothNow, EndNow, bytes_at, end_of, half_end, knows, loose_ends}
use Rattle.m2_links_go_on.specs.LinkLaws.{LinksAreWoven, LinksGoOn, StayingGoesOn}
use Rattle.m2_links_go_on.specs.Linked.{NodeGoesOn, NodeNow, Nodes, NodesGoOn, link_at}
use Rattle.m2_links_go_on.proofs.Ends.{IsFrom, from_end, nothing}
use Rattle.m2_links_go_on.proofs.Going.{IsKnown, opened_on}
use Rattle.m2_links_go_on.proofs.LinkGoes.{each_end, of_link, one_end}
use Rattle.m2_links_go_on.proofs.LinkRecords.{at_place}
use Rattle.m2_links_go_on.proofs.LinkTurns as turns
use Rattle.m2_script.specs.m2_record.RecordNow.{RecordNow, ends_of}
use Rattle.m2_lives.specs.m2_bytes_fit.m2_trail.Arrivals.{LooseNow}
use Rattle.m2_links_go_on.specs.Sides.{woven_now}
use Rattle.m2_links_go_on.specs.m2_weave.TurnLaws.{HasOrder}
use Rattle.m2_links_go_on.specs.m2_weave.Later.{GoesOn, HadFlowed}
use Rattle.m2_links_go_on.specs.m2_history.WovenLink.{same_end}
use Rattle.m2_promise.specs.Running.{HaveOrders, IsLinkOf, IsRunning, NodeActs, RunNow}
use Rattle.m2_promise.proofs.Acting.{by_place}
use Rattle.m2_promise.proofs.Flowing as flowing
use Rattle.m2_promise.proofs.Flowing.{HadCome, none_goes}
use Rattle.m2_promise.proofs.Towards as link
use Rattle.m2_promise.proofs.Towards.{AreTowards, turned}
use Rattle.m2_fabric.proofs.m2_lemmas.Lists.{all_append}

-- ---- the ends of a link

module _ (a b : RecordNow) (ls ms : List LooseNow) where
  abbrev near_ends : List EndNow
  near_ends = map (end_of a.journal) (ends_of a)

  abbrev far_ends : List EndNow
  far_ends = map (end_of b.journal) (ends_of b)

  abbrev half_ends : List EndNow
  half_ends = loose_ends a.journal b.journal (ls ++ ms)

  abbrev all_ends : List EndNow
  all_ends = woven.ends_of (both_of a b (ls ++ ms))

  of_near : (e : SeenEnd) → IsOneOf e (ends_of a) → IsOneOf (end_of a.journal e) all_ends
  of_near e i = one_front (end_of a.journal e) (near_ends ++ far_ends) half_ends (one_front (end_of a.journal e) near_ends far_ends (mapped_one (end_of a.journal) e (ends_of a) i))

  of_far : (e : SeenEnd) → IsOneOf e (ends_of b) → IsOneOf (end_of b.journal e) all_ends
  of_far e i = one_front (end_of b.journal e) (near_ends ++ far_ends) half_ends (one_back (end_of b.journal e) near_ends far_ends (mapped_one (end_of b.journal) e (ends_of b) i))

  of_near_half : (l : LooseNow) → IsOneOf l ls → knows b.journal l.end.id ≡ true → IsOneOf (half_end l) all_ends
  of_near_half l i k = one_back (half_end l) (near_ends ++ far_ends) half_ends (one_end a.journal b.journal l (ls ++ ms) (one_front l ls ms i) (of_link a.journal b.journal l (inr k)))

  of_far_half : (l : LooseNow) → IsOneOf l ms → knows a.journal l.end.id ≡ true → IsOneOf (half_end l) all_ends
  of_far_half l i k = one_back (half_end l) (near_ends ++ far_ends) half_ends (one_end a.journal b.journal l (ls ++ ms) (one_back l ls ms i) (of_link a.journal b.journal l (inl k)))

  in_either : {X : Type 0} (x : X) (xs ys : List X) → IsOneOf x (xs ++ ys) → IsOneOf x xs ⊎ IsOneOf x ys
  in_either x [] ys i = inr i
  in_either x (z ∷ xs) ys (inl e) = inl (inl e)
  in_either x (z ∷ xs) ys (inr i) = by (in_either x xs ys i)
    where
      by : IsOneOf x xs ⊎ IsOneOf x ys → ((x ≡ z) ⊎ IsOneOf x xs) ⊎ IsOneOf x ys
      by (inl j) = inl (inr j)
      by (inr j) = inr j

  -- what holds of the ends of both records and of the halves beside them holds of all
  all_of : (P : EndNow → Type 0) → AllByRecursion P near_ends → AllByRecursion P far_ends →
      ((l : LooseNow) → IsOneOf l ls → IsKnown a.journal b.journal l → P (half_end l)) → ((l : LooseNow) → IsOneOf l ms → IsKnown b.journal a.journal l → P (half_end l)) → AllByRecursion P all_ends
  all_of P near far mine theirs =
      all_append P (near_ends ++ far_ends) half_ends (all_append P near_ends far_ends near far) (each_end P a.journal b.journal (ls ++ ms) (λ l i k. by l k (in_either l ls ms i)))
    where
      turn : {A B : Type 0} → A ⊎ B → B ⊎ A
      turn (inl a) = inr a
      turn (inr b) = inl b

      by : (l : LooseNow) → IsKnown a.journal b.journal l → IsOneOf l ls ⊎ IsOneOf l ms → P (half_end l)
      by l k (inl i) = mine l i k
      by l k (inr i) = theirs l i (turn k)

-- what each end by the end of the turn got the other had put before: so it is of the bytes of all sockets
had_flowed : (old new : BothNow) → AllByRecursion (HadCome (woven.ends_of old)) (woven.ends_of new) → HadFlowed (woven_now old) (woven_now new)
had_flowed old new all e = by (from_end e.socket e.opener (woven.ends_of new))
  where
    put : List ℕ
    put = (bytes_at e.socket (not e.opener) (woven.ends_of old)).put

    by : IsFrom e.socket e.opener (woven.ends_of new) (woven.ends_of new) ⊎ (bytes_at e.socket e.opener (woven.ends_of new) ≡ nothing) →
        GoesOn (bytes_at e.socket e.opener (woven.ends_of new)).got (bytes_at e.socket (not e.opener) (woven.ends_of old)).put
    by (inl f) =
        let had : HadCome (woven.ends_of old) f.end = of_each (HadCome (woven.ends_of old)) f.end (woven.ends_of new) all f.there in
        let here : GoesOn f.end.got (bytes_at e.socket (not f.end.opener) (woven.ends_of old)).put = subst (λ k. GoesOn f.end.got (bytes_at k (not f.end.opener) (woven.ends_of old)).put) f.socket had in
        let its : GoesOn f.end.got (bytes_at e.socket (not e.opener) (woven.ends_of old)).put = subst (λ o. GoesOn f.end.got (bytes_at e.socket (not o) (woven.ends_of old)).put) f.opener here in
        subst (λ l. GoesOn l (bytes_at e.socket (not e.opener) (woven.ends_of old)).put) (sym (ap (λ bytes. bytes.got) f.bytes)) its
    by (inr none) = none_goes (bytes_at e.socket e.opener (woven.ends_of new)).got (bytes_at e.socket (not e.opener) (woven.ends_of old)).put (ap (λ bytes. bytes.got) none)

-- ---- what a node and its record of a link were

record Stood (rs : List RecordNow) (n : ℕ) : Type 0 where
  side : RecordNow
  at : slice_get rs n ≡ Some side

stood : (rs ss : List RecordNow) (n : ℕ) (s : RecordNow) → RecordsGrow rs ss → slice_get ss n ≡ Some s → Stood rs n
stood [] [] n s g at = absurd cc
stood [] (y ∷ ss) n s g at = absurd g
stood (r ∷ rs) [] n s g at = absurd g
stood (r ∷ rs) (y ∷ ss) zero s g at = record { side = r; at = refl }
stood (r ∷ rs) (y ∷ ss) (suc n) s g at = let rest = stood rs ss n s g.1 at in record { side = rest.side; at = rest.at }

record SideWas (old : RunNow) (n : ℕ) (h : Holding) (a : RecordNow) : Type 0 where
  before : NodeNow
  was : slice_get old.holdings n ≡ Some before.holding
  on : NodeGoesOn before (record { holding = h; side = a })

module _ (i : ℕ) (old new : RunNow) (staying : StayingGoesOn) (links : LinksGoOn) (run : IsRunning old) (now : IsRunning new) (acts : NodeActs i old new) where
  side_was : (n : ℕ) (h : Holding) → slice_get new.holdings n ≡ Some h → (place : ℕ) (a : RecordNow) → slice_get h.records place ≡ Some a → SideWas old n h a
  side_was = by_place i old new acts (λ n h. (place : ℕ) (a : RecordNow) → slice_get h.records place ≡ Some a → SideWas old n h a) this others
    where
      this : (place : ℕ) (a : RecordNow) → slice_get acts.behind.records place ≡ Some a → SideWas old i acts.behind a
      this place a at =
          let r = stood acts.before.records acts.behind.records place a acts.grows.grows.records at in
          record {
            before = record { holding = acts.before; side = r.side };
            was = acts.was;
            on = record { before = (run.nodes i acts.before acts.was).node; now = acts.node.node; grows = acts.grows; place = place; was = r.at; is = at };
          }

      others : (n : ℕ) (h : Holding) → slice_get old.holdings n ≡ Some h → (place : ℕ) (a : RecordNow) → slice_get h.records place ≡ Some a → SideWas old n h a
      others n h there place a at = record {
        before = record { holding = h; side = a };
        was = there;
        on = staying (record { holding = h; side = a }) place (run.nodes n h there).node at;
      }

  module _ (h g : Holding) (a b : RecordNow) (l : IsLinkOf new h g a b) where
    near : SideWas old l.i h a
    near = side_was l.i h l.near l.a_at a l.a_there

    far : SideWas old l.j g b
    far = side_was l.j g l.far l.b_at b l.b_there

    module _ (before : NodeNow) (beyond : NodeNow) (near_was : slice_get old.holdings l.i ≡ Some before.holding) (far_was : slice_get old.holdings l.j ≡ Some beyond.holding)
        (near_on : NodeGoesOn before (record { holding = h; side = a })) (far_on : NodeGoesOn beyond (record { holding = g; side = b })) where
      abbrev h0 : Holding
      h0 = before.holding

      abbrev g0 : Holding
      g0 = beyond.holding

      abbrev a0 : RecordNow
      a0 = before.side

      abbrev b0 : RecordNow
      b0 = beyond.side

      near_grows : RecordGrows a0 a
      near_grows = turns.side_grows before (record { holding = h; side = a }) near_on

      far_grows : RecordGrows b0 b
      far_grows = turns.side_grows beyond (record { holding = g; side = b }) far_on

      is : AreTowards new l.i l.j h g a b
      is = record { near = l.near; far = l.far; mine = at_place a h.records l.a_at l.a_there; theirs = at_place b g.records l.b_at l.b_there; a_towards = l.a_towards; b_towards = l.b_towards }

      was : AreTowards old l.i l.j h0 g0 a0 b0
      was = record {
        near = near_was;
        far = far_was;
        mine = turns.was_there before (record { holding = h; side = a }) near_on;
        theirs = turns.was_there beyond (record { holding = g; side = b }) far_on;
        a_towards = sym near_grows.place ∙ l.a_towards;
        b_towards = sym far_grows.place ∙ l.b_towards;
      }

      abbrev then_nodes : Nodes
      then_nodes = record { near = before; far = beyond }

      abbrev now_nodes : Nodes
      now_nodes = record { near = record { holding = h; side = a }; far = record { holding = g; side = b } }

      go_on : NodesGoOn then_nodes now_nodes
      go_on = record {
        near = near_on;
        far = far_on;
        near_peer = link.peer_at old run l.i l.j h0 g0 a0 b0 was;
        far_peer = link.peer_at old run l.j l.i g0 h0 b0 a0 (turned old l.i l.j h0 g0 a0 b0 was);
        near_alone = λ k o among. link.alone new now l.i l.j h g a b is k (opened_on b0.journal b.journal k far_grows.journal o) among;
        far_alone = λ k o among. link.alone new now l.j l.i g h b a (turned new l.i l.j h g a b is) k (opened_on a0.journal a.journal k near_grows.journal o) among;
      }

      abbrev ends : List EndNow
      ends = woven.ends_of (link_at then_nodes)

      apart : IsDistinct same_end ends
      apart = (links then_nodes now_nodes go_on).told.apart

      flowed : HadFlowed (woven_now (link_at then_nodes)) (woven_now (link_at now_nodes))
      flowed =
          had_flowed (link_at then_nodes) (link_at now_nodes)
          (all_of a b (all_left h.halves) (all_left g.halves) (HadCome ends)
          (flowing.side_came old new run now acts.fabric acts.ends l.i l.j h0 h g0 g a0 a b0 b was is near_on.grows.grows.at far_on.grows.grows.at ends apart
          (of_far a0 b0 (all_left h0.halves) (all_left g0.halves)) (of_far_half a0 b0 (all_left h0.halves) (all_left g0.halves)))
          (flowing.side_came old new run now acts.fabric acts.ends l.j l.i g0 g h0 h b0 b a0 a (turned old l.i l.j h0 g0 a0 b0 was) (turned new l.i l.j h g a b is) far_on.grows.grows.at near_on.grows.grows.at ends apart
          (of_near a0 b0 (all_left h0.halves) (all_left g0.halves)) (of_near_half a0 b0 (all_left h0.halves) (all_left g0.halves)))
          (flowing.half_came old new run now acts.fabric acts.ends l.i l.j h0 h g0 g a0 a b0 b was is near_on.grows.grows.at far_on.grows.grows.at ends apart
          (of_far a0 b0 (all_left h0.halves) (all_left g0.halves)) (of_far_half a0 b0 (all_left h0.halves) (all_left g0.halves)))
          (flowing.half_came old new run now acts.fabric acts.ends l.j l.i g0 g h0 h b0 b a0 a (turned old l.i l.j h0 g0 a0 b0 was) (turned new l.i l.j h g a b is) far_on.grows.grows.at near_on.grows.grows.at ends apart
          (of_near a0 b0 (all_left h0.halves) (all_left g0.halves)) (of_near_half a0 b0 (all_left h0.halves) (all_left g0.halves))))

      was_link : IsLinkOf old h0 g0 a0 b0
      was_link = record {
        i = l.i;
        j = l.j;
        near = near_was;
        far = far_was;
        a_at = near_on.place;
        b_at = far_on.place;
        a_there = near_on.was;
        b_there = far_on.was;
        a_towards = was.a_towards;
        b_towards = was.b_towards;
      }

      order_of : LinksAreWoven → HaveOrders old → HasOrder (woven_now (link_at now_nodes))
      order_of weaves orders = weaves then_nodes now_nodes go_on flowed (orders h0 g0 a0 b0 was_link)

    pub has_order : LinksAreWoven → HaveOrders old → HasOrder (woven_now (both_of a b (all_left h.halves ++ all_left g.halves)))
    has_order weaves orders = order_of near.before far.before near.was far.was near.on far.on weaves orders
