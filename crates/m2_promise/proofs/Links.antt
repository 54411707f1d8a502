-- Two records of a run that are towards each other are a link, with the halves of either node that no record took.
use Rattle.std.proofs.Common.{◌≡◌, ℕ, zero, suc, Bool, true, false, if◌then◌else◌, List, [], ◌∷◌, ◌++◌, map, refl, sym, ap, subst, ◌∙◌}
use Rattle.std.specs.Prelude.{slice_get}
use Rattle.std.specs.List.{AllByRecursion, IsDistinct, flat_map}
use Rattle.std.proofs.lemmas.Grind.{flat_map-append}
use Rattle.m2_links_go_on.specs.m2_weave.m2_control.Laws.{HasAddrRanges}
use Rattle.m2_fabric.specs.declared.socket.SocketId.{SocketId}
use Rattle.m2_fabric.specs.Sockets.{goes_to}
use Rattle.m2_lives.specs.m2_bytes_fit.Halves.{KeepsRanges}
use Rattle.m2_lives.specs.m2_bytes_fit.Posts.{SendablePostsKeepFields}
use Rattle.m2_lives.specs.m2_bytes_fit.Texts.{CanBePosted}
use Rattle.m2_links_go_on.specs.m2_growth.Halves.{all_left}
use Rattle.m2_links_go_on.specs.m2_growth.Holding.{Holding}
use Rattle.m2_links_go_on.proofs.m2_growth.Among.{each_by}
use Rattle.m2_links_go_on.specs.m2_history.Link.{parts_of}
use Rattle.m2_links_go_on.specs.m2_history.Parts.{PartsNow}
use Rattle.m2_links_go_on.specs.m2_history.Woven.{BothNow, ends_of, is_of_link}
use Rattle.m2_links_go_on.specs.m2_weave.m2_journal.declared.entry.Entry.{Entry}
use Rattle.m2_links_go_on.specs.m2_weave.m2_journal.declared.entry.Entry.TheVariants as entry
use Rattle.m2_links_go_on.specs.m2_weave.m2_journal.declared.facts.PlanStep.{PlanStep}
use Rattle.m2_links_go_on.specs.m2_weave.m2_journal.declared.facts.PlanStep.TheVariants as step
use Rattle.m2_links_go_on.specs.m2_weave.m2_journal.Items as item
use Rattle.m2_links_go_on.specs.m2_weave.m2_journal.Items.{JournalItem, Places, Sources, at_start, item_of, items_from, passed}
use Rattle.m2_links_go_on.specs.m2_weave.m2_journal.Plan.{planned}
use Rattle.m2_links_go_on.specs.LinkLaws.{LinksGoOn, StayingGoesOn}
use Rattle.m2_links_go_on.specs.Linked.{Nodes, NodesGoOn}
use Rattle.m2_links_go_on.proofs.LinkRecords.{at_place}
use Rattle.m2_channel.specs.m2_never_reset.PairLaws.{IsNoDown}
use Rattle.m2_script.specs.m2_record.IsRecord.{CanBePlanned, IsRecord}
use Rattle.m2_script.specs.m2_record.RecordNow.{RecordNow}
use Rattle.m2_promise.specs.Running.{IsLinkOf, IsNodeAt, IsRunning, RunNow}
use Rattle.m2_promise.proofs.Openers as node
use Rattle.m2_promise.proofs.Towards as link
use Rattle.m2_promise.proofs.Towards.{AreTowards, turned}
use Rattle.m2_lives.specs.m2_bytes_fit.m2_trail.Arrivals.{LooseNow}
use Rattle.m2_lives.specs.m2_bytes_fit.m2_trail.Trails.{TrailNow, opener_of}
use Rattle.m2_lives.proofs.m2_bytes_fit.Posts.{one_post}
use Rattle.m2_links_go_on.specs.m2_history.Actors.{Actor, of_half, actors_of_side, is_near, loose_actors, part_of, taken_half, trail_by}
use Rattle.m2_links_go_on.specs.m2_history.WovenLaws.{RecordsAreSides}
use Rattle.m2_links_go_on.specs.m2_history.WovenLink.{IsLink, IsLooseBeside, IsSideOf, LinkNow, items_in, same_end, sources_in, trails_of}
use Rattle.m2_promise.specs.Delivered.{MarksNoneDown, PostsInRanges, link_in}
use Rattle.m2_promise.proofs.Beside as beside
use Rattle.m2_fabric.proofs.m2_lemmas.Lists.{all_append}
use Rattle.m2_fabric.proofs.m2_lemmas.Booleans.{not_true_is_false}

-- ---- what entries tell

-- what holds of the item of each entry holds of all items
all_items : (P : JournalItem → Type 0) (Q : Entry → Type 0) (s : Sources) → ((p : Places) (e : Entry) → Q e → P (item_of s p e)) → (p : Places) (es : List Entry) → AllByRecursion Q es → AllByRecursion P (items_from s p es)
all_items P Q s h p [] all = tt
all_items P Q s h p (e ∷ es) all = (h p e all.0, all_items P Q s h (passed e p) es all.1)

post_at : SendablePostsKeepFields → (place : ℕ) (steps : List PlanStep) (n : ℕ) → AllByRecursion CanBePlanned steps → AllByRecursion PostsInRanges steps → CanBePosted (item.post place (slice_get (map planned steps) n))
post_at keeps place [] n can within = tt
post_at keeps place (step.Post m ∷ steps) zero can within = keeps m within.0 can.0
post_at keeps place (step.Dial ∷ steps) zero can within = tt
post_at keeps place (step.Down ∷ steps) zero can within = tt
post_at keeps place (x ∷ steps) (suc n) can within = post_at keeps place steps n can.1 within.1

one_up : (s : Sources) (p : Places) (e : Entry) → MarksNoneDown e → IsNoDown (item_of s p e)
one_up s p (entry.Post place) up = tt
one_up s p entry.Dial up = tt
one_up s p (entry.Opened socket) up = tt
one_up s p (entry.Read socket count) up = tt
one_up s p (entry.Wrote socket count) up = tt
one_up s p (entry.Closed socket) up = tt
one_up s p (entry.Judged socket ask number answer) up = tt
one_up s p (entry.Asked ident number) up = tt
one_up s p (entry.Numbered number) up = tt
one_up s p (entry.Accepted number key) up = tt
one_up s p (entry.Acked number) up = tt
one_up s p (entry.Obeyed full) up = tt
one_up s p (entry.Down planned) up = absurd up

pub posts_kept : SendablePostsKeepFields → (r : RecordNow) → IsRecord r → AllByRecursion PostsInRanges r.plan → AllByRecursion CanBePosted (items_in r.plan (parts_of r))
posts_kept keeps r is within =
    all_items CanBePosted (λ e. Unit {0}) (sources_in r.plan (parts_of r)) (λ p e q. one_post (sources_in r.plan (parts_of r)) (λ place n. post_at keeps place r.plan n is.kept.plan within) p e) at_start r.journal
    (each_by (λ (e : Entry). Unit {0}) r.journal (λ e i. tt))

pub never_down : (r : RecordNow) → AllByRecursion MarksNoneDown r.journal → AllByRecursion IsNoDown (items_in r.plan (parts_of r))
never_down r up = all_items IsNoDown MarksNoneDown (sources_in r.plan (parts_of r)) (one_up (sources_in r.plan (parts_of r))) at_start r.journal up

-- ---- the trails of all halves

module _ (P : TrailNow → Type 0) where
  taken_so : (near : Bool) (p : PartsNow) (ts : List TrailNow) → AllByRecursion P ts → AllByRecursion P (flat_map trail_by (map (taken_half near p.ends) ts))
  taken_so near p [] all = tt
  taken_so near p (u ∷ ts) all = (all.0, taken_so near p ts all.1)

  side_so : (near : Bool) (p : PartsNow) → AllByRecursion P p.trails → AllByRecursion P (flat_map trail_by (actors_of_side near p))
  side_so near p all = taken_so near p p.trails all

  loose_so : (a b : List Entry) (ls : List LooseNow) → AllByRecursion (λ (l : LooseNow). is_of_link a b l ≡ true → P l.trail) ls → AllByRecursion P (flat_map trail_by (loose_actors a b ls))
  loose_so a b [] all = tt
  loose_so a b (l ∷ ls) all = at (is_of_link a b l) refl (loose_so a b ls all.1)
    where
      at : (c : Bool) → is_of_link a b l ≡ c → AllByRecursion P (flat_map trail_by (loose_actors a b ls)) →
          AllByRecursion P (flat_map trail_by ((if c then of_half (is_near a b l.trail.socket) l.trail l.end.log ∷ [] else []) ++ loose_actors a b ls))
      at true e rest = (all.0 e, rest)
      at false e rest = rest

  joined_so : (xs ys : List Actor) → AllByRecursion P (flat_map trail_by xs) → AllByRecursion P (flat_map trail_by ys) → AllByRecursion P (flat_map trail_by (xs ++ ys))
  joined_so xs ys p q = subst (AllByRecursion P) (sym (flat_map-append trail_by xs ys)) (all_append P (flat_map trail_by xs) (flat_map trail_by ys) p q)

  trails_so : (y : BothNow) → AllByRecursion P y.a.trails → AllByRecursion P y.b.trails → AllByRecursion (λ (l : LooseNow). is_of_link y.a.journal y.b.journal l ≡ true → P l.trail) y.loose → AllByRecursion P (trails_of y)
  trails_so y near far loose =
      joined_so (actors_of_side true y.a ++ actors_of_side false y.b) (loose_actors y.a.journal y.b.journal y.loose)
      (joined_so (actors_of_side true y.a) (actors_of_side false y.b) (side_so true y.a near) (side_so false y.b far)) (loose_so y.a.journal y.b.journal y.loose loose)

-- ---- a link

module _ (x : RunNow) (run : IsRunning x) (h g : Holding) (a b : RecordNow) (l : IsLinkOf x h g a b) where
  towards : AreTowards x l.i l.j h g a b
  towards = record { near = l.near; far = l.far; mine = at_place a h.records l.a_at l.a_there; theirs = at_place b g.records l.b_at l.b_there; a_towards = l.a_towards; b_towards = l.b_towards }

  back : AreTowards x l.j l.i g h b a
  back = turned x l.i l.j h g a b towards

  here : IsNodeAt x.fabric.nodes l.i h
  here = run.nodes l.i h l.near

  there : IsNodeAt x.fabric.nodes l.j g
  there = run.nodes l.j g l.far

  pub near_record : IsRecord a
  near_record = node.is_record x.fabric.nodes l.i h here a towards.mine

  pub far_record : IsRecord b
  far_record = node.is_record x.fabric.nodes l.j g there b towards.theirs

  abbrev it : LinkNow
  it = link_in h g a b

  abbrev IsBesideIt : LooseNow → Type 0
  IsBesideIt m = is_of_link a.journal b.journal m ≡ true → IsLooseBeside a.journal b.journal m

  loose : AllByRecursion IsBesideIt (all_left h.halves ++ all_left g.halves)
  loose =
      all_append IsBesideIt (all_left h.halves) (all_left g.halves)
      (each_by IsBesideIt (all_left h.halves) (λ m one. beside.near_beside x run l.i l.j h g a b towards m one))
      (each_by IsBesideIt (all_left g.halves) (λ m one. beside.far_beside x run l.j l.i g h b a back m one))

  abbrev IsSeen : TrailNow → Type 0
  IsSeen u = HasAddrRanges (opener_of u.socket)

  abbrev IsSeenOf : LooseNow → Type 0
  IsSeenOf m = is_of_link a.journal b.journal m ≡ true → IsSeen m.trail

  seen : AllByRecursion IsSeen (trails_of it.both)
  seen =
      trails_so IsSeen it.both (each_by IsSeen a.trails (λ u one. beside.taken_seen x run l.i l.j h g a b towards u one))
      (each_by IsSeen b.trails (λ u one. beside.taken_seen x run l.j l.i g h b a back u one))
      (all_append IsSeenOf (all_left h.halves) (all_left g.halves)
      (each_by IsSeenOf (all_left h.halves) (λ m one. beside.near_seen x run l.i l.j h g a b towards m one))
      (each_by IsSeenOf (all_left g.halves) (λ m one. beside.far_seen x run l.j l.i g h b a back m one)))

  peers : (k : SocketId) → goes_to a.core.facts.peer k ≡ true → goes_to b.core.facts.peer k ≡ false
  peers k p =
      not_true_is_false (goes_to b.core.facts.peer k)
      (λ q. link.goes_apart x run l.i l.j h g a b towards k (ap (λ at. goes_to at k) (sym (link.peer_is x run l.j l.i g h b a back)) ∙ q) (ap (λ at. goes_to at k) (sym (link.peer_is x run l.i l.j h g a b towards)) ∙ p))

  abbrev nodes : Nodes
  nodes = record { near = record { holding = h; side = a }; far = record { holding = g; side = b } }

  go_on : StayingGoesOn → NodesGoOn nodes nodes
  go_on staying = record {
    near = staying nodes.near l.a_at here.node l.a_there;
    far = staying nodes.far l.b_at there.node l.b_there;
    near_peer = link.peer_at x run l.i l.j h g a b towards;
    far_peer = link.peer_at x run l.j l.i g h b a back;
    near_alone = λ k o among. link.alone x run l.i l.j h g a b towards k o among;
    far_alone = λ k o among. link.alone x run l.j l.i g h b a back k o among;
  }

  apart : StayingGoesOn → LinksGoOn → IsDistinct same_end (ends_of it.both)
  apart staying links = (links nodes nodes (go_on staying)).told.apart

  pub is_link : RecordsAreSides → SendablePostsKeepFields → StayingGoesOn → LinksGoOn → AllByRecursion PostsInRanges a.plan → AllByRecursion PostsInRanges b.plan → IsLink it
  is_link sides keeps staying links near far = record {
    sides = λ s. each s;
    joined = record {
      posts = λ s. posts s;
      loose = loose;
      apart = apart staying links;
      named = λ s. named s;
      seen = seen;
      peers = peers;
    };
  }
    where
      each : (s : Bool) → IsSideOf (it.facts s) (it.plans s) (part_of it.both s)
      each true = sides a near_record
      each false = sides b far_record

      posts : (s : Bool) → AllByRecursion CanBePosted (items_in (it.plans s) (part_of it.both s))
      posts true = posts_kept keeps a near_record near
      posts false = posts_kept keeps b far_record far

      named : (s : Bool) → KeepsRanges (it.facts s)
      named true = (node.is_at x.fabric.nodes l.i h here a towards.mine).ranges
      named false = (node.is_at x.fabric.nodes l.j g there b towards.theirs).ranges
