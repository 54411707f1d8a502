-- Where a core agrees with a replay, it is made of that replay's own parts.
use Rattle.std.proofs.Common.{◌≡◌, ℕ, Bool, true, false, Option, Some, None, refl, subst, ◌∙◌, arith}
use Rattle.std.specs.Prelude.{◌⊎◌}
use Rattle.m2_feed.specs.FeedNow.{FeedNow}
use Rattle.m2_feed.specs.FeedLaws.{ChangesBeside}
use Rattle.m2_feed.specs.Stands.{Stands, is_ready}
use Rattle.m2_journal.specs.Items as item
use Rattle.m2_journal.specs.Items.{JournalItem}
use Rattle.m2_journal.specs.Plan.{to_post}
use Rattle.m2_journal.specs.SideFacts.{SideFacts}
use Rattle.m2_journal.specs.State.{Feed, State}
use Rattle.m2_journal.specs.Steps.{after}
use Rattle.m2_message.specs.Message.{Content}
use Rattle.m2_queues.specs.OutQueues.{Queue}
use Rattle.m2_session.specs.declared.session.Session.{Session}
use Rattle.m2_shared.specs.declared.peer_grants.PeerGrants.{PeerGrants}
use Rattle.m2_core.specs.LiveCalls.{after_posted}
use Rattle.m2_core.specs.Agrees.{Agrees, FeedsAgree, IsTold, LeadsOn}
use Rattle.m2_core.specs.CoreNow.{CoreNow}

-- the core that has just what a replay has, with this room, feed and grant
abbrev pub core_of : SideFacts → State → (spare resumed : ℕ) → Option FeedNow → PeerGrants → CoreNow
core_of f s n r x g = record {
  facts = f;
  live = record {
    session = s.session;
    out = record { queue = s.out.queue; spare = n };
    last = s.last;
    life = s.life;
    resumed = r;
    feed = x;
    granted = g;
  };
  owes = s.owes;
  dials = s.dials;
  top = s.top;
}

abbrev core_with : SideFacts → Session → Queue → (last life : ℕ) → (owes dials : Bool) → (top spare resumed : ℕ) → Option FeedNow → PeerGrants → CoreNow
core_with f t p m v a b w n r x g = record {
  facts = f;
  live = record { session = t; out = record { queue = p; spare = n }; last = m; life = v; resumed = r; feed = x; granted = g };
  owes = a;
  dials = b;
  top = w;
}

made : (f : SideFacts) (s t : Session) (q p : Queue) (l m k v : ℕ) (o a d b : Bool) (u w n r : ℕ) (x : Option FeedNow) (g : PeerGrants) →
    s ≡ t → q ≡ p → l ≡ m → k ≡ v → o ≡ a → d ≡ b → u ≡ w → core_with f t p m v a b w n r x g ≡ core_with f s q l k o d u n r x g
made f s t q p l m k v o a d b u w n r x g e1 e2 e3 e4 e5 e6 e7 = rw (e1, e2, e3, e4, e5, e6, e7) refl

pub agreed : (c : CoreNow) (s : State) → Agrees c s → core_of c.facts s c.live.out.spare c.live.resumed c.live.feed c.live.granted ≡ c
agreed c s a = made c.facts c.live.session s.session c.live.out.queue s.out.queue c.live.last s.last c.live.life s.life c.owes s.owes c.dials s.dials c.top s.top
    c.live.out.spare c.live.resumed c.live.feed c.live.granted a.session a.queue a.last a.life a.owes a.dials a.top

abbrev pub IsResumed : ℕ → Option Feed → Type 0
IsResumed r d = (r ≡ 0) ⊎ IsTold r d

-- what a function makes of such a core says what it makes of each core that agrees
pub leads_by : (F : CoreNow → CoreNow) (i : JournalItem) (c : CoreNow) →
    ((s : State) → FeedsAgree c.facts s c.live.feed s.feed → IsResumed c.live.resumed s.feed →
    Agrees (F (core_of c.facts s c.live.out.spare c.live.resumed c.live.feed c.live.granted)) (after c.facts i s)) →
    LeadsOn i c (F c)
leads_by F i c h s a = subst (λ (v : CoreNow). Agrees (F v) (after c.facts i s)) (agreed c s a) (h s a.feed a.resumed)

-- ---- the feed stays

-- a feed stands in each state that has the same phase and the same numbers
pub stands_as : ChangesBeside → (f : SideFacts) (s t : State) (v : FeedNow) (d : Feed) →
    t.session.phase ≡ s.session.phase → t.last ≡ s.last → t.owes ≡ s.owes → Stands f s v d → Stands f t v d
stands_as changes f s t v d p l o h = by_ready (is_ready s) refl
  where
    by_ready : (b : Bool) → is_ready s ≡ b → Stands f t v d
    by_ready true e = changes.ready f s t v d h (rw p e) (rw l (omega arith)) (λ owes. o ∙ owes)
    by_ready false e = changes.idle f s t v d d.floor d.owed h e

pub feeds_as : ChangesBeside → (f : SideFacts) (s t : State) (x : Option FeedNow) (y : Option Feed) →
    t.session.phase ≡ s.session.phase → t.last ≡ s.last → t.owes ≡ s.owes → FeedsAgree f s x y → FeedsAgree f t x y
feeds_as changes f s t (Some v) (Some d) p l o h = stands_as changes f s t v d p l o h
feeds_as changes f s t None None p l o h = tt
feeds_as changes f s t (Some v) None p l o h = h
feeds_as changes f s t None (Some d) p l o h = h

pub posted : ChangesBeside → (c : CoreNow) (m : Content) (place : ℕ) → LeadsOn (item.post place (Some (to_post m))) c (record c { live = after_posted m c.live })
posted changes c m place = leads_by (λ v. record v { live = after_posted m v.live }) (item.post place (Some (to_post m))) c
    (λ s x r. record {
      session = refl;
      queue = refl;
      last = refl;
      life = refl;
      owes = refl;
      dials = refl;
      top = refl;
      feed = feeds_as changes c.facts s _ c.live.feed s.feed refl refl refl x;
      resumed = r;
    })
