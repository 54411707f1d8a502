-- Where a record stands: its phase, its feed, and the ends that were the feed. Whatever a step does there, a record has a feed
-- where its phase has one, and its ends are the same, later.
use Rattle.std.proofs.Common.{◌≡◌, ℕ, true, false, List, [], ◌∷◌, ◌++◌, Option, Some, None, refl, sym, ap, ◌∙◌, append-nil}
use Rattle.std.specs.Option.{is_some, option_to_list}
use Rattle.m2_fabric.specs.End.{SeenEnd, after_closing}
use Rattle.m2_bytes_fit.specs.m2_feed.FeedNow.{FeedNow}
use Rattle.m2_weave.specs.m2_journal.declared.facts.PlanStep.{PlanStep}
use Rattle.m2_turn.specs.m2_core.Effects.{closed_if}
use Rattle.m2_turn.specs.m2_session.declared.session.Phase.{Phase}
use Rattle.m2_turn.specs.m2_session.Phases.{is_among, with_feed}
use Rattle.m2_bytes_fit.specs.m2_trail.Trails.{TrailNow}
use Rattle.m2_turn.specs.m2_record.RecordNow.{RecordNow, feed_end}
use Rattle.m2_growth.specs.Ends.{EndGrows}
use Rattle.m2_growth.proofs.Calls.{closing_grows}
use Rattle.m2_growth.proofs.Ends.{AreLater, later_before, later_behind, later_by, later_chain, later_one, later_same, later_swapped}

-- ---- standing

pub record Stand : Type 0 where
  pub phase : Phase
  pub feed : Option FeedNow
  pub spent : List SeenEnd

abbrev pub stand_of : RecordNow → Stand
stand_of r = record { phase = r.core.live.session.phase; feed = r.core.live.feed; spent = r.spent }

abbrev pub ends_there : Stand → List SeenEnd
ends_there s = feed_end s.feed ++ s.spent

abbrev pub IsFedThere : Stand → Type 0
IsFedThere s = is_some s.feed ≡ is_among s.phase with_feed

pub record StandsOn (a b : Stand) : Type 0 where
  pub fed : IsFedThere a → IsFedThere b
  pub ends : AreLater (ends_there a) (ends_there b)

pub stands_by : (a b : Stand) → b ≡ a → StandsOn a b
stands_by a b e = rw e (record { fed = λ h. h; ends = later_same (ends_there a) })

pub stands_chain : (a b c : Stand) → StandsOn a b → StandsOn b c → StandsOn a c
stands_chain a b c p q = record { fed = λ h. q.fed (p.fed h); ends = later_chain (ends_there a) (ends_there b) (ends_there c) p.ends q.ends }

-- ---- a feed, later

-- both are feeds, and the end of the one is that of the other, later
abbrev pub FeedGoesOn : Option FeedNow → Option FeedNow → Type 0
FeedGoesOn (Some v) (Some x) = EndGrows v.end x.end
FeedGoesOn _ _ = ⊥

-- or there is none
abbrev pub FeedGrows : Option FeedNow → Option FeedNow → Type 0
FeedGrows (Some v) (Some x) = EndGrows v.end x.end
FeedGrows None None = Unit {0}
FeedGrows _ _ = ⊥

pub on_grows : (o p : Option FeedNow) → FeedGoesOn o p → FeedGrows o p
on_grows (Some v) (Some x) g = g
on_grows (Some v) None g = absurd g
on_grows None p g = absurd g

feed_later : (o p : Option FeedNow) → FeedGrows o p → AreLater (feed_end o) (feed_end p)
feed_later (Some v) (Some x) g = later_one v.end x.end g
feed_later (Some v) None g = absurd g
feed_later None None g = later_same []
feed_later None (Some x) g = absurd g

some_stays : (o p : Option FeedNow) → FeedGrows o p → is_some p ≡ is_some o
some_stays (Some v) (Some x) g = refl
some_stays (Some v) None g = absurd g
some_stays None None g = refl
some_stays None (Some x) g = absurd g

some_there : (o p : Option FeedNow) → FeedGoesOn o p → is_some p ≡ true
some_there (Some v) (Some x) g = refl
some_there (Some v) None g = absurd g
some_there None p g = absurd g

-- its end grows, and the phase stays
pub stands_grown : (a b : Stand) → b.spent ≡ a.spent → b.phase ≡ a.phase → FeedGrows a.feed b.feed → StandsOn a b
stands_grown a b s p g = record {
  fed = λ h. some_stays a.feed b.feed g ∙ h ∙ ap (λ x. is_among x with_feed) (sym p);
  ends = rw s (later_before (feed_end a.feed) (feed_end b.feed) a.spent (feed_later a.feed b.feed g));
}

-- its end grows, and the phase is one that has a feed
pub stands_entered : (a b : Stand) → b.spent ≡ a.spent → is_among b.phase with_feed ≡ true → FeedGoesOn a.feed b.feed → StandsOn a b
stands_entered a b s p g = record {
  fed = λ _. some_there a.feed b.feed g ∙ sym p;
  ends = rw s (later_before (feed_end a.feed) (feed_end b.feed) a.spent (feed_later a.feed b.feed (on_grows a.feed b.feed g)));
}

-- the feed is left
pub ends_left : (o : Option FeedNow) (spent : List SeenEnd) → AreLater (feed_end o ++ spent) (spent ++ option_to_list (closed_if true o))
ends_left (Some v) spent =
    later_chain (v.end ∷ spent) (spent ++ v.end ∷ []) (spent ++ after_closing v.end ∷ []) (later_swapped (v.end ∷ []) spent)
    (later_behind spent (v.end ∷ []) (after_closing v.end ∷ []) (later_one v.end (after_closing v.end) (closing_grows v.end)))
ends_left None spent = later_by spent (spent ++ []) (append-nil spent)

pub stands_left : (a b : Stand) → b.feed ≡ None → is_among b.phase with_feed ≡ false → b.spent ≡ a.spent ++ option_to_list (closed_if true a.feed) → StandsOn a b
stands_left a b f p s = record {
  fed = λ _. ap is_some f ∙ sym p;
  ends = rw (f, s) (ends_left a.feed a.spent);
}

-- ---- a record that moves on

-- what a step never changes, beside the facts
pub record Fixed : Type 0 where
  pub place : ℕ
  pub plan : List PlanStep
  pub trails : List TrailNow

abbrev pub fixed_of : RecordNow → Fixed
fixed_of r = record { place = r.place; plan = r.plan; trails = r.trails }

pub record MovesOn (old new : RecordNow) : Type 0 where
  pub fixed : fixed_of new ≡ fixed_of old
  pub stands : StandsOn (stand_of old) (stand_of new)

pub moves_same : (old new : RecordNow) → fixed_of new ≡ fixed_of old → stand_of new ≡ stand_of old → MovesOn old new
moves_same old new f s = record { fixed = f; stands = stands_by (stand_of old) (stand_of new) s }

pub moves_chain : (a b c : RecordNow) → MovesOn a b → MovesOn b c → MovesOn a c
moves_chain a b c p q = record { fixed = q.fixed ∙ p.fixed; stands = stands_chain (stand_of a) (stand_of b) (stand_of c) p.stands q.stands }
