-- What a side has accepted in a life is the first ones of what the other has numbered in its life of that name.
use Rattle.std.proofs.Common.{◌≡◌, ◌⊎◌, inl, Bool, true, false, if◌then◌else◌, List, [], ◌∷◌, ◌++◌, map, Option, Some, None, refl, sym, ap, subst, ◌∙◌, append-nil, append_assoc}
use Rattle.m2_channel.specs.Channel.{KeyedMessage}
use Rattle.m2_journal.specs.Items.{JournalItem}
use Rattle.m2_journal.specs.Replay.{after_items}
use Rattle.m2_journal.specs.SideFacts.{SideFacts}
use Rattle.m2_journal.specs.State.{State, start}
use Rattle.m2_journal.specs.Steps.{after, event_at}
use Rattle.m2_journal.specs.m2_session.declared.event.Event.{Event}
use Rattle.m2_never_reset.specs.Order.{AreFirstOf}
use Rattle.m2_never_reset.specs.Orders.{SideItem, near_item, far_item, near_items, far_items, near_after, far_after}
use Rattle.m2_never_reset.proofs.Entries.{fits_turn}
use Rattle.m2_lives.specs.Lives.{Has, of_life}
use Rattle.m2_lives.specs.LivesLaws.{AreNames}
use Rattle.m2_lives.specs.ObservedLaws.{NumberedLife, AcceptsInLives, EachLifeAcceptsFromOne, current_life, ended_by, ended_lives, lives_of}
use Rattle.m2_lives.proofs.Entries.{sets_back_told}
use Rattle.m2_lives.proofs.Keeping.{Both, IsInTurn, Known, NearStep, Point, at_start, both_of, both_turned, first, in_turn, near_step, point_turned}
use Rattle.m2_lives.proofs.Ledger.{Ledger, contents, lives}
use Rattle.m2_lives.proofs.Moves.{begins, view}
use Rattle.m2_lives.proofs.Standing.{Stands}

-- what an entry ends, by whether it sets numbers back
ends_so : (o : Option Event) (s : State) → ended_by o s ≡ (if sets_back_told o s.session then current_life s ∷ [] else [])
ends_so (Some e) s = refl
ends_so None s = refl

-- ledgers with all lives that ended
pub record Noted (f g : SideFacts) (is js : List JournalItem) (a b : State) : Type 0 where
  pub near_ledger : Ledger
  pub far_ledger : Ledger
  pub point : Point f g a b near_ledger far_ledger
  pub near_ended : near_ledger.ended ≡ ended_lives f is (start f)
  pub far_ended : far_ledger.ended ≡ ended_lives g js (start g)
  pub near_state : a ≡ after_items f is (start f)
  pub far_state : b ≡ after_items g js (start g)

ended-append : (f : SideFacts) (is : List JournalItem) (i : JournalItem) (s : State) → ended_lives f (is ++ i ∷ []) s ≡ ended_lives f is s ++ ended_by (event_at f i (after_items f is s)) (after_items f is s)
ended-append f [] i s = append-nil (ended_by (event_at f i s) s)
ended-append f (j ∷ is) i s = ap (λ l. ended_by (event_at f j s) s ++ l) (ended-append f is i (after f j s)) ∙ sym (append_assoc (ended_by (event_at f j s) s) (ended_lives f is (after f j s)) _)

after-one : (f : SideFacts) (is : List JournalItem) (i : JournalItem) (s : State) → after_items f (is ++ i ∷ []) s ≡ after f i (after_items f is s)
after-one f [] i s = refl
after-one f (j ∷ is) i s = after-one f is i (after f j s)

-- one entry more of a side
ended_now : (f g : SideFacts) (is : List JournalItem) (i : JournalItem) (a b : State) (x y : Ledger) (n : NearStep f g i a b x y) → Stands (view a) x y → a ≡ after_items f is (start f) → x.ended ≡ ended_lives f is (start f) →
    n.ledger.ended ≡ ended_lives f (is ++ i ∷ []) (start f)
ended_now f g is i a b x y n stands state ended =
    n.ended ∙ at (begins n.move) refl ∙ sym (ended-append f is i (start f))
  where
    told : (begins n.move ≡ sets_back_told (event_at f i a) a.session)
    told = sym n.began

    at : (t : Bool) → begins n.move ≡ t → (if t then lives x else x.ended) ≡ ended_lives f is (start f) ++ ended_by (event_at f i (after_items f is (start f))) (after_items f is (start f))
    at true e =
        ap (λ l. l ++ x.now ∷ []) ended ∙ ap (λ l. ended_lives f is (start f) ++ l ∷ []) stands.now
        ∙ ap (λ l. ended_lives f is (start f) ++ l) (sym (ends_so (event_at f i a) a ∙ ap (λ t. if t then current_life a ∷ [] else []) (n.began ∙ e)))
        ∙ ap (λ s. ended_lives f is (start f) ++ ended_by (event_at f i s) s) state
    at false e =
        ended ∙ sym (append-nil (ended_lives f is (start f)))
        ∙ ap (λ l. ended_lives f is (start f) ++ l) (sym (ends_so (event_at f i a) a ∙ ap (λ t. if t then current_life a ∷ [] else []) (n.began ∙ e)))
        ∙ ap (λ s. ended_lives f is (start f) ++ ended_by (event_at f i s) s) state

module _ (known : Known) where
  walks : (f g : SideFacts) → Both f g → (order : List SideItem) (is js : List JournalItem) (a b : State) → Noted f g is js a b → IsInTurn f g order a b →
      Noted f g (is ++ near_items order) (js ++ far_items order) (after_items f (near_items order) a) (after_items g (far_items order) b)
  walks f g both [] is js a b n h = subst (λ l. Noted f g l (js ++ []) a b) (sym (append-nil is)) (subst (λ l. Noted f g is l a b) (sym (append-nil js)) n)
  walks f g both (near_item i ∷ order) is js a b n h =
      let s = near_step known f g both i a b n.near_ledger n.far_ledger n.point h.0 h.1 in
      subst (λ l. Noted f g l (js ++ far_items order) (after_items f (near_items order) (after f i a)) (after_items g (far_items order) b)) (append_assoc is (i ∷ []) (near_items order))
      (walks f g both order (is ++ i ∷ []) js (after f i a) b (record {
        near_ledger = s.ledger;
        far_ledger = n.far_ledger;
        point = s.point;
        near_ended = ended_now f g is i a b n.near_ledger n.far_ledger s n.point.near n.near_state n.near_ended;
        far_ended = n.far_ended;
        near_state = ap (after f i) n.near_state ∙ sym (after-one f is i (start f));
        far_state = n.far_state;
      }) h.2)
  walks f g both (far_item i ∷ order) is js a b n h =
      let s = near_step known g f (both_turned f g both) i b a n.far_ledger n.near_ledger (point_turned f g a b n.near_ledger n.far_ledger n.point) h.0 (fits_turn a (after g i b) h.1) in
      subst (λ l. Noted f g (is ++ near_items order) l (after_items f (near_items order) a) (after_items g (far_items order) (after g i b))) (append_assoc js (i ∷ []) (far_items order))
      (walks f g both order is (js ++ i ∷ []) a (after g i b) (record {
        near_ledger = n.near_ledger;
        far_ledger = s.ledger;
        point = point_turned g f (after g i b) a s.ledger n.near_ledger s.point;
        near_ended = n.near_ended;
        far_ended = ended_now g f js i b a n.far_ledger n.near_ledger s n.point.far n.far_state n.far_ended;
        near_state = n.near_state;
        far_state = ap (after g i) n.far_state ∙ sym (after-one g js i (start g));
      }) h.2)

  reached_noted : (f g : SideFacts) → Both f g → (order : List SideItem) → IsInTurn f g order (start f) (start g) → Noted f g (near_items order) (far_items order) (near_after f order) (far_after g order)
  reached_noted f g both order h =
      walks f g both order [] [] (start f) (start g) (record { near_ledger = first; far_ledger = first; point = at_start known f g; near_ended = refl; far_ended = refl; near_state = refl; far_state = refl }) h

  -- of one side, by the ledgers
  accepts_so : (f g : SideFacts) (is js : List JournalItem) (x y : Ledger) → Point f g (after_items f is (start f)) (after_items g js (start g)) x y → x.ended ≡ ended_lives f is (start f) → y.ended ≡ ended_lives g js (start g) →
      AcceptsInLives f g is js
  accepts_so f g is js x y p mine theirs = record {
    names = subst (λ l. AreNames (map (λ (k : NumberedLife). k.name) l)) my_lives p.ledgers.near.named;
    unnamed = subst (λ l. of_life 0 l ≡ []) p.near.accepted (p.ledgers.near.known 0 (inl refl));
    accepted = λ n. subst (λ l. (map (λ (m : KeyedMessage). m.message) (of_life n l) ≡ []) ⊎ Has (λ (k : NumberedLife). (k.name ≡ n) × AreFirstOf (map (λ (m : KeyedMessage). m.message) (of_life n l)) k.numbered) (lives_of g js)) p.near.accepted
        (subst (λ l. (contents n x ≡ []) ⊎ Has (λ (k : NumberedLife). (k.name ≡ n) × AreFirstOf (contents n x) k.numbered) l) their_lives (p.ledgers.near_beside.prefix n));
  }
    where
      my_lives : lives x ≡ lives_of f is
      my_lives = ap (λ l. l ++ x.now ∷ []) mine ∙ ap (λ l. ended_lives f is (start f) ++ l ∷ []) p.near.now

      their_lives : lives y ≡ lives_of g js
      their_lives = ap (λ l. l ++ y.now ∷ []) theirs ∙ ap (λ l. ended_lives g js (start g) ++ l ∷ []) p.far.now

  pub accept_from_one : EachLifeAcceptsFromOne
  accept_from_one f g order nodes h =
      let both = both_of f g nodes in
      let n = reached_noted f g both order (in_turn f g order (start f) (start g) h.near_lawful h.far_lawful h.fits) in
      record {
        near = accepts_so f g (near_items order) (far_items order) n.near_ledger n.far_ledger n.point n.near_ended n.far_ended;
        far = accepts_so g f (far_items order) (near_items order) n.far_ledger n.near_ledger (point_turned f g (near_after f order) (far_after g order) n.near_ledger n.far_ledger n.point) n.far_ended n.near_ended;
      }
