-- What an entry acknowledges, the other side had accepted by then in its life of the same name.
use Rattle.std.proofs.Common.{◌≢◌, ℕ, ◌≤◌, [], ◌∷◌, ◌++◌, length, subst}
use Rattle.m2_journal.specs.Items as item
use Rattle.m2_journal.specs.Lawful.{Lawful}
use Rattle.m2_journal.specs.SideFacts.{SideFacts, cookie_of}
use Rattle.m2_journal.specs.State.{State, start}
use Rattle.m2_never_reset.specs.Orders.{near_item, far_item, near_after, far_after}
use Rattle.m2_lives.specs.Lives.{of_life}
use Rattle.m2_lives.specs.ObservedLaws.{AcknowledgedIsAcceptedInItsLife, accepted_in}
use Rattle.m2_lives.proofs.Entries.{acked_may}
use Rattle.m2_lives.proofs.Keeping.{Both, Known, Point, both_of, both_turned, in_turn, point_turned, reached, side_now, turn_behind, turn_front}
use Rattle.m2_lives.proofs.Ledger.{Ledger}
use Rattle.m2_lives.proofs.Moves.{view}
use Rattle.m2_lives.proofs.Moving.{told_within}

module _ (known : Known) where
  -- wherever both stand by ledgers
  pub acked_within : (f g : SideFacts) → Both f g → (a b : State) (x y : Ledger) (n : ℕ) → Point f g a b x y → Lawful f (item.acked n) a → (a.life ≢ 0) × (n ≤ accepted_in a.life b)
  acked_within f g both a b x y n h l =
      let may = (acked_may (cookie_of f) (cookie_of g) f a b y (side_now known f g both a b x y h) n l).0 in
      let it = told_within (cookie_of f) (cookie_of g) n (view a) x y may h.ledgers h.near in
      (it.0, subst (λ c. n ≤ length (of_life a.life c)) h.far.accepted it.1)

  pub acknowledged : AcknowledgedIsAcceptedInItsLife
  acknowledged f g before number nodes = record {
    near = λ h.
        let turn = in_turn f g (before ++ near_item (item.acked number) ∷ []) (start f) (start g) h.near_lawful h.far_lawful h.fits in
        let r = reached known f g (both_of f g nodes) before (turn_front f g before (near_item (item.acked number) ∷ []) (start f) (start g) turn) in
        acked_within f g (both_of f g nodes) (near_after f before) (far_after g before) r.near_ledger r.far_ledger number r.point (turn_behind f g before (near_item (item.acked number) ∷ []) (start f) (start g) turn).0;
    far = λ h.
        let turn = in_turn f g (before ++ far_item (item.acked number) ∷ []) (start f) (start g) h.near_lawful h.far_lawful h.fits in
        let r = reached known f g (both_of f g nodes) before (turn_front f g before (far_item (item.acked number) ∷ []) (start f) (start g) turn) in
        acked_within g f (both_turned f g (both_of f g nodes)) (far_after g before) (near_after f before) r.far_ledger r.near_ledger number
        (point_turned f g (near_after f before) (far_after g before) r.near_ledger r.far_ledger r.point) (turn_behind f g before (far_item (item.acked number) ∷ []) (start f) (start g) turn).0;
  }
